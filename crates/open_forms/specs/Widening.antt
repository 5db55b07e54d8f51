-- When the open reading of a block (for its control alone, Controls) must lead where its full
-- reading (block_forms) does.
use Rattle.std.specs.Prelude.{◌≡◌, false, Bool, not, ◌&&◌, List, [], ◌∷◌, Ok}
use Rattle.std.specs.List.{list_any}
use Rattle.line_text.specs.declared.body.Word.{Word}
use Rattle.nc_text.specs.declared.tape.Block.{Block}
use Rattle.nc_text.specs.declared.tape.Program.{Program}
use Rattle.line_text.specs.declared.body.Body.{Body}
use Rattle.line_text.specs.declared.body.Body.TheVariants.{Words, Statement}
use Rattle.macro_expr.specs.Limits.{clean_text}
use Rattle.block_words.specs.declared.dialect.Dialect.{Dialect}
use Rattle.block_forms.specs.Forms.{BlockForm, block_or_refusal}
use Rattle.open_forms.specs.Codes.{m_codes, is_refused_m, is_macro}
use Rattle.open_forms.specs.Controls.{open_control}

-- The block has M96, M97 or M198, which is no argument of a macro call and no wait of the settings.
abbrev pub names_interrupt : Dialect → List Word → Bool
names_interrupt dialect words = not (is_macro words) && list_any (is_refused_m dialect) (m_codes words)

-- The body of a block names an interrupt; a statement never does.
abbrev pub has_interrupt : Dialect → Body → Bool
has_interrupt dialect (Words words) = names_interrupt dialect words
has_interrupt dialect (Statement text) = false

-- A statement has no blanks, no comments and no lower case, as it stands in a block that was read;
-- words are always clean.
abbrev pub IsClean : Body → Type 0
IsClean (Words words) = Unit {0}
IsClean (Statement text) = clean_text false text ≡ text

-- Each of these blocks is clean.
abbrev pub AreClean : List Block → Type 0
AreClean [] = Unit {0}
AreClean (block ∷ blocks) = IsClean block.body × AreClean blocks

-- Each block of each of these programs is clean.
abbrev pub IsCleanTape : List Program → Type 0
IsCleanTape [] = Unit {0}
IsCleanTape (program ∷ programs) = AreClean program.blocks × IsCleanTape programs

-- If the full reading accepts the block, which names no interrupt and is clean, the open reading
-- gives it the same control.
abbrev pub IsWidened : Dialect → Block → BlockForm → Type 0
IsWidened dialect block form =
    block_or_refusal dialect block ≡ Ok form → has_interrupt dialect block.body ≡ false → IsClean block.body
    → open_control dialect block.body ≡ Ok form.control
