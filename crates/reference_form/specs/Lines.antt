-- The lines of a return to the second reference position. src/lines.rt makes them. The letters are
-- bytes: 71 G, 80 P, 85 U, 87 W, 88 X, 90 Z.
use Rattle.std.specs.Prelude.{ℕ, Bool, not, ◌==◌, ◌&&◌, ◌||◌, List, [], ◌∷◌, ◌++◌, codes, Option, ℤ, if◌then◌else◌}
use Rattle.std.specs.List.{flat_map}
use Rattle.code_tables.specs.declared.kind.CodeKind.{CodeKind}
use Rattle.line_text.specs.declared.body.Word.{Word}
use Rattle.nc_number.specs.declared.point.Point.{Point}
use Rattle.nc_text.specs.declared.tape.Block.{Block}
use Rattle.plain_form.specs.Made.{made_word, length_word, plain_line}
use Rattle.cycle_words.specs.Motion.{code_lines}
use Rattle.cycle_words.specs.Numbers.{is_said}

-- a word stays in the rapid to the intermediate point: it is neither a code nor P
abbrev pub is_way_word : Word → Bool
is_way_word word = not (word.letter == 71) && not (word.letter == 80)

abbrev pub way_word : Word → List Word
way_word word = if is_way_word word then made_word word.letter word.text ∷ [] else []

-- the words of that rapid
abbrev pub way_words : List Word → List Word
way_words words = made_word 71 (codes "00") ∷ flat_map way_word words

-- the words name an axis, by its place or by its way
abbrev pub is_named : ℕ → ℕ → List Word → Bool
is_named place way words = is_said place words || is_said way words

-- the place of an axis, if it is named
abbrev pub axis_word : Bool → ℕ → ℤ → List Word
axis_word named letter at = if named then length_word letter at ∷ [] else []

-- the words of the rapid to the reference position along the named axes, in machine coordinates
abbrev pub home_words : Point → List Word → List Word
home_words home words =
    made_word 71 (codes "53") ∷ (axis_word (is_named 88 85 words) 88 home.x ++ axis_word (is_named 90 87 words) 90 home.z)

-- both rapids, and the code of motion before them, if it was G01
abbrev pub reference_lines : Option CodeKind → Point → List Word → List Block
reference_lines motion home words =
    plain_line (way_words words) ∷ plain_line (home_words home words) ∷ code_lines motion
