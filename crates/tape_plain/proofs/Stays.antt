-- A tape of this control's language is written out as itself. For `a_plain_tape_stays` (src/law.rt).
use Rattle.std.proofs.Common.{◌≡◌, ℕ, true, ◌&&◌, cond, List, [], ◌∷◌, Ok, refl, ap, ◌∙◌}
use Rattle.block_words.specs.declared.dialect.Dialect.{Dialect}
use Rattle.nc_text.specs.declared.tape.Block.{Block}
use Rattle.nc_text.specs.declared.tape.Program.{Program}
use Rattle.nc_text.specs.Tape.{tape_of}
use Rattle.plain_blocks.specs.Calm.{AreOwn, kept_blocks, kept_steps}
use Rattle.plain_blocks.proofs.OwnStays.{own_stays}
use Rattle.plain_form.specs.declared.settings.FormSettings.{FormSettings}
use Rattle.tape_plain.specs.Again.{all_kept, are_kept}
use Rattle.tape_plain.specs.Draft.{grown, size_of, size_then, steps_size}
use Rattle.tape_plain.specs.Plain.{if_sized, own_text, plain_by_reading, plain_of, steps_found, written_text}
use Rattle.tape_plain.specs.Rules.{rules_of}

-- blocks that stay have some count
kept_size : (count : ℕ) (blocks : List Block) → (n : ℕ) × (steps_size count (kept_blocks blocks) ≡ Ok n)
kept_size count [] = (count, refl)
kept_size count (block ∷ blocks) = kept_size (grown count 1) blocks

-- so have those of a tape
kept_sizes : (count : ℕ) (tape : List Program) → (n : ℕ) × (size_of count (kept_steps tape) ≡ Ok n)
kept_sizes count [] = (count, refl)
kept_sizes count (program ∷ programs) =
    let one = kept_size count program.blocks in
    let rest = kept_sizes one.0 programs in
    (rest.0, ap (λ r. size_then r (λ more. size_of more (kept_steps programs))) (one.1) ∙ rest.1)

-- blocks that stay are kept
blocks_kept : (blocks : List Block) → are_kept (kept_blocks blocks) ≡ true
blocks_kept [] = refl
blocks_kept (block ∷ blocks) = blocks_kept blocks

-- so are those of a tape
tape_kept : (tape : List Program) → all_kept (kept_steps tape) ≡ true
tape_kept [] = refl
tape_kept (program ∷ programs) = ap (λ b. b && all_kept (kept_steps programs)) (blocks_kept program.blocks) ∙ tape_kept programs

-- the text is itself
pub stays : (dialect : Dialect) (forms : FormSettings) (text : List ℕ) (tape : List Program) → tape_of 0 text ≡ Ok tape → AreOwn dialect tape
    → plain_of dialect forms text ≡ Ok text
unfolding plain_of
stays dialect forms text tape read own =
    ap (plain_by_reading dialect forms text) read
    ∙ ap (λ r. own_text dialect forms text tape (steps_found r)) (own_stays (rules_of dialect forms text tape) tape own)
    ∙ ap (λ r. own_text dialect forms text tape (if_sized (kept_steps tape) r)) ((kept_sizes 0 tape).1)
    ∙ ap (λ b. cond b (Ok text) (written_text dialect forms text tape (kept_steps tape))) (tape_kept tape)
