-- The parts of a tape that are written out, in the order of the text, or the first block with a
-- cycle that is part of no form, or with G91 or G20. Src/walk.rt computes `parts_of`.
use Rattle.std.specs.Prelude.{ℕ, zero, suc, ◌-◌, Bool, false, ◌||◌, List, [], ◌∷◌, ◌++◌, length, drop, Option, Some, None, Result, Ok, Err, slice_get, ℤ, pos, if◌then◌else◌}
use Rattle.std.specs.List.{list_any}
use Rattle.nc_number.specs.Options.{◌>>=◌}
use Rattle.line_text.specs.declared.body.Word.{Word}
use Rattle.nc_text.specs.declared.tape.Block.{Block}
use Rattle.nc_text.specs.declared.tape.Program.{Program}
use Rattle.line_text.specs.declared.body.Body.{Body}
use Rattle.line_text.specs.declared.body.Body.TheVariants.{Words, Statement}
use Rattle.cycle_form.specs.declared.fault.CycleFault.{CycleFault}
use Rattle.cycle_form.specs.declared.fault.CycleFault.TheVariants.{BadCycle}
use Rattle.cycle_form.specs.declared.walk.Found.{Found}
use Rattle.cycle_form.specs.declared.walk.Found.TheVariants as found
use Rattle.cycle_form.specs.Words.{literal_of, is_code}
use Rattle.cycle_form.specs.Forms.{form_at, finish_at}
use Rattle.cycle_form.specs.Parts.{PartView, IsSoundPart}

-- Whether the word writes this G code out. 71 is the letter G.
abbrev pub has_word : ℤ → Word → Bool
has_word code word = is_code code (literal_of 71 (Some word))

-- Whether one of the block's words writes this G code out; a statement has none.
abbrev pub has_code : ℤ → Body → Bool
has_code code (Words words) = list_any (has_word code) words
has_code code (Statement text) = false

-- Whether the block changes what the lengths of a form mean: G91 makes them ways from where the tool
-- is, G20 inches.
abbrev pub changes_lengths : Body → Bool
changes_lengths body = has_code (pos 91) body || has_code (pos 20) body

-- The part that was found, or that the cycle is part of no form.
abbrev pub part_or_bad : Option PartView → Found
part_or_bad None = found.Bad
part_or_bad (Some part) = found.One part

-- If a part is found, it is sound.
abbrev pub IsSoundFound : Found → Type 0
IsSoundFound found.Nothing = Unit {0}
IsSoundFound found.Bad = Unit {0}
IsSoundFound (found.One part) = IsSoundPart part

-- The last of the blocks that were passed, if there is one.
abbrev pub block_before : List Block → Option Block
block_before passed = slice_get passed (length passed - 1)

-- The part of a form whose start is the last of the blocks that were passed, and whose first G71 is
-- the first of these blocks.
abbrev pub form_behind : List Bool → List Block → List Block → Option PartView
form_behind marks passed rest = block_before passed >>= (λ a. form_at marks a rest)

-- The part of a finish whose start is the last of the blocks that were passed, and whose G70 is
-- this block, over a form of the same program.
abbrev pub finish_behind : List Bool → List Block → Block → List PartView → Option PartView
finish_behind marks passed block done = block_before passed >>= (λ a. finish_at marks a block done)

-- What begins in a block: nothing, a part, or what is written out nowhere: a cycle that is part of
-- no form, and G91 or G20, under which no form of the tape says what it seems to. It depends on the
-- lines with a skip sign or a comment (`marks`), on the blocks that were passed, on the parts of
-- the program so far (`done`), and on the blocks from this one on (`rest`).
abbrev pub part_in : List Bool → List Block → List PartView → Block → List Block → Found
part_in marks passed done block rest =
    if changes_lengths block.body then found.Bad
    else if has_code (pos 71) block.body then part_or_bad (form_behind marks passed rest)
    else (if has_code (pos 70) block.body then part_or_bad (finish_behind marks passed block done)
    else found.Nothing)

-- The parts of a tape, or its refusal.
abbrev pub Answer : Type 0
Answer = Result (List PartView) CycleFault

-- How many blocks of a part come after its first.
abbrev pub blocks_left : PartView → ℕ
blocks_left part = length part.lines - 1

-- What the walk answers, by what begins in a block: it goes on with `rest`, or with `more` after a
-- part; what is written out nowhere is refused with 93 at this line.
abbrev pub found_next : ℕ → Found → Answer → (PartView → Answer) → Answer
found_next line found.Nothing rest more = rest
found_next line found.Bad rest more = Err (BadCycle line)
found_next line (found.One part) rest more = more part

-- The parts so far and those of these blocks of a program. The first `skip` blocks belong to the
-- part before them. The parts of this program begin at the place `from` of the list.
unfoldable pub parts_from : List Bool → ℕ → ℕ → List Block → List PartView → List Block → Answer
parts_from marks from skip passed done [] = Ok done
parts_from marks from (suc skip) passed done (block ∷ blocks) = parts_from marks from skip (passed ++ block ∷ []) done blocks
parts_from marks from zero passed done (block ∷ blocks) =
    found_next block.line (part_in marks passed (drop from done) block (block ∷ blocks))
    (parts_from marks from 0 (passed ++ block ∷ []) done blocks)
    (λ part. parts_from marks from (blocks_left part) (passed ++ block ∷ []) (done ++ part ∷ []) blocks)

-- What the next step makes of the parts, or the refusal.
abbrev pub and_then : Answer → (List PartView → Answer) → Answer
and_then (Ok parts) next = next parts
and_then (Err fault) next = Err fault

-- The parts so far and those of these programs, or the first refusal.
unfoldable pub parts_behind : List Bool → List PartView → List Program → Answer
parts_behind marks done [] = Ok done
parts_behind marks done (program ∷ programs) =
    and_then (parts_from marks (length done) 0 [] done program.blocks) (λ parts. parts_behind marks parts programs)

-- The parts of a tape, or its refusal.
abbrev pub parts_of : List Bool → List Program → Answer
parts_of marks tape = parts_behind marks [] tape
