-- One block more of a program, and one program more of a tape: the parts so far and those of what
-- is ahead stay the same. For the loops of `with_program` and `parts_of` (src/walk.rt). The lemmas
-- in `at_` and `program_` speak of the block or the program at a place of a list.
use Rattle.std.proofs.Common.{◌≡◌, ℕ, zero, suc, ◌+◌, ◌-◌, ◌<◌, Bool, List, [], ◌∷◌, ◌++◌, take, drop, length, get_or, Ok, Err, refl, ap, sym, ◌∙◌, arith}
use Rattle.std.proofs.lemmas.List.{drop_more, take_more}
use Rattle.nc_number.specs.declared.fault.Failing.{Failing}
use Rattle.nc_number.specs.declared.fault.Failing.TheVariants.{Fault, NoMemory}
use Rattle.nc_number.specs.Answers.{Fails}
use Rattle.nc_text.specs.declared.tape.Block.{Block}
use Rattle.nc_text.specs.declared.tape.Program.{Program}
use Rattle.cycle_form.specs.declared.fault.CycleFault.{CycleFault}
use Rattle.cycle_form.specs.declared.fault.CycleFault.TheVariants.{BadCycle}
use Rattle.cycle_form.specs.declared.walk.Found.{Found}
use Rattle.cycle_form.specs.declared.walk.Found.TheVariants as found
use Rattle.cycle_form.specs.Parts.{PartView}
use Rattle.cycle_form.specs.Walk.{Answer, part_in, blocks_left, parts_from, parts_behind}

-- With no block left the parts so far are the answer.
none : (marks : List Bool) (from skip : ℕ) (passed : List Block) (done : List PartView) → parts_from marks from skip passed done [] ≡ Ok done
unfolding parts_from
none marks from zero passed done = refl
none marks from (suc skip) passed done = refl

-- A block of the part before is passed.
skipped : (marks : List Bool) (from skip : ℕ) (passed : List Block) (done : List PartView) (b : Block) (bs : List Block)
    → parts_from marks from (suc skip) passed done (b ∷ bs) ≡ parts_from marks from skip (passed ++ b ∷ []) done bs
unfolding parts_from
skipped marks from skip passed done b bs = refl

-- A block in which nothing begins is passed.
nothing : (marks : List Bool) (from : ℕ) (passed : List Block) (done : List PartView) (b : Block) (bs : List Block)
    → part_in marks passed (drop from done) b (b ∷ bs) ≡ found.Nothing
    → parts_from marks from 0 passed done (b ∷ bs) ≡ parts_from marks from 0 (passed ++ b ∷ []) done bs
unfolding parts_from
nothing marks from passed done b bs e = rw e refl

-- A cycle that is part of no form is refused at its line.
bad : (marks : List Bool) (from : ℕ) (passed : List Block) (done : List PartView) (b : Block) (bs : List Block)
    → part_in marks passed (drop from done) b (b ∷ bs) ≡ found.Bad
    → parts_from marks from 0 passed done (b ∷ bs) ≡ Err (BadCycle b.line)
unfolding parts_from
bad marks from passed done b bs e = rw e refl

-- A part is added, and its other blocks are skipped.
one : (marks : List Bool) (from : ℕ) (passed : List Block) (done : List PartView) (b : Block) (bs : List Block) (part : PartView)
    → part_in marks passed (drop from done) b (b ∷ bs) ≡ found.One part
    → parts_from marks from 0 passed done (b ∷ bs) ≡ parts_from marks from (blocks_left part) (passed ++ b ∷ []) (done ++ part ∷ []) bs
unfolding parts_from
one marks from passed done b bs part e = rw e refl

-- The walk at a place of a program.
abbrev pub at_place : List Bool → ℕ → ℕ → List PartView → List Block → ℕ → Answer
at_place marks from skip done blocks i = parts_from marks from skip (take i blocks) done (drop i blocks)

-- The block b stands at this place.
pub record IsAt (blocks : List Block) (i : ℕ) (b : Block) : Type 0 where
  -- it is the block of the list at this place
  pub is : b ≡ get_or blocks i b
  -- the place lies in the list
  pub before : i < length blocks

-- The blocks from a place on are the block there and those after it.
rest_is : (blocks : List Block) (i : ℕ) (b : Block) → IsAt blocks i b → drop i blocks ≡ b ∷ drop (i + 1) blocks
rest_is blocks i b at = drop_more blocks i b at.before ∙ ap (λ c. c ∷ drop (i + 1) blocks) (sym at.is)

-- The blocks that are passed after this one are those before it, and it.
passed_is : (blocks : List Block) (i : ℕ) (b : Block) → IsAt blocks i b → take (i + 1) blocks ≡ take i blocks ++ b ∷ []
passed_is blocks i b at = take_more blocks i b at.before ∙ ap (λ c. take i blocks ++ c ∷ []) (sym at.is)

-- The walk at a place begins with the block there.
opened : (marks : List Bool) (from skip : ℕ) (done : List PartView) (blocks : List Block) (i : ℕ) (b : Block) → IsAt blocks i b
    → at_place marks from skip done blocks i ≡ parts_from marks from skip (take i blocks) done (b ∷ drop (i + 1) blocks)
opened marks from skip done blocks i b at = ap (parts_from marks from skip (take i blocks) done) (rest_is blocks i b at)

-- The walk after a block is the walk at the next place.
closed : (marks : List Bool) (from skip : ℕ) (done : List PartView) (blocks : List Block) (i : ℕ) (b : Block) → IsAt blocks i b
    → parts_from marks from skip (take i blocks ++ b ∷ []) done (drop (i + 1) blocks) ≡ at_place marks from skip done blocks (i + 1)
closed marks from skip done blocks i b at = ap (λ passed. parts_from marks from skip passed done (drop (i + 1) blocks)) (sym (passed_is blocks i b at))

-- With no block left in the list the parts so far are the answer.
pub at_end : (marks : List Bool) (from skip : ℕ) (passed : List Block) (done : List PartView) (rest : List Block) (all : Answer)
    → rest ≡ [] → parts_from marks from skip passed done rest ≡ all → all ≡ Ok done
at_end marks from skip passed done rest all empty so_far =
    sym so_far ∙ ap (parts_from marks from skip passed done) empty ∙ none marks from skip passed done

-- If the block at this place belongs to the part before, it is passed.
pub at_skip : (marks : List Bool) (from skip new : ℕ) (done : List PartView) (blocks : List Block) (i : ℕ) (b : Block) (all : Answer) → IsAt blocks i b
    → 0 < skip → new ≡ skip - 1 → at_place marks from skip done blocks i ≡ all → at_place marks from new done blocks (i + 1) ≡ all
at_skip marks from zero new done blocks i b all at more less so_far = absurd (omega (arith, more))
at_skip marks from (suc skip) new done blocks i b all at more less so_far =
    let new_is : new ≡ skip = omega (arith, less) in
    ap (λ n. at_place marks from n done blocks (i + 1)) new_is ∙ sym (closed marks from skip done blocks i b at)
    ∙ sym (skipped marks from skip (take i blocks) done b (drop (i + 1) blocks)) ∙ sym (opened marks from (suc skip) done blocks i b at) ∙ so_far

-- What begins in the block at this place.
abbrev pub found_at : List Bool → ℕ → List PartView → List Block → ℕ → Block → Found
found_at marks from done blocks i b = part_in marks (take i blocks) (drop from done) b (drop i blocks)

-- What begins in the block at this place begins in it as the first of the blocks from there on.
found_is : (marks : List Bool) (from : ℕ) (done : List PartView) (blocks : List Block) (i : ℕ) (b : Block) (what : Found) → IsAt blocks i b
    → found_at marks from done blocks i b ≡ what → part_in marks (take i blocks) (drop from done) b (b ∷ drop (i + 1) blocks) ≡ what
found_is marks from done blocks i b what at e = ap (part_in marks (take i blocks) (drop from done) b) (sym (rest_is blocks i b at)) ∙ e

-- What the code finds is what begins in the block at its place.
pub found_by : (marks : List Bool) (from : ℕ) (done whole behind : List PartView) (blocks passed rest : List Block) (i : ℕ) (b : Block) (got what : Found)
    → passed ≡ take i blocks → rest ≡ drop i blocks → behind ≡ drop from whole → whole ≡ done → got ≡ part_in marks passed behind b rest → got ≡ what
    → found_at marks from done blocks i b ≡ what
found_by marks from done whole behind blocks passed rest i b got what passed_is rest_is behind_is whole_is got_is e =
    ap (λ l. part_in marks l (drop from done) b (drop i blocks)) (sym passed_is)
    ∙ ap (λ l. part_in marks passed l b (drop i blocks)) (sym (behind_is ∙ ap (drop from) whole_is))
    ∙ ap (part_in marks passed behind b) (sym rest_is) ∙ sym got_is ∙ e

-- If no block is to be skipped, the walk is that with a count of 0.
unskipped : (marks : List Bool) (from skip : ℕ) (done : List PartView) (blocks : List Block) (i : ℕ) (all : Answer)
    → skip ≡ 0 → at_place marks from skip done blocks i ≡ all → at_place marks from 0 done blocks i ≡ all
unskipped marks from skip done blocks i all zero_is so_far = ap (λ n. at_place marks from n done blocks i) (sym zero_is) ∙ so_far

-- If nothing begins in the block at this place, it is passed.
pub at_nothing : (marks : List Bool) (from skip : ℕ) (done : List PartView) (blocks : List Block) (i : ℕ) (b : Block) (all : Answer) → IsAt blocks i b
    → skip ≡ 0 → found_at marks from done blocks i b ≡ found.Nothing
    → at_place marks from skip done blocks i ≡ all → at_place marks from skip done blocks (i + 1) ≡ all
at_nothing marks from skip done blocks i b all at zero_is e so_far =
    ap (λ n. at_place marks from n done blocks (i + 1)) zero_is ∙ sym (closed marks from 0 done blocks i b at)
    ∙ sym (nothing marks from (take i blocks) done b (drop (i + 1) blocks) (found_is marks from done blocks i b found.Nothing at e))
    ∙ sym (opened marks from 0 done blocks i b at) ∙ unskipped marks from skip done blocks i all zero_is so_far

-- If the block at this place has a cycle that is part of no form, it is refused at its line.
pub at_bad : (marks : List Bool) (from skip : ℕ) (done : List PartView) (blocks : List Block) (i : ℕ) (b : Block) (all : Answer) → IsAt blocks i b
    → skip ≡ 0 → found_at marks from done blocks i b ≡ found.Bad
    → at_place marks from skip done blocks i ≡ all → all ≡ Err (BadCycle b.line)
at_bad marks from skip done blocks i b all at zero_is e so_far =
    sym (unskipped marks from skip done blocks i all zero_is so_far) ∙ opened marks from 0 done blocks i b at
    ∙ bad marks from (take i blocks) done b (drop (i + 1) blocks) (found_is marks from done blocks i b found.Bad at e)

-- If a part begins in the block at this place, it is added, and its other blocks are skipped.
pub at_one : (marks : List Bool) (from skip left : ℕ) (done new : List PartView) (blocks : List Block) (i : ℕ) (b : Block) (part : PartView) (all : Answer) → IsAt blocks i b
    → skip ≡ 0 → found_at marks from done blocks i b ≡ found.One part → left ≡ blocks_left part → new ≡ done ++ part ∷ []
    → at_place marks from skip done blocks i ≡ all → at_place marks from left new blocks (i + 1) ≡ all
at_one marks from skip left done new blocks i b part all at zero_is e left_is new_is so_far =
    ap (λ n. at_place marks from n new blocks (i + 1)) left_is ∙ ap (λ l. at_place marks from (blocks_left part) l blocks (i + 1)) new_is
    ∙ sym (closed marks from (blocks_left part) (done ++ part ∷ []) blocks i b at)
    ∙ sym (one marks from (take i blocks) done b (drop (i + 1) blocks) part (found_is marks from done blocks i b (found.One part) at e))
    ∙ sym (opened marks from 0 done blocks i b at) ∙ unskipped marks from skip done blocks i all zero_is so_far

-- With no program left the parts so far are the answer.
all_read : (marks : List Bool) (done : List PartView) → parts_behind marks done [] ≡ Ok done
unfolding parts_behind
all_read marks done = refl

-- The parts of a program are added.
read : (marks : List Bool) (done parts : List PartView) (p : Program) (ps : List Program)
    → parts_from marks (length done) 0 [] done p.blocks ≡ Ok parts → parts_behind marks done (p ∷ ps) ≡ parts_behind marks parts ps
unfolding parts_behind
read marks done parts p ps e = rw e refl

-- The refusal of a program is that of the tape.
refused : (marks : List Bool) (done : List PartView) (p : Program) (ps : List Program) (fault : CycleFault)
    → parts_from marks (length done) 0 [] done p.blocks ≡ Err fault → parts_behind marks done (p ∷ ps) ≡ Err fault
unfolding parts_behind
refused marks done p ps fault e = rw e refl

-- The programs from a place on are the one there and those after it.
program_is : (tape : List Program) (i : ℕ) (p : Program) → p ≡ get_or tape i p → i < length tape → drop i tape ≡ p ∷ drop (i + 1) tape
program_is tape i p is before = drop_more tape i p before ∙ ap (λ c. c ∷ drop (i + 1) tape) (sym is)

-- With no program left in the list the parts so far are the answer.
pub tape_read : (marks : List Bool) (done : List PartView) (rest : List Program) (all : Answer) → rest ≡ [] → parts_behind marks done rest ≡ all → all ≡ Ok done
tape_read marks done rest all empty so_far = sym so_far ∙ ap (parts_behind marks done) empty ∙ all_read marks done

-- The parts of the program at a place are added.
pub program_read : (marks : List Bool) (done parts : List PartView) (tape : List Program) (i : ℕ) (p : Program) (blocks : List Block) (all : Answer) → p ≡ get_or tape i p → i < length tape → blocks ≡ p.blocks
    → parts_from marks (length done) 0 [] done blocks ≡ Ok parts → parts_behind marks done (drop i tape) ≡ all → parts_behind marks parts (drop (i + 1) tape) ≡ all
program_read marks done parts tape i p blocks all is before blocks_is e so_far =
    sym (read marks done parts p (drop (i + 1) tape) (ap (parts_from marks (length done) 0 [] done) (sym blocks_is) ∙ e)) ∙ ap (parts_behind marks done) (sym (program_is tape i p is before)) ∙ so_far

-- The refusal of the program at a place is the tape's.
pub program_fails : (marks : List Bool) (done : List PartView) (tape : List Program) (i : ℕ) (p : Program) (blocks : List Block) (all : Answer) (error : Failing CycleFault) → p ≡ get_or tape i p → i < length tape → blocks ≡ p.blocks
    → Fails error (parts_from marks (length done) 0 [] done blocks) → parts_behind marks done (drop i tape) ≡ all → Fails error all
program_fails marks done tape i p blocks all (Fault fault) is before blocks_is e so_far =
    sym so_far ∙ ap (parts_behind marks done) (program_is tape i p is before)
    ∙ refused marks done p (drop (i + 1) tape) fault (ap (parts_from marks (length done) 0 [] done) (sym blocks_is) ∙ e)
program_fails marks done tape i p blocks all NoMemory is before blocks_is e so_far = tt
