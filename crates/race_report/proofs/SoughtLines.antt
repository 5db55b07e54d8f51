-- The lines that part_lines finds among those looked for are the lines of the blocks that name or
-- may write the variable, part by part. FirstRaces, NoMeeting and SameForms build on it.
use Rattle.std.proofs.Common.{◌≡◌, ℕ, Bool, true, false, Option, Some, None, refl, ap, sym, subst}
use Rattle.block_order.specs.Order.{blocks, control_at}
use Rattle.block_forms.specs.declared.block.FlowBlock.{FlowBlock}
use Rattle.tape_flow.specs.declared.flow.Flow.{Flow}
use Rattle.tape_flow.specs.Places.{flow_block}
use Rattle.tape_flow.proofs.Seen.{stands_in}
use Rattle.named_vars.specs.Names.{found_names, found_may_write}
use Rattle.part_lines.specs.PartLines.{LineInPart}
use Rattle.race_order.specs.Races.{PartNames, PartMayWrite}
use Rattle.race_report.specs.declared.sought.Sought.{Sought}
use Rattle.race_report.specs.declared.sought.Sought.TheVariants.{Writes, Names}
use Rattle.race_report.specs.Lines.{does, line_if, block_line, sought_line}
use Rattle.race_report.specs.RaceLists.{MayWriteAt, NamesAt}

-- a block of the flow is one of its order, with the same control
in_order : (flow : Flow) (number place : ℕ) (block : FlowBlock) → flow_block flow.programs number place ≡ Some block
    → control_at (blocks flow.order number) place ≡ Some block.control
in_order flow number place block is = rw (flow.agrees) (stands_in flow.programs number place block is)

-- there is a block, it does what is looked for, and its line is k
abbrev DoesAt : Sought → ℕ → Option FlowBlock → ℕ → Type 0
DoesAt sought v found k = (block : FlowBlock) × (found ≡ Some block) × (does sought v block ≡ true) × (block.line ≡ k)

-- a line that is found is that of a block which does what is looked for
line_does : (sought : Sought) (v : ℕ) (found : Option FlowBlock) (k : ℕ) → block_line sought v found ≡ Some k → DoesAt sought v found k
line_does sought v None k is = absurd cc
line_does sought v (Some block) k is = go (does sought v block) refl is
  where
    go : (b : Bool) → does sought v block ≡ b → line_if b block.line ≡ Some k → DoesAt sought v (Some block) k
    go false e is = absurd cc
    go true e is = let same : block.line ≡ k = cc in (block, refl, e, same)

-- each block that does what is looked for has its line found
does_line : (sought : Sought) (v : ℕ) (found : Option FlowBlock) (k : ℕ) → DoesAt sought v found k → block_line sought v found ≡ Some k
does_line sought v found k (block, is, e, line) = rw (is, e) (ap Some line)

-- part n of the path has a block of this line that does what is looked for
abbrev pub SoughtAt : Flow → Sought → ℕ → ℕ → ℕ → Type 0
SoughtAt flow Writes v n k = MayWriteAt flow n v k
SoughtAt flow Names v n k = NamesAt flow n v k

-- a line that is found in a part is that of a block of the part which does what is looked for
pub line_sought : (flow : Flow) (sought : Sought) (v n k : ℕ) → LineInPart flow.order (sought_line flow sought v) n k → SoughtAt flow sought v n k
line_sought flow Writes v n k (program, place, c, inside, is, e) =
    let at = line_does Writes v (flow_block flow.programs program place) k e in
    (program, place, at.0, inside, at.1, subst (λ found. found_may_write found v ≡ true) (sym at.1) at.2, at.3)
line_sought flow Names v n k (program, place, c, inside, is, e) =
    let at = line_does Names v (flow_block flow.programs program place) k e in
    (program, place, at.0, inside, at.1, subst (λ found. found_names found v ≡ true) (sym at.1) at.2, at.3)

-- the line of a block of a part that does what is looked for is found in the part
pub sought_is : (flow : Flow) (sought : Sought) (v n k : ℕ) → SoughtAt flow sought v n k → LineInPart flow.order (sought_line flow sought v) n k
sought_is flow Writes v n k (program, place, block, inside, at, writes, line) = (
  program,
  place,
  block.control,
  inside,
  in_order flow program place block at,
  does_line Writes v (flow_block flow.programs program place) k (block, at, subst (λ found. found_may_write found v ≡ true) at writes, line),
)
sought_is flow Names v n k (program, place, block, inside, at, names, line) = (
  program,
  place,
  block.control,
  inside,
  in_order flow program place block at,
  does_line Names v (flow_block flow.programs program place) k (block, at, subst (λ found. found_names found v ≡ true) at names, line),
)

-- a place at which a variable may be written has a block
writes_there : (found : Option FlowBlock) (v : ℕ) → found_may_write found v ≡ true → (block : FlowBlock) × (found ≡ Some block)
writes_there None v e = absurd cc
writes_there (Some block) v e = (block, refl)

-- a place at which a variable is named has a block
names_there : (found : Option FlowBlock) (v : ℕ) → found_names found v ≡ true → (block : FlowBlock) × (found ≡ Some block)
names_there None v e = absurd cc
names_there (Some block) v e = (block, refl)

-- a part that may write the variable has a line at which a block may
pub part_writes_at : (flow : Flow) (n v : ℕ) → PartMayWrite flow n v → (k : ℕ) × MayWriteAt flow n v k
part_writes_at flow n v (program, place, inside, e) =
    let there = writes_there (flow_block flow.programs program place) v e in
    (there.0.line, (program, place, there.0, inside, there.1, e, refl))

-- a part that names the variable has a line at which a block names it
pub part_names_at : (flow : Flow) (n v : ℕ) → PartNames flow n v → (k : ℕ) × NamesAt flow n v k
part_names_at flow n v (program, place, inside, e) =
    let there = names_there (flow_block flow.programs program place) v e in
    (there.0.line, (program, place, there.0, inside, there.1, e, refl))
