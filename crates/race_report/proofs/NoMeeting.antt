-- A variable that no path may write while the other names it, in whatever parts, has no race: for
-- `race_of` (src/racing.rt), which looks no further then.
use Rattle.std.proofs.Common.{◌≡◌, ◌==◌, ℕ, zero, suc, ◌||◌, ◌&&◌, Bool, true, false, List, [], ◌∷◌, Some, None, slice_get, refl, ap, sym, subst, ◌∙◌}
use Rattle.nc_number.proofs.Bools.{both_true, or_left, or_right}
use Rattle.block_forms.specs.declared.block.FlowBlock.{FlowBlock}
use Rattle.tape_flow.specs.declared.flow.Flow.{Flow}
use Rattle.tape_flow.specs.declared.program.FlowProgram.{FlowProgram}
use Rattle.tape_flow.specs.Places.{flow_program, flow_blocks, flow_block}
use Rattle.named_vars.specs.Names.{found_names, found_may_write}
use Rattle.race_order.specs.Races.{IsRace, PartNames, PartMayWrite}
use Rattle.race_report.specs.declared.sought.Sought.{Sought}
use Rattle.race_report.specs.declared.sought.Sought.TheVariants.{Writes, Names}
use Rattle.race_report.specs.Lines.{does}
use Rattle.race_report.specs.Meeting.{some_block, some_program, may_meet, may_race}
use Rattle.race_report.specs.Found.{IsAnswer}
use Rattle.race_report.proofs.SoughtLines.{part_writes_at, part_names_at}

-- a block that does what is looked for is found among the blocks of its program
block_at : (sought : Sought) (v : ℕ) (blocks : List FlowBlock) (place : ℕ) (block : FlowBlock) → slice_get blocks place ≡ Some block
    → does sought v block ≡ true → some_block sought v blocks ≡ true
block_at sought v [] place block at e = absurd cc
block_at sought v (b ∷ blocks) zero block at e =
    let same : b ≡ block = cc in or_left (does sought v b) (some_block sought v blocks) (ap (does sought v) same ∙ e)
block_at sought v (b ∷ blocks) (suc place) block at e =
    or_right (does sought v b) (some_block sought v blocks) (block_at sought v blocks place block at e)

-- a block that does what is looked for is found among the blocks of all programs
program_at : (sought : Sought) (v : ℕ) (programs : List FlowProgram) (q place : ℕ) (block : FlowBlock)
    → flow_block programs q place ≡ Some block → does sought v block ≡ true → some_program sought v programs ≡ true
program_at sought v [] q place block at e = absurd cc
program_at sought v (p ∷ programs) q place block at e = go (p.number == q) refl (λ there. program_at sought v programs q place block there e)
  where
    go : (b : Bool) → (p.number == q) ≡ b → (flow_block programs q place ≡ Some block → some_program sought v programs ≡ true)
        → some_program sought v (p ∷ programs) ≡ true
    go true is rest =
        let found : flow_program (p ∷ programs) q ≡ Some p = rw is refl in
        or_left (some_block sought v p.blocks) (some_program sought v programs)
        (block_at sought v p.blocks place block (subst (λ f. slice_get (flow_blocks f) place ≡ Some block) found at) e)
    go false is rest =
        let found : flow_program (p ∷ programs) q ≡ flow_program programs q = rw is refl in
        or_right (some_block sought v p.blocks) (some_program sought v programs)
        (rest (subst (λ f. slice_get (flow_blocks f) place ≡ Some block) found at))

-- if some part of a path may write the variable, some block of its tape may
writes_somewhere : (flow : Flow) (n v : ℕ) → PartMayWrite flow n v → some_program Writes v flow.programs ≡ true
writes_somewhere flow n v part =
    let at = (part_writes_at flow n v part).1 in
    program_at Writes v flow.programs at.0 at.1 at.2 at.4 (subst (λ found. found_may_write found v ≡ true) at.4 at.5)

-- if some part of a path names the variable, some block of its tape does
names_somewhere : (flow : Flow) (n v : ℕ) → PartNames flow n v → some_program Names v flow.programs ≡ true
names_somewhere flow n v part =
    let at = (part_names_at flow n v part).1 in
    program_at Names v flow.programs at.0 at.1 at.2 at.4 (subst (λ found. found_names found v ≡ true) at.4 at.5)

-- a race takes a block that may write the variable and one of the other path that names it
meets : (shared : ℕ → Bool) (writer other : Flow) (n v : ℕ) → IsRace shared writer other n v → may_meet v writer other ≡ true
meets shared writer other n v is =
    both_true (some_program Writes v writer.programs) (some_program Names v other.programs)
    (writes_somewhere writer n v is.writes) (names_somewhere other n v is.names)

-- a variable that can't have a race by the tapes has none
no_meeting : (shared : ℕ → Bool) (left right : Flow) (v : ℕ) → may_race v left right ≡ false → IsAnswer shared left right v None
no_meeting shared left right v none = (
  λ n is. let some = or_left (may_meet v left right) (may_meet v right left) (meets shared left right n v is) in absurd cc,
  λ n is. let some = or_right (may_meet v left right) (may_meet v right left) (meets shared right left n v is) in absurd cc,
)

-- a variable that can't have a race by the flows that the code borrowed, which are those of the
-- pair, has none
pub no_meeting_of : (shared : ℕ → Bool) (left right l r : Flow) (v : ℕ) (may : Bool) → l ≡ left → r ≡ right → may ≡ may_race v l r → may ≡ false
    → IsAnswer shared left right v None
no_meeting_of shared left right l r v may at also is none =
    let here : may_race v l r ≡ false = sym is ∙ none in
    let there : may_race v left r ≡ false = subst (λ (f : Flow). may_race v f r ≡ false) at here in
    no_meeting shared left right v (subst (λ (f : Flow). may_race v left f ≡ false) also there)
