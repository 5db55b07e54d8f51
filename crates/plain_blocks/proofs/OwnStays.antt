-- A tape whose blocks are all of this control's language stays. For `what_is_own_stays`
-- (src/law.rt).
use Rattle.std.proofs.Common.{◌≡◌, ℕ, ◌+◌, Bool, true, false, cond, List, [], ◌∷◌, ◌++◌, length, map, All, None, Ok, refl, ap, sym, subst, ◌∙◌, arith, append_assoc}
use Rattle.std.specs.Prelude.{nat_lt}
use Rattle.std.proofs.lemmas.List.{append-nil, length-append}
use Rattle.std.proofs.lemmas.List.Elements.{All-head, All-tail}
use Rattle.block_forms.specs.Forms.{block_or_refusal}
use Rattle.block_words.specs.declared.dialect.Dialect.{Dialect}
use Rattle.nc_text.specs.declared.tape.Block.{Block}
use Rattle.nc_text.specs.declared.tape.Program.{Program}
use Rattle.block_order.specs.declared.program.ControlProgram.{ControlProgram}
use Rattle.known_blocks.specs.declared.known.Known.{Known}
use Rattle.plain_blocks.specs.Calm.{IsOwn, AreOwn, kept_blocks, kept_steps}
use Rattle.plain_blocks.specs.Order.{order_block, order_tape}
use Rattle.plain_blocks.specs.Passing.{known_past, passed_by}
use Rattle.plain_blocks.specs.Targets.{stands_of}
use Rattle.plain_blocks.specs.Walk.{Walked, known_at, step_by, step_at, one_at, walk_then, walk_from, program_steps, steps_then, steps_from, steps_of}
use Rattle.plain_blocks.specs.declared.step.Step.{Step}
use Rattle.plain_blocks.specs.declared.step.Step.TheVariants as step
use Rattle.plain_blocks.specs.declared.targets.Stand.{Stand}
use Rattle.plain_blocks.specs.declared.walk.Rules.{Rules}

-- a number is not below itself
not_below : (n : ℕ) → nat_lt n n ≡ false
not_below n = grind arith

-- one step more is one place more
one_more : (steps : List Step) → length (steps ++ step.Kept ∷ []) ≡ length steps + 1
one_more steps = length-append steps (step.Kept ∷ [])

-- blocks of this control's language stay, one after the other
walk_kept : (rules : Rules) (all : List Block) (stands : List Stand) (known : Known) (steps : List Step) (blocks : List Block)
    → All (IsOwn rules.dialect) blocks → walk_from rules all stands known steps (length steps) blocks ≡ Ok (steps ++ kept_blocks blocks)
walk_kept rules all stands known steps [] own = ap Ok (sym (append-nil steps))
walk_kept rules all stands known steps (block ∷ blocks) all_own =
    let first : IsOwn rules.dialect block = All-head (IsOwn rules.dialect) block blocks all_own in
    let others : All (IsOwn rules.dialect) blocks = All-tail (IsOwn rules.dialect) block blocks all_own in
    let before : Known = known_at rules stands (length steps) known in
    let behind : Known = known_past first.0 before in
    let here : one_at rules all stands (length steps) block known steps ≡ Ok (record { known = behind; steps = steps ++ step.Kept ∷ [] })
    = ap (λ b. cond b (Ok (record { known = known; steps = steps })) (step_at rules all stands (length steps) block before steps)) (not_below (length steps))
    ∙ ap (λ b. step_by rules all stands (length steps) block before steps (cond b None (passed_by before (block_or_refusal rules.dialect block)))) (first.2 before.motion)
    ∙ ap (λ r. step_by rules all stands (length steps) block before steps (passed_by before r)) first.1 in
    let rest : walk_from rules all stands behind (steps ++ step.Kept ∷ []) (length steps + 1) blocks ≡ Ok ((steps ++ step.Kept ∷ []) ++ kept_blocks blocks)
    = subst (λ place. walk_from rules all stands behind (steps ++ step.Kept ∷ []) place blocks ≡ Ok ((steps ++ step.Kept ∷ []) ++ kept_blocks blocks))
    (one_more steps) (walk_kept rules all stands behind (steps ++ step.Kept ∷ []) blocks others) in
    ap (λ r. walk_then r (λ walked. walk_from rules all stands walked.known walked.steps (length steps + 1) blocks)) here
    ∙ rest ∙ ap Ok (append_assoc steps (step.Kept ∷ []) (kept_blocks blocks))

-- the blocks of a program are of this control's language
abbrev OwnProgram : Dialect → Program → Type 0
OwnProgram dialect program = All (IsOwn dialect) program.blocks

-- the same of the programs of a tape
steps_kept : (rules : Rules) (order : List ControlProgram) (done : List (List Step)) (tape : List Program) → AreOwn rules.dialect tape
    → steps_from rules order done tape ≡ Ok (done ++ kept_steps tape)
steps_kept rules order done [] own = ap Ok (sym (append-nil done))
steps_kept rules order done (program ∷ programs) all_own =
    let first : OwnProgram rules.dialect program = All-head (OwnProgram rules.dialect) program programs all_own in
    let others : AreOwn rules.dialect programs = All-tail (OwnProgram rules.dialect) program programs all_own in
    let here : program_steps rules order program.blocks ≡ Ok (kept_blocks program.blocks)
    = walk_kept rules program.blocks (stands_of order (map (order_block rules.dialect) program.blocks)) rules.anywhere [] program.blocks first in
    ap (λ r. steps_then r (λ steps. steps_from rules order (done ++ steps ∷ []) programs)) here
    ∙ steps_kept rules order (done ++ kept_blocks program.blocks ∷ []) programs others
    ∙ ap Ok (append_assoc done (kept_blocks program.blocks ∷ []) (kept_steps programs))

-- all of a tape stays
pub own_stays : (rules : Rules) (tape : List Program) → AreOwn rules.dialect tape → steps_of rules tape ≡ Ok (kept_steps tape)
own_stays rules tape own = steps_kept rules (order_tape rules.dialect tape) [] tape own
