-- The walk over the blocks of a program is the relation, both ways. For `the_walk_is_the_relation`
-- (src/law.rt).
use Rattle.std.proofs.Common.{◌≡◌, ℕ, suc, ◌+◌, ◌<◌, ◌≤◌, Bool, true, false, cond, List, [], ◌∷◌, ◌++◌, length, map, drop, Option, None, Some, Result, Ok, Err, refl, ap, sym, subst, ◌∙◌, arith, append_assoc}
use Rattle.std.specs.Prelude.{zero, nat_lt, slice_get}
use Rattle.std.proofs.lemmas.List.{append-nil, length-append}
use Rattle.nc_number.specs.declared.limits.TheConstants.{MOST_BLOCKS}
use Rattle.nc_text.specs.declared.tape.Block.{Block}
use Rattle.block_order.specs.declared.program.ControlProgram.{ControlProgram}
use Rattle.known_blocks.specs.declared.known.Known.{Known}
use Rattle.plain_form.specs.declared.answer.FormAnswer.{FormAnswer}
use Rattle.plain_form.specs.declared.answer.FormAnswer.TheVariants.{NotMine, Refused, Written}
use Rattle.plain_form.specs.declared.answer.WrittenLine.{WrittenLine}
use Rattle.plain_form.specs.declared.cause.PlainFault.{PlainFault}
use Rattle.plain_blocks.specs.Asking.{ask, scene_of}
use Rattle.plain_blocks.specs.Order.{order_block}
use Rattle.plain_blocks.specs.Passing.{own_block}
use Rattle.plain_blocks.specs.Targets.{stand_of, stands_of}
use Rattle.plain_blocks.specs.Walk.{Walked, and_then, known_at, pass_lines, replaced_from, with_answer, step_by, step_at, one_at, walk_then, walk_from, program_steps}
use Rattle.plain_blocks.specs.declared.passing.Passed.{Passed}
use Rattle.plain_blocks.specs.declared.step.Step.{Step}
use Rattle.plain_blocks.specs.declared.step.Step.TheVariants as step
use Rattle.plain_blocks.specs.declared.targets.Stand.{Stand}
use Rattle.plain_blocks.specs.declared.walk.Rules.{Rules}
use Rattle.walked_tapes.specs.Walks.{in_place, IsWalk, ends, stays, gives}
use Rattle.walked_tapes.proofs.InPlace.{found_first, first_found, found_within, none_behind, all_before, StandInPlace, lines_stand}

-- tests of places
not_below : (n : ℕ) → nat_lt n n ≡ false
not_below n = grind arith

below : (m n : ℕ) → m < n → nat_lt m n ≡ true
below m n less = grind arith

-- what becomes of the rest, behind the steps so far
abbrev GoesOn : Rules → List Block → List Stand → Known → List Step → List Step → Type 0
GoesOn rules all stands known steps out =
    (later : List Step) × (out ≡ steps ++ later) × IsWalk rules all stands (length steps) known later

-- what holds of all steps of a walk: a place is not past the steps, and those not past the blocks
record IsWithin (all : List Block) (stands : List Stand) (place : ℕ) (steps : List Step) (rest : List Block) : Type 0 where
  few : length stands ≤ MOST_BLOCKS
  same : length stands ≡ length all
  rest_is : drop place all ≡ rest
  reached : place ≤ length steps
  within : length steps ≤ length all

-- the rest behind one block more
rest_behind : (all : List Block) (place : ℕ) (block : Block) (rest : List Block) → drop place all ≡ block ∷ rest → drop (place + 1) all ≡ rest
rest_behind all place block rest e =
    let found = first_found all place block rest e in
    let next : place + 1 ≡ suc place = omega arith in
    let both : block ∷ drop (suc place) all ≡ block ∷ rest = sym (found_first all place block found) ∙ e in
    let tails : drop (suc place) all ≡ rest = cc in
    ap (λ n. drop n all) next ∙ tails

-- a step of the walk at a place that no form has taken, in the relation
step_sound : (rules : Rules) (all : List Block) (stands : List Stand) (place : ℕ) (block : Block) (known : Known) (steps : List Step) (walked : Walked) (out : List Step)
    → length stands ≤ MOST_BLOCKS → length stands ≡ length all → slice_get all place ≡ Some block → length steps ≡ place
    → step_at rules all stands place block (known_at rules stands place known) steps ≡ Ok walked
    → ((place < length walked.steps) → (length walked.steps ≤ length all) → GoesOn rules all stands walked.known walked.steps out)
    → GoesOn rules all stands known steps out
step_sound rules all stands place block known steps walked out few same found here e more =
    go (own_block rules.dialect (known_at rules stands place known) block) refl e
  where
    there : place < length all
    there = found_within all place block found

    kept : (passing : Passed) → own_block rules.dialect (known_at rules stands place known) block ≡ Some passing
        → (walked : Walked) → record { known = passing.known; steps = steps ++ step.Kept ∷ [] } ≡ walked
        → ((place < length walked.steps) → (length walked.steps ≤ length all) → GoesOn rules all stands walked.known walked.steps out)
        → GoesOn rules all stands known steps out
    kept passing own walked is more =
        let long : length (steps ++ step.Kept ∷ []) ≡ place + 1 = length-append steps (step.Kept ∷ []) ∙ ap (λ n. n + 1) here in
        let counted : length walked.steps ≡ place + 1 = ap (λ (w : Walked). length w.steps) (sym is) ∙ long in
        let rest = more (omega (arith, counted)) (omega (arith, counted, there)) in
        let steps_are : walked.steps ≡ steps ++ step.Kept ∷ [] = ap (λ (w : Walked). w.steps) (sym is) in
        let known_is : walked.known ≡ passing.known = ap (λ (w : Walked). w.known) (sym is) in
        let walk : IsWalk rules all stands (place + 1) passing.known rest.0
        = subst (λ n. IsWalk rules all stands n passing.known rest.0) counted (subst (λ k. IsWalk rules all stands (length walked.steps) k rest.0) known_is rest.2) in (
          step.Kept ∷ rest.0,
          rest.1 ∙ ap (λ s. s ++ rest.0) steps_are ∙ append_assoc steps (step.Kept ∷ []) rest.0,
          subst (λ n. IsWalk rules all stands n known (step.Kept ∷ rest.0)) (sym here) (stays place known block passing rest.0 found own walk),
        )

    written : own_block rules.dialect (known_at rules stands place known) block ≡ None
        → (first : WrittenLine) (others : List WrittenLine)
        → ask all place (scene_of rules.dialect.system (known_at rules stands place known)) rules.settings ≡ Written (first ∷ others)
        → (behind : Known) → pass_lines rules stands true place (known_at rules stands place known) (first ∷ others) ≡ Ok behind
        → (walked : Walked) → record { known = behind; steps = steps ++ replaced_from stands place (first ∷ others) } ≡ walked
        → ((place < length walked.steps) → (length walked.steps ≤ length all) → GoesOn rules all stands walked.known walked.steps out)
        → GoesOn rules all stands known steps out
    written own first others answer behind passes walked is more =
        let lines = first ∷ others in
        let stand = lines_stand rules stands true place (known_at rules stands place known) behind lines few (omega (arith, there, same)) passes in
        let new = in_place (drop place stands) lines in
        let steps_are : walked.steps ≡ steps ++ new = ap (λ (w : Walked). w.steps) (sym is) ∙ ap (λ s. steps ++ s) stand.same in
        let counted : length walked.steps ≡ place + length lines
        = ap length steps_are ∙ length-append steps new ∙ ap (λ n. n + length new) here ∙ ap (λ n. place + n) stand.many in
        let limit : place + length lines ≤ length stands = stand.within in
        let some : place < place + length lines = omega arith in
        let rest = more (omega (arith, counted, some)) (omega (arith, counted, limit, same)) in
        let known_is : walked.known ≡ behind = ap (λ (w : Walked). w.known) (sym is) in
        let walk : IsWalk rules all stands (place + length lines) behind rest.0
        = subst (λ n. IsWalk rules all stands n behind rest.0) counted (subst (λ k. IsWalk rules all stands (length walked.steps) k rest.0) known_is rest.2) in (
          new ++ rest.0,
          rest.1 ∙ ap (λ s. s ++ rest.0) steps_are ∙ append_assoc steps new rest.0,
          subst (λ n. IsWalk rules all stands n known (new ++ rest.0)) (sym here) (gives place known behind block first others rest.0 found own answer passes walk),
        )

    passed : own_block rules.dialect (known_at rules stands place known) block ≡ None → (first : WrittenLine) (others : List WrittenLine)
        → ask all place (scene_of rules.dialect.system (known_at rules stands place known)) rules.settings ≡ Written (first ∷ others)
        → (r : Result Known PlainFault) → pass_lines rules stands true place (known_at rules stands place known) (first ∷ others) ≡ r
        → and_then r (λ behind. Ok (record { known = behind; steps = steps ++ replaced_from stands place (first ∷ others) })) ≡ Ok walked
        → GoesOn rules all stands known steps out
    passed own first others answer (Ok behind) passes e =
        let is : ◌≡◌ {A = Walked} (record { known = behind; steps = steps ++ replaced_from stands place (first ∷ others) }) walked = cc in
        written own first others answer behind passes walked is more
    passed own first others answer (Err fault) passes e = absurd cc

    asked : own_block rules.dialect (known_at rules stands place known) block ≡ None → (answer : FormAnswer)
        → ask all place (scene_of rules.dialect.system (known_at rules stands place known)) rules.settings ≡ answer
        → with_answer rules stands place block.line (known_at rules stands place known) steps answer ≡ Ok walked → GoesOn rules all stands known steps out
    asked own NotMine answer e = absurd cc
    asked own (Refused fault) answer e = absurd cc
    asked own (Written []) answer e = absurd cc
    asked own (Written (first ∷ others)) answer e =
        passed own first others answer (pass_lines rules stands true place (known_at rules stands place known) (first ∷ others)) refl e

    go : (r : Option Passed) → own_block rules.dialect (known_at rules stands place known) block ≡ r
        → step_by rules all stands place block (known_at rules stands place known) steps r ≡ Ok walked → GoesOn rules all stands known steps out
    go (Some passing) own e =
        let is : ◌≡◌ {A = Walked} (record { known = passing.known; steps = steps ++ step.Kept ∷ [] }) walked = cc in
        kept passing own walked is more
    go None own e = asked own (ask all place (scene_of rules.dialect.system (known_at rules stands place known)) rules.settings) refl e

-- the walk, in the relation
sound_from : (rules : Rules) (all : List Block) (stands : List Stand) (known : Known) (steps : List Step) (place : ℕ) (rest : List Block) (out : List Step)
    → IsWithin all stands place steps rest → walk_from rules all stands known steps place rest ≡ Ok out → GoesOn rules all stands known steps out
sound_from rules all stands known steps place [] out is e =
    let same : steps ≡ out = cc in
    let before : length all ≤ place = all_before all place is.rest_is in
    let reached = is.reached in
    let within = is.within in
    ([], sym same ∙ sym (append-nil steps), ends (length steps) known (omega (arith, before, reached, within)))
sound_from rules all stands known steps place (block ∷ rest) out is e =
    go (λ known steps is rest_of. sound_from rules all stands known steps (place + 1) rest out is rest_of) (nat_lt place (length steps)) refl e
  where
    found : slice_get all place ≡ Some block
    found = first_found all place block rest is.rest_is

    next : drop (place + 1) all ≡ rest
    next = rest_behind all place block rest is.rest_is

    stepped : ((known : Known) (steps : List Step) → IsWithin all stands (place + 1) steps rest → walk_from rules all stands known steps (place + 1) rest ≡ Ok out
        → GoesOn rules all stands known steps out)
        → length steps ≡ place → (r : Result Walked PlainFault) → step_at rules all stands place block (known_at rules stands place known) steps ≡ r
        → walk_then r (λ walked. walk_from rules all stands walked.known walked.steps (place + 1) rest) ≡ Ok out
        → GoesOn rules all stands known steps out
    stepped more here (Ok walked) first e =
        step_sound rules all stands place block known steps walked out is.few is.same found here first
        (λ reached within. more walked.known walked.steps (record { few = is.few; same = is.same; rest_is = next; reached = omega (arith, reached); within = within }) e)
    stepped more here (Err fault) first e = absurd cc

    go : ((known : Known) (steps : List Step) → IsWithin all stands (place + 1) steps rest → walk_from rules all stands known steps (place + 1) rest ≡ Ok out
        → GoesOn rules all stands known steps out)
        → (b : Bool) → nat_lt place (length steps) ≡ b
        → walk_then (cond b (Ok (record { known = known; steps = steps })) (step_at rules all stands place block (known_at rules stands place known) steps))
        (λ walked. walk_from rules all stands walked.known walked.steps (place + 1) rest) ≡ Ok out
        → GoesOn rules all stands known steps out
    go more true less e =
        let reached : place + 1 ≤ length steps = grind (arith, less) in
        more known steps (record { few = is.few; same = is.same; rest_is = next; reached = reached; within = is.within }) e
    go more false less e =
        let reached = is.reached in
        let here : length steps ≡ place = grind (arith, less, reached) in
        stepped more here (step_at rules all stands place block (known_at rules stands place known) steps) refl e

-- places that a form has taken are passed over
passed_over : (rules : Rules) (all : List Block) (stands : List Stand) (known : Known) (steps : List Step) (place count : ℕ)
    → length steps ≡ place + count → length steps ≤ length all
    → walk_from rules all stands known steps place (drop place all) ≡ walk_from rules all stands known steps (length steps) (drop (length steps) all)
passed_over rules all stands known steps place zero long within =
    let same : place ≡ length steps = omega (arith, long) in
    ap (λ n. walk_from rules all stands known steps n (drop n all)) same
passed_over rules all stands known steps place (suc count) long within =
    go (passed_over rules all stands known steps (place + 1) count (omega (arith, long)) within) (drop place all) refl
  where
    less : place < length steps
    less = omega (arith, long)

    go : walk_from rules all stands known steps (place + 1) (drop (place + 1) all) ≡ walk_from rules all stands known steps (length steps) (drop (length steps) all)
        → (rest : List Block) → drop place all ≡ rest
        → walk_from rules all stands known steps place rest ≡ walk_from rules all stands known steps (length steps) (drop (length steps) all)
    go more [] is = absurd (let before : length all ≤ place = all_before all place is in omega (arith, before, less, within))
    go more (block ∷ rest) is =
        let next : drop (place + 1) all ≡ rest = rest_behind all place block rest is in
        ap (λ b. walk_then (cond b (Ok (record { known = known; steps = steps })) (step_at rules all stands place block (known_at rules stands place known) steps))
        (λ walked. walk_from rules all stands walked.known walked.steps (place + 1) rest)) (below place (length steps) less)
        ∙ ap (λ r. walk_from rules all stands known steps (place + 1) r) (sym next)
        ∙ more

-- the relation, in the walk
complete_from : (rules : Rules) (all : List Block) (stands : List Stand) (place : ℕ) (known : Known) (later steps : List Step)
    → length stands ≤ MOST_BLOCKS → length stands ≡ length all → length steps ≡ place → IsWalk rules all stands place known later
    → walk_from rules all stands known steps place (drop place all) ≡ Ok (steps ++ later)
complete_from rules all stands _ _ _ steps few same here (ends place known long) =
    ap (walk_from rules all stands known steps place) (none_behind all place (omega (arith, long))) ∙ ap Ok (sym (append-nil steps))
complete_from rules all stands _ _ _ steps few same here (stays place known block passing later found own walk) =
    let behind : length (steps ++ step.Kept ∷ []) ≡ place + 1 = length-append steps (step.Kept ∷ []) ∙ ap (λ n. n + 1) here in
    let rest = complete_from rules all stands (place + 1) passing.known later (steps ++ step.Kept ∷ []) few same behind walk in
    let next : suc place ≡ place + 1 = omega arith in
    ap (walk_from rules all stands known steps place) (found_first all place block found ∙ ap (λ n. block ∷ drop n all) next)
    ∙ ap (λ b. walk_then (cond b (Ok (record { known = known; steps = steps })) (step_at rules all stands place block (known_at rules stands place known) steps))
    (λ walked. walk_from rules all stands walked.known walked.steps (place + 1) (drop (place + 1) all)))
    (subst (λ n. nat_lt place n ≡ false) (sym here) (not_below place))
    ∙ ap (λ r. walk_then (step_by rules all stands place block (known_at rules stands place known) steps r)
    (λ walked. walk_from rules all stands walked.known walked.steps (place + 1) (drop (place + 1) all))) own
    ∙ rest ∙ ap Ok (append_assoc steps (step.Kept ∷ []) later)
complete_from rules all stands _ _ _ steps few same here (gives place known behind block first others later found own answer passes walk) =
    let there : place < length all = found_within all place block found in
    let lines = first ∷ others in
    let before = known_at rules stands place known in
    let stand = lines_stand rules stands true place before behind lines few (omega (arith, there, same)) passes in
    let new = in_place (drop place stands) lines in
    let long : length (steps ++ new) ≡ place + length lines = length-append steps new ∙ ap (λ n. n + length new) here ∙ ap (λ n. place + n) stand.many in
    let limit : place + length lines ≤ length stands = stand.within in
    let rest = complete_from rules all stands (place + length lines) behind later (steps ++ new) few same long walk in
    let next : suc place ≡ place + 1 = omega arith in
    let over : walk_from rules all stands behind (steps ++ new) (place + 1) (drop (place + 1) all) ≡ walk_from rules all stands behind (steps ++ new) (length (steps ++ new)) (drop (length (steps ++ new)) all)
    = passed_over rules all stands behind (steps ++ new) (place + 1) (length others) (long ∙ omega arith) (omega (arith, long, limit, same)) in
    ap (walk_from rules all stands known steps place) (found_first all place block found ∙ ap (λ n. block ∷ drop n all) next)
    ∙ ap (λ b. walk_then (cond b (Ok (record { known = known; steps = steps })) (step_at rules all stands place block before steps))
    (λ walked. walk_from rules all stands walked.known walked.steps (place + 1) (drop (place + 1) all)))
    (subst (λ n. nat_lt place n ≡ false) (sym here) (not_below place))
    ∙ ap (λ r. walk_then (step_by rules all stands place block before steps r)
    (λ walked. walk_from rules all stands walked.known walked.steps (place + 1) (drop (place + 1) all))) own
    ∙ ap (λ a. walk_then (with_answer rules stands place block.line before steps a)
    (λ walked. walk_from rules all stands walked.known walked.steps (place + 1) (drop (place + 1) all))) answer
    ∙ ap (λ r. walk_then (and_then r (λ after. Ok (record { known = after; steps = steps ++ replaced_from stands place lines })))
    (λ walked. walk_from rules all stands walked.known walked.steps (place + 1) (drop (place + 1) all))) passes
    ∙ ap (λ s. walk_from rules all stands behind (steps ++ s) (place + 1) (drop (place + 1) all)) stand.same
    ∙ over
    ∙ ap (λ n. walk_from rules all stands behind (steps ++ new) n (drop n all)) long
    ∙ rest ∙ ap Ok (append_assoc steps new later)

-- there are as many blocks in their order as there are blocks
as_many : (rules : Rules) (tape : List ControlProgram) (blocks : List Block)
    → length (stands_of tape (map (order_block rules.dialect) blocks)) ≡ length blocks
as_many rules tape blocks =
    mapped (stand_of tape (map (order_block rules.dialect) blocks)) (map (order_block rules.dialect) blocks) ∙ mapped (order_block rules.dialect) blocks
  where
    mapped : {A B : Type 0} (f : A → B) (xs : List A) → length (map f xs) ≡ length xs
    mapped f [] = refl
    mapped f (x ∷ xs) = ap suc (mapped f xs)

pub walk_sound : (rules : Rules) (tape : List ControlProgram) (blocks : List Block) (steps : List Step) → length blocks ≤ MOST_BLOCKS
    → program_steps rules tape blocks ≡ Ok steps
    → IsWalk rules blocks (stands_of tape (map (order_block rules.dialect) blocks)) 0 rules.anywhere steps
walk_sound rules tape blocks steps few e =
    let stands = stands_of tape (map (order_block rules.dialect) blocks) in
    let many = as_many rules tape blocks in
    let is : IsWithin blocks stands 0 [] blocks
    = record { few = omega (arith, few, many); same = many; rest_is = refl; reached = omega arith; within = omega arith } in
    let found = sound_from rules blocks stands rules.anywhere [] 0 blocks steps is e in
    subst (λ s. IsWalk rules blocks stands 0 rules.anywhere s) (sym found.1) found.2

pub walk_complete : (rules : Rules) (tape : List ControlProgram) (blocks : List Block) (steps : List Step) → length blocks ≤ MOST_BLOCKS
    → IsWalk rules blocks (stands_of tape (map (order_block rules.dialect) blocks)) 0 rules.anywhere steps
    → program_steps rules tape blocks ≡ Ok steps
walk_complete rules tape blocks steps few walk =
    let many = as_many rules tape blocks in
    complete_from rules blocks (stands_of tape (map (order_block rules.dialect) blocks)) 0 rules.anywhere steps [] (omega (arith, few, many)) many refl walk
