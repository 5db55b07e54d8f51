-- A walk after which all blocks stay has found each to be one of this control's language.
use Rattle.std.proofs.Common.{◌≡◌, ℕ, ◌+◌, ◌⊎◌, inl, inr, Bool, true, false, ◌&&◌, cond, List, [], ◌∷◌, ◌++◌, length, map, All, Option, None, Some, Result, Ok, Err, refl, ap, sym, subst, ◌∙◌, arith, append_assoc}
use Rattle.std.specs.Prelude.{nat_lt, slice_get}
use Rattle.std.specs.List.{list_all}
use Rattle.std.proofs.lemmas.List.{append-nil, length-append}
use Rattle.std.proofs.lemmas.List.Elements.{All-nil, All-cons}
use Rattle.nc_number.proofs.Bools.{both}
use Rattle.block_forms.specs.Forms.{BlockForm, block_or_refusal}
use Rattle.block_words.specs.declared.dialect.Dialect.{Dialect}
use Rattle.nc_text.specs.declared.tape.Block.{Block}
use Rattle.nc_text.specs.declared.tape.Program.{Program}
use Rattle.block_order.specs.declared.program.ControlProgram.{ControlProgram}
use Rattle.known_blocks.specs.declared.known.Known.{Known}
use Rattle.plain_form.specs.declared.answer.FormAnswer.{FormAnswer}
use Rattle.plain_form.specs.declared.answer.FormAnswer.TheVariants.{NotMine, Refused, Written}
use Rattle.plain_form.specs.declared.answer.WrittenLine.{WrittenLine}
use Rattle.plain_form.specs.declared.cause.PlainFault.{PlainFault}
use Rattle.plain_blocks.specs.Asking.{ask, scene_of}
use Rattle.plain_blocks.specs.Calm.{kept_blocks, kept_steps}
use Rattle.plain_blocks.specs.Order.{order_block, order_tape}
use Rattle.plain_blocks.specs.Passing.{behind_block, has_taper, own_block, passed_by}
use Rattle.plain_blocks.specs.Targets.{stands_of}
use Rattle.plain_blocks.specs.Walk.{Walked, and_then, known_at, line_found, lines_at, next_place, pass_lines, replaced_by, replaced_from, with_answer, with_lines, step_by, step_at, one_at, walk_then, walk_from, program_steps, steps_then, steps_from, steps_of}
use Rattle.plain_blocks.specs.declared.passing.Passed.{Passed}
use Rattle.plain_blocks.specs.declared.step.Step.{Step}
use Rattle.plain_blocks.specs.declared.step.Step.TheVariants as step
use Rattle.plain_blocks.specs.declared.targets.Stand.{Stand}
use Rattle.plain_blocks.specs.declared.walk.Rules.{Rules}
use Rattle.tape_plain.specs.Again.{is_kept, are_kept, all_kept}
use Rattle.plain_laws.specs.Written.{IsForm, AreForms}

-- if all of two lists pass, so do those of each
parts_pass : {A : Type 0} (test : A → Bool) (xs ys : List A) → list_all test (xs ++ ys) ≡ true → (list_all test xs ≡ true) × (list_all test ys ≡ true)
parts_pass test [] ys e = (refl, e)
parts_pass test (x ∷ xs) ys e =
    let p = both (test x) (list_all test (xs ++ ys)) e in
    let r = parts_pass test xs ys p.1 in
    (join (test x) (list_all test xs) p.0 r.0, r.1)
  where
    join : (a b : Bool) → a ≡ true → b ≡ true → (a && b) ≡ true
    join true true e f = refl
    join true false e f = absurd cc
    join false b e f = absurd cc

-- a number is not below itself
not_below : (n : ℕ) → nat_lt n n ≡ false
not_below n = grind arith

-- the steps of a walk go on from those so far
abbrev GoesOn : List Step → List Step → Type 0
GoesOn steps out = (more : List Step) × (out ≡ steps ++ more)

on_again : (one two three : List Step) → GoesOn one two → GoesOn two three → GoesOn one three
on_again one two three a b = (a.0 ++ b.0, b.1 ∙ ap (λ l. l ++ b.0) a.1 ∙ append_assoc one a.0 b.0)

-- what a form's answer makes of the walk: the steps so far, and at least one line that gives way
abbrev GivesWay : List Step → List Step → Type 0
GivesWay steps out = (first : Step) × (more : List Step) × (out ≡ steps ++ first ∷ more) × (is_kept first ≡ false)

answer_gives : (rules : Rules) (stands : List Stand) (place line : ℕ) (known : Known) (steps : List Step) (answer : FormAnswer) (walked : Walked)
    → with_answer rules stands place line known steps answer ≡ Ok walked → GivesWay steps walked.steps
answer_gives rules stands place line known steps NotMine walked e = absurd cc
answer_gives rules stands place line known steps (Refused fault) walked e = absurd cc
answer_gives rules stands place line known steps (Written []) walked e = absurd cc
answer_gives rules stands place line known steps (Written (first ∷ others)) walked e =
    go (slice_get stands place) refl (pass_lines rules stands true place known (first ∷ others)) refl e
  where
    gives : (stand : Stand) → slice_get stands place ≡ Some stand → (behind : Known)
        → ◌≡◌ {A = Result Walked PlainFault} (Ok (record { known = behind; steps = steps ++ replaced_from stands place (first ∷ others) })) (Ok walked) → GivesWay steps walked.steps
    gives stand found behind e =
        let own : Step = step.Written (record { line = stand.line; sequence = stand.sequence; blocks = first.blocks }) in
        let same : ◌≡◌ {A = Walked} (record { known = behind; steps = steps ++ replaced_from stands place (first ∷ others) }) walked = cc in
        let rest = replaced_from stands (next_place place) others in
        (own, rest, sym (ap (λ (w : Walked). w.steps) same) ∙ ap (λ found. steps ++ (replaced_by found first ++ rest)) found, refl)

    passed : (found : Option Stand) → slice_get stands place ≡ found → (behind : Known) → pass_lines rules stands true place known (first ∷ others) ≡ Ok behind
        → ◌≡◌ {A = Result Walked PlainFault} (Ok (record { known = behind; steps = steps ++ replaced_from stands place (first ∷ others) })) (Ok walked) → GivesWay steps walked.steps
    passed (Some stand) found behind is e = gives stand found behind e
    passed None found behind is e =
        absurd (let bad : and_then (line_found rules true None known first.blocks) (λ behind. pass_lines rules stands false (next_place place) behind others) ≡ Ok behind
        = ap (λ f. and_then (line_found rules true f known first.blocks) (λ behind. pass_lines rules stands false (next_place place) behind others)) (sym found) ∙ is in cc)

    go : (found : Option Stand) → slice_get stands place ≡ found → (r : Result Known PlainFault)
        → pass_lines rules stands true place known (first ∷ others) ≡ r
        → and_then r (λ behind. Ok (record { known = behind; steps = steps ++ replaced_from stands place (first ∷ others) })) ≡ Ok walked
        → GivesWay steps walked.steps
    go found at (Ok behind) is e = passed found at behind is e
    go found at (Err fault) is e = absurd cc

-- what a block makes of the walk: it stays, and is one of the language, or its line gives way
abbrev Stays : Rules → Block → List Step → List Step → Type 0
Stays rules block steps out = (out ≡ steps ++ step.Kept ∷ []) × IsForm rules.dialect block

own_is : (dialect : Dialect) (known : Known) (block : Block) (passing : Passed) → own_block dialect known block ≡ Some passing → IsForm dialect block
own_is dialect known block passing e = go (has_taper dialect known.motion block.body) e
  where
    read : (r : Result BlockForm ℕ) → block_or_refusal dialect block ≡ r → passed_by known r ≡ Some passing → IsForm dialect block
    read (Ok form) is e = (form, is)
    read (Err number) is e = absurd cc

    go : (b : Bool) → cond b None (behind_block dialect known block) ≡ Some passing → IsForm dialect block
    go true e = absurd cc
    go false e = read (block_or_refusal dialect block) refl e

step_is : (rules : Rules) (blocks : List Block) (stands : List Stand) (place : ℕ) (block : Block) (known : Known) (steps : List Step) (walked : Walked)
    → step_at rules blocks stands place block known steps ≡ Ok walked → Stays rules block steps walked.steps ⊎ GivesWay steps walked.steps
step_is rules blocks stands place block known steps walked e = go (own_block rules.dialect known block) refl e
  where
    go : (found : Option Passed) → own_block rules.dialect known block ≡ found → step_by rules blocks stands place block known steps found ≡ Ok walked
        → Stays rules block steps walked.steps ⊎ GivesWay steps walked.steps
    go (Some passing) own e =
        let same : ◌≡◌ {A = Walked} (record { known = passing.known; steps = steps ++ step.Kept ∷ [] }) walked = cc in
        inl (sym (ap (λ (w : Walked). w.steps) same), own_is rules.dialect known block passing own)
    go None own e =
        inr (answer_gives rules stands place block.line known steps (ask blocks place (scene_of rules.dialect.system known) rules.settings) walked e)

-- a block goes on from the steps so far
one_goes : (rules : Rules) (blocks : List Block) (stands : List Stand) (place : ℕ) (block : Block) (known : Known) (steps : List Step) (walked : Walked)
    → one_at rules blocks stands place block known steps ≡ Ok walked → GoesOn steps walked.steps
one_goes rules blocks stands place block known steps walked e = go (nat_lt place (length steps)) e
  where
    of : (Stays rules block steps walked.steps ⊎ GivesWay steps walked.steps) → GoesOn steps walked.steps
    of (inl stays) = (step.Kept ∷ [], stays.0)
    of (inr gives) = (gives.0 ∷ gives.1, gives.2)

    go : (b : Bool) → cond b (Ok (record { known = known; steps = steps })) (step_at rules blocks stands place block (known_at rules stands place known) steps) ≡ Ok walked
        → GoesOn steps walked.steps
    go true e =
        let same : ◌≡◌ {A = Walked} (record { known = known; steps = steps }) walked = cc in
        ([], sym (ap (λ (w : Walked). w.steps) same) ∙ sym (append-nil steps))
    go false e = of (step_is rules blocks stands place block (known_at rules stands place known) steps walked e)

-- so do all blocks
walk_goes : (rules : Rules) (all : List Block) (stands : List Stand) (known : Known) (steps : List Step) (place : ℕ) (blocks : List Block) (out : List Step)
    → walk_from rules all stands known steps place blocks ≡ Ok out → GoesOn steps out
walk_goes rules all stands known steps place [] out e = let same : steps ≡ out = cc in ([], sym same ∙ sym (append-nil steps))
walk_goes rules all stands known steps place (block ∷ blocks) out e =
    go (λ walked rest. walk_goes rules all stands walked.known walked.steps (place + 1) blocks out rest)
    (one_at rules all stands place block known steps) refl e
  where
    go : ((walked : Walked) → walk_from rules all stands walked.known walked.steps (place + 1) blocks ≡ Ok out → GoesOn walked.steps out)
        → (r : Result Walked PlainFault) → one_at rules all stands place block known steps ≡ r
        → walk_then r (λ walked. walk_from rules all stands walked.known walked.steps (place + 1) blocks) ≡ Ok out → GoesOn steps out
    go more (Ok walked) is e = on_again steps walked.steps out (one_goes rules all stands place block known steps walked is) (more walked e)
    go more (Err fault) is e = absurd cc

-- if all blocks stay behind a walk, each is one of the language
abbrev AreKept : Rules → List Step → List Block → List Step → Type 0
AreKept rules steps blocks out = (out ≡ steps ++ kept_blocks blocks) × All (IsForm rules.dialect) blocks

walk_kept : (rules : Rules) (all : List Block) (stands : List Stand) (known : Known) (steps : List Step) (blocks : List Block) (out : List Step)
    → walk_from rules all stands known steps (length steps) blocks ≡ Ok out → are_kept out ≡ true → AreKept rules steps blocks out
walk_kept rules all stands known steps [] out e kept =
    let same : steps ≡ out = cc in (sym same ∙ sym (append-nil steps), All-nil (IsForm rules.dialect))
walk_kept rules all stands known steps (block ∷ blocks) out e kept =
    let before = known_at rules stands (length steps) known in
    let here : one_at rules all stands (length steps) block known steps ≡ step_at rules all stands (length steps) block before steps
    = ap (λ b. cond b (Ok (record { known = known; steps = steps })) (step_at rules all stands (length steps) block before steps)) (not_below (length steps)) in
    let is : walk_then (step_at rules all stands (length steps) block before steps) (λ walked. walk_from rules all stands walked.known walked.steps (length steps + 1) blocks) ≡ Ok out
    = ap (λ r. walk_then r (λ walked. walk_from rules all stands walked.known walked.steps (length steps + 1) blocks)) (sym here) ∙ e in
    go (λ behind rest. walk_kept rules all stands behind (steps ++ step.Kept ∷ []) blocks out rest kept)
    (step_at rules all stands (length steps) block before steps) refl is
  where
    -- a line that gives way is never taken back
    never : (walked : Walked) → GivesWay steps walked.steps → walk_from rules all stands walked.known walked.steps (length steps + 1) blocks ≡ Ok out
        → AreKept rules steps (block ∷ blocks) out
    never walked gives e =
        let on = walk_goes rules all stands walked.known walked.steps (length steps + 1) blocks out e in
        let whole : out ≡ (steps ++ gives.0 ∷ gives.1) ++ on.0 = on.1 ∙ ap (λ l. l ++ on.0) gives.2 in
        let front = parts_pass is_kept (steps ++ gives.0 ∷ gives.1) on.0 (ap are_kept (sym whole) ∙ kept) in
        let back = parts_pass is_kept steps (gives.0 ∷ gives.1) front.0 in
        let one = both (is_kept gives.0) (list_all is_kept gives.1) back.1 in
        absurd (let bad : false ≡ true = sym gives.3 ∙ one.0 in cc)

    stays : ((behind : Known) → walk_from rules all stands behind (steps ++ step.Kept ∷ []) (length (steps ++ step.Kept ∷ [])) blocks ≡ Ok out
        → AreKept rules (steps ++ step.Kept ∷ []) blocks out)
        → (walked : Walked) → Stays rules block steps walked.steps
        → walk_from rules all stands walked.known walked.steps (length steps + 1) blocks ≡ Ok out → AreKept rules steps (block ∷ blocks) out
    stays more walked is e =
        let same : walk_from rules all stands walked.known (steps ++ step.Kept ∷ []) (length (steps ++ step.Kept ∷ [])) blocks ≡ Ok out
        = ap (λ place. walk_from rules all stands walked.known (steps ++ step.Kept ∷ []) place blocks) (length-append steps (step.Kept ∷ []))
        ∙ ap (λ own. walk_from rules all stands walked.known own (length steps + 1) blocks) (sym is.0) ∙ e in
        let rest = more walked.known same in
        (rest.0 ∙ append_assoc steps (step.Kept ∷ []) (kept_blocks blocks), All-cons (IsForm rules.dialect) block blocks is.1 rest.1)

    either_way : ((behind : Known) → walk_from rules all stands behind (steps ++ step.Kept ∷ []) (length (steps ++ step.Kept ∷ [])) blocks ≡ Ok out
        → AreKept rules (steps ++ step.Kept ∷ []) blocks out)
        → (walked : Walked) → (Stays rules block steps walked.steps ⊎ GivesWay steps walked.steps)
        → walk_from rules all stands walked.known walked.steps (length steps + 1) blocks ≡ Ok out → AreKept rules steps (block ∷ blocks) out
    either_way more walked (inl is) e = stays more walked is e
    either_way more walked (inr gives) e = never walked gives e

    go : ((behind : Known) → walk_from rules all stands behind (steps ++ step.Kept ∷ []) (length (steps ++ step.Kept ∷ [])) blocks ≡ Ok out
        → AreKept rules (steps ++ step.Kept ∷ []) blocks out)
        → (r : Result Walked PlainFault) → step_at rules all stands (length steps) block (known_at rules stands (length steps) known) steps ≡ r
        → walk_then r (λ walked. walk_from rules all stands walked.known walked.steps (length steps + 1) blocks) ≡ Ok out
        → AreKept rules steps (block ∷ blocks) out
    go more (Ok walked) is e = either_way more walked (step_is rules all stands (length steps) block (known_at rules stands (length steps) known) steps walked is) e
    go more (Err fault) is e = absurd cc

-- the same of the programs of a tape
abbrev AllKept : Rules → List (List Step) → List Program → List (List Step) → Type 0
AllKept rules done tape out = (out ≡ done ++ kept_steps tape) × AreForms rules.dialect tape

abbrev OfForms : Dialect → Program → Type 0
OfForms dialect program = All (IsForm dialect) program.blocks

programs_kept : (rules : Rules) (order : List ControlProgram) (done : List (List Step)) (tape : List Program) (out : List (List Step))
    → steps_from rules order done tape ≡ Ok out → all_kept out ≡ true → AllKept rules done tape out
programs_kept rules order done [] out e kept =
    let same : done ≡ out = cc in (sym same ∙ sym (append-nil done), All-nil (OfForms rules.dialect))
programs_kept rules order done (program ∷ programs) out e kept =
    go (λ steps rest. programs_kept rules order (done ++ steps ∷ []) programs out rest kept) (program_steps rules order program.blocks) refl e
  where
    own : (steps : List Step) → program_steps rules order program.blocks ≡ Ok steps → AllKept rules (done ++ steps ∷ []) programs out
        → AllKept rules done (program ∷ programs) out
    own steps is rest =
        let whole : all_kept ((done ++ steps ∷ []) ++ kept_steps programs) ≡ true = ap all_kept (sym rest.0) ∙ kept in
        let front = parts_pass are_kept (done ++ steps ∷ []) (kept_steps programs) whole in
        let back = parts_pass are_kept done (steps ∷ []) front.0 in
        let one = both (are_kept steps) true back.1 in
        let walked = walk_kept rules program.blocks (stands_of order (map (order_block rules.dialect) program.blocks)) rules.anywhere [] program.blocks steps is one.0 in (
          rest.0 ∙ append_assoc done (steps ∷ []) (kept_steps programs) ∙ ap (λ s. done ++ s ∷ kept_steps programs) walked.0,
          All-cons (OfForms rules.dialect) program programs walked.1 rest.1,
        )

    go : ((steps : List Step) → steps_from rules order (done ++ steps ∷ []) programs ≡ Ok out → AllKept rules (done ++ steps ∷ []) programs out)
        → (r : Result (List Step) PlainFault) → program_steps rules order program.blocks ≡ r
        → steps_then r (λ steps. steps_from rules order (done ++ steps ∷ []) programs) ≡ Ok out → AllKept rules done (program ∷ programs) out
    go more (Ok steps) is e = own steps is (more steps e)
    go more (Err fault) is e = absurd cc

-- if all of a tape stays, each of its blocks is one of the language
pub tape_kept : (rules : Rules) (tape : List Program) (all : List (List Step)) → steps_of rules tape ≡ Ok all → all_kept all ≡ true
    → (all ≡ kept_steps tape) × AreForms rules.dialect tape
tape_kept rules tape all e kept = programs_kept rules (order_tape rules.dialect tape) [] tape all e kept
