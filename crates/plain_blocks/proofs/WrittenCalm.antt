-- What is written in place of a line is of this control's language, and goes on. For
-- `what_is_written_is_own` (src/law.rt).
use Rattle.std.proofs.Common.{◌≡◌, ℕ, ◌+◌, Bool, true, false, cond, List, [], ◌∷◌, ◌++◌, length, map, All, Option, Some, None, Result, Ok, Err, refl, sym, subst, ◌∙◌, append_assoc}
use Rattle.std.specs.Prelude.{nat_lt, slice_get}
use Rattle.std.proofs.lemmas.List.{append-nil}
use Rattle.std.proofs.lemmas.List.Elements.{All-append, All-cons, All-nil, All-push}
use Rattle.nc_text.specs.declared.tape.Block.{Block}
use Rattle.nc_text.specs.declared.tape.Program.{Program}
use Rattle.block_forms.specs.Forms.{BlockForm, block_or_refusal}
use Rattle.block_order.specs.declared.control.Control.{Control}
use Rattle.block_order.specs.declared.control.Control.TheVariants.{Next, Goto, While, Do, EndLoop, Wait, End, Call, Back, BackTo}
use Rattle.block_order.specs.declared.program.ControlProgram.{ControlProgram}
use Rattle.block_words.specs.declared.dialect.Dialect.{Dialect}
use Rattle.known_blocks.specs.declared.known.Known.{Known}
use Rattle.plain_form.specs.declared.answer.FormAnswer.{FormAnswer}
use Rattle.plain_form.specs.declared.answer.FormAnswer.TheVariants.{NotMine, Refused, Written}
use Rattle.plain_form.specs.declared.answer.WrittenLine.{WrittenLine}
use Rattle.plain_form.specs.declared.cause.PlainCause.{PlainCause}
use Rattle.plain_form.specs.declared.cause.PlainCause.TheVariants as cause
use Rattle.plain_form.specs.declared.cause.PlainFault.{PlainFault}
use Rattle.plain_blocks.specs.Asking.{ask, scene_of}
use Rattle.plain_blocks.specs.Calm.{IsCalmBlock, IsCalm, IsCalmLine, AreCalm}
use Rattle.plain_blocks.specs.Order.{order_block, order_tape}
use Rattle.plain_blocks.specs.Passing.{and_then as pass_then, goes_on, passed_by, behind_block, own_block, pass_block, pass_blocks}
use Rattle.plain_blocks.specs.Targets.{stands_of}
use Rattle.plain_blocks.specs.Walk.{Walked, and_then, line_cause, keeps_number, line_found, lines_at, line_by, at_line, pass_line, pass_lines, replaced_by, replaced_from, next_place, with_lines, with_answer, step_by, step_at, one_at, walk_then, walk_from, known_at, program_steps, steps_then, steps_from, steps_of}
use Rattle.plain_blocks.specs.declared.passing.Passed.{Passed}
use Rattle.plain_blocks.specs.declared.step.Step.{Step}
use Rattle.plain_blocks.specs.declared.step.Step.TheVariants as step
use Rattle.plain_blocks.specs.declared.targets.Stand.{Stand}
use Rattle.plain_blocks.specs.declared.walk.Rules.{Rules}

-- what goes on is Next
goes_next : (c : Control) → goes_on c ≡ true → c ≡ Next
goes_next Next e = refl
goes_next (Goto n) e = absurd cc
goes_next (While n) e = absurd cc
goes_next (Do n) e = absurd cc
goes_next (EndLoop n) e = absurd cc
goes_next (Wait n) e = absurd cc
goes_next End e = absurd cc
goes_next (Call p n) e = absurd cc
goes_next Back e = absurd cc
goes_next (BackTo n) e = absurd cc

-- a block that may be printed is calm
block_calm : (dialect : Dialect) (known behind : Known) (block : Block) → pass_block (behind_block dialect known block) ≡ Ok behind
    → IsCalmBlock dialect block
block_calm dialect known behind block is = go (block_or_refusal dialect block) refl is
  where
    next : (form : BlockForm) → block_or_refusal dialect block ≡ Ok form → (b : Bool) → goes_on form.control ≡ b
        → pass_block (passed_by known (Ok form)) ≡ Ok behind → IsCalmBlock dialect block
    next form read true e is = (form, read, goes_next form.control e)
    next form read false e is = absurd (let bad : pass_block (passed_by known (Ok form)) ≡ Err cause.Control = rw e refl in cc)

    go : (r : Result BlockForm ℕ) → block_or_refusal dialect block ≡ r → pass_block (passed_by known r) ≡ Ok behind → IsCalmBlock dialect block
    go (Ok form) read is = next form read (goes_on form.control) refl is
    go (Err number) read is = absurd cc

-- blocks that may be printed are calm
blocks_calm : (dialect : Dialect) (known behind : Known) (blocks : List Block) → pass_blocks dialect known blocks ≡ Ok behind
    → All (IsCalmBlock dialect) blocks
blocks_calm dialect known behind [] is = All-nil (IsCalmBlock dialect)
blocks_calm dialect known behind (block ∷ blocks) is =
    go (λ middle rest. blocks_calm dialect middle behind blocks rest) (pass_block (behind_block dialect known block)) refl is
  where
    go : ((middle : Known) → pass_blocks dialect middle blocks ≡ Ok behind → All (IsCalmBlock dialect) blocks)
        → (r : Result Known PlainCause) → pass_block (behind_block dialect known block) ≡ r
        → pass_then r (λ middle. pass_blocks dialect middle blocks) ≡ Ok behind → All (IsCalmBlock dialect) (block ∷ blocks)
    go more (Ok middle) first is =
        All-cons (IsCalmBlock dialect) block blocks (block_calm dialect known middle block first) (more middle is)
    go more (Err why) first is = absurd cc

-- a line that may be written out only went on
went_on : (rules : Rules) (is_first : Bool) (stand : Stand) → line_cause rules is_first stand ≡ None → stand.control ≡ Next
went_on rules is_first stand none = go (goes_on stand.control) refl
  where
    go : (b : Bool) → goes_on stand.control ≡ b → stand.control ≡ Next
    go true e = goes_next stand.control e
    go false e = absurd (let bad : line_cause rules is_first stand ≡ Some cause.Control = rw e refl in cc)

-- the line in a place is calm
abbrev LineCalm : Dialect → List Stand → ℕ → WrittenLine → Type 0
LineCalm dialect stands place line =
    (stand : Stand) × (slice_get stands place ≡ Some stand) × (stand.control ≡ Next) × All (IsCalmBlock dialect) line.blocks

-- so are those from a place on
abbrev LinesCalm : Dialect → List Stand → ℕ → List WrittenLine → Type 0
LinesCalm dialect stands place [] = Unit {0}
LinesCalm dialect stands place (line ∷ lines) = LineCalm dialect stands place line × LinesCalm dialect stands (next_place place) lines

-- a line that may be written out is calm
line_calm : (rules : Rules) (stands : List Stand) (is_first : Bool) (place : ℕ) (known behind : Known) (line : WrittenLine)
    → lines_at rules stands is_first place known line ≡ Ok behind → LineCalm rules.dialect stands place line
line_calm rules stands is_first place known behind line is = go (slice_get stands place) refl is
  where
    by : (stand : Stand) → slice_get stands place ≡ Some stand → (c : Option PlainCause) → line_cause rules (keeps_number is_first line.blocks) stand ≡ c
        → (r : Result Known PlainCause) → pass_blocks rules.dialect known line.blocks ≡ r → line_by c stand.line r ≡ Ok behind
        → LineCalm rules.dialect stands place line
    by stand found None none (Ok middle) e is =
        (stand, found, went_on rules (keeps_number is_first line.blocks) stand none, blocks_calm rules.dialect known middle line.blocks e)
    by stand found None none (Err why) e is = absurd cc
    by stand found (Some why) some r e is = absurd cc

    go : (found : Option Stand) → slice_get stands place ≡ found → line_found rules is_first found known line.blocks ≡ Ok behind
        → LineCalm rules.dialect stands place line
    go None found is = absurd cc
    go (Some stand) found is = by stand found (line_cause rules (keeps_number is_first line.blocks) stand) refl (pass_blocks rules.dialect known line.blocks) refl is

-- the lines of a form that may be written out are calm
lines_calm : (rules : Rules) (stands : List Stand) (is_first : Bool) (place : ℕ) (known behind : Known) (lines : List WrittenLine)
    → pass_lines rules stands is_first place known lines ≡ Ok behind → LinesCalm rules.dialect stands place lines
lines_calm rules stands is_first place known behind [] is = tt
lines_calm rules stands is_first place known behind (line ∷ lines) is =
    go (λ middle rest. lines_calm rules stands false (next_place place) middle behind lines rest)
    (lines_at rules stands is_first place known line) refl is
  where
    go : ((middle : Known) → pass_lines rules stands false (next_place place) middle lines ≡ Ok behind → LinesCalm rules.dialect stands (next_place place) lines)
        → (r : Result Known PlainFault) → lines_at rules stands is_first place known line ≡ r
        → and_then r (λ middle. pass_lines rules stands false (next_place place) middle lines) ≡ Ok behind
        → LinesCalm rules.dialect stands place (line ∷ lines)
    go more (Ok middle) first is = (line_calm rules stands is_first place known middle line first, more middle is)
    go more (Err why) first is = absurd cc

-- what stands in place of a line is calm
one_replaced : (dialect : Dialect) (stands : List Stand) (place : ℕ) (line : WrittenLine) → LineCalm dialect stands place line
    → All (IsCalm dialect stands) (replaced_by (slice_get stands place) line)
one_replaced dialect stands place line calm =
    let own : Step = step.Written (record { line = calm.0.line; sequence = calm.0.sequence; blocks = line.blocks }) in
    let is : IsCalm dialect stands own =
    record { place = place; stand = calm.0; found = calm.1; line_is = refl; went_on = calm.2; blocks = calm.3 } in
    subst (λ found. All (IsCalm dialect stands) (replaced_by found line)) (sym calm.1)
    (All-cons (IsCalm dialect stands) own [] is (All-nil (IsCalm dialect stands)))

-- the same of the lines of a form
all_replaced : (dialect : Dialect) (stands : List Stand) (place : ℕ) (lines : List WrittenLine) → LinesCalm dialect stands place lines
    → All (IsCalm dialect stands) (replaced_from stands place lines)
all_replaced dialect stands place [] calm = All-nil (IsCalm dialect stands)
all_replaced dialect stands place (line ∷ lines) calm =
    All-append (IsCalm dialect stands) (replaced_by (slice_get stands place) line) (replaced_from stands (next_place place) lines)
    (one_replaced dialect stands place line calm.0) (all_replaced dialect stands (next_place place) lines calm.1)

-- what a form's answer adds is calm
answer_calm : (rules : Rules) (stands : List Stand) (place line : ℕ) (known : Known) (steps : List Step) (answer : FormAnswer) (walked : Walked)
    → All (IsCalm rules.dialect stands) steps → with_answer rules stands place line known steps answer ≡ Ok walked
    → All (IsCalm rules.dialect stands) walked.steps
answer_calm rules stands place line known steps NotMine walked calm is = absurd cc
answer_calm rules stands place line known steps (Refused fault) walked calm is = absurd cc
answer_calm rules stands place line known steps (Written []) walked calm is = absurd cc
answer_calm rules stands place line known steps (Written (first ∷ others)) walked calm is =
    go (pass_lines rules stands true place known (first ∷ others)) refl is
  where
    go : (r : Result Known PlainFault) → pass_lines rules stands true place known (first ∷ others) ≡ r
        → and_then r (λ behind. Ok (record { known = behind; steps = steps ++ replaced_from stands place (first ∷ others) })) ≡ Ok walked
        → All (IsCalm rules.dialect stands) walked.steps
    go (Ok behind) e is =
        let same : ◌≡◌ {A = Walked} (record { known = behind; steps = steps ++ replaced_from stands place (first ∷ others) }) walked = cc in
        subst (λ (w : Walked). All (IsCalm rules.dialect stands) w.steps) same
        (All-append (IsCalm rules.dialect stands) steps (replaced_from stands place (first ∷ others)) calm
        (all_replaced rules.dialect stands place (first ∷ others) (lines_calm rules stands true place known behind (first ∷ others) e)))
    go (Err fault) e is = absurd cc

-- what a block adds is calm
step_calm : (rules : Rules) (blocks : List Block) (stands : List Stand) (place : ℕ) (block : Block) (known : Known) (steps : List Step)
    → (found : Option Passed) (walked : Walked) → All (IsCalm rules.dialect stands) steps
    → step_by rules blocks stands place block known steps found ≡ Ok walked → All (IsCalm rules.dialect stands) walked.steps
step_calm rules blocks stands place block known steps (Some passing) walked calm is =
    let same : ◌≡◌ {A = Walked} (record { known = passing.known; steps = steps ++ step.Kept ∷ [] }) walked = cc in
    subst (λ (w : Walked). All (IsCalm rules.dialect stands) w.steps) same (All-push (IsCalm rules.dialect stands) steps step.Kept calm tt)
step_calm rules blocks stands place block known steps None walked calm is =
    answer_calm rules stands place block.line known steps (ask blocks place (scene_of rules.dialect.system known) rules.settings) walked calm is

-- the same where a form may have taken it already
one_calm : (rules : Rules) (blocks : List Block) (stands : List Stand) (place : ℕ) (block : Block) (known : Known) (steps : List Step)
    → (walked : Walked) → All (IsCalm rules.dialect stands) steps → one_at rules blocks stands place block known steps ≡ Ok walked
    → All (IsCalm rules.dialect stands) walked.steps
one_calm rules blocks stands place block known steps walked calm is = go (nat_lt place (length steps)) is
  where
    go : (b : Bool) → cond b (Ok (record { known = known; steps = steps })) (step_at rules blocks stands place block (known_at rules stands place known) steps) ≡ Ok walked
        → All (IsCalm rules.dialect stands) walked.steps
    go true is =
        let same : ◌≡◌ {A = Walked} (record { known = known; steps = steps }) walked = cc in
        subst (λ (w : Walked). All (IsCalm rules.dialect stands) w.steps) same calm
    go false is =
        step_calm rules blocks stands place block (known_at rules stands place known) steps
        (own_block rules.dialect (known_at rules stands place known) block) walked calm is

-- what becomes of the blocks of a program is calm
walk_calm : (rules : Rules) (all : List Block) (stands : List Stand) (known : Known) (steps : List Step) (place : ℕ) (blocks : List Block) (out : List Step)
    → All (IsCalm rules.dialect stands) steps → walk_from rules all stands known steps place blocks ≡ Ok out
    → All (IsCalm rules.dialect stands) out
walk_calm rules all stands known steps place [] out calm is =
    let same : steps ≡ out = cc in subst (λ l. All (IsCalm rules.dialect stands) l) same calm
walk_calm rules all stands known steps place (block ∷ blocks) out calm is =
    go (λ walked good rest. walk_calm rules all stands walked.known walked.steps (place + 1) blocks out good rest)
    (one_at rules all stands place block known steps) refl is
  where
    go : ((walked : Walked) → All (IsCalm rules.dialect stands) walked.steps
        → walk_from rules all stands walked.known walked.steps (place + 1) blocks ≡ Ok out → All (IsCalm rules.dialect stands) out)
        → (r : Result Walked PlainFault) → one_at rules all stands place block known steps ≡ r
        → walk_then r (λ walked. walk_from rules all stands walked.known walked.steps (place + 1) blocks) ≡ Ok out
        → All (IsCalm rules.dialect stands) out
    go more (Ok walked) e is = more walked (one_calm rules all stands place block known steps walked calm e) is
    go more (Err fault) e is = absurd cc

-- the steps behind those so far are calm
abbrev RestCalm : Rules → List ControlProgram → List (List Step) → List Program → List (List Step) → Type 0
RestCalm rules order done tape out =
    (rest : List (List Step)) × (out ≡ done ++ rest) × AreCalm rules.dialect order tape rest

-- what becomes of the programs of a tape is calm
programs_calm : (rules : Rules) (order : List ControlProgram) (done : List (List Step)) (tape : List Program) (out : List (List Step))
    → steps_from rules order done tape ≡ Ok out → RestCalm rules order done tape out
programs_calm rules order done [] out is =
    let same : done ≡ out = cc in ([], sym same ∙ sym (append-nil done), tt)
programs_calm rules order done (program ∷ programs) out is =
    go (λ steps rest. programs_calm rules order (done ++ steps ∷ []) programs out rest)
    (program_steps rules order program.blocks) refl is
  where
    go : ((steps : List Step) → steps_from rules order (done ++ steps ∷ []) programs ≡ Ok out → RestCalm rules order (done ++ steps ∷ []) programs out)
        → (r : Result (List Step) PlainFault) → program_steps rules order program.blocks ≡ r
        → steps_then r (λ steps. steps_from rules order (done ++ steps ∷ []) programs) ≡ Ok out
        → RestCalm rules order done (program ∷ programs) out
    go more (Ok steps) e is =
        let behind = more steps is in
        let own = stands_of order (map (order_block rules.dialect) program.blocks) in (
          steps ∷ behind.0,
          behind.1 ∙ append_assoc done (steps ∷ []) behind.0,
          (walk_calm rules program.blocks own rules.anywhere [] 0 program.blocks steps (All-nil (IsCalm rules.dialect own)) e, behind.2),
        )
    go more (Err fault) e is = absurd cc

-- what is written is calm
pub written_calm : (rules : Rules) (tape : List Program) (all : List (List Step)) → steps_of rules tape ≡ Ok all
    → AreCalm rules.dialect (order_tape rules.dialect tape) tape all
written_calm rules tape all is =
    let found = programs_calm rules (order_tape rules.dialect tape) [] tape all is in
    subst (λ out. AreCalm rules.dialect (order_tape rules.dialect tape) tape out) (sym found.1) found.2
