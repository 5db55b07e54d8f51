-- What a thread is written out as are the plain blocks of a cycle: the law
-- `a_written_thread_is_clear` (src/law.rt).
use Rattle.std.proofs.Common.{◌≡◌, ◌⊎◌, inl, inr, ℕ, Bool, true, false, ◌+◌, List, [], ◌∷◌, ◌++◌, drop, Option, Some, None, ℤ, cond, refl, subst}
use Rattle.std.specs.Prelude.{slice_get}
use Rattle.line_text.specs.declared.body.Word.{Word}
use Rattle.nc_number.specs.declared.point.Point.{Point}
use Rattle.nc_text.specs.declared.tape.Block.{Block}
use Rattle.plain_block.specs.declared.block.PlainBlock.{PlainBlock}
use Rattle.plain_form.specs.declared.answer.FormAnswer.{FormAnswer}
use Rattle.plain_form.specs.declared.answer.FormAnswer.TheVariants.{NotMine, Refused, Written}
use Rattle.plain_form.specs.declared.answer.WrittenLine.{WrittenLine}
use Rattle.plain_form.specs.declared.cause.PlainCause.{PlainCause}
use Rattle.plain_form.specs.declared.cause.PlainCause.TheVariants as cause
use Rattle.plain_form.specs.declared.scene.Scene.{Scene}
use Rattle.plain_form.specs.declared.settings.FormSettings.{FormSettings}
use Rattle.plain_form.specs.Said.{has_code}
use Rattle.thread_cycle.specs.declared.cycle.ThreadCycle.{ThreadCycle}
use Rattle.thread_cycle.specs.declared.fault.ThreadFault.{ThreadFault}
use Rattle.thread_cycle.specs.declared.fault.ThreadFault.TheVariants.{AllLeft}
use Rattle.thread_cycle.specs.Faults.{pass_fault_of, fault_of, IsFault}
use Rattle.thread_cycle.specs.Passes.{thread_blocks}
use Rattle.thread_cycle.proofs.ClearMoves.{cycle_clear, cycle_leads_back}
use Rattle.thread_cycle.proofs.FaultCauses.{found, pass_told}
use Rattle.cycle_words.specs.Scenes.{start_of, way_cause, words_of, says_ends, refused, has_motion}
use Rattle.thread_form.specs.Coded.{coded_lines}
use Rattle.thread_form.specs.declared.answers.CycleLines.{CycleLines}
use Rattle.thread_form.specs.declared.taper.TaperSaid.{TaperSaid}
use Rattle.thread_form.specs.declared.taper.TaperStep.{TaperStep}
use Rattle.thread_form.specs.declared.taper.TaperStep.TheVariants.{Ends, Stops, Cuts}
use Rattle.thread_form.specs.Answers.{lines_in_place, cycle_lines, answer_by, cycle_answer}
use Rattle.thread_form.specs.Form.{says_height, one_from, one_by, one_answer, two_from, body_by, head_by, second_answer, next_answer, thread_answer, answer_at, thread_form}
use Rattle.thread_form.specs.OneLine as one
use Rattle.thread_form.specs.TwoLines as two
use Rattle.thread_form.specs.Taper.{is_taper, words_cause, said_after, step_by, pass_step, pass_of, lead_step, ends_step, said_step, words_step, block_step, after_step, run_from, said_before, run_by, way_by, taper_answer}
use Rattle.thread_form.specs.Written.{IsThreadLine, AreThreadLines}

-- the lines of a cycle whose passes have no fault
line_is : (scene : Scene) (t : ThreadCycle) (plain : List PlainBlock) (blocks : List Block) → start_of scene ≡ Some t.start → pass_fault_of t ≡ None → thread_blocks t ≡ Some plain
    → (blocks ≡ coded_lines scene.system plain) ⊎ (blocks ≡ cycle_lines scene plain) → IsThreadLine scene (record { blocks = blocks })
line_is scene t plain blocks start fit made lines = inr (
  t,
  plain,
  record {
    start = start;
    fit = fit;
    made = made;
    clear = cycle_clear t plain fit made;
    back = cycle_leads_back t plain made;
    lines = lines;
  },
)

-- a cycle without a fault has passes without one
passes_fit : (t : ThreadCycle) → fault_of t ≡ None → pass_fault_of t ≡ None
passes_fit t e = go (subst (IsFault t) e (found t))
  where
    go : IsFault t None → pass_fault_of t ≡ None
    go (inl (wrong, all)) = absurd (let none : ◌≡◌ {A = Option ThreadFault} None (Some AllLeft) = wrong in cc)
    go (inr (some, is)) = pass_told t None is

-- G76

-- lines that are written are those
listed : {a b : List WrittenLine} → Written a ≡ Written b → a ≡ b
listed is = cc

-- what a cycle is answered with
answer_lines : (scene : Scene) (lines : CycleLines) (t : ThreadCycle) (written : List WrittenLine) → start_of scene ≡ Some t.start → cycle_answer lines scene t ≡ Written written
    → AreThreadLines scene written
answer_lines scene lines t written start e = go (fault_of t) refl (thread_blocks t) refl e
  where
    placed : (plain : List PlainBlock) → IsThreadLine scene (record { blocks = cycle_lines scene plain }) → (head : Option ℕ)
        → Written (lines_in_place head (cycle_lines scene plain)) ≡ Written written → AreThreadLines scene written
    placed plain own None same = subst (AreThreadLines scene) (listed same) (own, tt)
    placed plain own (Some line) same = subst (AreThreadLines scene) (listed same) (own, (inl refl, tt))

    go : (fault : Option ThreadFault) → fault_of t ≡ fault → (made : Option (List PlainBlock)) → thread_blocks t ≡ made
        → answer_by lines scene fault made ≡ Written written → AreThreadLines scene written
    go (Some fault) is made m wrong = absurd (let no_lines : Refused _ ≡ Written written = wrong in cc)
    go None is None m wrong = absurd (let no_lines : Refused _ ≡ Written written = wrong in cc)
    go None is (Some plain) m same = placed plain (line_is scene t plain (cycle_lines scene plain) start (passes_fit t is) m (inr refl)) lines.head same

-- a G76 in one line
one_lines : (block : Block) (scene : Scene) (settings : FormSettings) (written : List WrittenLine) → one_answer block scene settings ≡ Written written → AreThreadLines scene written
one_lines block scene settings written e = go (one.line_cause scene (words_of block.body)) e
  where
    from : (start : Option Point) → start_of scene ≡ start → one_from block scene settings start ≡ Written written → AreThreadLines scene written
    from None is wrong = absurd (let no_lines : Refused _ ≡ Written written = wrong in cc)
    from (Some start) is same = answer_lines scene (record { head = None; body = block.line }) (one.cycle_of settings scene start (words_of block.body)) written is same

    go : (why : Option PlainCause) → one_by block scene settings why ≡ Written written → AreThreadLines scene written
    go (Some why) wrong = absurd (let no_lines : Refused _ ≡ Written written = wrong in cc)
    go None same = from (start_of scene) refl same

-- a G76 in two
two_lines : (block next : Block) (scene : Scene) (settings : FormSettings) (written : List WrittenLine) → second_answer block next scene settings ≡ Written written → AreThreadLines scene written
two_lines block next scene settings written e = go (two.head_cause settings (words_of block.body)) e
  where
    from : (start : Option Point) → start_of scene ≡ start → two_from block next scene settings start ≡ Written written → AreThreadLines scene written
    from None is wrong = absurd (let no_lines : Refused _ ≡ Written written = wrong in cc)
    from (Some start) is same =
        answer_lines scene (record { head = Some block.line; body = next.line }) (two.cycle_of settings scene start (words_of block.body) (words_of next.body)) written is same

    body : (why : Option PlainCause) → body_by block next scene settings why ≡ Written written → AreThreadLines scene written
    body (Some why) wrong = absurd (let no_lines : Refused _ ≡ Written written = wrong in cc)
    body None same = from (start_of scene) refl same

    coded : (b : Bool) → cond b (body_by block next scene settings (two.body_cause scene (words_of next.body))) (refused block.line cause.NoForm) ≡ Written written → AreThreadLines scene written
    coded true same = body (two.body_cause scene (words_of next.body)) same
    coded false wrong = absurd (let no_lines : Refused _ ≡ Written written = wrong in cc)

    go : (why : Option PlainCause) → head_by block next scene settings why ≡ Written written → AreThreadLines scene written
    go (Some why) wrong = absurd (let no_lines : Refused _ ≡ Written written = wrong in cc)
    go None same = coded (has_code two.thread_code (words_of next.body)) same

-- any
thread_lines : (block : Block) (next : Option Block) (scene : Scene) (settings : FormSettings) (written : List WrittenLine) → thread_answer block next scene settings ≡ Written written
    → AreThreadLines scene written
thread_lines block next scene settings written e = go (says_height (words_of block.body)) e
  where
    after : (next : Option Block) → next_answer block next scene settings ≡ Written written → AreThreadLines scene written
    after None wrong = absurd (let no_lines : Refused _ ≡ Written written = wrong in cc)
    after (Some second) same = two_lines block second scene settings written same

    ended : (b : Bool) → cond b (refused block.line (cause.Missing 75)) (next_answer block next scene settings) ≡ Written written → AreThreadLines scene written
    ended true wrong = absurd (let no_lines : Refused _ ≡ Written written = wrong in cc)
    ended false same = after next same

    go : (b : Bool) → cond b (one_answer block scene settings) (cond (says_ends (words_of block.body)) (refused block.line (cause.Missing 75)) (next_answer block next scene settings)) ≡ Written written
        → AreThreadLines scene written
    go true same = one_lines block scene settings written same
    go false same = ended (says_ends (words_of block.body)) same

-- G92 with a taper

-- what a pass of a run is written as
pass_line : (scene : Scene) (t : ThreadCycle) (blocks : List Block) → start_of scene ≡ Some t.start → pass_step scene.system t ≡ Cuts blocks → IsThreadLine scene (record { blocks = blocks })
pass_line scene t blocks start e = go (pass_fault_of t) refl (thread_blocks t) refl e
  where
    go : (fault : Option ThreadFault) → pass_fault_of t ≡ fault → (made : Option (List PlainBlock)) → thread_blocks t ≡ made → step_by scene.system fault made ≡ Cuts blocks
        → IsThreadLine scene (record { blocks = blocks })
    go (Some fault) is made m wrong = absurd (let no_lines : Stops _ ≡ Cuts blocks = wrong in cc)
    go None is None m wrong = absurd (let no_lines : Stops _ ≡ Cuts blocks = wrong in cc)
    go None is (Some plain) m same =
        let made : blocks ≡ coded_lines scene.system plain = cc in
        line_is scene t plain blocks start is m (inl made)

-- what a block of a run is written as
step_line : (words : List Word) (said : TaperSaid) (start : Point) (scene : Scene) (settings : FormSettings) (blocks : List Block) → start_of scene ≡ Some start
    → block_step words said start scene.system settings ≡ Cuts blocks → IsThreadLine scene (record { blocks = blocks })
step_line words said start scene settings blocks known e = go (has_motion scene.system words) e
  where
    lead : (l : Option ℤ) (target : Point) → lead_step l scene.system said start target settings ≡ Cuts blocks → IsThreadLine scene (record { blocks = blocks })
    lead None target wrong = absurd (let no_lines : Stops _ ≡ Cuts blocks = wrong in cc)
    lead (Some l) target same = pass_line scene (pass_of said start target l settings) blocks known same

    ends : (x z : Option ℤ) → ends_step x z scene.system said start settings ≡ Cuts blocks → IsThreadLine scene (record { blocks = blocks })
    ends None z wrong = absurd (let no_lines : Stops _ ≡ Cuts blocks = wrong in cc)
    ends (Some x) None wrong = absurd (let no_lines : Stops _ ≡ Cuts blocks = wrong in cc)
    ends (Some x) (Some z) same = lead said.lead (record { x = x; z = z }) same

    read : (why : Option PlainCause) → words_step why scene.system said start settings ≡ Cuts blocks → IsThreadLine scene (record { blocks = blocks })
    read (Some why) wrong = absurd (let no_lines : Stops _ ≡ Cuts blocks = wrong in cc)
    read None same = ends said.x said.z same

    go : (b : Bool) → cond b Ends (words_step (words_cause scene.system words) scene.system said start settings) ≡ Cuts blocks → IsThreadLine scene (record { blocks = blocks })
    go true wrong = absurd (let no_lines : Ends ≡ Cuts blocks = wrong in cc)
    go false same = read (words_cause scene.system words) same

-- one line more
one_more : (done : List WrittenLine) (scene : Scene) (line : WrittenLine) → AreThreadLines scene done → IsThreadLine scene line → AreThreadLines scene (done ++ line ∷ [])
one_more [] scene line own last = (last, tt)
one_more (first ∷ done) scene line (own, rest) last = (own, one_more done scene line rest last)

-- a run
run_lines : (blocks : List Block) (start : Point) (scene : Scene) (settings : FormSettings) (said : TaperSaid) (done written : List WrittenLine) → start_of scene ≡ Some start
    → AreThreadLines scene done → run_from blocks start scene settings said done ≡ Written written → AreThreadLines scene written
unfolding run_from
run_lines [] start scene settings said done written known own e = subst (AreThreadLines scene) (listed e) own
run_lines (block ∷ blocks) start scene settings said done written known own e =
    go (block_step (words_of block.body) (said_after said (words_of block.body) start) start scene.system settings) refl e
    (λ lines fine same. run_lines blocks start scene settings (said_after said (words_of block.body) start) lines written known fine same)
  where
    go : (step : TaperStep) → block_step (words_of block.body) (said_after said (words_of block.body) start) start scene.system settings ≡ step
        → after_step block.line done step (λ lines. run_from blocks start scene settings (said_after said (words_of block.body) start) lines) ≡ Written written
        → ((lines : List WrittenLine) → AreThreadLines scene lines → run_from blocks start scene settings (said_after said (words_of block.body) start) lines ≡ Written written → AreThreadLines scene written)
        → AreThreadLines scene written
    go Ends is same further = subst (AreThreadLines scene) (listed same) own
    go (Stops why) is wrong further = absurd (let no_lines : Refused _ ≡ Written written = wrong in cc)
    go (Cuts lines) is same further =
        further (done ++ record { blocks = lines } ∷ [])
        (one_more done scene (record { blocks = lines }) own (step_line (words_of block.body) (said_after said (words_of block.body) start) start scene settings lines known is)) same

-- the answer to it
taper_lines : (line : ℕ) (blocks : List Block) (scene : Scene) (settings : FormSettings) (written : List WrittenLine) → taper_answer line blocks scene settings ≡ Written written
    → AreThreadLines scene written
taper_lines line blocks scene settings written e = go (way_cause scene) e
  where
    from : (start : Option Point) → start_of scene ≡ start → run_by start line blocks scene settings ≡ Written written → AreThreadLines scene written
    from None is wrong = absurd (let no_lines : Refused _ ≡ Written written = wrong in cc)
    from (Some start) is same = run_lines blocks start scene settings (said_before scene) [] written is tt same

    go : (why : Option PlainCause) → way_by why line blocks scene settings ≡ Written written → AreThreadLines scene written
    go (Some why) wrong = absurd (let no_lines : Refused _ ≡ Written written = wrong in cc)
    go None same = from (start_of scene) refl same

-- each line that a thread is written out as is one
pub written_lines : (blocks : List Block) (place : ℕ) (scene : Scene) (settings : FormSettings) (lines : List WrittenLine) → thread_form blocks place scene settings ≡ Written lines
    → AreThreadLines scene lines
written_lines blocks place scene settings lines e = go (slice_get blocks place) e
  where
    tapered : (block : Block) (b : Bool) → cond b (taper_answer block.line (drop place blocks) scene settings) NotMine ≡ Written lines → AreThreadLines scene lines
    tapered block true same = taper_lines block.line (drop place blocks) scene settings lines same
    tapered block false wrong = absurd (let no_lines : NotMine ≡ Written lines = wrong in cc)

    coded : (block : Block) (b : Bool)
        → cond b (thread_answer block (slice_get blocks (place + 1)) scene settings) (cond (is_taper scene.system (words_of block.body)) (taper_answer block.line (drop place blocks) scene settings) NotMine) ≡ Written lines
        → AreThreadLines scene lines
    coded block true same = thread_lines block (slice_get blocks (place + 1)) scene settings lines same
    coded block false same = tapered block (is_taper scene.system (words_of block.body)) same

    go : (found : Option Block) → answer_at blocks place scene settings found ≡ Written lines → AreThreadLines scene lines
    go None wrong = absurd (let no_lines : NotMine ≡ Written lines = wrong in cc)
    go (Some block) same = coded block (has_code two.thread_code (words_of block.body)) same
