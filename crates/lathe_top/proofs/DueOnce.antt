-- If the outside makes known what it holds and did not fail, one status and one text are due: two
-- answers that are due agree (Agreed; `nothing` agrees with each). A new command needs its line
-- here. Laws of crates below are defined here by name, so that lemmas can take them as premises.
-- StopsLeave and the proof of `top` (src/control.rt) use it.
use Rattle.std.proofs.Common.{◌≡◌, ◌⊎◌, inl, inr, ⊎_elim, ℕ, ◌+◌, ◌++◌, Option, Some, None, List, ◌∷◌, [], length, map, take, refl, sym, ap, subst, arith, ◌∙◌, Err}
use Rattle.std.specs.Prelude.{codes}
use Rattle.std.proofs.Math.Seq.{take-length}
use Rattle.std.specs.Prelude.{min}
use Rattle.std.proofs.lemmas.List.{length-map}
use Rattle.std.proofs.lemmas.List.Sums.{sum_by-cons}
use Rattle.nc_number.specs.Both.{of_path}
use Rattle.block_forms.specs.Blocks.{block_form}
use Rattle.cell_settings.specs.Cell.{Cell}
use Rattle.command_words.specs.declared.command.Command.{Command}
use Rattle.command_words.specs.declared.command.Command.TheVariants as command
use Rattle.command_words.specs.declared.making.TheConstants.{DEFAULT_BLOCKS}
use Rattle.disk_model.specs.Device.{DiskState, IsCoherent, Reads}
use Rattle.disk_model.specs.Device.{Rose as DiskRose}
use Rattle.gate_file.specs.declared.fault.GateFault.{GateFault}
use Rattle.gate_file.specs.declared.fault.GateFault.TheVariants as gate
use Rattle.nc_outside.specs.declared.reason.Reason.{Reason}
use Rattle.move_list.specs.Report.{report_text}
use Rattle.move_list.specs.State.{state_text}
use Rattle.move_list.specs.Summary.{block_count, number_line, numbers_line, outcome_text, pair_text, summary_text}
use Rattle.nc_number.specs.declared.cause.Cause.{Cause}
use Rattle.nc_number.specs.declared.path.Path.{Path}
use Rattle.nc_number.proofs.CauseTable.{number_has_one_cause}
use Rattle.nc_outside.specs.Faults.{Rose}
use Rattle.nc_outside.specs.Files.{Files, ShelfState}
use Rattle.nc_verify.specs.declared.refusal.Refusal.{Refusal}
use Rattle.nc_verify.specs.declared.verified.Verified.{Verified}
use Rattle.nc_verify.specs.Printed.{IsCauseOf, IsVerdictText, refused_text}
use Rattle.nc_verify.specs.Verdict.{Texts, AreAccepted, IsRefusalOf}
use Rattle.run_records.specs.Entries.{Entry}
use Rattle.run_records.specs.declared.header.Header.{Header}
use Rattle.run_journal.specs.Meaning.{Meaning, no_run, cut_at, bad_at, a_run, StandsFor}
use Rattle.run_journal.specs.Stands.{Stands}
use Rattle.run_table.specs.Recording.{StandsForPrefix}
use Rattle.tape_flow.specs.Forms.{ProgramForm, program_form}
use Rattle.tape_flow.specs.declared.program.FlowProgram.{FlowProgram}
use Rattle.path_state.specs.View.{PathView}
use Rattle.race_report.specs.Texts.{list_text}
use Rattle.trace_list.specs.Trace.{trace_text}
use Rattle.turn_order.specs.Ending.{end_told}
use Rattle.turn_order.specs.InTurn.{IsInTurn}
use Rattle.two_path.specs.Machine.{MachineView, opening}
use Rattle.two_path.specs.Turns.{Tapes}
use Rattle.two_path.specs.Histories.{fold}
use Rattle.nc_restart.specs.declared.fault.RestartFault.{RestartFault}
use Rattle.nc_restart.specs.declared.fault.RestartFault.TheVariants as restart
use Rattle.nc_restart.specs.Pair.{texts_of, IsPairOf, IsSamePair, machine_behind, opening_of, tapes_in}
use Rattle.nc_restart.specs.Meaning.{StandsForRun}
use Rattle.nc_restart.specs.Recovered.{FoundRun, Recovers}
use Rattle.lathe_calls.specs.Answers.{Answer, tells, nothing}
use Rattle.lathe_looks.specs.declared.showing.Showing.{Showing}
use Rattle.lathe_looks.specs.declared.showing.Showing.TheVariants.{Moves, State}
use Rattle.tape_expand.specs.declared.fault.ExpandFault.{ExpandFault}
use Rattle.tape_expand.specs.Faults.{expand_number}
use Rattle.tape_calls.specs.Plained as plain
use Rattle.tape_calls.specs.Plained.{IsPlained, plain_refusal_text}
use Rattle.tape_plain.specs.Faults.{plain_number}
use Rattle.tape_plain.specs.declared.fault.PlainTapeFault.{PlainTapeFault}
use Rattle.tape_calls.specs.Expanded as expand
use Rattle.tape_calls.specs.Expanded.{IsExpanded, refusal_text}
use Rattle.lathe_looks.specs.Fetched.{AreTexts, FileCause, IsOfFiles, not_had, unread, answers, fault_status, fault_text}
use Rattle.lathe_calls.specs.Judged as judged
use Rattle.lathe_calls.specs.Judged.{IsJudged}
use Rattle.tape_calls.specs.Texts.{TapeView}
use Rattle.lathe_looks.specs.Named.{Named, only_text, edits_named, files_of, pair_texts, PairWithZones, tape_named, tape_texts, tape_with_settings, zones_and_pair, zones_before, zones_named}
use Rattle.edit_texts.specs.declared.edit_list.PathEdit.{PathEdit}
use Rattle.lathe_looks.specs.Edited.{bad_edit_text}
use Rattle.lathe_top.specs.Branched as branch
use Rattle.lathe_top.specs.Branched.{IsBranched, IsBranchOf}
use Rattle.lathe_top.proofs.BranchesDue.{branch_once}
use Rattle.lathe_top.specs.Edited as edit
use Rattle.lathe_top.specs.Edited.{IsEdited, IsEditedRun, IsEditOf}
use Rattle.lathe_top.proofs.EditsDue.{agree_told, found_there, one_told, pair_there, same_told}
use Rattle.lathe_looks.specs.Zoned.{AreZonesFor, IsPlanned}
use Rattle.zone_calls.specs.Due as zones
use Rattle.zone_calls.specs.Due.{AreZonesOf}
use Rattle.zone_calls.specs.Zoned.{bad_zone_text}
use Rattle.zone_cell.specs.declared.plan.Plan.{Plan}
use Rattle.lathe_top.specs.Zoned.{IsZoned, bad_zones, unread_zones, zoned}
use Rattle.lathe_top.proofs.ZonesDue.{zones_agree, zones_hang}
use Rattle.lathe_looks.specs.Shown.{IsShowing, IsShown, shown, unshown, unfound_answer, bad_text, shown_text}
use Rattle.lathe_calls.specs.Reported.{report_of}
use Rattle.lathe_looks.specs.Standing.{are_finished, is_over, reason_of}
use Rattle.open_order.specs.declared.outside.Outside.{Outside}
use Rattle.wait_verify.specs.Asked.{Asked}
use Rattle.wait_verify.specs.Verdict as waits
use Rattle.wait_verify.specs.Verdict.{Judged}
use Rattle.lathe_calls.specs.Due as due
use Rattle.lathe_calls.specs.Due.{AreRecordsInTurn, IsOfPair}
use Rattle.lathe_calls.specs.Races.{IsRaceAnswer}
use Rattle.lathe_calls.specs.Waited as waited
use Rattle.lathe_calls.specs.Waited.{AreWaits, asked_of}
use Rattle.lathe_top.specs.Outside.{outside_in}
use Rattle.lathe_calls.specs.Traced as traced
use Rattle.lathe_calls.specs.Traced.{IsTraceOf, IsTraced, end_of}
use Rattle.lathe_calls.specs.Statuses as exit
use Rattle.lathe_looks.proofs.NotHad.{all_had, fault_once, missing_once, texts_once}
use Rattle.lathe_top.specs.Lathe.{LatheState}
use Rattle.lathe_top.specs.Made.{made_limit, made_text, made_texts}
use Rattle.lathe_calls.specs.Statuses.{reason_status}
use Rattle.lathe_top.specs.Session.{Session, EndsBy, over, full, stopped, disk_failed, turret_failed, IsLeast, IsSession}
use Rattle.lathe_top.specs.Kept.{Editing, Opening, HadNoRun, IsRefusedBeginning, KeepsSession, RestsWhole}
use Rattle.lathe_top.specs.Kinds.{kind_of, named_by}
use Rattle.lathe_top.specs.Ran as run
use Rattle.lathe_top.specs.Ran.{TextOf, IsRun, IsReported, reported, IsResumed, unbegun_answer}
use Rattle.lathe_top.specs.Done as done
use Rattle.lathe_top.specs.Done.{Call, command_of, IsDue, IsDueTo, Serves, ServesFiles, ServesKind}
use Rattle.lathe_top.proofs.Agreed.{Agree, agree_nothing}
use Rattle.lathe_top.proofs.RunsFound.{least_is}
use Rattle.wait_verify.proofs.OneTold.{one_text}
use Rattle.lathe_top.proofs.OneRaces.{races_of_once, same_races}

-- the law that no three texts are both accepted and refused
abbrev pub NotBoth : Type 0
NotBoth = (texts : Texts) (cell : Cell) (left right : List ProgramForm) (refusal : Refusal) → AreAccepted texts cell left right
    → IsRefusalOf texts refusal → ⊥

-- the law that an image has at most one meaning as the journal of an accepted pair: no run, a run,
-- a journal that is cut short, or a bad one
abbrev pub OneRun : Type 0
OneRun = (image : List ℕ) (a b : Meaning) → StandsForRun a image → StandsForRun b image → a ≡ b

-- the law that an image has at most one meaning as a journal, whatever its texts and records are:
-- no run, a run, a journal that is cut short, or a bad one
abbrev pub OneJournal : Type 0
OneJournal = (image : List ℕ) (a b : Meaning) → StandsFor a image → StandsFor b image → a ≡ b

-- the law that two pairs of the same texts are the same pair: in their machine at its start, their
-- blocks, what their tapes say, and how many records they allow
abbrev pub OneMachine : Type 0
OneMachine = (texts : Texts) (pair other : Verified) → IsPairOf texts pair → IsPairOf texts other → IsSamePair pair other

-- the law that texts that are refused have one refusal
abbrev pub OneRefusal : Type 0
OneRefusal = (texts : Texts) (refusal other : Refusal) → IsRefusalOf texts refusal → IsRefusalOf texts other → refusal ≡ other

-- a number has one cause, or none
one_cause : (number : ℕ) (a b : Option Cause) → IsCauseOf number a → IsCauseOf number b → a ≡ b
one_cause number None None is also = refl
one_cause number None (Some b) is also = absurd (is b also)
one_cause number (Some a) None is also = absurd (also a is)
one_cause number (Some a) (Some b) is also = ap Some (number_has_one_cause a b (is ∙ sym also))

-- a refusal has one line
line_once : (refusal other : Refusal) (text line : List ℕ) → refusal ≡ other → IsVerdictText (Some refusal) text → IsVerdictText (Some other) line
    → text ≡ line
line_once refusal other text line same is also =
    let cause : is.0 ≡ also.0 = one_cause other.number is.0 also.0 (subst (λ (r : Refusal). IsCauseOf r.number is.0) same is.1) also.1 in
    is.2 ∙ (λ i. refused_text (cause i) (same i)) ∙ sym also.2

-- one verdict is due to three texts
judged_once : NotBoth → OneRefusal → (texts : Texts) (a b : Answer) → IsJudged texts a → IsJudged texts b → Agree a b
judged_once law one texts a b (judged.accepted are v) (judged.accepted too w) = (refl, v ∙ sym w)
judged_once law one texts a b (judged.accepted {cell} {left} {right} are v) (judged.refused {refusal} is w) =
    absurd (law texts cell left right refusal are is)
judged_once law one texts a b (judged.refused {refusal} is v) (judged.accepted {cell} {left} {right} are w) =
    absurd (law texts cell left right refusal are is)
judged_once law one texts a b (judged.refused {refusal} {text} is v) (judged.refused {refusal = other} {text = line} too w) =
    (refl, line_once refusal other text line (one texts refusal other is too) v w)
judged_once law one texts a b (judged.accepted are v) judged.unjudged = tt
judged_once law one texts a b (judged.refused is v) judged.unjudged = tt
judged_once law one texts a b judged.unjudged other = tt

-- the law that from an opening there is one list of records in turn, for each limit
abbrev pub OneInTurn : Type 0
OneInTurn = (tapes : Tapes) (first second : PathView) (limit : ℕ) (one two : List Entry) → IsInTurn tapes (opening first second) limit one
    → IsInTurn tapes (opening first second) limit two → one ≡ two

-- the law that no pair is both accepted for its waits and refused
abbrev pub WaitsApart : Type 0
WaitsApart = (asked : Asked) (judged : Judged) (refusal : Refusal) → waits.AreAccepted asked judged → waits.IsRefusalOf asked refusal → ⊥

-- the law that texts that `waits` refuses have one refusal
abbrev pub OneWaitRefusal : Type 0
OneWaitRefusal = (asked : Asked) (refusal other : Refusal) → waits.IsRefusalOf asked refusal → waits.IsRefusalOf asked other → refusal ≡ other

-- one answer of `waits` is due to three texts
waits_once : WaitsApart → OneWaitRefusal → (outside : Option Outside) (texts : Texts) (a b : Answer) → AreWaits outside texts a → AreWaits outside texts b
    → Agree a b
waits_once law one outside texts a b (waited.told {judged} {left} {right} {trust} are)
    (waited.told {judged = other} {left = left'} {right = right'} {trust = trust'} too) =
    (refl, one_text (asked_of outside texts) judged other left left' right right' trust trust' are too)
waits_once law one outside texts a b (waited.told {judged} are) (waited.refused {refusal} denied w) =
    absurd (law (asked_of outside texts) judged refusal are.accepted denied)
waits_once law one outside texts a b (waited.told are) waited.unjudged = tt
waits_once law one outside texts a b (waited.refused {refusal} denied v) (waited.told {judged} are) =
    absurd (law (asked_of outside texts) judged refusal are.accepted denied)
waits_once law one outside texts a b (waited.refused {refusal} {text} denied v) (waited.refused {refusal = other} {text = line} too w) =
    (refl, line_once refusal other text line (one (asked_of outside texts) refusal other denied too) v w)
waits_once law one outside texts a b (waited.refused denied v) waited.unjudged = tt
waits_once law one outside texts a b waited.unjudged other = tt

-- pairs that are the same have one list of records in turn
records_once : OneInTurn → (limit : ℕ) (pair other : Verified) (entries others : List Entry) → IsSamePair pair other → AreRecordsInTurn limit pair entries
    → AreRecordsInTurn limit other others → entries ≡ others
records_once law limit pair other entries others same run too =
    let there : AreRecordsInTurn limit other entries =
    subst (λ n. IsInTurn (tapes_in other) (opening_of other) (min limit n) entries) same.records
    (subst (λ (m : MachineView). IsInTurn (tapes_in other) m (min limit pair.settings.records) entries) same.opening
    (subst (λ (t : Tapes). IsInTurn t (opening_of pair) (min limit pair.settings.records) entries) same.tapes run)) in
    law (tapes_in other) _ _ (min limit other.settings.records) entries others there too

-- one trace is due to a pair
trace_once : OneInTurn → (limit : ℕ) (pair other : Verified) (a b : Answer) → IsSamePair pair other → IsTraceOf limit pair a → IsTraceOf limit other b → Agree a b
trace_once law limit pair other a b same (traced.ran entries races run are) (traced.ran others races' run' also) =
    let one : entries ≡ others = records_once law limit pair other entries others same run run' in
    let list : races ≡ races' = same_races pair other same races races' are also in (
      (λ i. reason_status (end_told (same.tapes i) (same.opening i) (same.records i) (one i))),
      (λ i. trace_text (same.tapes i) (same.opening i) (one i) (end_told (same.tapes i) (same.opening i) (same.records i) (one i))
          ++ list_text (list i)),
    )
trace_once law limit pair other a b same (traced.ran entries races run are) traced.unran = tt
trace_once law limit pair other a b same traced.unran other_trace = tt

-- one answer of `trace` is due to three texts
traced_once : NotBoth → OneRefusal → OneMachine → OneInTurn → (limit : ℕ) (texts : Texts) (a b : Answer) → IsTraced limit texts a → IsTraced limit texts b → Agree a b
traced_once law once machine run limit texts a b (traced.traced pair is one) (traced.traced other is' two) =
    trace_once run limit pair other a b (machine texts pair other is is') one two
traced_once law once machine run limit texts a b (traced.traced pair is one) (traced.refused {refusal} denied w) =
    absurd (law texts _ _ _ refusal is denied)
traced_once law once machine run limit texts a b (traced.traced pair is one) traced.untraced = agree_nothing a
traced_once law once machine run limit texts a b (traced.refused {refusal} denied w) (traced.traced pair is two) =
    absurd (law texts _ _ _ refusal is denied)
traced_once law once machine run limit texts a b (traced.refused {refusal} {text} denied v) (traced.refused {refusal = other} {text = line} too w) =
    (refl, line_once refusal other text line (once texts refusal other denied too) v w)
traced_once law once machine run limit texts a b (traced.refused denied v) traced.untraced = tt
traced_once law once machine run limit texts a b traced.untraced other = tt

-- one answer is due to three texts, if one is due to pairs that are the same
pair_once : (IsDue : Verified → Answer → Type 0) → NotBoth → OneRefusal → OneMachine
    → ((pair other : Verified) (a b : Answer) → IsSamePair pair other → IsDue pair a → IsDue other b → Agree a b)
    → (texts : Texts) (a b : Answer) → IsOfPair IsDue texts a → IsOfPair IsDue texts b → Agree a b
pair_once IsDue law once machine alike texts a b (due.accepted pair is one) (due.accepted other is' two) =
    alike pair other a b (machine texts pair other is is') one two
pair_once IsDue law once machine alike texts a b (due.accepted pair is one) (due.refused {refusal} denied w) =
    absurd (law texts _ _ _ refusal is denied)
pair_once IsDue law once machine alike texts a b (due.accepted pair is one) due.unjudged = agree_nothing a
pair_once IsDue law once machine alike texts a b (due.refused {refusal} denied w) (due.accepted pair is two) =
    absurd (law texts _ _ _ refusal is denied)
pair_once IsDue law once machine alike texts a b (due.refused {refusal} {text} denied v) (due.refused {refusal = other} {text = line} too w) =
    (refl, line_once refusal other text line (once texts refusal other denied too) v w)
pair_once IsDue law once machine alike texts a b (due.refused denied v) due.unjudged = tt
pair_once IsDue law once machine alike texts a b due.unjudged other = tt

-- one answer of `races` is due to three texts
races_once : NotBoth → OneRefusal → OneMachine → (texts : Texts) (a b : Answer) → IsOfPair IsRaceAnswer texts a → IsOfPair IsRaceAnswer texts b → Agree a b
races_once law once machine = pair_once IsRaceAnswer law once machine races_of_once

-- one answer is due to what is asked for of the run of a pair
zones_of_once : OneInTurn → (limit : ℕ) (plan : Plan) (pair other : Verified) (a b : Answer) → IsSamePair pair other → AreZonesOf limit plan pair a
    → AreZonesOf limit plan other b → Agree a b
zones_of_once law limit plan pair other a b same (zones.ran entries run is) (zones.ran others run' also) =
    let one : entries ≡ others = records_once law limit pair other entries others same run run' in
    zones_agree plan pair other same entries others (end_of pair entries) (end_of other others) one
    (λ i. end_told (same.tapes i) (same.opening i) (same.records i) (one i)) a b is also
zones_of_once law limit plan pair other a b same (zones.ran entries run is) zones.unran = agree_nothing a
zones_of_once law limit plan pair other a b same zones.unran two = tt

-- one answer is due to a text of zones and three texts
zones_once : NotBoth → OneRefusal → OneMachine → OneInTurn → (limit : ℕ) (texts : PairWithZones) (a b : Answer) → AreZonesFor limit texts a
    → AreZonesFor limit texts b → Agree a b
zones_once law once machine run limit texts a b (zones.asked {plan} is one) (zones.asked {plan = other} too two) =
    let same : plan ≡ other = cc in
    pair_once (AreZonesOf limit other) law once machine (zones_of_once run limit other) texts.pair a b
    (subst (λ (p : Plan). IsOfPair (AreZonesOf limit p) texts.pair a) same one) two
zones_once law once machine run limit texts a b (zones.asked is one) (zones.bad_zones too) = absurd cc
zones_once law once machine run limit texts a b (zones.asked is one) zones.unread_zones = agree_nothing a
zones_once law once machine run limit texts a b (zones.bad_zones is) (zones.asked too two) = absurd cc
zones_once law once machine run limit texts a b (zones.bad_zones {line} is) (zones.bad_zones {line = other} too) =
    let same : line ≡ other = cc in (refl, ap bad_zone_text same)
zones_once law once machine run limit texts a b (zones.bad_zones is) zones.unread_zones = tt
zones_once law once machine run limit texts a b zones.unread_zones two = tt

-- One answer is due to a command of files: if one answer is due to the texts, and if the shelf tells
-- its files and did not fail.
files_once : {A : Type 0} (read : List (List ℕ) → A) (told : Files) (files : List Named) (Rests : Type 0) (IsAnswer : A → Answer → Type 0) (old new : ShelfState) → old.files ≡ Some told
    → (Rose old.faults new.faults → ⊥) → ((texts : A) (a b : Answer) → IsAnswer texts a → IsAnswer texts b → Agree a b)
    → (a b : Answer) → IsOfFiles read files Rests IsAnswer old new a → IsOfFiles read files Rests IsAnswer old new b → Agree a b
files_once read told files Rests IsAnswer old new holds calm once a b (not_had {file} {fault} one rest) (not_had {file = file'} {fault = fault'} two other) =
    let same = missing_once told old new files file file' fault fault' one.before two.before holds calm one.reached two.reached one.cause two.cause in
    let why =
    fault_once told old new file' fault fault' holds calm (subst (λ (f : Named). FileCause old new f fault) same one.cause) two.cause in
    (ap fault_status why, λ i. fault_text (same i).name (why i))
files_once read told files Rests IsAnswer old new holds calm once a b (not_had one rest) (unread some other) = tt
files_once read told files Rests IsAnswer old new holds calm once a b (not_had {file} {fault} one rest) (answers texts are from) =
    absurd (all_had told old new files file fault texts holds calm are.each one)
files_once read told files Rests IsAnswer old new holds calm once a b (unread some rest) other = tt
files_once read told files Rests IsAnswer old new holds calm once a b (answers texts are from) (not_had {file} {fault} two rest) =
    absurd (all_had told old new files file fault texts holds calm are.each two)
files_once read told files Rests IsAnswer old new holds calm once a b (answers texts are from) (unread some rest) = agree_nothing a
files_once {A} read told files Rests IsAnswer old new holds calm once a b (answers texts are from) (answers texts' are' from') =
    let P : Option Files → List (List ℕ) → Type 0 = λ v list. AreTexts v files list in
    let same : texts ≡ texts' =
    texts_once told files texts texts' (subst (λ v. P v texts) holds are.each) (subst (λ v. P v texts') holds are'.each) in
    once (read texts') a b (subst (λ (x : List (List ℕ)). IsAnswer (read x) a) same from) from'

-- one answer of `expand` is due to a text
expanded_once : (text : List ℕ) (a b : Answer) → IsExpanded text a → IsExpanded text b → Agree a b
expanded_once text a b (expand.expanded {bytes} is clear) (expand.expanded {bytes = other} too clear') = (refl, (let one : bytes ≡ other = cc in one))
expanded_once text a b (expand.expanded is clear) (expand.refused denied v) = absurd cc
expanded_once text a b (expand.expanded is clear) expand.unexpanded = tt
expanded_once text a b (expand.refused denied v) (expand.expanded is clear) = absurd cc
expanded_once text a b (expand.refused {fault} {line} denied v) (expand.refused {fault = fault'} {line = line'} too w) =
    let same : fault ≡ fault' = cc in
    let cause : v.0 ≡ w.0 =
    one_cause (expand_number fault') v.0 w.0 (subst (λ (f : ExpandFault). IsCauseOf (expand_number f) v.0) same v.1) w.1 in
    (refl, v.2 ∙ (λ i. refusal_text (cause i) (same i)) ∙ sym w.2)
expanded_once text a b (expand.refused denied v) expand.unexpanded = tt
expanded_once text a b expand.unexpanded other = tt

-- one answer is due to a tape that is written out under settings
plained_once : (texts : TapeView) (a b : Answer) → IsPlained texts a → IsPlained texts b → Agree a b
plained_once texts a b (plain.plained {bytes} is) (plain.plained {bytes = other} too) = (refl, (let one : bytes ≡ other = cc in one))
plained_once texts a b (plain.plained is) (plain.not_plained denied v) = absurd cc
plained_once texts a b (plain.plained is) plain.unplained = tt
plained_once texts a b (plain.not_plained denied v) (plain.plained is) = absurd cc
plained_once texts a b (plain.not_plained {fault} {line} denied v) (plain.not_plained {fault = fault'} {line = line'} too w) =
    let same : fault ≡ fault' = cc in
    let cause : v.0 ≡ w.0 =
    one_cause (plain_number fault') v.0 w.0 (subst (λ (f : PlainTapeFault). IsCauseOf (plain_number f) v.0) same v.1) w.1 in
    (refl, v.2 ∙ (λ i. plain_refusal_text (cause i) (same i)) ∙ sym w.2)
plained_once texts a b (plain.not_plained denied v) plain.unplained = tt
plained_once texts a b plain.unplained other = tt

-- the same pair has the same machine after the same records
machine_same : (pair other : Verified) (entries others : List Entry) → IsSamePair pair other → entries ≡ others
    → machine_behind pair entries ≡ machine_behind other others
machine_same pair other entries others same are = λ i. fold (same.tapes i) (same.opening i) (are i)

-- what a disk that did not fail leaves of a session stands for all its records
all_left : (header : Header) (history : List Entry) (c : List ℕ) → StandsForPrefix header (length history) history c → Stands header history c
all_left header history c stands =
    let all : stands.0 ≡ length history = omega (arith, stands.1, stands.2) in
    subst (λ (l : List Entry). Stands header l c) (ap (λ n. take n history) all ∙ take-length history) stands.3

-- the text of a history is the same for pairs that are the same (`IsSamePair`), whatever the reason
-- for which the run ended
abbrev pub HangsOnPair : TextOf → Type 0
HangsOnPair text_of = (pair other : Verified) → IsSamePair pair other → (entries : List Entry) (reason : Reason)
    → text_of pair entries reason ≡ text_of other entries reason

-- pairs of the same texts have one report
report_hangs : HangsOnPair report_of
report_hangs pair other same entries reason = λ i. report_text (same.tapes i) (same.opening i) entries reason

-- how many blocks the programs have, by what they say
abbrev count_said : List ProgramForm → ℕ
count_said [] = 0
count_said (form ∷ forms) = length form.blocks + count_said forms

-- the blocks of programs are counted by their forms
counts : (programs : List FlowProgram) → block_count programs ≡ count_said (map program_form programs)
counts [] = refl
counts (program ∷ programs) =
    let more = sum_by-cons (λ (p : FlowProgram). length p.blocks) program programs in
    omega (arith, more, counts programs, length-map program.blocks block_form)

-- programs of the same forms have as many blocks
blocks_same : (programs others : List FlowProgram) → map program_form programs ≡ map program_form others → block_count programs ≡ block_count others
blocks_same programs others same = counts programs ∙ ap count_said same ∙ sym (counts others)

-- pairs of the same texts have one summary
summary_hangs : (number : ℕ) (pair other : Verified) → IsSamePair pair other → (entries : List Entry)
    → summary_text number pair.left pair.right pair.settings entries ≡ summary_text number other.left other.right other.settings entries
unfolding summary_text pair_text
summary_hangs number pair other same entries =
    let left = blocks_same pair.left.programs other.left.programs same.left in
    let right = blocks_same pair.right.programs other.right.programs same.right in
    λ i. (number_line (codes "make ") number ++ numbers_line (codes "blocks ") (left i) (right i)) ++ outcome_text (same.tapes i) (same.opening i) entries

-- pairs of the same texts are told the same of a made pair
made_hangs : (number : ℕ) → HangsOnPair (made_text number)
made_hangs number pair other same entries Reason.Done = summary_hangs number pair other same entries
made_hangs number pair other same entries (Reason.Alarm alarm) = report_hangs pair other same entries (Reason.Alarm alarm)
made_hangs number pair other same entries Reason.Stopped = report_hangs pair other same entries Reason.Stopped
made_hangs number pair other same entries Reason.Full = report_hangs pair other same entries Reason.Full
made_hangs number pair other same entries Reason.DiskFault = report_hangs pair other same entries Reason.DiskFault
made_hangs number pair other same entries (Reason.TurretFault path) = report_hangs pair other same entries (Reason.TurretFault path)

-- what is shown of a history by `moves` or `state` depends only on its pair's texts
shown_hangs : (showing : Showing) (pair other : Verified) → IsSamePair pair other → (entries : List Entry)
    → shown_text showing pair entries ≡ shown_text showing other entries
shown_hangs Moves pair other same entries =
    λ i. report_text (same.tapes i) (same.opening i) entries (reason_of (fold (same.tapes i) (same.opening i) entries))
shown_hangs State pair other same entries = λ i. state_text (same.tapes i) (fold (same.tapes i) (same.opening i) entries)

-- what is due to a history of a pair hangs on the texts of the pair alone
abbrev pub Hangs : (Verified → List Entry → Answer → Type 0) → Type 0
Hangs IsDue = (pair other : Verified) → IsSamePair pair other → (entries : List Entry) (a b : Answer) → IsDue pair entries a → IsDue other entries b
    → Agree a b

-- so does the answer of `moves` and of `state`
showing_hangs : (showing : Showing) → Hangs (IsShowing showing)
showing_hangs showing pair other same entries a b is too =
    agree_told a b (tells 0 (shown_text showing other entries)) (inr (is ∙ ap (tells 0) (shown_hangs showing pair other same entries))) (inr too)

-- the header of a journal that stands for a run; of others the one that is given
abbrev pub header_in : Header → Meaning → Header
header_in other no_run = other
header_in other (cut_at at) = other
header_in other (bad_at offset cause) = other
header_in other (a_run header entries) = header

-- the records of a journal that stands for a run; of others those that are given
abbrev pub entries_in : List Entry → Meaning → List Entry
entries_in others no_run = others
entries_in others (cut_at at) = others
entries_in others (bad_at offset cause) = others
entries_in others (a_run header entries) = entries

-- the offset at which a journal is cut short or bad; 0 of others
abbrev offset_in : Meaning → ℕ
offset_in no_run = 0
offset_in (cut_at at) = at
offset_in (bad_at offset cause) = offset
offset_in (a_run header entries) = 0

-- two runs with one header have the same pair
pairs_same : OneMachine → (header other : Header) (pair pair' : Verified) → header ≡ other → IsPairOf (texts_of header) pair
    → IsPairOf (texts_of other) pair' → IsSamePair pair pair'
pairs_same one_machine header other pair pair' same is also =
    one_machine (texts_of other) pair pair' (subst (λ (h : Header). IsPairOf (texts_of h) pair) same is) also

-- two answers over one disk that made its bytes known and did not fail
module _ (one_run : OneRun) (one_machine : OneMachine) (old new : DiskState) (bytes : List ℕ) (holds : Reads old bytes) (calm : DiskRose old.faults new.faults → ⊥) where
  -- two answers for which no run is found agree
  unfound_once : (f g : RestartFault) → Recovers old new (Err f) → Recovers old new (Err g) → Agree (unfound_answer f) (unfound_answer g)
  unfound_once restart.DiskFault g one two = absurd (calm one.refused)
  unfound_once restart.NoMemory g one two = tt
  unfound_once restart.NoRun restart.DiskFault one two = absurd (calm two.refused)
  unfound_once restart.NoRun restart.NoRun one two = (refl, refl)
  unfound_once restart.NoRun (restart.Cut at) one two =
      let e = one_run bytes no_run (cut_at at) (one.refused.1 bytes holds) (two.refused.1 bytes holds) in absurd (cc)
  unfound_once restart.NoRun (restart.BadRecord offset cause) one two =
      let e = one_run bytes no_run (bad_at offset cause) (one.refused.1 bytes holds) (two.refused.1 bytes holds) in absurd (cc)
  unfound_once restart.NoRun restart.NoMemory one two = tt
  unfound_once (restart.Cut at) restart.DiskFault one two = absurd (calm two.refused)
  unfound_once (restart.Cut at) restart.NoRun one two =
      let e = one_run bytes no_run (cut_at at) (two.refused.1 bytes holds) (one.refused.1 bytes holds) in absurd (cc)
  unfound_once (restart.Cut at) (restart.Cut other) one two =
      let e = one_run bytes (cut_at at) (cut_at other) (one.refused.1 bytes holds) (two.refused.1 bytes holds) in
      (refl, ap bad_text (ap offset_in e))
  unfound_once (restart.Cut at) (restart.BadRecord offset cause) one two =
      let e = one_run bytes (cut_at at) (bad_at offset cause) (one.refused.1 bytes holds) (two.refused.1 bytes holds) in absurd (cc)
  unfound_once (restart.Cut at) restart.NoMemory one two = tt
  unfound_once (restart.BadRecord offset cause) restart.DiskFault one two = absurd (calm two.refused)
  unfound_once (restart.BadRecord offset cause) restart.NoRun one two =
      let e = one_run bytes no_run (bad_at offset cause) (two.refused.1 bytes holds) (one.refused.1 bytes holds) in absurd (cc)
  unfound_once (restart.BadRecord offset cause) (restart.Cut other) one two =
      let e = one_run bytes (bad_at offset cause) (cut_at other) (one.refused.1 bytes holds) (two.refused.1 bytes holds) in absurd (cc)
  unfound_once (restart.BadRecord offset cause) (restart.BadRecord place other) one two =
      let e = one_run bytes (bad_at offset cause) (bad_at place other) (one.refused.1 bytes holds) (two.refused.1 bytes holds) in
      (refl, ap bad_text (ap offset_in e))
  unfound_once (restart.BadRecord offset cause) restart.NoMemory one two = tt

  -- if a run is found, the answer that none is found is `nothing`
  none_found : (f : RestartFault) (header : Header) (entries : List Entry) → Recovers old new (Err f) → StandsForRun (a_run header entries) bytes
      → unfound_answer f ≡ nothing
  none_found restart.DiskFault header entries one stands = absurd (calm one.refused)
  none_found restart.NoRun header entries one stands =
      let e = one_run bytes no_run (a_run header entries) (one.refused.1 bytes holds) stands in absurd (cc)
  none_found (restart.Cut at) header entries one stands =
      let e = one_run bytes (cut_at at) (a_run header entries) (one.refused.1 bytes holds) stands in absurd (cc)
  none_found (restart.BadRecord offset cause) header entries one stands =
      let e = one_run bytes (bad_at offset cause) (a_run header entries) (one.refused.1 bytes holds) stands in absurd (cc)
  none_found restart.NoMemory header entries one stands = refl

  -- one answer is due to what the journal holds
  shown_by_once : (IsDue : Verified → List Entry → Answer → Type 0) → Hangs IsDue → (a b : Answer) → IsShown IsDue old new a → IsShown IsDue old new b → Agree a b
  shown_by_once IsDue hangs a b (unshown f one) (unshown g two) = unfound_once f g one two
  shown_by_once IsDue hangs a b (unshown f one) (shown found pair is history two due) =
      subst (λ x. Agree x b) (sym (none_found f found.header found.entries one (two.found.means bytes holds))) tt
  shown_by_once IsDue hangs a b (shown found pair is history one due) (unshown g two) =
      subst (Agree a) (sym (none_found g found.header found.entries two (one.found.means bytes holds))) (agree_nothing a)
  shown_by_once IsDue hangs a b (shown found pair is history one due) (shown found' pair' is' history' two due') =
      let same : a_run found.header found.entries ≡ a_run found'.header found'.entries =
      one_run bytes (a_run found.header found.entries) (a_run found'.header found'.entries) (one.found.means bytes holds) (two.found.means bytes holds) in
      let header : found.header ≡ found'.header = ap (header_in found.header) same in
      let entries : found.entries ≡ found'.entries = ap (entries_in found.entries) same in
      let pairs = pairs_same one_machine found.header found'.header pair pair' header is is' in
      hangs pair pair' pairs found'.entries a b (subst (λ l. IsDue pair l a) entries due) due'

  -- one text of `moves`, and one of `state`, is due to the journal
  shown_once : (showing : Showing) (a b : Answer) → IsShown (IsShowing showing) old new a → IsShown (IsShowing showing) old new b → Agree a b
  shown_once showing a b one two = shown_by_once (IsShowing showing) (showing_hangs showing) a b one two

  -- one text of `zones` is due to one file of zones
  same_zones : (plan other : Plan) (a b : Answer) → plan ≡ other → IsShown (IsPlanned plan) old new a → IsShown (IsPlanned other) old new b
      → Agree a b
  same_zones plan other a b same one two =
      shown_by_once (IsPlanned other) (zones_hang other) a b (subst (λ (p : Plan). IsShown (IsPlanned p) old new a) same one) two

  -- one answer of `branch` is due, over a second disk that told its bytes and did not fail
  branched_once : {E : Type 0} (second : E → DiskState) (n : ℕ) (onto left : E) (there : List ℕ) → Reads (second onto) there
      → (DiskRose (second onto).faults (second left).faults → ⊥)
      → (a b : Answer) → IsBranched second n old new onto left a → IsBranched second n old new onto left b → Agree a b
  branched_once second n onto left there tells_it well a b (branch.not_found f one same) (branch.not_found g two same') = unfound_once f g one two
  branched_once second n onto left there tells_it well a b (branch.not_found f one same) (branch.branched run pair is history two of_run) =
      subst (λ x. Agree x b) (sym (none_found f run.header run.entries one (two.found.means bytes holds))) tt
  branched_once second n onto left there tells_it well a b (branch.branched run pair is history one of_run) (branch.not_found g two same) =
      subst (Agree a) (sym (none_found g run.header run.entries two (one.found.means bytes holds))) (agree_nothing a)
  branched_once second n onto left there tells_it well a b (branch.branched run pair is history one of_run)
      (branch.branched run' pair' is' history' two of_run') =
      let same : a_run run.header run.entries ≡ a_run run'.header run'.entries =
      one_run bytes (a_run run.header run.entries) (a_run run'.header run'.entries) (one.found.means bytes holds) (two.found.means bytes holds) in
      let header : run.header ≡ run'.header = ap (header_in run.header) same in
      let entries : run.entries ≡ run'.entries = ap (entries_in run.entries) same in
      let runs : run ≡ run' = λ i. record { header = header i; entries = entries i } in
      branch_once second run' n onto left there tells_it well a b (subst (λ (r : FoundRun). IsBranchOf second r n onto left a) runs of_run) of_run'

-- two answers of a command that runs, over one disk that made its bytes known and did not fail,
-- with turrets that did not fail
module _ {D : Type 0} (state : D → DiskState) (both : NotBoth) (one_refusal : OneRefusal) (one_run : OneRun) (one_journal : OneJournal)
    (one_machine : OneMachine) (old new : LatheState) (coherent : IsCoherent new.disk) (bytes : List ℕ) (holds : Reads old.disk bytes)
    (calm : DiskRose old.disk.faults new.disk.faults → ⊥)
    (at_work : (path : Path) → Rose (of_path old.turrets path).faults (of_path new.turrets path).faults → ⊥) where
  -- the disk holds all records of a session that ended for another reason than a fault
  holds_all : (opening : Opening) (limit : ℕ) (s : Session) (least : ℕ) {reason : Reason} → EndsBy limit s old new reason → IsLeast reason s least
      → KeepsSession state opening s least old.disk new.disk → (c : List ℕ) → new.disk.image c → Stands s.header s.history c
  holds_all opening limit s least (over is well) enough keeps c image = all_left s.header s.history c
      (subst (λ n. StandsForPrefix s.header n s.history c)
      (least_is s least (machine_behind s.pair s.history).alarm (are_finished (machine_behind s.pair s.history)) enough) (keeps.left bytes holds c image))
  holds_all opening limit s least (full unended is well) enough keeps c image =
      all_left s.header s.history c (subst (λ n. StandsForPrefix s.header n s.history c) enough (keeps.left bytes holds c image))
  holds_all opening limit s least (stopped unended is less well) enough keeps c image =
      all_left s.header s.history c (subst (λ n. StandsForPrefix s.header n s.history c) enough (keeps.left bytes holds c image))
  holds_all opening limit s least (disk_failed rose) enough keeps c image = absurd (calm rose)
  holds_all opening limit s least (turret_failed path rose well) enough keeps c image = absurd (at_work path rose)

  -- two sessions with one machine, as many records and the same limit of records ended for one
  -- reason
  reason_once : (limit : ℕ) (s s' : Session) {r r' : Reason} → machine_behind s.pair s.history ≡ machine_behind s'.pair s'.history
      → length s.history ≡ length s'.history → s.pair.settings.records ≡ s'.pair.settings.records
      → EndsBy limit s old new r → EndsBy limit s' old new r' → r ≡ r'
  reason_once limit s s' m h n (over is well) (over is' well') = ap reason_of m
  reason_once limit s s' m h n (over is well) (full un is' well') = let e = ap is_over m in absurd (cc)
  reason_once limit s s' m h n (over is well) (stopped un is' less well') = let e = ap is_over m in absurd (cc)
  reason_once limit s s' m h n (over is well) (disk_failed rose) = absurd (calm rose)
  reason_once limit s s' m h n (over is well) (turret_failed path rose well') = absurd (at_work path rose)
  reason_once limit s s' m h n (full un is well) (over is' well') = let e = ap is_over m in absurd (cc)
  reason_once limit s s' m h n (full un is well) (full un' is' well') = refl
  reason_once limit s s' m h n (full un is well) (stopped un' is' less well') = absurd (less (sym h ∙ is ∙ n))
  reason_once limit s s' m h n (full un is well) (disk_failed rose) = absurd (calm rose)
  reason_once limit s s' m h n (full un is well) (turret_failed path rose well') = absurd (at_work path rose)
  reason_once limit s s' m h n (stopped un is less well) (over is' well') = let e = ap is_over m in absurd (cc)
  reason_once limit s s' m h n (stopped un is less well) (full un' is' well') = absurd (less (h ∙ is' ∙ sym n))
  reason_once limit s s' m h n (stopped un is less well) (stopped un' is' less' well') = refl
  reason_once limit s s' m h n (stopped un is less well) (disk_failed rose) = absurd (calm rose)
  reason_once limit s s' m h n (stopped un is less well) (turret_failed path rose well') = absurd (at_work path rose)
  reason_once limit s s' m h n (disk_failed rose) by = absurd (calm rose)
  reason_once limit s s' m h n (turret_failed path rose well) by = absurd (at_work path rose)

  -- one report is due to a session
  reported_once : (opening : Opening) (limit : ℕ) (text_of : TextOf) → HangsOnPair text_of → (s s' : Session) (a b : Answer) → IsSession s
      → IsSession s'
      → IsReported state opening limit text_of s old new a → IsReported state opening limit text_of s' old new b → Agree a b
  reported_once opening limit text_of hangs s s' a b is is' (run.unprepared least none keeps) other = tt
  reported_once opening limit text_of hangs s s' a b is is' (reported least ends keeps) (run.unprepared least' none keeps') = tt
  reported_once opening limit text_of hangs s s' a b is is' (reported least ends keeps) (reported least' ends' keeps') =
      let told = keeps.uses.told bytes holds in
      let image : new.disk.image told.0 = coherent.as_read told.0 told.1 in
      let same : a_run s.header s.history ≡ a_run s'.header s'.history =
      one_journal told.0 (a_run s.header s.history) (a_run s'.header s'.history)
      (holds_all opening limit s least ends.cause ends.enough keeps told.0 image)
      (holds_all opening limit s' least' ends'.cause ends'.enough keeps' told.0 image) in
      let header : s.header ≡ s'.header = ap (header_in s.header) same in
      let entries : s.history ≡ s'.history = ap (entries_in s.history) same in
      let pairs = pairs_same one_machine s.header s'.header s.pair s'.pair header is.accepted is'.accepted in
      let reason =
      reason_once limit s s' (machine_same s.pair s'.pair s.history s'.history pairs entries) (ap length entries) pairs.records ends.cause ends'.cause in
      (ap reason_status reason, hangs s.pair s'.pair pairs s.history _ ∙ (λ i. text_of s'.pair (entries i) (reason i)))

  -- if no journal is begun, one cause is told
  unbegun_once : (texts : Texts) (f g : GateFault) → IsRefusedBeginning texts f old.disk new.disk → IsRefusedBeginning texts g old.disk new.disk
      → Agree (unbegun_answer f) (unbegun_answer g)
  unbegun_once texts gate.DiskFault g one two = absurd (calm one.begins.refused)
  unbegun_once texts gate.NoRun g one two = tt
  unbegun_once texts (gate.Cut at) g one two = tt
  unbegun_once texts gate.NoMemory g one two = tt
  unbegun_once texts gate.RunThere gate.DiskFault one two = absurd (calm two.begins.refused)
  unbegun_once texts gate.RunThere gate.RunThere one two = (refl, refl)
  unbegun_once texts gate.RunThere gate.NoRun one two = tt
  unbegun_once texts gate.RunThere (gate.Cut at) one two = tt
  unbegun_once texts gate.RunThere gate.NoMemory one two = tt

  -- if the disk had no run, the answer that there is one is not due
  none_there : (texts : Texts) (f : GateFault) → IsRefusedBeginning texts f old.disk new.disk → HadNoRun old.disk → unbegun_answer f ≡ nothing
  none_there texts gate.DiskFault one had = absurd (calm one.begins.refused)
  none_there texts gate.NoRun one had = refl
  none_there texts (gate.Cut at) one had = refl
  none_there texts gate.NoMemory one had = refl
  none_there texts gate.RunThere one had = absurd (had bytes holds (one.begins.refused.2 bytes holds))

  -- texts of which a journal is begun, or refused, are accepted
  never_refused : (texts of_header : Texts) (pair : Verified) (refusal : Refusal) → IsPairOf of_header pair → of_header ≡ texts
      → IsRefusalOf texts refusal → ⊥
  never_refused texts of_header pair refusal accepted same is = both texts _ _ _ refusal (subst (λ (y : Texts). IsPairOf y pair) same accepted) is

  -- one answer of `run` is due to its texts
  run_once : (limit : ℕ) (text_of : TextOf) → HangsOnPair text_of → (texts : Texts) (a b : Answer) → IsRun state limit text_of texts old new a
      → IsRun state limit text_of texts old new b → Agree a b
  run_once limit text_of hangs texts a b (run.unjudged rests) other = tt
  run_once limit text_of hangs texts a b (run.refused {refusal} {text} is v rests) (run.refused {refusal = other} {text = line} too w rests') =
      (refl, line_once refusal other text line (one_refusal texts refusal other is too) v w)
  run_once limit text_of hangs texts a b (run.refused is v rests) (run.unjudged rests') = tt
  run_once limit text_of hangs texts a b (run.refused {refusal} is v rests) (run.not_begun g two rest) =
      absurd (never_refused texts (texts_of two.header) two.pair refusal two.accepted two.fresh.same is)
  run_once limit text_of hangs texts a b (run.refused {refusal} is v rests) (run.ran x sound same had report) =
      absurd (never_refused texts (texts_of x.header) x.pair refusal sound.accepted same.same is)
  run_once limit text_of hangs texts a b (run.not_begun f one rest) (run.refused {refusal} is v rests) =
      absurd (never_refused texts (texts_of one.header) one.pair refusal one.accepted one.fresh.same is)
  run_once limit text_of hangs texts a b (run.not_begun f one rest) (run.unjudged rests) = agree_nothing a
  run_once limit text_of hangs texts a b (run.not_begun f one rest) (run.not_begun g two rest') = unbegun_once texts f g one two
  run_once limit text_of hangs texts a b (run.not_begun f one rest) (run.ran x sound same had report) =
      subst (λ y. Agree y b) (sym (none_there texts f one had.1)) tt
  run_once limit text_of hangs texts a b (run.ran x sound same had report) (run.refused {refusal} is v rests) =
      absurd (never_refused texts (texts_of x.header) x.pair refusal sound.accepted same.same is)
  run_once limit text_of hangs texts a b (run.ran x sound same had report) (run.unjudged rests) = agree_nothing a
  run_once limit text_of hangs texts a b (run.ran x sound same had report) (run.not_begun g two rest) =
      subst (Agree a) (sym (none_there texts g two had.1)) (agree_nothing a)
  run_once limit text_of hangs texts a b (run.ran x sound same had report) (run.ran x' sound' same' had' report') =
      reported_once _ limit text_of hangs x x' a b sound sound' report report'

  -- one answer of `resume` is due to the disk
  resumed_once : (limit : ℕ) (a b : Answer) → IsResumed state limit old new a → IsResumed state limit old new b → Agree a b
  resumed_once limit a b (run.not_found f one rest) (run.not_found g two rest') =
      unfound_once one_run one_machine old.disk new.disk bytes holds calm f g one two
  resumed_once limit a b (run.not_found f one rest) (run.resumed x is found report) =
      subst (λ y. Agree y b) (sym (none_found one_run one_machine old.disk new.disk bytes holds calm f x.header x.found one (found bytes holds))) tt
  resumed_once limit a b (run.resumed x is found report) (run.not_found g two rest) =
      subst (Agree a) (sym (none_found one_run one_machine old.disk new.disk bytes holds calm g x.header x.found two (found bytes holds))) (agree_nothing a)
  resumed_once limit a b (run.resumed x is found report) (run.resumed x' is' found' report') =
      reported_once _ limit report_of report_hangs x x' a b is is' report report'

-- two answers of `zones`, over one disk that made its bytes known and did not fail
module _ (one_run : OneRun) (one_machine : OneMachine) (old new : LatheState) (bytes : List ℕ) (holds : Reads old.disk bytes)
    (calm : DiskRose old.disk.faults new.disk.faults → ⊥) where
  -- one answer of `zones` is due to the text of its file
  zoned_once : (text : List ℕ) (a b : Answer) → IsZoned old new text a → IsZoned old new text b → Agree a b
  zoned_once text a b (bad_zones {line} is rests) (bad_zones {line = other} too rests') =
      let same : line ≡ other = cc in (refl, ap bad_zone_text same)
  zoned_once text a b (bad_zones is rests) (unread_zones rests') = tt
  zoned_once text a b (bad_zones is rests) (zoned too told rest) = absurd cc
  zoned_once text a b (unread_zones rests) two = tt
  zoned_once text a b (zoned is told rest) (bad_zones too rests) = absurd cc
  zoned_once text a b (zoned is told rest) (unread_zones rests) = agree_nothing a
  zoned_once text a b (zoned {plan} is told rest) (zoned {plan = other} too told' rest') =
      let same : plan ≡ other = cc in same_zones one_run one_machine old.disk new.disk bytes holds calm plan other a b same told told'

-- two answers of `edit`, over one disk that made its bytes known and did not fail
module _ (one_run : OneRun) (one_machine : OneMachine) (old new : LatheState) (bytes : List ℕ) (holds : Reads old.disk bytes)
    (calm : DiskRose old.disk.faults new.disk.faults → ⊥) where
  -- if edits are answered in a run, the answer that no run is found is `nothing`
  edits_there : (f : RestartFault) (e : Editing) (b : Answer) → Recovers old.disk new.disk (Err f) → IsEditOf e old.disk new.disk b → unfound_answer f ≡ nothing
  edits_there f e b one is =
      none_found one_run one_machine old.disk new.disk bytes holds calm f e.header e.found one (found_there e old.disk new.disk b is bytes holds)

  -- one answer is due to edits of the run on the disk
  in_one_run : (e e' : Editing) (a b : Answer) → e.edits ≡ e'.edits → IsEditOf e old.disk new.disk a → IsEditOf e' old.disk new.disk b → Agree a b
  in_one_run e e' a b edits one two =
      let same : a_run e.header e.found ≡ a_run e'.header e'.found =
      one_run bytes (a_run e.header e.found) (a_run e'.header e'.found) (found_there e old.disk new.disk a one bytes holds)
      (found_there e' old.disk new.disk b two bytes holds) in
      let header : e.header ≡ e'.header = ap (header_in e.header) same in
      let found : e.found ≡ e'.found = ap (entries_in e.found) same in
      let pairs =
      pairs_same one_machine e.header e'.header e.pair e'.pair header (pair_there e old.disk new.disk a one) (pair_there e' old.disk new.disk b two) in
      let told = same_told e e' pairs found edits in
      agree_told a b _ (⊎_elim (λ none. inl none) (λ is. inr (is ∙ told)) (one_told e old.disk new.disk calm a one)) (one_told e' old.disk new.disk calm b two)

  -- one answer is due to edits, whether there is a run or not
  edited_run_once : (edits : List PathEdit) (a b : Answer) → IsEditedRun edits old.disk new.disk a → IsEditedRun edits old.disk new.disk b → Agree a b
  edited_run_once edits a b (edit.not_found f one) (edit.not_found g two) =
      unfound_once one_run one_machine old.disk new.disk bytes holds calm f g one two
  edited_run_once edits a b (edit.not_found f one) (edit.in_run e are is) = subst (λ x. Agree x b) (sym (edits_there f e b one is)) tt
  edited_run_once edits a b (edit.in_run e are is) (edit.not_found g two) = subst (Agree a) (sym (edits_there g e a two is)) (agree_nothing a)
  edited_run_once edits a b (edit.in_run e are is) (edit.in_run e' too is') = in_one_run e e' a b (are ∙ sym too) is is'

  -- one answer of `edit` is due to the text of its file
  edited_once : (text : List ℕ) (a b : Answer) → IsEdited old new text a → IsEdited old new text b → Agree a b
  edited_once text a b (edit.bad_edits {line} is rests) (edit.bad_edits {line = other} too rests') =
      let same : line ≡ other = cc in (refl, ap bad_edit_text same)
  edited_once text a b (edit.bad_edits is rests) (edit.unread_edits rests') = tt
  edited_once text a b (edit.bad_edits is rests) (edit.edited too told rest) = absurd cc
  edited_once text a b (edit.unread_edits rests) two = tt
  edited_once text a b (edit.edited is told rest) (edit.bad_edits too rests) = absurd cc
  edited_once text a b (edit.edited is told rest) (edit.unread_edits rests) = agree_nothing a
  edited_once text a b (edit.edited {edits} is told rest) (edit.edited {edits = others} too told' rest') =
      let same : edits ≡ others = cc in
      edited_run_once others a b (subst (λ (l : List PathEdit). IsEditedRun l old.disk new.disk a) same told) told'

-- two answers of one call
module _ {D E : Type 0} (state : D → DiskState) (second : E → DiskState) (both : NotBoth) (one_refusal : OneRefusal) (one_run : OneRun) (one_journal : OneJournal)
    (one_machine : OneMachine) (in_turn : OneInTurn) (waits_apart : WaitsApart) (one_wait_refusal : OneWaitRefusal) (call : Call E) (coherent : IsCoherent call.after.lathe.disk) where
  -- one answer is due to each command
  due_to_once : (asked : Command) (a b : Answer) → ServesFiles (named_by (Some asked)) call → ServesKind second (kind_of (Some asked)) call
      → IsDueTo state second asked call.before call.after a → IsDueTo state second asked call.before call.after b → Agree a b
  due_to_once (command.Verify l r c) a b files others one two =
      files_once pair_texts files.0.0 (files_of l r c) (Unit {0}) IsJudged call.before.shelf call.after.shelf files.0.1 files.1 (judged_once both one_refusal) a b one.0 two.0
  due_to_once (command.Waits l r c o) a b files others one two =
      files_once pair_texts files.0.0 (files_of l r c) (Unit {0}) (AreWaits (outside_in o)) call.before.shelf call.after.shelf files.0.1 files.1
      (waits_once waits_apart one_wait_refusal (outside_in o)) a b one.0 two.0
  due_to_once (command.Races l r c) a b files others one two =
      files_once pair_texts files.0.0 (files_of l r c) (Unit {0}) (IsOfPair IsRaceAnswer) call.before.shelf call.after.shelf files.0.1 files.1
      (races_once both one_refusal one_machine) a b one.0 two.0
  due_to_once (command.Trace l r c n) a b files others one two =
      files_once pair_texts files.0.0 (files_of l r c) (Unit {0}) (IsTraced n) call.before.shelf call.after.shelf files.0.1 files.1
      (traced_once both one_refusal one_machine in_turn n) a b one.0 two.0
  due_to_once (command.Run l r c n turrets) a b files others one two =
      files_once pair_texts files.0.0 (files_of l r c) (RestsWhole call.before.lathe call.after.lathe)
      (λ texts. IsRun state n report_of texts call.before.lathe call.after.lathe) call.before.shelf call.after.shelf files.0.1 files.1
      (run_once state both one_refusal one_run one_journal one_machine call.before.lathe call.after.lathe coherent others.0.bytes others.0.tells others.0.calm
      others.1 n report_of report_hangs)
      a b one two
  due_to_once (command.Resume n turrets) a b files others one two =
      resumed_once state both one_refusal one_run one_journal one_machine call.before.lathe call.after.lathe coherent others.0.bytes others.0.tells others.0.calm
      others.1 n a b one.0 two.0
  due_to_once (command.Edit name) a b files others one two =
      files_once only_text files.0.0 (edits_named name) (RestsWhole call.before.lathe call.after.lathe) (IsEdited call.before.lathe call.after.lathe)
      call.before.shelf call.after.shelf files.0.1 files.1
      (edited_once one_run one_machine call.before.lathe call.after.lathe others.bytes others.tells others.calm) a b one two
  due_to_once command.Moves a b files others one two =
      shown_once one_run one_machine call.before.lathe.disk call.after.lathe.disk others.bytes others.tells others.calm Moves a b one.0 two.0
  due_to_once command.State a b files others one two =
      shown_once one_run one_machine call.before.lathe.disk call.after.lathe.disk others.bytes others.tells others.calm State a b one.0 two.0
  due_to_once (command.Make n turrets) a b files others one two =
      run_once state both one_refusal one_run one_journal one_machine call.before.lathe call.after.lathe coherent others.0.bytes others.0.tells others.0.calm
      others.1 made_limit (made_text n) (made_hangs n) (made_texts n) a b one.0 two.0
  due_to_once (command.Zones name) a b files others one two =
      files_once only_text files.0.0 (zones_named name) (RestsWhole call.before.lathe call.after.lathe) (IsZoned call.before.lathe call.after.lathe)
      call.before.shelf call.after.shelf files.0.1 files.1
      (zoned_once one_run one_machine call.before.lathe call.after.lathe others.bytes others.tells others.calm) a b one two
  due_to_once (command.ZonesOf zones l r c) a b files others one two =
      files_once zones_and_pair files.0.0 (zones_before zones (files_of l r c)) (Unit {0}) (AreZonesFor DEFAULT_BLOCKS) call.before.shelf call.after.shelf
      files.0.1 files.1 (zones_once both one_refusal one_machine in_turn DEFAULT_BLOCKS) a b one.0 two.0
  due_to_once (command.Branch n) a b files others one two =
      branched_once one_run one_machine call.before.lathe.disk call.after.lathe.disk others.0.bytes others.0.tells others.0.calm second n
      call.before.second call.after.second others.1.bytes others.1.tells others.1.calm a b one.0 two.0
  due_to_once (command.Expand tape) a b files others one two =
      files_once only_text files.0.0 (tape_named tape) (Unit {0}) IsExpanded call.before.shelf call.after.shelf files.0.1 files.1 expanded_once
      a b one.0 two.0
  due_to_once (command.Plain tape settings) a b files others one two =
      files_once tape_texts files.0.0 (tape_with_settings tape settings) (Unit {0}) IsPlained call.before.shelf call.after.shelf files.0.1 files.1
      plained_once a b one.0 two.0

  -- one answer is due to a call, if the outside tells what it holds and did not fail
  pub due_once : Serves second call → (a b : Answer) → IsDue state second call a → IsDue state second call b → Agree a b
  due_once serves a b (done.usage none rests still same) (done.usage again rests' still' same') = (refl, refl)
  due_once serves a b (done.usage none rests still same) (done.unread rests' still' same') = tt
  due_once serves a b (done.usage none rests still same) (done.commanded some due left) = absurd (cc)
  due_once serves a b (done.unread rests still same) other = tt
  due_once serves a b (done.commanded some due left) (done.usage none rests still same) = absurd (cc)
  due_once serves a b (done.commanded some due left) (done.unread rests still same) = agree_nothing a
  due_once serves a b (done.commanded {command = one} is due left) (done.commanded {command = two} is' due' left') =
      let same : one ≡ two = cc in
      due_to_once two a b (subst (λ c. ServesFiles (named_by c) call) is' serves.files) (subst (λ c. ServesKind second (kind_of c) call) is' serves.others)
      (subst (λ (c : Command). IsDueTo state second c call.before call.after a) same due) due'

-- to words that are no command `usage` alone is due
pub usage_once : {D E : Type 0} (state : D → DiskState) (second : E → DiskState) (call : Call E) (a : Answer) → command_of call ≡ None
    → IsDue state second call a
    → Agree a (tells exit.usage (codes "usage\n"))
usage_once state second call a none (done.usage again rests still same) = (refl, refl)
usage_once state second call a none (done.unread rests still same) = tt
usage_once state second call a none (done.commanded some due left) = absurd (cc)
