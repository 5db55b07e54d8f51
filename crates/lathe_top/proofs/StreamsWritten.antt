-- What a turret got of a session is written as the lines of its report.
-- For the proof of `a_stream_has_the_reports_lines` (src/stream_laws.rt).
use Rattle.std.proofs.Common.{◌≡◌, inl, inr, ℕ, Bool, true, false, true≢false, List, [], ◌∷◌, ◌++◌, length, map, append-nil, take, drop, Option, Some, None, refl, sym, ap, ◌∙◌, subst, arith, ◌<◌, ◌+◌}
use Rattle.std.specs.List.{flat_map}
use Rattle.std.specs.Option.{ForSome}
use Rattle.std.proofs.lemmas.List.{take_all, take-append-drop}
use Rattle.std.proofs.lemmas.List.Concat.{flat_map-append}
use Rattle.nc_number.specs.Path.{is_same}
use Rattle.nc_number.specs.Both.{of_path}
use Rattle.nc_number.specs.declared.path.Path.{Path}
use Rattle.command_words.specs.declared.command.Command.{Command}
use Rattle.command_words.specs.declared.command.Command.TheVariants as command
use Rattle.disk_model.specs.Device.{DiskState}
use Rattle.nc_outside.specs.declared.got.Got.{Got}
use Rattle.nc_outside.specs.declared.got.Got.TheVariants.{Placed, Moved, Rested}
use Rattle.nc_outside.specs.declared.rest.Rest.TheVariants.{End}
use Rattle.nc_outside.specs.Received.{Received, TurretState, Adds}
use Rattle.nc_outside.specs.declared.lined_move.LinedMove.{LinedMove}
use Rattle.gate_file.specs.declared.fault.GateFault.{GateFault}
use Rattle.gate_file.specs.declared.fault.GateFault.TheVariants as gate
use Rattle.nc_restart.specs.declared.fault.RestartFault.{RestartFault}
use Rattle.nc_restart.specs.declared.fault.RestartFault.TheVariants as restart
use Rattle.nc_verify.specs.Verdict.{Texts}
use Rattle.run_records.specs.Entries.{Entry}
use Rattle.nc_number.specs.declared.both.Both.{Both}
use Rattle.nc_outside.specs.Lined.{lined_moves}
use Rattle.two_path.specs.declared.turn.Turn.{Turn}
use Rattle.two_path.specs.declared.turn.Turn.TheVariants as turn
use Rattle.two_path.specs.Again.{turn_of_entry}
use Rattle.two_path.specs.Histories.{behind_entry, fold}
use Rattle.two_path.specs.Machine.{MachineView}
use Rattle.two_path.specs.Turns.{Tapes}
use Rattle.turret_lines.specs.Stream.{stream_of}
use Rattle.run_table.specs.declared.resting.Resting.{Resting}
use Rattle.run_table.specs.declared.resting.Resting.TheVariants.{Unasked, Asked, Rests}
use Rattle.run_table.specs.Draining.{rest_told, told_in_turn}
use Rattle.run_table.specs.Made.{joined, told_from, told_made}
use Rattle.nc_outside.specs.declared.reason.Reason.{Reason}
use Rattle.two_path.specs.Made.{moves_made_in, moves_in, moves_of, turns_from}
use Rattle.move_list.specs.Report.{lined_text}
use Rattle.move_list.proofs.Streams.{later_moves}
use Rattle.nc_restart.specs.Pair.{tapes_in, opening_of}
use Rattle.turret_run.specs.Served.{GetsAll}
use Rattle.lathe_calls.specs.Answers.{Answer, tells, nothing, whole, cut, unwritten, untold}
use Rattle.lathe_looks.specs.declared.fetching.FileFault.{FileFault}
use Rattle.lathe_looks.specs.declared.fetching.FileFault.TheVariants.{Failed, Absent, TooLong}
use Rattle.lathe_looks.specs.Fetched.{IsOfFiles, not_had, unread, answers, fault_status}
use Rattle.lathe_looks.specs.Shown.{unfound_answer}
use Rattle.lathe_looks.specs.Named.{Named, pair_texts}
use Rattle.lathe_looks.specs.Standing.{is_over}
use Rattle.lathe_top.specs.Done as done
use Rattle.lathe_top.specs.Done.{Call, command_of, IsDone, IsDue, IsDueTo}
use Rattle.lathe_top.specs.Kept.{Opening, anew, again, IsOpened, KeepsSession, RestsWhole}
use Rattle.lathe_top.specs.Kinds.{kind_of}
use Rattle.lathe_top.specs.Lathe.{AreAtRest}
use Rattle.lathe_top.specs.Ran.{TextOf, IsReported, reported, unprepared, IsRun, refused, unjudged, not_begun, ran, unbegun_answer, IsResumed, not_found, resumed}
use Rattle.lathe_calls.specs.Statuses.{reason_status}
use Rattle.lathe_top.specs.Session.{IsSession, Session, machine_found}
use Rattle.lathe_top.specs.Streams.{GetsStream, HasStreams, IsStream, IsUncut, MakesRecords, moves_got, report_lines}
use Rattle.lathe_top.specs.Turrets.{due_to, IsEnding}

-- the moves among two lists are those of the first and then those of the second
got_of_both : (a b : List Got) → moves_got (a ++ b) ≡ moves_got a ++ moves_got b
got_of_both [] b = refl
got_of_both (Placed at ∷ a) b = got_of_both a b
got_of_both (Moved what ∷ a) b = ap (λ l. what ∷ l) (got_of_both a b)
got_of_both (Rested at ∷ a) b = got_of_both a b

-- the moves among moves are these
all_moves : (moves : List LinedMove) → moves_got (map Moved moves) ≡ moves
all_moves [] = refl
all_moves (what ∷ moves) = ap (λ l. what ∷ l) (all_moves moves)

-- the moves among what a turn tells are those that it makes
turn_moves : (t : Turn) → moves_got (told_in_turn t) ≡ moves_made_in t
turn_moves (turn.Read variable stamp) = refl
turn_moves (turn.Did moves) = all_moves (lined_moves moves)
turn_moves (turn.Arrived code) = refl
turn_moves (turn.Met code) = refl
turn_moves (turn.Ended moves) = all_moves (lined_moves moves)
turn_moves (turn.Waiting code) = refl
turn_moves turn.Finished = refl
turn_moves (turn.Alarm alarm) = refl
turn_moves (turn.Halted alarm) = refl
turn_moves turn.Edited = refl

-- a turret is told no move by a rest
no_rest_moves : (r : Resting) → moves_got (rest_told r) ≡ []
no_rest_moves Unasked = refl
no_rest_moves (Asked code) = refl
no_rest_moves (Rests code) = refl

-- the moves that a path's records tell are those of its report
same_moves : (tapes : Tapes) (m : MachineView) (path : Path) (entries : List Entry)
    → moves_got (joined (told_from tapes m path entries)) ≡ moves_of tapes m path entries
unfolding moves_in turns_from
same_moves tapes m path [] = refl
same_moves tapes m path (e ∷ entries) =
    go (is_same path e.path) refl (same_moves tapes (behind_entry tapes e m) path entries)
  where
    go : (b : Bool) → is_same path e.path ≡ b
        → moves_got (joined (told_from tapes (behind_entry tapes e m) path entries)) ≡ moves_of tapes (behind_entry tapes e m) path entries
        → moves_got (joined (told_from tapes m path (e ∷ entries))) ≡ moves_of tapes m path (e ∷ entries)
    go true is rest = rw is (got_of_both (told_in_turn (turn_of_entry tapes e m)) (joined (told_from tapes (behind_entry tapes e m) path entries))
        ∙ ap (λ (l : List LinedMove). l ++ moves_got (joined (told_from tapes (behind_entry tapes e m) path entries))) (turn_moves (turn_of_entry tapes e m))
        ∙ ap (λ (l : List LinedMove). moves_made_in (turn_of_entry tapes e m) ++ l) rest)
    go false is rest = rw is rest

-- what is due to a turret is written as the stream of its path
stream_due : (s : Session) (resting : Both Resting) (path : Path) → take (length s.found) s.history ≡ s.found → IsStream s path (stream_of (due_to s (length s.history) resting path))
stream_due s resting path extends =
    let tapes = tapes_in s.pair in
    let later = drop (length s.found) s.history in
    let told = told_made s.pair path (length s.found) (length s.history) s.history in
    let rest = rest_told (of_path resting path) in
    let all : take (length s.history) s.history ≡ s.history = take_all (length s.history) s.history (omega arith) in
    let moves : moves_got told ≡ moves_of tapes (machine_found s) path later =
    ap (λ (h : List Entry). moves_got (joined (told_from tapes (fold tapes (opening_of s.pair) h) path (drop (length s.found) (take (length s.history) s.history))))) extends
    ∙ ap (λ (h : List Entry). moves_got (joined (told_from tapes (machine_found s) path (drop (length s.found) h)))) all
    ∙ same_moves tapes (machine_found s) path later in
    let among : moves_got ((told ++ rest) ++ Rested End ∷ []) ≡ moves_of tapes (machine_found s) path later =
    got_of_both (told ++ rest) (Rested End ∷ []) ∙ append-nil (moves_got (told ++ rest)) ∙ got_of_both told rest
    ∙ ap (λ (l : List LinedMove). moves_got told ++ l) (no_rest_moves (of_path resting path)) ∙ append-nil (moves_got told) ∙ moves in
    let parts : s.history ≡ s.found ++ later = sym (take-append-drop (length s.found) s.history) ∙ ap (λ (h : List Entry). h ++ later) extends in
    record {
      got = (told ++ rest) ++ Rested End ∷ [];
      stream = refl;
      report = ap (report_lines s.pair path) parts
          ∙ ap (flat_map lined_text) (later_moves tapes (opening_of s.pair) path s.found later)
          ∙ flat_map-append lined_text (moves_of tapes (opening_of s.pair) path s.found) (moves_of tapes (machine_found s) path later)
          ∙ ap (λ (l : List LinedMove). report_lines s.pair path s.found ++ flat_map lined_text l) (sym among);
    }

-- a turret that got these more has, if it makes known what it got, these at the end
told_on : (old new : TurretState) (what : List Got) (calls : ℕ) → Adds old.received new.received what calls → (was : Received)
    → old.received ≡ Some was → (now : Received) × (new.received ≡ Some now) × (now.got ≡ was.got ++ what)
told_on old new what calls adds was is =
    let more : Adds (Some was) new.received what calls = subst (λ (r : Option Received). Adds r new.received what calls) is adds in
    (_, more, refl)

-- what a turret got, or an empty list if it does not make that known
got_of : Option Received → List Got
got_of (Some received) = received.got
got_of None = []

-- what holds of a value by one property holds of it by each that follows
for_some : (w : Option (List ℕ)) (P Q : List ℕ → Type 0) → ((b : List ℕ) → P b → Q b) → ForSome w P → ForSome w Q
for_some w P Q more holds = λ b is. more b (holds b is)

-- a turret that got all that is due got the stream of its path
gets_stream : (s : Session) (resting : Both Resting) (path : Path) (old new : TurretState) → take (length s.found) s.history ≡ s.found
    → GetsAll (due_to s (length s.history) resting path) old new → GetsStream s path old new
unfolding got_of told_on
gets_stream s resting path old new extends all =
    let gets = all.gets in
    let what = due_to s (length s.history) resting path in
    let adds : Adds old.received new.received what (length what + 0) =
    subst (λ (g : List Got). Adds old.received new.received g (length what + 0)) (take_all (length what) what (omega arith)) gets.received in
    let calm : new.faults ≡ old.faults = gets.counted.kept (λ p. true≢false (sym p)) in
    let is = stream_due s resting path extends in
    record {
      got = what;
      is = is;
      told = told_on old new what _ adds;
      calm = calm;
      written = λ written has calls faults fresh after stream.
          let begun : old.received ≡ Some (record { got = []; calls = 0 }) = ap (λ (t : TurretState). t.received) fresh in
          let now = told_on old new what _ adds _ begun in
          let ends : new.received ≡ Some (record { got = has; calls = calls }) = ap (λ (t : TurretState). t.received) after in
          let both : ◌≡◌ {A = Option Received} (Some now.0) (Some (record { got = has; calls = calls })) = sym now.1 ∙ ends in
          let same : has ≡ what = sym (ap got_of both) ∙ now.2 in
          let none : faults ≡ 0 = sym (ap (λ (t : TurretState). t.faults) after) ∙ calm ∙ ap (λ (t : TurretState). t.faults) fresh in
          for_some written _ _ (λ bytes lines. subst (IsStream s path) (sym (lines ∙ ap stream_of same)) is) (stream.whole none);
    }

-- 1 and 2 are no statuses of a run that was not cut off
no_low : (n : ℕ) → 0 < n → n < 3 → IsUncut n → ⊥
no_low n low high (inl is) = omega (arith, is, low)
no_low n low high (inr (inl is)) = omega (arith, is, high)
no_low n low high (inr (inr (inl is))) = omega (arith, is, high)
no_low n low high (inr (inr (inr is))) = omega (arith, is, high)

-- 4 to 9 are no statuses of a run that was not cut off
no_mid : (n : ℕ) → 3 < n → n < 10 → IsUncut n → ⊥
no_mid n low high (inl is) = omega (arith, is, low)
no_mid n low high (inr (inl is)) = omega (arith, is, low)
no_mid n low high (inr (inr (inl is))) = omega (arith, is, high)
no_mid n low high (inr (inr (inr is))) = omega (arith, is, high)

-- 11 to 13 are no statuses of a run that was not cut off
no_high : (n : ℕ) → 10 < n → n < 14 → IsUncut n → ⊥
no_high n low high (inl is) = omega (arith, is, low)
no_high n low high (inr (inl is)) = omega (arith, is, low)
no_high n low high (inr (inr (inl is))) = omega (arith, is, low)
no_high n low high (inr (inr (inr is))) = omega (arith, is, high)

-- the status of an answer; of nothing it is 12, as memory ran out or a thread was refused
abbrev answer_status : Answer → ℕ
answer_status (tells status text) = status
answer_status nothing = 12

-- the status of a file that can't be read is none of a run that was not cut off
missing_status : (fault : FileFault) → IsUncut (fault_status fault) → ⊥
missing_status Failed uncut = no_mid 4 (omega arith) (omega arith) uncut
missing_status Absent uncut = no_high 13 (omega arith) (omega arith) uncut
missing_status TooLong uncut = no_high 13 (omega arith) (omega arith) uncut

-- the status of a journal that is not begun is none of a run that was not cut off
unbegun_status : (fault : GateFault) → IsUncut (answer_status (unbegun_answer fault)) → ⊥
unbegun_status gate.DiskFault uncut = no_mid 6 (omega arith) (omega arith) uncut
unbegun_status gate.RunThere uncut = no_mid 8 (omega arith) (omega arith) uncut
unbegun_status gate.NoRun uncut = no_high 12 (omega arith) (omega arith) uncut
unbegun_status (gate.Cut at) uncut = no_high 12 (omega arith) (omega arith) uncut
unbegun_status gate.NoMemory uncut = no_high 12 (omega arith) (omega arith) uncut

-- the status of a run that is not found is none of a run that was not cut off
unfound_status : (fault : RestartFault) → IsUncut (answer_status (unfound_answer fault)) → ⊥
unfound_status restart.DiskFault uncut = no_mid 6 (omega arith) (omega arith) uncut
unfound_status restart.NoRun uncut = no_mid 8 (omega arith) (omega arith) uncut
unfound_status (restart.Cut at) uncut = no_mid 9 (omega arith) (omega arith) uncut
unfound_status (restart.BadRecord offset cause) uncut = no_mid 9 (omega arith) (omega arith) uncut
unfound_status restart.NoMemory uncut = no_high 12 (omega arith) (omega arith) uncut

-- a call of the program
module _ {D E : Type 0} (state : D → DiskState) (second : E → DiskState) (call : Call E) where
  -- each turret got all that is due to it by this session
  abbrev AllGot : Session → ℕ → Type 0
  AllGot s least = (resting : Both Resting) × ((path : Path) → GetsAll (due_to s least resting path) (of_path call.before.lathe.turrets path) (of_path call.after.lathe.turrets path))

  -- of a session whose turrets got all that is due, or rested, each stream is written
  served : (opening : Opening) (s : Session) (reason : Reason) (least : ℕ) → IsSession s → IsOpened opening s call.before.lathe.disk
      → KeepsSession state opening s least call.before.lathe.disk call.after.lathe.disk → least ≡ length s.history
      → (is_over (machine_found s) ≡ true → AreAtRest call.before.lathe call.after.lathe)
      → (is_over (machine_found s) ≡ false → AllGot s least) → HasStreams state call (reason_status reason)
  served opening s reason least is opened keeps all over got = record {
    session = s;
    is = is;
    opening = opening;
    opened = opened;
    keeps = subst (λ (n : ℕ). KeepsSession state opening s n call.before.lathe.disk call.after.lathe.disk) all keeps;
    reason = reason;
    answered = refl;
    over = over;
    streams = λ more path. gets_stream s (got more).0 path _ _ is.goes_on.extends
        (subst (λ (n : ℕ). GetsAll (due_to s n (got more).0 path) (of_path call.before.lathe.turrets path) (of_path call.after.lathe.turrets path)) all
        ((got more).1 path));
  }

  -- a session whose reason has the status of a run that was not cut off wrote the stream of each
  -- path
  ended : (opening : Opening) (limit : ℕ) (s : Session) (reason : Reason) (least : ℕ) → IsUncut (reason_status reason) → IsSession s
      → IsOpened opening s call.before.lathe.disk → KeepsSession state opening s least call.before.lathe.disk call.after.lathe.disk
      → IsEnding limit reason s least call.before.lathe call.after.lathe → HasStreams state call (reason_status reason)
  ended opening limit s Reason.Done least uncut is opened keeps ends =
      served opening s Reason.Done least is opened keeps ends.enough ends.turrets.over (λ more. let served_by = ends.turrets.goes_on more in (served_by.0, served_by.2))
  ended opening limit s (Reason.Alarm alarm) least uncut is opened keeps ends =
      served opening s (Reason.Alarm alarm) least is opened keeps ends.enough ends.turrets.over (λ more. let served_by = ends.turrets.goes_on more in (served_by.0, served_by.2))
  ended opening limit s Reason.Stopped least uncut is opened keeps ends =
      served opening s Reason.Stopped least is opened keeps ends.enough ends.turrets.over (λ more. let served_by = ends.turrets.goes_on more in (served_by.0, served_by.2))
  ended opening limit s Reason.Full least uncut is opened keeps ends =
      served opening s Reason.Full least is opened keeps ends.enough ends.turrets.over (λ more. let served_by = ends.turrets.goes_on more in (served_by.0, served_by.2))
  ended opening limit s Reason.DiskFault least uncut is opened keeps ends = absurd (no_mid 6 (omega arith) (omega arith) uncut)
  ended opening limit s (Reason.TurretFault path) least uncut is opened keeps ends = absurd (no_mid 7 (omega arith) (omega arith) uncut)

  -- a session that is reported with the status of a run that was not cut off wrote the stream of
  -- each path
  told_of_session : (opening : Opening) (limit : ℕ) (text_of : TextOf) (s : Session) (answer : Answer) → IsSession s
      → IsOpened opening s call.before.lathe.disk → IsReported state opening limit text_of s call.before.lathe call.after.lathe answer
      → IsUncut (answer_status answer) → HasStreams state call (answer_status answer)
  told_of_session opening limit text_of s answer is opened (reported {reason} least ends keeps) uncut =
      ended opening limit s reason least uncut is opened keeps ends
  told_of_session opening limit text_of s answer is opened (unprepared least none keeps) uncut =
      absurd (no_high 12 (omega arith) (omega arith) uncut)

  -- `run` over its texts, with the status of a run that was not cut off, wrote the stream of each
  -- path
  run_streams : (limit : ℕ) (text_of : TextOf) (texts : Texts) (answer : Answer)
      → IsRun state limit text_of texts call.before.lathe call.after.lathe answer → IsUncut (answer_status answer) → HasStreams state call (answer_status answer)
  run_streams limit text_of texts answer (refused of_texts text rests) uncut = absurd (no_low 1 (omega arith) (omega arith) uncut)
  run_streams limit text_of texts answer (unjudged rests) uncut = absurd (no_high 12 (omega arith) (omega arith) uncut)
  run_streams limit text_of texts answer (not_begun fault refusal rest) uncut = absurd (unbegun_status fault uncut)
  run_streams limit text_of texts answer (ran s is same opened report) uncut = told_of_session anew limit text_of s answer is opened report uncut

  -- `run` over its files, with the status of a run that was not cut off, wrote the stream of each
  -- path
  files_streams : (limit : ℕ) (text_of : TextOf) (files : List Named) (answer : Answer)
      → IsOfFiles pair_texts files (RestsWhole call.before.lathe call.after.lathe)
      (λ texts. IsRun state limit text_of texts call.before.lathe call.after.lathe) call.before.shelf call.after.shelf answer
      → IsUncut (answer_status answer) → HasStreams state call (answer_status answer)
  files_streams limit text_of files answer (not_had {fault = fault} missing rests) uncut = absurd (missing_status fault uncut)
  files_streams limit text_of files answer (unread some rests) uncut = absurd (no_high 12 (omega arith) (omega arith) uncut)
  files_streams limit text_of files answer (answers texts are run) uncut = run_streams limit text_of (pair_texts texts) answer run uncut

  -- `resume`, with the status of a run that was not cut off, wrote the stream of each path
  resumed_streams : (limit : ℕ) (answer : Answer) → IsResumed state limit call.before.lathe call.after.lathe answer → IsUncut (answer_status answer)
      → HasStreams state call (answer_status answer)
  resumed_streams limit answer (not_found fault recovers rest) uncut = absurd (unfound_status fault uncut)
  resumed_streams limit answer (resumed s is opened report) uncut = told_of_session again limit _ s answer is opened report uncut

  -- each command that makes records, with the status of a run that was not cut off, wrote the
  -- stream of each path
  due_streams : (asked : Command) (answer : Answer) → IsDueTo state second asked call.before call.after answer → MakesRecords (kind_of (Some asked))
      → IsUncut (answer_status answer) → HasStreams state call (answer_status answer)
  due_streams (command.Verify left right settings) answer due makes uncut = absurd makes
  due_streams (command.Trace left right settings limit) answer due makes uncut = absurd makes
  due_streams (command.Races left right settings) answer due makes uncut = absurd makes
  due_streams (command.Waits left right settings outside) answer due makes uncut = absurd makes
  due_streams (command.Run left right settings limit turrets) answer due makes uncut = files_streams limit _ _ answer due uncut
  due_streams (command.Resume limit turrets) answer due makes uncut = resumed_streams limit answer due.0 uncut
  due_streams command.Moves answer due makes uncut = absurd makes
  due_streams command.State answer due makes uncut = absurd makes
  due_streams (command.Make number turrets) answer due makes uncut = run_streams _ _ _ answer due.0 uncut
  due_streams (command.Zones zones) answer due makes uncut = absurd makes
  due_streams (command.ZonesOf zones left right settings) answer due makes uncut = absurd makes
  due_streams (command.Expand tape) answer due makes uncut = absurd makes
  due_streams (command.Plain tape settings) answer due makes uncut = absurd makes
  due_streams (command.Edit edits) answer due makes uncut = absurd makes
  due_streams (command.Branch meetings) answer due makes uncut = absurd makes

  -- each call that makes records, and whose answer has the status of a run that was not cut off,
  -- wrote the streams
  call_streams : (answer : Answer) → IsDue state second call answer → MakesRecords (kind_of (command_of call)) → IsUncut (answer_status answer)
      → HasStreams state call (answer_status answer)
  call_streams answer (done.usage none rests still same) makes uncut = absurd (no_low 2 (omega arith) (omega arith) uncut)
  call_streams answer (done.unread rests still same) makes uncut = absurd (no_high 12 (omega arith) (omega arith) uncut)
  call_streams answer (done.commanded {command = asked} is due left) makes uncut =
      due_streams asked answer due (subst (λ c. MakesRecords (kind_of c)) is makes) uncut

  -- a call that makes records, and that ended with the status of a run that was not cut off, wrote
  -- the streams
  pub streams_of : (status : ℕ) → IsDone state second call status → MakesRecords (kind_of (command_of call)) → IsUncut status → HasStreams state call status
  streams_of status (whole due calm written) makes uncut = call_streams _ due makes uncut
  streams_of status (cut due rose n written) makes uncut = absurd (no_mid 5 (omega arith) (omega arith) uncut)
  streams_of status (unwritten due calm n written) makes uncut = absurd (no_high 12 (omega arith) (omega arith) uncut)
  streams_of status (untold due calm written) makes uncut = absurd (no_high 12 (omega arith) (omega arith) uncut)
