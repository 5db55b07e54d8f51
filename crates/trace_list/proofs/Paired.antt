-- Each meeting of a trace closes the open waits of both paths. It is proved by induction on the
-- history, with the waits that the machine has.
-- For the proof of `meetings_are_numbered_and_paired` (src/laws.rt).
use Rattle.std.proofs.Common.{◌≡◌, ℕ, ◌+◌, ◌==◌, ◌||◌, Bool, true, false, List, [], ◌∷◌, ◌++◌, refl, sym, subst, ap, ◌∙◌, append_assoc, Option, Some, None, arith}
use Rattle.std.specs.Prelude.{if◌then◌else◌, option_map}
use Rattle.nc_number.specs.declared.path.Path.{Path}
use Rattle.nc_number.specs.Both.{of_path}
use Rattle.nc_number.specs.declared.path.Path.TheVariants.{One, Two}
use Rattle.nc_number.specs.declared.point.Point.{Point}
use Rattle.nc_moves.specs.declared.alarm.Alarm.{Alarm}
use Rattle.nc_moves.specs.declared.motion.Move.{Move}
use Rattle.nc_moves.specs.declared.motion.Moves.{Moves}
use Rattle.run_records.specs.Entries.{Entry, edit_of}
use Rattle.run_records.specs.declared.edit.Edit.{Edit}
use Rattle.run_records.specs.declared.entry.EntryKind.{EntryKind}
use Rattle.path_state.specs.View.{PathView}
use Rattle.path_state.specs.Effect.{Effect, Need, Done, AtWait, AtEnd}
use Rattle.path_state.specs.Effect as effect
use Rattle.two_path.specs.declared.turn.Turn.{Turn}
use Rattle.two_path.specs.declared.turn.Turn.TheVariants as turn
use Rattle.two_path.specs.Machine.{MachineView, own_first, opening}
use Rattle.two_path.specs.Turns.{Blocks, Tapes, TurnResult, alarm_at, block_turn, kind_of, own_turn, result_at_wait, result_by, unless_idle}
use Rattle.two_path.specs.Histories.{IsLegal, IsStep, behind_entry, behind_own, with_reads}
use Rattle.two_path.specs.Again.{turn_by, turn_of_entry}
use Rattle.two_path.proofs.Edited.{step_of_next}
use Rattle.trace_list.specs.declared.looking.Look.{Look}
use Rattle.trace_list.specs.declared.looking.Standing.{Standing}
use Rattle.trace_list.specs.Meetings.{ArePaired, OpenWait, open_wait}
use Rattle.trace_list.specs.Trace.{block_lines, is_same_point, is_same_way, look_of, met_after, moved_lines, path_in, says_speed, shift_lines, spindle_lines, standing_of, traced_lines, turn_lines}
use Rattle.trace_list.specs.TraceText.{TraceLine, Shift, Spindle, Wait, Met, Raised, Ended}

-- lines are in order, by the open wait of this path and that of the other one
abbrev PairedFor : Path → Option OpenWait → Option OpenWait → ℕ → List TraceLine → Type 0
PairedFor One mine other met lines = ArePaired mine other met lines
PairedFor Two mine other met lines = ArePaired other mine met lines

-- the line of a shift leaves the open waits as they are
shift_on : (path : Path) (other : Option OpenWait) (met line : ℕ) (by : Point) (rest : List TraceLine) → PairedFor path None other met rest
    → PairedFor path None other met (Shift path line by ∷ rest)
shift_on One other met line by rest p = (refl, p)
shift_on Two other met line by rest p = (refl, p)

-- the line of the spindle's way leaves the open waits as they are
way_on : (path : Path) (other : Option OpenWait) (met line : ℕ) (surface : Bool) (rest : List TraceLine) → PairedFor path None other met rest
    → PairedFor path None other met (Spindle path line surface ∷ rest)
way_on One other met line surface rest p = (refl, p)
way_on Two other met line surface rest p = (refl, p)

-- the lines of moves leave the open waits as they are
moves_on : (path : Path) (other : Option OpenWait) (met line : ℕ) (moves : List Move) (rest : List TraceLine) → PairedFor path None other met rest
    → PairedFor path None other met (moved_lines path line moves ++ rest)
moves_on path other met line [] rest p = p
moves_on One other met line (x ∷ xs) rest p = (refl, moves_on One other met line xs rest p)
moves_on Two other met line (x ∷ xs) rest p = (refl, moves_on Two other met line xs rest p)

-- the line of an end leaves the open waits as they are
ended_on : (path : Path) (other : Option OpenWait) (met line : ℕ) (rest : List TraceLine) → PairedFor path None other met rest
    → PairedFor path None other met (Ended path line ∷ rest)
ended_on One other met line rest p = (refl, p)
ended_on Two other met line rest p = (refl, p)

-- the line of an alarm leaves the open waits as they are
raised_on : (path : Path) (other : Option OpenWait) (met line cause : ℕ) (value : _) (rest : List TraceLine) → PairedFor path None other met rest
    → PairedFor path None other met (Raised (alarm_at path line cause value) ∷ rest)
raised_on One other met line cause value rest p = (refl, p)
raised_on Two other met line cause value rest p = (refl, p)

-- the line of a wait opens it
wait_on : (path : Path) (other : Option OpenWait) (met line code : ℕ) (rest : List TraceLine) → PairedFor path (Some (open_wait line code)) other met rest
    → PairedFor path None other met (Wait path line code ∷ rest)
wait_on One other met line code rest p = (refl, p)
wait_on Two other met line code rest p = (refl, p)

-- the line of a shift, if there is one, leaves the open waits as they are
if_shift : (path : Path) (other : Option OpenWait) (met line : ℕ) (by : Point) (b : Bool) (rest : List TraceLine) → PairedFor path None other met rest
    → PairedFor path None other met ((if b then [] else Shift path line by ∷ []) ++ rest)
if_shift path other met line by true rest p = p
if_shift path other met line by false rest p = shift_on path other met line by rest p

-- the line of the spindle's way, if there is one, leaves the open waits as they are
if_way : (path : Path) (other : Option OpenWait) (met line : ℕ) (surface b : Bool) (rest : List TraceLine) → PairedFor path None other met rest
    → PairedFor path None other met ((if b then [] else Spindle path line surface ∷ []) ++ rest)
if_way path other met line surface true rest p = p
if_way path other met line surface false rest p = way_on path other met line surface rest p

-- the lines of a block leave the open waits as they are
block_on : (path : Path) (other : Option OpenWait) (met : ℕ) (moves : Moves) (before after : Look) (rest : List TraceLine) → PairedFor path None other met rest
    → PairedFor path None other met (block_lines path moves before after ++ rest)
block_on path other met moves before after rest p =
    let shift = shift_lines path moves.line before.shift after.shift in
    let way = spindle_lines path moves before.surface after.surface in
    let made = moved_lines path moves.line moves.list in
    subst (PairedFor path None other met)
    (ap (λ (t : List TraceLine). shift ++ t) (sym (append_assoc way made rest)) ∙ sym (append_assoc shift (way ++ made) rest))
    (if_shift path other met moves.line after.shift (is_same_point before.shift after.shift) (way ++ (made ++ rest))
    (if_way path other met moves.line after.surface (is_same_way before.surface after.surface || says_speed moves.list) (made ++ rest)
    (moves_on path other met moves.line moves.list rest p)))

-- the open wait of a path, by its place and the code at which it waits
abbrev waits : Blocks → PathView → Option ℕ → Option OpenWait
waits blocks path code = option_map (λ c. open_wait (blocks.line path.place) c) code

-- the line at which the other path stands
abbrev other_line : Path → Standing → ℕ
other_line One s = s.lines.two
other_line Two s = s.lines.one

-- a wait at which the other path waits already, and the meeting of both, close both waits
met_on : (path : Path) (met code there : ℕ) (before : Standing) (other_line_is : ℕ) (rest : List TraceLine) → code ≡ there → other_line path before ≡ other_line_is
    → PairedFor path None None (met + 1) rest
    → PairedFor path None (Some (open_wait other_line_is there)) met (Wait path (of_path before.lines path) code ∷ Met (met + 1) code before.lines.one before.lines.two ∷ rest)
met_on One met code there before line rest same is p =
    (refl, (refl, ap (λ c. Some (open_wait line c)) (sym same) ∙ ap (λ n. Some (open_wait n code)) (sym is), refl, p))
met_on Two met code there before line rest same is p =
    (refl, (ap (λ c. Some (open_wait line c)) (sym same) ∙ ap (λ n. Some (open_wait n code)) (sym is), refl, refl, p))

-- the lines after a turn of the path whose part stands first are in order
abbrev After : Blocks → Blocks → Path → ℕ → List TraceLine → TurnResult → Type 0
After blocks other path met rest r =
    PairedFor path (waits blocks r.machine.paths.one.path r.machine.paths.one.waiting) (waits other r.machine.paths.two.path r.machine.paths.two.waiting)
    (met_after met r.turn) rest

-- A turn of the path whose part stands first, by what its block comes to: if the lines after it are
-- in order, so are its own lines and those.
module _ (blocks other : Blocks) (path : Path) (met : ℕ) (m : MachineView) (before : Standing) (after : Look) (rest : List TraceLine)
    (here : of_path before.lines path ≡ blocks.line m.paths.one.path.place) (there : other_line path before ≡ other.line m.paths.two.path.place)
    (none : m.paths.one.waiting ≡ None) where
  -- after a block the path does not wait
  goes : (at : PathView) (theirs : Option OpenWait) (n : ℕ) → PairedFor path (waits blocks at m.paths.one.waiting) theirs n rest → PairedFor path None theirs n rest
  goes at theirs n p = subst (λ (w : Option ℕ). PairedFor path (waits blocks at w) theirs n rest) none p

  -- the turn of a path that comes to a wait: it opens the wait, meets the other path that waits at
  -- the same code, or raises an alarm if that waits at another code
  wait_step : (code : ℕ) (o : Option ℕ) → After blocks other path met rest (result_at_wait path (blocks.line m.paths.one.path.place) m code o) → m.paths.two.waiting ≡ o
      → PairedFor path None (waits other m.paths.two.path o) met
      (turn_lines path met before after (result_at_wait path (blocks.line m.paths.one.path.place) m code o).turn ++ rest)
  wait_step code None p is =
      subst (λ n. PairedFor path None (waits other m.paths.two.path None) met (Wait path n code ∷ rest)) (sym here)
      (wait_on path (waits other m.paths.two.path None) met (blocks.line m.paths.one.path.place) code rest
      (subst (λ (w : Option ℕ). PairedFor path (Some (open_wait (blocks.line m.paths.one.path.place) code)) (waits other m.paths.two.path w) met rest) is p))
  wait_step code (Some far) p is = go (code == far) refl p
    where
      go : (b : Bool) → (code == far) ≡ b → After blocks other path met rest (result_at_wait path (blocks.line m.paths.one.path.place) m code (Some far))
          → PairedFor path None (waits other m.paths.two.path (Some far)) met
          (turn_lines path met before after (result_at_wait path (blocks.line m.paths.one.path.place) m code (Some far)).turn ++ rest)
      go true e p =
          let same : code ≡ far = grind arith in
          let q = rw e at p in
          rw e (met_on path met code far before (other.line m.paths.two.path.place) rest same there q)
      go false e p =
          let q = rw e at p in
          rw e (raised_on path (waits other m.paths.two.path (Some far)) met (blocks.line m.paths.one.path.place) _ _ rest
          (subst (λ (w : Option ℕ). PairedFor path None (waits other m.paths.two.path w) met rest) is (goes m.paths.one.path (waits other m.paths.two.path m.paths.two.waiting) met q)))

  -- the turn of a path, by what its block comes to: a read, moves, a wait, an end, or an alarm
  effect_step : (e : Effect) → After blocks other path met rest (result_by path (blocks.line m.paths.one.path.place) m e)
      → PairedFor path None (waits other m.paths.two.path m.paths.two.waiting) met
      (turn_lines path met before after (result_by path (blocks.line m.paths.one.path.place) m e).turn ++ rest)
  effect_step (Need variable) p = goes m.paths.one.path (waits other m.paths.two.path m.paths.two.waiting) met p
  effect_step (Done at write moves) p =
      let made : Moves = record { line = blocks.line m.paths.one.path.place; list = moves } in
      block_on path (waits other m.paths.two.path m.paths.two.waiting) met made before.look after rest (goes at (waits other m.paths.two.path m.paths.two.waiting) met p)
  effect_step (AtWait code) p = wait_step code m.paths.two.waiting p refl
  effect_step (AtEnd at moves) p =
      let line = blocks.line m.paths.one.path.place in
      let made : Moves = record { line = line; list = moves } in
      subst (PairedFor path None (waits other m.paths.two.path m.paths.two.waiting) met)
      (sym (append_assoc (block_lines path made before.look after) (Ended path line ∷ []) rest))
      (block_on path (waits other m.paths.two.path m.paths.two.waiting) met made before.look after (Ended path line ∷ rest)
      (ended_on path (waits other m.paths.two.path m.paths.two.waiting) met line rest (goes at (waits other m.paths.two.path m.paths.two.waiting) met p)))
  effect_step (effect.Alarm number value) p =
      raised_on path (waits other m.paths.two.path m.paths.two.waiting) met (blocks.line m.paths.one.path.place) number value rest
      (goes m.paths.one.path (waits other m.paths.two.path m.paths.two.waiting) met p)

-- a path that does not wait, and whose turn is that of its block
record IsAwake (m : MachineView) (r rest : TurnResult) : Type 0 where
  -- the path whose part stands first does not wait
  none : m.paths.one.waiting ≡ None
  -- its turn `r` is that of its block, `rest`
  same : r ≡ rest

-- a path that makes a record does not wait, and its turn is that of its block
awake_by : (m : MachineView) (a : Option Alarm) (f : Bool) (w : Option ℕ) (rest : TurnResult) (kind : EntryKind) → m.paths.one.waiting ≡ w
    → kind_of (unless_idle m a f w rest).turn ≡ Some kind → IsAwake m (unless_idle m a f w rest) rest
awake_by m (Some alarm) f w rest kind is makes = absurd (cc)
awake_by m None true w rest kind is makes = absurd (cc)
awake_by m None false (Some code) rest kind is makes = absurd (cc)
awake_by m None false None rest kind is makes = record { none = is; same = refl }

-- if the lines after a record of the path whose part stands first are in order, so are its own
-- lines and those
step_on : (blocks other : Blocks) (path : Path) (kind : EntryKind) (stamps : List ℕ) (met : ℕ) (m : MachineView) (before : Standing) (after : Look) (rest : List TraceLine)
    → of_path before.lines path ≡ blocks.line m.paths.one.path.place → other_line path before ≡ other.line m.paths.two.path.place → IsStep blocks path m kind stamps
    → After blocks other path met rest (own_turn blocks path (with_reads blocks stamps m))
    → PairedFor path (waits blocks m.paths.one.path m.paths.one.waiting) (waits other m.paths.two.path m.paths.two.waiting) met
    (turn_lines path met before after (own_turn blocks path (with_reads blocks stamps m)).turn ++ rest)
step_on blocks other path kind stamps met m before after rest here there step p =
    let now = with_reads blocks stamps m in
    let awake = awake_by now now.alarm now.paths.one.finished now.paths.one.waiting (block_turn blocks path now) kind refl step.is in
    let q = subst (After blocks other path met rest) awake.same p in
    let done = effect_step blocks other path met now before after rest here there awake.none (blocks.effect now.paths.one.path now.paths.one.values) q in
    subst (λ (w : Option ℕ). PairedFor path (waits blocks m.paths.one.path w) (waits other m.paths.two.path m.paths.two.waiting) met
    (turn_lines path met before after (own_turn blocks path (with_reads blocks stamps m)).turn ++ rest)) (sym awake.none)
    (subst (λ (r : TurnResult). PairedFor path None (waits other m.paths.two.path m.paths.two.waiting) met (turn_lines path met before after r.turn ++ rest)) (sym awake.same) done)

-- the open wait of a path in a machine
abbrev open_in : Tapes → Path → MachineView → Option OpenWait
open_in tapes path m = waits (of_path tapes path) (path_in path m) (of_path m.paths path).waiting

-- the turn of a record, which is an edit or has these stamps
abbrev turn_after : Tapes → Path → Option Edit → List ℕ → MachineView → Turn
turn_after tapes path edit stamps m = turn_by (of_path tapes path) path edit stamps (own_first path m)

-- the machine after a record, as the record's own path sees it
abbrev machine_after : Tapes → Path → Option Edit → List ℕ → MachineView → MachineView
machine_after tapes path edit stamps m = own_first path (behind_own (of_path tapes path) path edit stamps (own_first path m))

-- if the lines after a record are in order, so are its own lines and those; an edit has no line,
-- and leaves each path where it is
entry_on : (tapes : Tapes) (path : Path) (kind : EntryKind) (edit : Option Edit) (stamps : List ℕ) (met : ℕ) (m : MachineView) (after : Look) (rest : List TraceLine)
    → (edit ≡ None → IsStep (of_path tapes path) path (own_first path m) kind stamps)
    → ArePaired (open_in tapes One (machine_after tapes path edit stamps m)) (open_in tapes Two (machine_after tapes path edit stamps m))
    (met_after met (turn_after tapes path edit stamps m)) rest
    → ArePaired (open_in tapes One m) (open_in tapes Two m) met (turn_lines path met (standing_of tapes path m) after (turn_after tapes path edit stamps m) ++ rest)
entry_on tapes One kind None stamps met m after rest step p =
    step_on tapes.one tapes.two One kind stamps met m (standing_of tapes One m) after rest refl refl (step refl) p
entry_on tapes Two kind None stamps met m after rest step p =
    step_on tapes.two tapes.one Two kind stamps met (own_first Two m) (standing_of tapes Two m) after rest refl refl (step refl) p
entry_on tapes One kind (Some edit) stamps met m after rest step p = p
entry_on tapes Two kind (Some edit) stamps met m after rest step p = p

-- from any machine on, the lines of a legal history are in order with the waits that are open there
paired_from : (tapes : Tapes) (met : ℕ) (m : MachineView) (entries : List Entry) → IsLegal tapes m entries
    → ArePaired (open_in tapes One m) (open_in tapes Two m) met (traced_lines tapes met m entries)
unfolding traced_lines
paired_from tapes met m [] legal = tt
paired_from tapes met m (e ∷ entries) legal =
    entry_on tapes e.path e.kind (edit_of e.kind) e.stamps met m (look_of (path_in e.path (behind_entry tapes e m)))
    (traced_lines tapes (met_after met (turn_of_entry tapes e m)) (behind_entry tapes e m) entries) (λ step. step_of_next tapes m e step legal.0)
    (paired_from tapes (met_after met (turn_of_entry tapes e m)) (behind_entry tapes e m) entries legal.1)

-- in the trace of a legal history each meeting closes the open waits of both paths
pub paired : (tapes : Tapes) (first second : PathView) (entries : List Entry) → IsLegal tapes (opening first second) entries
    → ArePaired None None 0 (traced_lines tapes 0 (opening first second) entries)
paired tapes first second entries legal = paired_from tapes 0 (opening first second) entries legal
