-- Whatever happens, what blocks have read is lawful: what the block asked for, at stamps in order,
-- and the values that these stamps stand for. Kept, Recorded and Scheduled build on it.
use Rattle.std.proofs.Common.{◌≡◌, ℕ, ◌+◌, ◌≤◌, ◌<◌, Bool, true, false, ◌==◌, List, [], ◌∷◌, ◌++◌, Option, Some, None, refl, sym, ap, ◌∙◌, arith}
use Rattle.std.proofs.lemmas.Bool.Decides.{nat_tests}
use Rattle.nc_number.specs.declared.path.Path.{Path}
use Rattle.nc_number.specs.declared.path.Path.TheVariants.{One, Two}
use Rattle.nc_number.specs.declared.value.Var.{Var}
use Rattle.nc_moves.specs.declared.alarm.Alarm.{Alarm}
use Rattle.run_records.specs.declared.edit.Edit.{Edit}
use Rattle.common_vars.specs.declared.links.Write.{Write}
use Rattle.common_vars.specs.Writes.{is_write_of, value_after}
use Rattle.common_vars.proofs.Laws.{seen_from_its_stamp}
use Rattle.path_state.specs.View.{PathView}
use Rattle.path_state.specs.Statements.{Write as Written}
use Rattle.path_state.specs.Effect.{Effect, Need, Done, AtWait, AtEnd}
use Rattle.path_state.specs.Effect as effect
use Rattle.two_path.specs.Machine.{Part, MachineView, own_first, part_without_reads, opening}
use Rattle.two_path.specs.Turns.{Blocks, Tapes, with_write, behind_meeting, with_alarm, crossed_waits, alarm_at, result_at_wait, result_by, own_turn}
use Rattle.two_path.specs.Edits.{behind_edit_of, unless_alarm}
use Rattle.two_path.specs.Histories.{Event, TurnOf, EditOf, behind_event, value_asked, and_next, values_from, AsksFrom, AreInOrder, is_idle, IsLawful, AreLawful}
use Rattle.two_path.proofs.Idle.{is_still, own_awake, own_still, awake_part}

-- a write of a later record isn't one that a reader after k records sees
passes_over : (k v : ℕ) (w : Write) → k < w.stamp → is_write_of k v w ≡ false
passes_over k v w later = grind (arith, nat_tests)

-- a write of a later record, added at the end, changes no value that a variable held before
value_push : (writes : List Write) (w : Write) (k v : ℕ) → k < w.stamp → value_after k v (writes ++ w ∷ []) ≡ value_after k v writes
value_push writes w k v later = seen_from_its_stamp writes w k v ∙ rw (passes_over k v w later) refl

-- what a variable held early is the same when one record more has written
pub value_written : (o : Option Written) (writes : List Write) (c k v : ℕ) → k ≤ c → value_after k v (with_write (c + 1) o writes) ≡ value_after k v writes
value_written None writes c k v h = refl
value_written (Some w) writes c k v h = value_push writes (record { stamp = c + 1; variable = w.variable; value = w.value }) k v (omega arith)

-- the value that a block asks for early is the same when one record more has written
asked_written : (e : Effect) (o : Option Written) (writes : List Write) (c k : ℕ) → k ≤ c
    → value_asked e k (with_write (c + 1) o writes) ≡ value_asked e k writes
asked_written (Need v) o writes c k h = value_written o writes c k v h
asked_written (Done path write moves) o writes c k h = refl
asked_written (AtWait code) o writes c k h = refl
asked_written (AtEnd path moves) o writes c k h = refl
asked_written (effect.Alarm number value) o writes c k h = refl

-- the values with the next one are the same when one record more has written
pub next_written : (blocks : Blocks) (path : PathView) (o : Option Written) (writes : List Write) (c k : ℕ) (values : List Var) → k ≤ c
    → and_next blocks path (with_write (c + 1) o writes) k values ≡ and_next blocks path writes k values
next_written blocks path o writes c k values h = ap (λ v. values ++ v ∷ []) (asked_written (blocks.effect path values) o writes c k h)

-- all values that stamps stand for are the same when one record more has written
pub values_written : (blocks : Blocks) (path : PathView) (o : Option Written) (writes : List Write) (c low : ℕ) (values : List Var) (ks : List ℕ)
    → AreInOrder low c ks → values_from blocks path (with_write (c + 1) o writes) values ks ≡ values_from blocks path writes values ks
values_written blocks path o writes c low values [] i = refl
values_written blocks path o writes c low values (k ∷ ks) i =
    rw (next_written blocks path o writes c k values i.1) (values_written blocks path o writes c k (and_next blocks path writes k values) ks i.2)

-- a block that asks for a variable at each stamp does so when one record more has written
asks_written : (blocks : Blocks) (path : PathView) (o : Option Written) (writes : List Write) (c low : ℕ) (values : List Var) (ks : List ℕ)
    → AreInOrder low c ks → AsksFrom blocks path writes values ks → AsksFrom blocks path (with_write (c + 1) o writes) values ks
asks_written blocks path o writes c low values [] i a = tt
asks_written blocks path o writes c low values (k ∷ ks) i a =
    (a.0, rw (next_written blocks path o writes c k values i.1) (asks_written blocks path o writes c k (and_next blocks path writes k values) ks i.2 a.1))

-- stamps in order up to one number are so up to a greater one
order_up : (low high more : ℕ) (ks : List ℕ) → AreInOrder low high ks → high ≤ more → AreInOrder low more ks
order_up low high more [] i h = tt
order_up low high more (k ∷ ks) i h = (i.0, omega (arith, i.1), order_up k high more ks i.2 h)

-- stamps in order are so with one more at the end that is no less than all
order_push : (low high c : ℕ) (ks : List ℕ) → AreInOrder low high ks → low ≤ c → high ≤ c → AreInOrder low c (ks ++ c ∷ [])
order_push low high c [] i l h = (l, omega arith, tt)
order_push low high c (k ∷ ks) i l h = let up : k ≤ c = omega (arith, i.1) in (i.0, up, order_push k high c ks i.2 up h)

-- one stamp more stands for one value more
pub values_push : (blocks : Blocks) (path : PathView) (writes : List Write) (values : List Var) (ks : List ℕ) (k : ℕ)
    → values_from blocks path writes values (ks ++ k ∷ []) ≡ and_next blocks path writes k (values_from blocks path writes values ks)
values_push blocks path writes values [] k = refl
values_push blocks path writes values (j ∷ ks) k = values_push blocks path writes (and_next blocks path writes j values) ks k

-- with one stamp more the block asks at each of them, if it needs a variable behind those before
asks_push : (blocks : Blocks) (path : PathView) (writes : List Write) (values : List Var) (ks : List ℕ) (k v : ℕ)
    → AsksFrom blocks path writes values ks → blocks.effect path (values_from blocks path writes values ks) ≡ Need v
    → AsksFrom blocks path writes values (ks ++ k ∷ [])
asks_push blocks path writes values [] k v a e = ((v, e), tt)
asks_push blocks path writes values (j ∷ ks) k v a e = (a.0, asks_push blocks path writes (and_next blocks path writes j values) ks k v a.1 e)

-- what a path has read stays lawful when the other makes a record
later : (blocks : Blocks) (m : MachineView) (x : Part) (o : Option Written) (a : Option Alarm) → IsLawful blocks m
    → IsLawful blocks (record { paths = record { one = m.paths.one; two = x }; writes = with_write (m.count + 1) o m.writes; count = m.count + 1; alarm = a })
later blocks m x o a l = record {
  may = record {
    order = order_up m.paths.one.since m.count (m.count + 1) m.paths.one.stamps l.may.order (omega arith);
    asks = asks_written blocks m.paths.one.path o m.writes m.count m.paths.one.since [] m.paths.one.stamps l.may.order l.may.asks;
  };
  values = l.values ∙ sym (values_written blocks m.paths.one.path o m.writes m.count m.paths.one.since [] m.paths.one.stamps l.may.order);
  none = l.none;
  came = omega (arith, l.came);
}

-- a block that has read nothing has read lawfully
pub lawful_none : (blocks : Blocks) (m : MachineView) → m.paths.one.values ≡ [] → m.paths.one.stamps ≡ [] → m.paths.one.since ≤ m.count → IsLawful blocks m
lawful_none blocks m e' e c = record {
  may = record { order = rw e tt; asks = rw e tt };
  values = rw (e, e') refl;
  none = λ _. e;
  came = c;
}

-- what both paths' blocks have read is lawful: of the path whose part is first, and of the other
abbrev pub Sound : Blocks → Blocks → MachineView → Type 0
Sound mine theirs m = AreLawful (record { one = mine; two = theirs }) m

-- what both blocks have read is lawful with the paths changed over
sound_swap : (mine theirs : Blocks) (m : MachineView) → Sound mine theirs m → Sound theirs mine (own_first Two m)
sound_swap mine theirs m s = record { first = s.second; second = s.first }

-- after an alarm what both blocks have read is lawful
alarm_sound : (mine theirs : Blocks) (alarm : Alarm) (m : MachineView) → Sound mine theirs m → Sound mine theirs (with_alarm alarm m)
alarm_sound mine theirs alarm m s = record {
  first = lawful_none mine (with_alarm alarm m) refl refl (omega (arith, s.first.came));
  second = later theirs (own_first Two m) (part_without_reads m.paths.one) None (Some alarm) s.second;
}

-- after a turn at a wait what both blocks have read is lawful
wait_sound : (mine theirs : Blocks) (path : Path) (line : ℕ) (m : MachineView) (code : ℕ) (o : Option ℕ) → Sound mine theirs m
    → Sound mine theirs (result_at_wait path line m code o).machine
wait_sound mine theirs path line m code None s = record {
  first = lawful_none mine (result_at_wait path line m code None).machine refl refl (omega (arith, s.first.came));
  second = later theirs (own_first Two m) (result_at_wait path line m code None).machine.paths.one None m.alarm s.second;
}
wait_sound mine theirs path line m code (Some there) s = go (code == there) refl
  where
    go : (b : Bool) → (code == there) ≡ b → Sound mine theirs (result_at_wait path line m code (Some there)).machine
    go true e = rw e (record {
      first = lawful_none mine (behind_meeting m) refl refl (omega arith);
      second = lawful_none theirs (own_first Two (behind_meeting m)) refl refl (omega arith);
    })
    go false e = rw e (alarm_sound mine theirs (crossed_waits path line) m s)

-- after a turn by what the block comes to what both blocks have read is lawful
by_sound : (mine theirs : Blocks) (path : Path) (line : ℕ) (m : MachineView) (e : Effect) → Sound mine theirs m → is_still m ≡ false
    → mine.effect m.paths.one.path m.paths.one.values ≡ e → Sound mine theirs (result_by path line m e).machine
by_sound mine theirs path line m (Need v) s awake e = record {
  first = record {
    may = record {
      order = order_push m.paths.one.since m.count m.count m.paths.one.stamps s.first.may.order s.first.came (omega arith);
      asks = asks_push mine m.paths.one.path m.writes [] m.paths.one.stamps m.count v s.first.may.asks (rw (← s.first.values) e);
    };
    values = rw (values_push mine m.paths.one.path m.writes [] m.paths.one.stamps m.count, ← s.first.values, e) refl;
    none = λ i. absurd (let f : is_idle m.paths.one ≡ false = awake_part m.alarm (is_idle m.paths.one) awake in cc);
    came = s.first.came;
  };
  second = record { may = record { order = s.second.may.order; asks = s.second.may.asks }; values = s.second.values; none = s.second.none; came = s.second.came };
}
by_sound mine theirs path line m (Done to write moves) s awake e = record {
  first = lawful_none mine (result_by path line m (Done to write moves)).machine refl refl (omega arith);
  second = later theirs (own_first Two m) (result_by path line m (Done to write moves)).machine.paths.one write m.alarm s.second;
}
by_sound mine theirs path line m (AtWait code) s awake e = wait_sound mine theirs path line m code m.paths.two.waiting s
by_sound mine theirs path line m (AtEnd to moves) s awake e = record {
  first = lawful_none mine (result_by path line m (AtEnd to moves)).machine refl refl (omega (arith, s.first.came));
  second = later theirs (own_first Two m) (result_by path line m (AtEnd to moves)).machine.paths.one None m.alarm s.second;
}
by_sound mine theirs path line m (effect.Alarm number value) s awake e = alarm_sound mine theirs (alarm_at path line number value) m s

-- after each turn of the first path what both blocks have read is lawful
turn_sound : (mine theirs : Blocks) (path : Path) (m : MachineView) → Sound mine theirs m → Sound mine theirs (own_turn mine path m).machine
turn_sound mine theirs path m s = go (is_still m) refl
  where
    go : (b : Bool) → is_still m ≡ b → Sound mine theirs (own_turn mine path m).machine
    go true e = rw ((own_still mine path m e).0) s
    go false e = rw (own_awake mine path m e)
        (by_sound mine theirs path (mine.line m.paths.one.path.place) m (mine.effect m.paths.one.path m.paths.one.values) s e refl)

-- behind an edit no block has read anything
edit_sound : (tapes : Tapes) (p : Path) (edit : Edit) (m : MachineView) → AreLawful tapes (behind_edit_of p edit m)
edit_sound tapes One edit m = record {
  first = lawful_none tapes.one (behind_edit_of One edit m) refl refl (omega arith);
  second = lawful_none tapes.two (own_first Two (behind_edit_of One edit m)) refl refl (omega arith);
}
edit_sound tapes Two edit m = record {
  first = lawful_none tapes.one (behind_edit_of Two edit m) refl refl (omega arith);
  second = lawful_none tapes.two (own_first Two (behind_edit_of Two edit m)) refl refl (omega arith);
}

-- each event keeps lawful what blocks have read
pub event_sound : (tapes : Tapes) (e : Event) (m : MachineView) → AreLawful tapes m → AreLawful tapes (behind_event tapes e m)
event_sound tapes (TurnOf One) m s = turn_sound tapes.one tapes.two One m s
event_sound tapes (TurnOf Two) m s =
    sound_swap tapes.two tapes.one (own_turn tapes.two Two (own_first Two m)).machine
    (turn_sound tapes.two tapes.one Two (own_first Two m) (sound_swap tapes.one tapes.two m s))
event_sound tapes (EditOf p edit) m s = go m.alarm
  where
    go : (a : Option Alarm) → AreLawful tapes (unless_alarm a m (behind_edit_of p edit m))
    go (Some alarm) = s
    go None = edit_sound tapes p edit m

-- before the first turn no block has read anything, which is lawful
pub opening_sound : (tapes : Tapes) (first second : PathView) → AreLawful tapes (opening first second)
opening_sound tapes first second = record {
  first = lawful_none tapes.one (opening first second) refl refl (omega arith);
  second = lawful_none tapes.two (own_first Two (opening first second)) refl refl (omega arith);
}
