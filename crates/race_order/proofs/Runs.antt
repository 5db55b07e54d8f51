-- If no part has a race, all runs of the machine that finish have the same moves, the same paths
-- and the same values: from the pair of Together to the machine, for Flows.
use Rattle.std.proofs.Common.{◌≡◌, ℕ, ◌+◌, Bool, true, List, [], ◌∷◌, ◌++◌, Option, Some, None, refl, ap, sym, subst, ◌∙◌, arith, append-nil, append_assoc}
use Rattle.nc_number.specs.declared.path.Path.{Path}
use Rattle.nc_number.specs.declared.path.Path.TheVariants.{One, Two}
use Rattle.nc_number.specs.declared.value.Var.{Var}
use Rattle.nc_number.specs.declared.value.Var.TheVariants.{Vacant}
use Rattle.nc_moves.specs.declared.alarm.Alarm.{Alarm}
use Rattle.common_vars.specs.declared.links.Write.{Write}
use Rattle.path_state.specs.View.{PathView}
use Rattle.path_state.specs.Statements.{Write as Written}
use Rattle.two_path.specs.Machine.{Part, MachineView, own_first, opening}
use Rattle.two_path.specs.Turns.{Blocks, Tapes, TurnResult, unless_idle, block_turn, turn_of}
use Rattle.two_path.specs.Histories.{TurnOf, behind_event, run, turns_of}
use Rattle.race_order.proofs.Alone.{PathOf}
use Rattle.race_order.proofs.Together.{Pair, pair_at, Goes, one, two, meet, IsRun, begun, gone, IsFree, race_free_runs_agree}
use Rattle.race_order.proofs.Calm.{finished_calm}
use Rattle.race_order.proofs.Stable.{var_stable}
use Rattle.race_order.specs.Agreement.{Deed, own_deeds, other_deeds, turn_deeds, deeds_by, moves_among, AreDone, unstamped_part, but_for_order, AreMixed, Agree}
use Rattle.race_order.specs.Agreement as mixed
use Rattle.race_order.proofs.Machines.{Known, Told, nothing_told, path_of}
use Rattle.race_order.proofs.Turns.{shown, waits, with_other, other_behind, IsTold, IsFit, IsShown, own_shown}

-- the pair with its paths in the other order
abbrev pub swapped : {V : Type 0} → (p q : PathOf V) → Pair V p q → Pair V q p
swapped p q m = pair_at q p m.second m.first m.env

-- a turn of a pair is one of the pair with its paths in the other order
goes_swapped : {V : Type 0} → (p q : PathOf V) (m to : Pair V p q) → Goes p q m to → Goes q p (swapped p q m) (swapped p q to)
goes_swapped p q m _ one = two
goes_swapped p q m _ two = one
goes_swapped p q m _ (meet here there) = meet there here

-- a run of a pair is one of the pair with its paths in the other order
pub run_swapped : {V : Type 0} → (p q : PathOf V) (m to : Pair V p q) → IsRun p q m to → IsRun q p (swapped p q m) (swapped p q to)
run_swapped p q m _ begun = begun
run_swapped p q m _ (gone at to before goes) =
    gone (swapped p q at) (swapped p q to) (run_swapped p q m at before) (goes_swapped p q at to goes)

-- a run and another behind it are one
run_on : {V : Type 0} → (p q : PathOf V) (m between to : Pair V p q) → IsRun p q m between → IsRun p q between to → IsRun p q m to
run_on p q m between _ before begun = before
run_on p q m between _ before (gone at to more goes) = gone at to (run_on p q m between at before more) goes

-- writes that are mixed of two lists are mixed of them in the other order
mixed_swapped : (mine yours : List Written) (writes : List Write) → AreMixed mine yours writes → AreMixed yours mine writes
mixed_swapped _ _ _ mixed.none = mixed.none
mixed_swapped _ _ _ (mixed.one mine yours writes stamp w m) = mixed.two yours mine writes stamp w (mixed_swapped mine yours writes m)
mixed_swapped _ _ _ (mixed.two mine yours writes stamp w m) = mixed.one yours mine writes stamp w (mixed_swapped mine yours writes m)

-- if what both paths told is what the machine holds, so it is with the paths changed over
told_swapped : (m : MachineView) (t u : Told) → IsTold m t u → IsTold (own_first Two m) u t
told_swapped m t u told = record {
  count = (let all = told.count in omega arith);
  writes = mixed_swapped t.writes u.writes m.writes told.writes;
  first_code = told.second_code;
  second_code = told.first_code;
}

-- the blocks of both tapes
abbrev pub tapes_with : Blocks → Blocks → Tapes
tapes_with b d = record { one = b; two = d }

-- a turn of the machine without an alarm is shown by a run of the pair
pub turn_shown : (b d : Blocks) (k : Known b) (l : Known d) (x : Pair Var (path_of b k) (path_of d l)) (path : Path) (m : MachineView) (mine yours : List Deed)
    → IsShown b d k l x m mine yours → (turn_of (tapes_with b d) path m).machine.alarm ≡ None
    → IsShown b d k l x (turn_of (tapes_with b d) path m).machine
    (mine ++ turn_deeds One path (turn_of (tapes_with b d) path m)) (yours ++ turn_deeds Two path (turn_of (tapes_with b d) path m))
turn_shown b d k l x One m mine yours s calm =
    let next = own_shown b d k l One m mine yours s.one_told s.two_told s.env s.holds s.told s.first s.second calm in
    let to = (turn_of (tapes_with b d) One m).machine in
    let t = (turn_of (tapes_with b d) One m).turn in
    let log = mine ++ own_deeds t to.paths.one.path in
    let theirs = with_other t to.paths.two.path yours in
    subst (λ ys. IsShown b d k l x to log ys) (other_behind t to.paths.two.path yours) (record {
      env = next.env;
      one_told = next.one_told;
      two_told = next.two_told;
      run = run_on (path_of b k) (path_of d l) x (shown b d k l m mine yours s.one_told s.two_told s.env)
          (shown b d k l to log theirs next.one_told next.two_told next.env) s.run next.run;
      told = next.told;
      holds = next.holds;
      first = next.first;
      second = next.second;
    })
turn_shown b d k l x Two m mine yours s calm =
    let next = own_shown d b l k Two (own_first Two m) yours mine s.two_told s.one_told s.env s.holds
    (told_swapped m s.one_told s.two_told s.told) s.second s.first calm in
    let to = (turn_of (tapes_with b d) Two m).machine in
    let t = (turn_of (tapes_with b d) Two m).turn in
    let log = yours ++ own_deeds t to.paths.two.path in
    let theirs = with_other t to.paths.one.path mine in
    subst (λ xs. IsShown b d k l x to xs log) (other_behind t to.paths.one.path mine) (record {
      env = next.env;
      one_told = next.two_told;
      two_told = next.one_told;
      run = run_on (path_of b k) (path_of d l) x (shown b d k l m mine yours s.one_told s.two_told s.env)
          (shown b d k l to theirs log next.two_told next.one_told next.env) s.run
          (run_swapped (path_of d l) (path_of b k) (shown d b l k (own_first Two m) yours mine s.two_told s.one_told s.env)
          (shown d b l k (own_first Two to) log theirs next.one_told next.two_told next.env) next.run);
      told = told_swapped (own_first Two to) next.one_told next.two_told next.told;
      holds = next.holds;
      first = next.second;
      second = next.first;
    })

-- a turn of a machine with an alarm changes nothing
halted : (m : MachineView) (o : Option Alarm) (a : Alarm) → o ≡ Some a → (f : Bool) (w : Option ℕ) (r : TurnResult) → (unless_idle m o f w r).machine ≡ m
halted m (Some x) a e f w r = refl
halted m None a e f w r = absurd cc

-- behind a turn of either path an alarm is the same
halted_event : (tapes : Tapes) (path : Path) (m : MachineView) (a : Alarm) → m.alarm ≡ Some a → (behind_event tapes (TurnOf path) m).alarm ≡ Some a
halted_event tapes One m a e =
    ap (λ (x : MachineView). x.alarm) (halted m m.alarm a e m.paths.one.finished m.paths.one.waiting (block_turn tapes.one One m)) ∙ e
halted_event tapes Two m a e =
    ap (λ (x : MachineView). x.alarm)
    (halted (own_first Two m) m.alarm a e m.paths.two.finished m.paths.two.waiting (block_turn tapes.two Two (own_first Two m))) ∙ e

-- behind all turns an alarm is the same
halted_run : (tapes : Tapes) (m : MachineView) (a : Alarm) → m.alarm ≡ Some a → (turns : List Path) → (run tapes m (turns_of turns)).alarm ≡ Some a
halted_run tapes m a e [] = e
halted_run tapes m a e (path ∷ turns) =
    halted_run tapes (behind_event tapes (TurnOf path) m) a (halted_event tapes path m a e) turns

-- a run without an alarm had none before
pub calm_before : (tapes : Tapes) (m : MachineView) (turns : List Path) → (run tapes m (turns_of turns)).alarm ≡ None → m.alarm ≡ None
calm_before tapes m turns calm = go m.alarm refl
  where
    go : (o : Option Alarm) → m.alarm ≡ o → m.alarm ≡ None
    go (Some a) e = let on = halted_run tapes m a e turns in absurd cc
    go None e = e

-- a run of the machine without an alarm is shown by a run of the pair
pub run_shown : (b d : Blocks) (k : Known b) (l : Known d) (x : Pair Var (path_of b k) (path_of d l)) (m : MachineView) (mine yours : List Deed)
    → IsShown b d k l x m mine yours → (turns : List Path) → (run (tapes_with b d) m (turns_of turns)).alarm ≡ None
    → IsShown b d k l x (run (tapes_with b d) m (turns_of turns))
    (mine ++ deeds_by (tapes_with b d) One m turns) (yours ++ deeds_by (tapes_with b d) Two m turns)
run_shown b d k l x m mine yours s [] calm =
    subst (λ xs. IsShown b d k l x m xs (yours ++ [])) (sym (append-nil mine))
    (subst (λ ys. IsShown b d k l x m mine ys) (sym (append-nil yours)) s)
run_shown b d k l x m mine yours s (path ∷ turns) calm =
    let tapes = tapes_with b d in
    let to = (turn_of tapes path m).machine in
    let t = turn_of tapes path m in
    let next = turn_shown b d k l x path m mine yours s (calm_before tapes to turns calm) in
    let more = run_shown b d k l x to (mine ++ turn_deeds One path t) (yours ++ turn_deeds Two path t) next turns calm in
    subst (λ xs. IsShown b d k l x (run tapes to (turns_of turns)) xs (yours ++ deeds_by tapes Two m (path ∷ turns)))
    (append_assoc mine (turn_deeds One path t) (deeds_by tapes One to turns))
    (subst (λ ys. IsShown b d k l x (run tapes to (turns_of turns)) ((mine ++ turn_deeds One path t) ++ deeds_by tapes One to turns) ys)
    (append_assoc yours (turn_deeds Two path t) (deeds_by tapes Two to turns)) more)

-- parts with the same path, values, wait and end are the same but for numbers of records
same_part : (a b : Part) → a.path ≡ b.path → a.values ≡ b.values → a.waiting ≡ b.waiting → a.finished ≡ b.finished
    → unstamped_part a ≡ unstamped_part b
same_part a b path values waiting finished =
    λ i. record { path = path i; values = values i; stamps = []; waiting = waiting i; finished = finished i; since = 0 }

-- machines of parts that are the same but for numbers of records are the same but for order
same_machine : (m n : MachineView) → unstamped_part m.paths.one ≡ unstamped_part n.paths.one → unstamped_part m.paths.two ≡ unstamped_part n.paths.two
    → m.count ≡ n.count → m.alarm ≡ n.alarm → but_for_order m ≡ but_for_order n
same_machine m n first second count alarm =
    λ i. record { paths = record { one = first i; two = second i }; writes = []; count = count i; alarm = alarm i }

-- a path that has finished does not wait
done_waits : (part : Part) → IsFit part → part.finished ≡ true → part.waiting ≡ None
done_waits part fit done = go part.waiting refl
  where
    go : (o : Option ℕ) → part.waiting ≡ o → part.waiting ≡ None
    go None e = e
    go (Some code) e = let open_still = fit code e in absurd cc

-- if no path waits, the records of the machine are as many as both paths told
told_count : (m : MachineView) (t u : Told) → IsTold m t u → m.paths.one.waiting ≡ None → m.paths.two.waiting ≡ None
    → m.count ≡ t.records + u.records
told_count m t u told first second =
    let one : waits m.paths.one.waiting ≡ 0 = ap waits first in
    let two : waits m.paths.two.waiting ≡ 0 = ap waits second in
    let all = told.count in omega arith

-- the pair that shows a machine before its first turn
abbrev pub first_pair : (b d : Blocks) (k : Known b) (l : Known d) → PathView → PathView → Pair Var (path_of b k) (path_of d l)
first_pair b d k l first second = shown b d k l (opening first second) [] [] nothing_told nothing_told (λ _. Vacant)

-- a machine before its first turn is shown
pub first_shown : (b d : Blocks) (k : Known b) (l : Known d) (first second : PathView)
    → IsShown b d k l (first_pair b d k l first second) (opening first second) [] []
first_shown b d k l first second = record {
  env = λ _. Vacant;
  one_told = nothing_told;
  two_told = nothing_told;
  run = begun;
  told = record { count = refl; writes = mixed.none; first_code = λ code waits. absurd cc; second_code = λ code waits. absurd cc };
  holds = λ v i late. refl;
  first = λ code waits. refl;
  second = λ code waits. refl;
}

-- if no part has a race, two runs of the machine that finish agree
pub runs_agree : (b d : Blocks) (k : Known b) (l : Known d) → IsFree (path_of b k) (path_of d l) → (first second : PathView)
    → k.In 0 first → l.In 0 second → (turns others : List Path)
    → AreDone (run (tapes_with b d) (opening first second) (turns_of turns)) → AreDone (run (tapes_with b d) (opening first second) (turns_of others))
    → Agree (tapes_with b d) (opening first second) turns others
runs_agree b d k l free first second here there turns others done also =
    let tapes = tapes_with b d in
    let start = opening first second in
    let m = run tapes start (turns_of turns) in
    let n = run tapes start (turns_of others) in
    let x = first_pair b d k l first second in
    let begins = first_shown b d k l first second in
    let calm = finished_calm tapes first second turns done.first done.second in
    let also_calm = finished_calm tapes first second others also.first also.second in
    let a = run_shown b d k l x start [] [] begins turns calm in
    let o = run_shown b d k l x start [] [] begins others also_calm in
    let same = race_free_runs_agree var_stable (path_of b k) (path_of d l) free x
    (shown b d k l m (deeds_by tapes One start turns) (deeds_by tapes Two start turns) a.one_told a.two_told a.env)
    (shown b d k l n (deeds_by tapes One start others) (deeds_by tapes Two start others) o.one_told o.two_told o.env)
    here there a.run o.run (rw done.first refl, rw done.second refl) (rw also.first refl, rw also.second refl) in
    let one : a.one_told ≡ o.one_told = ap (λ y. y.first.state.2) same in
    let two : a.two_told ≡ o.two_told = ap (λ y. y.second.state.2) same in
    let rest = done_waits m.paths.one a.first done.first in
    let rest' = done_waits m.paths.two a.second done.second in
    let also_rest = done_waits n.paths.one o.first also.first in
    let also_rest' = done_waits n.paths.two o.second also.second in
    record {
      machine = same_machine m n
          (same_part m.paths.one n.paths.one (ap (λ y. y.first.state.0) same) (ap (λ y. y.first.values) same) (rest ∙ sym also_rest) (done.first ∙ sym also.first))
          (same_part m.paths.two n.paths.two (ap (λ y. y.second.state.0) same) (ap (λ y. y.second.values) same) (rest' ∙ sym also_rest') (done.second ∙ sym also.second))
          (told_count m a.one_told a.two_told a.told rest rest'
          ∙ (ap (λ (t : Told). t.records + a.two_told.records) one ∙ (ap (λ (t : Told). o.one_told.records + t.records) two
          ∙ sym (told_count n o.one_told o.two_told o.told also_rest also_rest'))))
          (calm ∙ sym also_calm);
      deeds = both_of_them (ap (λ y. y.first.state.1) same) (ap (λ y. y.second.state.1) same);
      first_moves = ap (λ y. moves_among y.first.state.1) same;
      second_moves = ap (λ y. moves_among y.second.state.1) same;
      first_writes = a.one_told.writes;
      second_writes = a.two_told.writes;
      written = a.told.writes;
      also_written = subst (λ ys. AreMixed a.one_told.writes ys n.writes) (sym (ap (λ (t : Told). t.writes) two))
          (subst (λ xs. AreMixed xs o.two_told.writes n.writes) (sym (ap (λ (t : Told). t.writes) one)) o.told.writes);
      values = λ v. a.holds v m.count (omega arith) ∙ (ap (λ y. y.env v) same ∙ sym (o.holds v n.count (omega arith)));
    }
  where
    both_of_them : deeds_by (tapes_with b d) One (opening first second) turns ≡ deeds_by (tapes_with b d) One (opening first second) others
        → deeds_by (tapes_with b d) Two (opening first second) turns ≡ deeds_by (tapes_with b d) Two (opening first second) others
        → (who : Path) → deeds_by (tapes_with b d) who (opening first second) turns ≡ deeds_by (tapes_with b d) who (opening first second) others
    both_of_them mine yours One = mine
    both_of_them mine yours Two = yours
