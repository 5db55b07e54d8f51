-- A turn of the machine is none, one or two turns of the pair of Together: for Runs.
use Rattle.std.proofs.Common.{◌≡◌, ◌==◌, ◌&&◌, nat_le, ℕ, ◌+◌, ◌≤◌, Bool, true, false, List, [], ◌∷◌, ◌++◌, Option, Some, None, refl, ap, sym, subst, ◌∙◌, if◌then◌else◌, arith, append-nil}
use Rattle.std.proofs.lemmas.Bool.{le-leb, eqb-true}
use Rattle.nc_number.specs.declared.path.Path.{Path}
use Rattle.nc_number.specs.declared.value.Var.{Var}
use Rattle.nc_moves.specs.declared.alarm.Alarm.{Alarm}
use Rattle.common_vars.specs.declared.links.Write.{Write}
use Rattle.common_vars.specs.Writes.{value_after}
use Rattle.common_vars.proofs.Laws.{seen_from_its_stamp}
use Rattle.path_state.specs.View.{PathView}
use Rattle.path_state.specs.Statements.{Write as Written}
use Rattle.path_state.specs.Effect.{Effect}
use Rattle.path_state.specs.Effect as effect
use Rattle.two_path.specs.declared.turn.Turn.{Turn}
use Rattle.two_path.specs.declared.turn.Turn.TheVariants as turn
use Rattle.two_path.specs.Machine.{Part, MachineView}
use Rattle.two_path.specs.Turns.{Blocks, TurnResult, result, with_write, behind_meeting, path_behind_wait, alarm_result, crossed_waits, result_by, result_at_wait, unless_idle, block_turn, own_turn}
use Rattle.race_order.proofs.Alone.{PathOf, Half, half_at, solo_at, Mode, Running, Waiting, Finished, set_at}
use Rattle.race_order.proofs.Alone as alone
use Rattle.race_order.proofs.Together.{Pair, pair_at, one, meet, IsRun, begun, gone, behind_wait}
use Rattle.race_order.specs.Agreement.{Deed, Meets, own_deeds, other_deeds, AreMixed}
use Rattle.race_order.specs.Agreement as mixed
use Rattle.race_order.proofs.Machines.{Known, Told, one_record, one_write, come_to, Logged, moved_on, logged, seen, path_of}

-- the mode of a path of the machine
abbrev pub mode_of : Bool → Option ℕ → Mode
mode_of true waiting = Finished
mode_of false (Some code) = Waiting
mode_of false None = Running

-- a path of the machine as one of the pair
abbrev pub half_of : Part → List Deed → Told → Half Logged Var
half_of part moves told = half_at (part.path, moves, told) part.values (mode_of part.finished part.waiting)

-- the record of a path's arrival at a wait, which the path counts as it passes
abbrev pub waits : Option ℕ → ℕ
waits None = 0
waits (Some code) = 1

-- the variables hold these values now, and as long as nothing more is written
abbrev pub Holds : MachineView → (ℕ → Var) → Type 0
Holds m env = (v k : ℕ) → m.count ≤ k → value_after k v m.writes ≡ env v

-- if the path waits, it has not finished
abbrev pub IsFit : Part → Type 0
IsFit part = (code : ℕ) → part.waiting ≡ Some code → part.finished ≡ false

-- the machine as a pair: `mine` and `yours` are what both paths did so far, `t` and `u` what else
-- they told, `env` what the shared variables hold
abbrev pub shown : (b d : Blocks) (k : Known b) (l : Known d) → MachineView → List Deed → List Deed → Told → Told → (ℕ → Var)
    → Pair Var (path_of b k) (path_of d l)
shown b d k l m mine yours t u env =
    pair_at (path_of b k) (path_of d l) (half_of m.paths.one mine t) (half_of m.paths.two yours u) env

-- what both paths told is what the machine holds
pub record IsTold (m : MachineView) (t u : Told) : Type 0 where
  -- the records of the machine are those that both told, and the arrivals of paths that still wait
  pub count : m.count ≡ (t.records + u.records) + (waits m.paths.one.waiting + waits m.paths.two.waiting)
  -- its writes are those that both told
  pub writes : AreMixed t.writes u.writes m.writes
  -- a path that waits came last to the wait at which it is
  pub first_code : (code : ℕ) → m.paths.one.waiting ≡ Some code → t.code ≡ code
  pub second_code : (code : ℕ) → m.paths.two.waiting ≡ Some code → u.code ≡ code

-- a run of the pair leads from `from` to a pair that shows this machine, where both did this
pub record IsShown (b d : Blocks) (k : Known b) (l : Known d) (from : Pair Var (path_of b k) (path_of d l)) (m : MachineView) (mine yours : List Deed) : Type 0 where
  -- what the shared variables hold
  pub env : ℕ → Var
  -- what the first path told, and what the second
  pub one_told : Told
  pub two_told : Told
  -- the run of the pair
  pub run : IsRun (path_of b k) (path_of d l) from (shown b d k l m mine yours one_told two_told env)
  -- what both told is what the machine holds
  pub told : IsTold m one_told two_told
  -- the variables hold the values of `env`
  pub holds : Holds m env
  -- a path that waits has not finished
  pub first : IsFit m.paths.one
  pub second : IsFit m.paths.two

-- one turn of the first path is a run of the pair
step_to : {V : Type 0} → (p q : PathOf V) (h to : Half p.S V) (g : Half q.S V) (env new : ℕ → V) → alone.turn p h env ≡ solo_at to new
    → IsRun p q (pair_at p q h g env) (pair_at p q to g new)
step_to p q h to g env new e =
    subst (λ y. IsRun p q (pair_at p q h g env) (pair_at p q y.half g y.env)) e
    (gone (pair_at p q h g env) (pair_at p q (alone.turn p h env).half g (alone.turn p h env).env) begun one)

-- a variable holds what was written to it last
written_holds : (m : MachineView) (env : ℕ → Var) (w : Written) → Holds m env → (v k : ℕ) → m.count + 1 ≤ k
    → value_after k v (with_write (m.count + 1) (Some w) m.writes) ≡ set_at env w.variable w.value v
written_holds m env w holds v k late =
    let write : Write = record { stamp = m.count + 1; variable = w.variable; value = w.value } in
    let seen_now : nat_le (m.count + 1) k ≡ true = le-leb (m.count + 1) k late in
    let before = holds v k (omega arith) in
    seen_from_its_stamp m.writes write k v ∙ rw (seen_now, before) (go (w.variable == v))
  where
    go : (b : Bool) → (if b && true then w.value else env v) ≡ (if b then w.value else env v)
    go true = refl
    go false = refl

-- what the other path did so far, behind a turn with this answer from which it goes on here
abbrev pub with_other : Turn → PathView → List Deed → List Deed
with_other (turn.Met code) from deeds = deeds ++ Meets code from ∷ []
with_other (turn.Did moves) from deeds = deeds
with_other (turn.Ended moves) from deeds = deeds
with_other (turn.Read variable stamp) from deeds = deeds
with_other (turn.Arrived code) from deeds = deeds
with_other (turn.Waiting code) from deeds = deeds
with_other turn.Finished from deeds = deeds
with_other (turn.Alarm alarm) from deeds = deeds
with_other (turn.Halted alarm) from deeds = deeds
with_other turn.Edited from deeds = deeds

-- what the other path did behind a turn is what it did before, and what it does in the turn
pub other_behind : (answer : Turn) (from : PathView) (deeds : List Deed) → with_other answer from deeds ≡ deeds ++ other_deeds answer from
other_behind (turn.Met code) from deeds = refl
other_behind (turn.Did moves) from deeds = sym (append-nil deeds)
other_behind (turn.Ended moves) from deeds = sym (append-nil deeds)
other_behind (turn.Read variable stamp) from deeds = sym (append-nil deeds)
other_behind (turn.Arrived code) from deeds = sym (append-nil deeds)
other_behind (turn.Waiting code) from deeds = sym (append-nil deeds)
other_behind turn.Finished from deeds = sym (append-nil deeds)
other_behind (turn.Alarm alarm) from deeds = sym (append-nil deeds)
other_behind (turn.Halted alarm) from deeds = sym (append-nil deeds)
other_behind turn.Edited from deeds = sym (append-nil deeds)

-- if a turn raises no alarm, a run of the pair leads to what shows the machine behind it
abbrev pub Shows : (b d : Blocks) → Known b → Known d → MachineView → List Deed → List Deed → Told → Told → (ℕ → Var) → TurnResult → Type 0
Shows b d k l m mine yours t u env r =
    r.machine.alarm ≡ None → IsShown b d k l (shown b d k l m mine yours t u env) r.machine
    (mine ++ own_deeds r.turn r.machine.paths.one.path) (with_other r.turn r.machine.paths.two.path yours)

-- a turn of the first path that raises no alarm is shown by a run of the pair
pub own_shown : (b d : Blocks) (k : Known b) (l : Known d) (path : Path) (m : MachineView) (mine yours : List Deed) (t u : Told)
    (env : ℕ → Var) → Holds m env → IsTold m t u → IsFit m.paths.one → IsFit m.paths.two
    → (own_turn b path m).machine.alarm ≡ None
    → IsShown b d k l (shown b d k l m mine yours t u env) (own_turn b path m).machine
    (mine ++ own_deeds (own_turn b path m).turn (own_turn b path m).machine.paths.one.path)
    (with_other (own_turn b path m).turn (own_turn b path m).machine.paths.two.path yours)
own_shown b d k l path m mine yours t u env holds told fit fits calm =
    go m.alarm refl m.paths.one.finished refl m.paths.one.waiting refl calm
  where
    idle : (answer : Turn) → own_deeds answer m.paths.one.path ≡ [] → with_other answer m.paths.two.path yours ≡ yours
        → IsShown b d k l (shown b d k l m mine yours t u env) m (mine ++ own_deeds answer m.paths.one.path) (with_other answer m.paths.two.path yours)
    idle answer none nor =
        let same : mine ≡ mine ++ own_deeds answer m.paths.one.path = rw none (sym (append-nil mine)) in
        subst (λ ys. IsShown b d k l (shown b d k l m mine yours t u env) m (mine ++ own_deeds answer m.paths.one.path) ys) (sym nor) (record {
          env = env;
          one_told = t;
          two_told = u;
          run = subst (λ log. IsRun (path_of b k) (path_of d l) (shown b d k l m mine yours t u env) (shown b d k l m log yours t u env)) same begun;
          told = told;
          holds = holds;
          first = fit;
          second = fits;
        })

    by : m.paths.one.finished ≡ false → m.paths.one.waiting ≡ None → (e : Effect) → b.effect m.paths.one.path m.paths.one.values ≡ e
        → alone.turn (path_of b k) (half_of m.paths.one mine t) env
        ≡ alone.by_effect (half_of m.paths.one mine t) env (seen b (m.paths.one.path, mine, t) e)
    by f w e is = rw (f, w, is) refl

    counted : m.paths.one.waiting ≡ None → m.count ≡ (t.records + u.records) + waits m.paths.two.waiting
    counted w = let own : waits m.paths.one.waiting ≡ 0 = ap waits w in let all = told.count in omega arith

    met : m.paths.one.finished ≡ false → m.paths.one.waiting ≡ None → (code : ℕ) → b.effect m.paths.one.path m.paths.one.values ≡ effect.AtWait code
        → (there : ℕ) → m.paths.two.waiting ≡ Some there → (same : Bool) → (code == there) ≡ same
        → Shows b d k l m mine yours t u env (if same then result (turn.Met code) (behind_meeting m) else alarm_result (crossed_waits path (b.line m.paths.one.path.place)) m)
    met f w code is there other true alike calm =
        let g : m.paths.two.finished ≡ false = fits there other in
        let t' = come_to code t in
        let here = half_at (m.paths.one.path, mine, t') [] Waiting in
        let arrived : IsRun (path_of b k) (path_of d l) (shown b d k l m mine yours t u env) (pair_at (path_of b k) (path_of d l) here (half_of m.paths.two yours u) env) =
        step_to (path_of b k) (path_of d l) (half_of m.paths.one mine t) here (half_of m.paths.two yours u) env env (by f w (effect.AtWait code) is) in
        let waits : (half_of m.paths.two yours u).mode ≡ Waiting = rw (g, other) refl in
        let on = gone (pair_at (path_of b k) (path_of d l) here (half_of m.paths.two yours u) env)
        (pair_at (path_of b k) (path_of d l) (behind_wait (path_of b k) here) (behind_wait (path_of d l) (half_of m.paths.two yours u)) env)
        arrived (meet refl waits) in
        let is_same : u.code ≡ code = told.second_code there other ∙ sym (eqb-true code there alike) in
        let same : pair_at (path_of b k) (path_of d l) (behind_wait (path_of b k) here) (behind_wait (path_of d l) (half_of m.paths.two yours u)) env
        ≡ shown b d k l (behind_meeting m) (mine ++ Meets code (path_behind_wait m.paths.one.path) ∷ [])
        (yours ++ Meets code (path_behind_wait m.paths.two.path) ∷ []) (one_record t') (one_record u) env = rw (f, g, is_same) refl in
        record {
          env = env;
          one_told = one_record t';
          two_told = one_record u;
          run = subst (λ y. IsRun (path_of b k) (path_of d l) (shown b d k l m mine yours t u env) y) same on;
          told = record {
            count = met_count w there other;
            writes = told.writes;
            first_code = λ _ waits. absurd (cc);
            second_code = λ _ waits. absurd (cc);
          };
          holds = λ v i late. holds v i (omega arith);
          first = λ code waits. absurd (cc);
          second = λ code waits. absurd (cc);
        }
      where
        met_count : m.paths.one.waiting ≡ None → (there : ℕ) → m.paths.two.waiting ≡ Some there
            → m.count + 1 ≡ ((t.records + 1) + (u.records + 1)) + (0 + 0)
        met_count w there other = let own : waits m.paths.two.waiting ≡ 1 = ap waits other in let all = counted w in omega arith
    met f w code is there other false alike calm = absurd cc

    at_wait : m.paths.one.finished ≡ false → m.paths.one.waiting ≡ None → (code : ℕ) → b.effect m.paths.one.path m.paths.one.values ≡ effect.AtWait code
        → (there : Option ℕ) → m.paths.two.waiting ≡ there → Shows b d k l m mine yours t u env (result_at_wait path (b.line m.paths.one.path.place) m code there)
    at_wait f w code is None other calm = record {
      env = env;
      one_told = come_to code t;
      two_told = u;
      run = step_to (path_of b k) (path_of d l) (half_of m.paths.one mine t)
          (half_at (m.paths.one.path, mine ++ [], come_to code t) [] (mode_of m.paths.one.finished (Some code))) (half_of m.paths.two yours u) env env
          (by f w (effect.AtWait code) is ∙ rw (f, append-nil mine) refl);
      told = record {
        count = (let all = counted w in omega arith);
        writes = told.writes;
        first_code = λ there e. cc;
        second_code = told.second_code;
      };
      holds = λ v i late. holds v i (omega arith);
      first = λ _ _. f;
      second = fits;
    }
    at_wait f w code is (Some there) other calm = met f w code is there other (code == there) refl calm

    ended : (e : Effect) → m.paths.one.waiting ≡ None → m.count + 1 ≡ ((t.records + 1) + u.records) + (waits m.paths.one.waiting + waits m.paths.two.waiting)
    ended e w = let own : waits m.paths.one.waiting ≡ 0 = ap waits w in let all = counted w in omega arith

    block : m.paths.one.finished ≡ false → m.paths.one.waiting ≡ None → (e : Effect) → b.effect m.paths.one.path m.paths.one.values ≡ e
        → Shows b d k l m mine yours t u env (result_by path (b.line m.paths.one.path.place) m e)
    block f w (effect.Need v) is calm = record {
      env = env;
      one_told = t;
      two_told = u;
      run = step_to (path_of b k) (path_of d l) (half_of m.paths.one mine t)
          (half_at (m.paths.one.path, mine ++ [], t) (m.paths.one.values ++ value_after m.count v m.writes ∷ []) (mode_of m.paths.one.finished m.paths.one.waiting))
          (half_of m.paths.two yours u) env env
          (by f w (effect.Need v) is ∙ rw (f, w, append-nil mine, holds v m.count (omega arith)) refl);
      told = record { count = told.count; writes = told.writes; first_code = told.first_code; second_code = told.second_code };
      holds = holds;
      first = fit;
      second = fits;
    }
    block f w (effect.Done after None moves) is calm = record {
      env = env;
      one_told = one_record t;
      two_told = u;
      run = step_to (path_of b k) (path_of d l) (half_of m.paths.one mine t)
          (half_at (logged b (m.paths.one.path, mine, t) after moves) [] (mode_of m.paths.one.finished m.paths.one.waiting)) (half_of m.paths.two yours u) env env
          (by f w (effect.Done after None moves) is ∙ rw (f, w) refl);
      told = record {
        count = ended (effect.Done after None moves) w;
        writes = told.writes;
        first_code = told.first_code;
        second_code = told.second_code;
      };
      holds = λ v i late. holds v i (omega arith);
      first = fit;
      second = fits;
    }
    block f w (effect.Done after (Some write) moves) is calm = record {
      env = set_at env write.variable write.value;
      one_told = one_write write t;
      two_told = u;
      run = step_to (path_of b k) (path_of d l) (half_of m.paths.one mine t)
          (half_at (moved_on b (m.paths.one.path, mine, t) after moves (one_write write t)) [] (mode_of m.paths.one.finished m.paths.one.waiting)) (half_of m.paths.two yours u)
          env (set_at env write.variable write.value)
          (by f w (effect.Done after (Some write) moves) is ∙ rw (f, w) refl);
      told = record {
        count = ended (effect.Done after (Some write) moves) w;
        writes = mixed.one t.writes u.writes m.writes (m.count + 1) write told.writes;
        first_code = told.first_code;
        second_code = told.second_code;
      };
      holds = written_holds m env write holds;
      first = fit;
      second = fits;
    }
    block f w (effect.AtWait code) is calm = at_wait f w code is m.paths.two.waiting refl calm
    block f w (effect.AtEnd after moves) is calm = record {
      env = env;
      one_told = one_record t;
      two_told = u;
      run = step_to (path_of b k) (path_of d l) (half_of m.paths.one mine t)
          (half_at (logged b (m.paths.one.path, mine, t) after moves) [] Finished) (half_of m.paths.two yours u) env env
          (by f w (effect.AtEnd after moves) is);
      told = record {
        count = ended (effect.AtEnd after moves) w;
        writes = told.writes;
        first_code = told.first_code;
        second_code = told.second_code;
      };
      holds = λ v i late. holds v i (omega arith);
      first = λ code waits. absurd (cc);
      second = fits;
    }
    block f w (effect.Alarm number value) is calm = absurd cc

    go : (a : Option Alarm) → m.alarm ≡ a → (f : Bool) → m.paths.one.finished ≡ f → (w : Option ℕ) → m.paths.one.waiting ≡ w
        → Shows b d k l m mine yours t u env (unless_idle m a f w (block_turn b path m))
    go (Some alarm) ea f ef w ew calm = idle (turn.Halted alarm) refl refl
    go None ea true ef w ew calm = idle turn.Finished refl refl
    go None ea false ef (Some code) ew calm = idle (turn.Waiting code) refl refl
    go None ea false ef None ew calm = block ef ew (b.effect m.paths.one.path m.paths.one.values) refl calm
