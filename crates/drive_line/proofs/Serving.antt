-- A turret that got what it was to get so far gets what comes behind it: what each call of a turret
-- keeps. `hand` and `settle` (src/driven.rt) rest on it.
use Rattle.std.proofs.Common.{arith, ◌≡◌, ◌+◌, ◌≤◌, ℕ, suc, Bool, true, false, true≢false, IsTrue, List, [], ◌∷◌, ◌++◌, length, take, drop, refl, ap, sym, ◌∙◌, subst}
use Rattle.std.proofs.lemmas.List.{append-nil, length-append, take_all, drop_all, take-append-le, drop-append-le}
use Rattle.nc_outside.specs.declared.got.Got.{Got}
use Rattle.nc_outside.specs.declared.got.Got.TheVariants.{Placed, Moved, Rested}
use Rattle.nc_outside.specs.Faults.{Rose, CountsFault}
use Rattle.nc_outside.specs.Received.{TurretState, Receives}
use Rattle.drive_line.specs.declared.phase.Phase.{Phase}
use Rattle.drive_line.specs.declared.phase.Phase.TheVariants.{Failed}
use Rattle.drive_line.specs.Driving.{DrivenState, fresh_drive, has_failed, failed_calls, move_count, GetsFirst, Serves}
use Rattle.drive_line.proofs.Adding.{adds_none, adds_both}

-- the moves of two lists, put together, are counted in each
move_count_of_both : (a b : List Got) → move_count (a ++ b) ≡ move_count a + move_count b
move_count_of_both [] b = omega arith
move_count_of_both (Placed at ∷ a) b = move_count_of_both a b
move_count_of_both (Moved what ∷ a) b = let more = move_count_of_both a b in omega (arith, more)
move_count_of_both (Rested at ∷ a) b = move_count_of_both a b

-- after a call that did not fail, behind others that did not, the count of faults has not risen
calm : (a b c : ℕ) → CountsFault a b (IsTrue false) → c ≡ b → CountsFault a c (IsTrue false)
calm a b c before same =
    let later = before.later in
    record {
      later = omega (arith, later, same);
      rose = λ p. absurd (true≢false (sym p));
      kept = λ none. same ∙ before.kept none;
    }

-- after a call that failed, behind others that did not, the count of faults has risen
failing : (a b c : ℕ) → CountsFault a b (IsTrue false) → b ≤ c → Rose b c → CountsFault a c (IsTrue true)
failing a b c before more rose =
    let same = before.kept (λ p. true≢false (sym p)) in
    record {
      later = omega (arith, same, more);
      rose = λ _. subst (λ k. Rose k c) same rose;
      kept = λ none. absurd (none refl);
    }

-- a turret that was handed nothing was to get nothing
pub serves_none : (start : TurretState) → Serves [] start (fresh_drive start)
serves_none start = record {
  n = 0;
  gets = record {
    within = omega arith;
    received = adds_none start.received;
    counted = record { later = omega arith; rose = λ p. absurd (true≢false (sym p)); kept = λ _. refl };
  };
  all = λ _. refl;
  taken = refl;
  missed = refl;
}

-- a turret that was to get these
module _ (told : List Got) (start : TurretState) (d : DrivenState) (s : Serves told start d) where
  -- these, and one thing more
  abbrev more : Got → List Got
  more what = told ++ what ∷ []

  -- with one more there is one more
  longer : (what : Got) → length (more what) ≡ length told + 1
  longer what = length-append told (what ∷ [])

  -- it got no more than there is
  fits : s.n ≤ length told
  fits = let within = s.gets.within in omega (arith, within)

  -- what it got from the start to this state, in so many calls
  abbrev Called : TurretState → List Got → ℕ → Type 0
  Called now got calls = Receives start now got calls

  -- if it gets one thing more, it got these with that
  pub serves_got : (what : Got) (now : TurretState) (taken : ℕ) (phase : Phase) → has_failed d.phase ≡ false → has_failed phase ≡ false
      → taken ≡ d.taken + move_count (what ∷ []) → Receives d.state now (what ∷ []) 1
      → now.faults ≡ d.state.faults → Serves (more what) start (record { state = now; taken = taken; missed = d.missed; phase = phase })
  serves_got what now taken phase was_calm is_calm one got same =
      let whole_n : s.n ≡ length told = s.all was_calm in
      let was : take s.n told ≡ told = take_all s.n told (omega (arith, whole_n)) in
      let none : drop s.n told ≡ [] = drop_all s.n told (omega (arith, whole_n)) in
      let whole : take (length (more what)) (more what) ≡ more what = take_all (length (more what)) (more what) (omega arith) in
      let no_more : drop (length (more what)) (more what) ≡ [] = drop_all (length (more what)) (more what) (omega arith) in
      let long = longer what in
      let no_call : failed_calls (has_failed d.phase) ≡ 0 = ap failed_calls was_calm in
      let calls : s.n + failed_calls (has_failed d.phase) + 1 ≡ length (more what) + 0 = omega (arith, no_call, long, whole_n) in
      let gots : take s.n told ++ what ∷ [] ≡ take (length (more what)) (more what) = ap (λ l. l ++ what ∷ []) was ∙ sym whole in
      let gets : GetsFirst (more what) (length (more what)) false start now = record {
        within = omega arith;
        received = subst (λ l. Called now l (length (more what) + 0)) gots (subst (λ k. Called now (take s.n told ++ what ∷ []) k) calls
            (adds_both start.received d.state.received now.received (take s.n told) (what ∷ []) (s.n + failed_calls (has_failed d.phase)) 1 s.gets.received got));
        counted = calm start.faults d.state.faults now.faults (subst (λ b. CountsFault start.faults d.state.faults (IsTrue b)) was_calm s.gets.counted) same;
      } in
      record {
        n = length (more what);
        gets = subst (λ b. GetsFirst (more what) (length (more what)) b start now) (sym is_calm) gets;
        all = λ _. refl;
        taken = one ∙ ap (λ k. k + move_count (what ∷ [])) (s.taken ∙ ap move_count was) ∙ sym (ap move_count whole ∙ move_count_of_both told (what ∷ []));
        missed = s.missed ∙ ap move_count (none ∙ sym no_more);
      }

  -- what it missed and one thing more, that comes behind
  missed_more : (what : Got) (missed : ℕ) → missed ≡ d.missed + move_count (what ∷ []) → missed ≡ move_count (drop s.n (more what))
  missed_more what missed one =
      one ∙ ap (λ k. k + move_count (what ∷ [])) s.missed ∙ sym (ap move_count (drop-append-le s.n told (what ∷ []) fits) ∙ move_count_of_both (drop s.n told) (what ∷ []))

  -- with one thing more, the first that it got are the same
  first_more : (what : Got) → take s.n (more what) ≡ take s.n told
  first_more what = take-append-le s.n told (what ∷ []) fits

  -- if it fails at one thing more, it was to get these with that
  pub serves_failed : (what : Got) (now : TurretState) (missed : ℕ) → has_failed d.phase ≡ false → missed ≡ d.missed + move_count (what ∷ []) → Receives d.state now [] 1
      → d.state.faults ≤ now.faults → Rose d.state.faults now.faults → Serves (more what) start (record { state = now; taken = d.taken; missed = missed; phase = Failed })
  serves_failed what now missed was_calm one got later rose =
      let whole_n : s.n ≡ length told = s.all was_calm in
      let long = longer what in
      let no_call : failed_calls (has_failed d.phase) ≡ 0 = ap failed_calls was_calm in
      let calls : s.n + failed_calls (has_failed d.phase) + 1 ≡ s.n + 1 = omega (arith, no_call) in
      let gots : take s.n told ++ [] ≡ take s.n (more what) = append-nil (take s.n told) ∙ sym (first_more what) in
      record {
        n = s.n;
        gets = record {
          within = omega (arith, whole_n, long);
          received = subst (λ l. Called now l (s.n + 1)) gots (subst (λ k. Called now (take s.n told ++ []) k) calls
              (adds_both start.received d.state.received now.received (take s.n told) [] (s.n + failed_calls (has_failed d.phase)) 1 s.gets.received got));
          counted = failing start.faults d.state.faults now.faults (subst (λ b. CountsFault start.faults d.state.faults (IsTrue b)) was_calm s.gets.counted) later rose;
        };
        all = λ failed. absurd (true≢false failed);
        taken = s.taken ∙ ap move_count (sym (first_more what));
        missed = missed_more what missed one;
      }

  -- if it had failed, it misses one thing more, and was to get these with that
  pub serves_missed : (what : Got) (missed : ℕ) → has_failed d.phase ≡ true → missed ≡ d.missed + move_count (what ∷ [])
      → Serves (more what) start (record { state = d.state; taken = d.taken; missed = missed; phase = d.phase })
  serves_missed what missed failed one =
      let long = longer what in
      let within = s.gets.within in
      record {
        n = s.n;
        gets = record {
          within = omega (arith, within, long);
          received = subst (λ l. Called d.state l (s.n + failed_calls (has_failed d.phase))) (sym (first_more what)) s.gets.received;
          counted = s.gets.counted;
        };
        all = λ calm_. absurd (true≢false (sym failed ∙ calm_));
        taken = s.taken ∙ ap move_count (sym (first_more what));
        missed = missed_more what missed one;
      }
