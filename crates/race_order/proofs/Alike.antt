-- Two paths of Alone: if no part has a race, what each path tells in one run is how it begins to tell
-- in any other, since within a part it goes as if it were alone. For GoAlike.
use Rattle.std.proofs.Common.{◌≡◌, ℕ, zero, suc, ◌+◌, ◌<◌, ◌⊎◌, inl, inr, List, [], ◌++◌, refl, ap, sym, subst, ◌∙◌, arith, append-nil, append_assoc}
use Rattle.nc_number.proofs.Counts.{last_or_before}
use Rattle.race_order.specs.Agreement.{BeginsWith, AreAlike}
use Rattle.race_order.proofs.Alone.{Effect, Need, Done, Wrote, AtWait, AtEnd, Alarm, Mode, Running, Waiting, Finished, Half, Solo, solo_at, PathOf, by_effect, by_mode, turn, alone, Stands, IsIdle, waits, idle_on}
use Rattle.race_order.proofs.Together.{Pair, pair_at, behind_wait, IsRun, IsFree, IsStable, Side, IsWithin, Begins, at_start, behind, IsPassed, IsSomewhere, run_somewhere, one_beginning, less_same_more}

-- a list begins with itself
same_front : {A : Type 0} → (all : List A) → BeginsWith all all
same_front all = ([], sym (append-nil all))

-- a front of a front is one of the whole
front_on : {A : Type 0} → (front more all : List A) → BeginsWith front more → BeginsWith more all → BeginsWith front all
front_on front more all a b =
    (a.0 ++ b.0, b.1 ∙ (ap (λ begun. begun ++ b.0) a.1 ∙ append_assoc front a.0 b.0))

-- one number is the other and some more
differ : (a b : ℕ) → ((j : ℕ) × (b ≡ j + a)) ⊎ ((j : ℕ) × (a ≡ j + b))
differ zero b = inl (b, omega arith)
differ (suc a) zero = inr (suc a, omega arith)
differ (suc a) (suc b) = go (differ a b)
  where
    go : ((j : ℕ) × (b ≡ j + a)) ⊎ ((j : ℕ) × (a ≡ j + b)) → ((j : ℕ) × (suc b ≡ j + suc a)) ⊎ ((j : ℕ) × (suc a ≡ j + suc b))
    go (inl more) = let e = more.1 in inl (more.0, omega arith)
    go (inr more) = let e = more.1 in inr (more.0, omega arith)

-- what the states of a path tell only grows, with each block and behind each wait
pub record Grows {V L : Type 0} (p : PathOf V) (tells : p.S → List L) : Type 0 where
  pub done : (s : p.S) (vs : List V) (after : p.S) → p.effect s vs ≡ Done after → BeginsWith (tells s) (tells after)
  pub wrote : (s : p.S) (vs : List V) (after : p.S) (v : ℕ) (x : V) → p.effect s vs ≡ Wrote after v x → BeginsWith (tells s) (tells after)
  pub ends : (s : p.S) (vs : List V) (after : p.S) → p.effect s vs ≡ AtEnd after → BeginsWith (tells s) (tells after)
  pub comes : (s : p.S) (vs : List V) (after : p.S) → p.effect s vs ≡ AtWait after → BeginsWith (tells s) (tells after)
  pub passes : (s : p.S) → BeginsWith (tells s) (tells (p.pass s))

-- a path, and what its states tell, which only grows
module _ {V L : Type 0} (p : PathOf V) (tells : p.S → List L) (grows : Grows p tells) where
  -- it grows with a turn
  turn_grows : (h : Half p.S V) (env : ℕ → V) → BeginsWith (tells h.state) (tells (turn p h env).half.state)
  turn_grows h env = go h.mode
    where
      by : (e : Effect p.S V) → p.effect h.state h.values ≡ e → BeginsWith (tells h.state) (tells (by_effect h env e).half.state)
      by (Need v) is = same_front (tells h.state)
      by (Done after) is = grows.done h.state h.values after is
      by (Wrote after v x) is = grows.wrote h.state h.values after v x is
      by (AtWait after) is = grows.comes h.state h.values after is
      by (AtEnd after) is = grows.ends h.state h.values after is
      by Alarm is = same_front (tells h.state)

      go : (m : Mode) → BeginsWith (tells h.state) (tells (by_mode m (by_effect h env (p.effect h.state h.values)) (solo_at h env)).half.state)
      go Running = by (p.effect h.state h.values) refl
      go Waiting = same_front (tells h.state)
      go Finished = same_front (tells h.state)

  -- it grows with more turns alone
  alone_grows : (x : Solo p.S V) (k j : ℕ) → BeginsWith (tells (alone p k x).half.state) (tells (alone p (j + k) x).half.state)
  alone_grows x k zero =
      let e : 0 + k ≡ k = omega arith in
      subst (λ i. BeginsWith (tells (alone p k x).half.state) (tells (alone p i x).half.state)) (sym e) (same_front (tells (alone p k x).half.state))
  alone_grows x k (suc j) =
      let e : suc j + k ≡ suc (j + k) = omega arith in
      subst (λ i. BeginsWith (tells (alone p k x).half.state) (tells (alone p i x).half.state)) (sym e)
      (front_on (tells (alone p k x).half.state) (tells (alone p (j + k) x).half.state) (tells (alone p (suc (j + k)) x).half.state)
      (alone_grows x k j) (turn_grows (alone p (j + k) x).half (alone p (j + k) x).env))

  -- what two states tell behind some turns alone and behind some more
  further : (x : Solo p.S V) (k i j : ℕ) → i ≡ j + k → BeginsWith (tells (alone p k x).half.state) (tells (alone p i x).half.state)
  further x k i j e =
      subst (λ n. BeginsWith (tells (alone p k x).half.state) (tells (alone p n x).half.state)) (sym e) (alone_grows x k j)

  -- two states of the path in one part tell alike
  sides_alike : (n : ℕ) (x : Solo p.S V) (h g : Half p.S V) (env new : ℕ → V) → Side p n x h env → Side p n x g new
      → AreAlike (tells h.state) (tells g.state)
  sides_alike n x h g env new s t =
      subst (λ (y : Half p.S V). AreAlike (tells y.state) (tells g.state)) (sym s.half)
      (subst (λ (y : Half p.S V). AreAlike (tells (alone p s.k x).half.state) (tells y.state)) (sym t.half) (go (differ s.k t.k)))
    where
      go : ((j : ℕ) × (t.k ≡ j + s.k)) ⊎ ((j : ℕ) × (s.k ≡ j + t.k)) → AreAlike (tells (alone p s.k x).half.state) (tells (alone p t.k x).half.state)
      go (inl more) = inl (further x s.k t.k more.0 more.1)
      go (inr more) = inr (further x t.k s.k more.0 more.1)

  -- what a state of the path tells is how it begins to tell at the end of the part, where it is idle
  to_the_end : (n : ℕ) (x : Solo p.S V) (h g : Half p.S V) (env new : ℕ → V) → Side p n x h env → Side p n x g new → IsIdle g.mode
      → BeginsWith (tells h.state) (tells g.state)
  to_the_end n x h g env new s t idle =
      subst (λ (y : Half p.S V). BeginsWith (tells y.state) (tells g.state)) (sym s.half)
      (subst (λ (y : Half p.S V). BeginsWith (tells (alone p s.k x).half.state) (tells y.state)) (sym t.half) (go (differ s.k t.k)))
    where
      go : ((j : ℕ) × (t.k ≡ j + s.k)) ⊎ ((j : ℕ) × (s.k ≡ j + t.k)) → BeginsWith (tells (alone p s.k x).half.state) (tells (alone p t.k x).half.state)
      go (inl more) = further x s.k t.k more.0 more.1
      go (inr more) =
          let still : alone p s.k x ≡ alone p t.k x =
          ap (λ i. alone p i x) more.1 ∙ idle_on p x t.k more.0 (subst (λ (y : Half p.S V). IsIdle y.mode) t.half idle) in
          subst (λ (y : Solo p.S V). BeginsWith (tells (alone p s.k x).half.state) (tells y.half.state)) still (same_front (tells (alone p s.k x).half.state))

  -- within a part the path tells more than as the part began
  since_part_began : (q : PathOf V) (n : ℕ) (m0 m : Pair V p q) → IsWithin p q n m0 m → BeginsWith (tells m0.first.state) (tells m.first.state)
  since_part_began q n m0 m w =
      let s = w.first in
      let e : s.k ≡ s.k + 0 = omega arith in
      subst (λ (y : Half p.S V). BeginsWith (tells m0.first.state) (tells y.state)) (sym s.half)
      (further (solo_at m0.first m0.env) 0 s.k s.k e)

  -- part n ended with both paths at waits, and what the path told there is how it begins to tell
  record IsPassedOn (q : PathOf V) (start : Pair V p q) (n : ℕ) (to : Pair V p q) : Type 0 where
    past : IsPassed p q start n
    on : BeginsWith (tells past.m.first.state) (tells to.first.state)

  -- so it is of each part before one that begins
  passed_on : (q : PathOf V) (start : Pair V p q) (n k : ℕ) (to : Pair V p q) → Begins p q start k to → n < k → IsPassedOn q start n to
  passed_on q start n _ _ at_start h = absurd (omega arith)
  passed_on q start n _ _ (behind k m0 m before w here there) h =
      go (last_or_before n k (omega (arith, h))) (λ less. passed_on q start n k m0 before less)
    where
      go : (n ≡ k) ⊎ (n < k) → (n < k → IsPassedOn q start n m0)
          → IsPassedOn q start n (pair_at p q (behind_wait p m.first) (behind_wait q m.second) m.env)
      go (inl e) sooner =
          let last : IsPassedOn q start k (pair_at p q (behind_wait p m.first) (behind_wait q m.second) m.env) = record {
            past = record { m0 = m0; m = m; begins = before; within = w; here = here; there = there };
            on = grows.passes m.first.state;
          } in
          subst (λ i. IsPassedOn q start i (pair_at p q (behind_wait p m.first) (behind_wait q m.second) m.env)) (sym e) last
      go (inr less) sooner =
          let earlier = sooner less in
          record {
            past = earlier.past;
            on = front_on (tells earlier.past.m.first.state) (tells m0.first.state) (tells (p.pass m.first.state)) earlier.on
                (front_on (tells m0.first.state) (tells m.first.state) (tells (p.pass m.first.state)) (since_part_began q k m0 m w) (grows.passes m.first.state));
          }

  -- what the path tells in an earlier part is how it begins to tell in a later one
  earlier_begins : IsStable V → (q : PathOf V) (start m to : Pair V p q) → (a : IsSomewhere p q start m) → (b : IsSomewhere p q start to) → a.n < b.n
      → BeginsWith (tells m.first.state) (tells to.first.state)
  earlier_begins stable q start m to a b less =
      let on = passed_on q start a.n b.n b.m0 b.begins less in
      let from = one_beginning stable p q start a.n a.m0 on.past.m0 a.begins on.past.begins in
      let w = subst (λ k. IsWithin p q a.n k m) from a.within in
      let end = to_the_end a.n (solo_at on.past.m0.first on.past.m0.env) m.first on.past.m.first m.env on.past.m.env w.first on.past.within.first
      (subst IsIdle (sym on.past.here) waits) in
      front_on (tells m.first.state) (tells on.past.m.first.state) (tells to.first.state) end
      (front_on (tells on.past.m.first.state) (tells b.m0.first.state) (tells to.first.state) on.on (since_part_began q b.n b.m0 to b.within))

  -- where no part has a race, what the first path tells in one run and in another is alike
  pub first_goes_alike : IsStable V → (q : PathOf V) → IsFree p q → (start m to : Pair V p q)
      → Stands p 0 start.first.mode start.first.state → Stands q 0 start.second.mode start.second.state
      → IsRun p q start m → IsRun p q start to → AreAlike (tells m.first.state) (tells to.first.state)
  first_goes_alike stable q free start m to here there one_run other =
      go (run_somewhere p q free start m here there one_run) (run_somewhere p q free start to here there other)
    where
      go : (a : IsSomewhere p q start m) → (b : IsSomewhere p q start to) → AreAlike (tells m.first.state) (tells to.first.state)
      go a b = by (less_same_more a.n b.n)
        where
          by : (a.n < b.n) ⊎ ((a.n ≡ b.n) ⊎ (b.n < a.n)) → AreAlike (tells m.first.state) (tells to.first.state)
          by (inl less) = inl (earlier_begins stable q start m to a b less)
          by (inr (inr more)) = inr (earlier_begins stable q start to m b a more)
          by (inr (inl e)) =
              let from = one_beginning stable p q start b.n a.m0 b.m0 (subst (λ i. Begins p q start i a.m0) e a.begins) b.begins in
              let w = subst (λ k. IsWithin p q b.n k m) from (subst (λ i. IsWithin p q i a.m0 m) e a.within) in
              sides_alike b.n (solo_at b.m0.first b.m0.env) m.first to.first m.env to.env w.first b.within.first
