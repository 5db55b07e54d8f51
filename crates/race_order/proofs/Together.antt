-- Two paths of Alone with shared variables: if no part has a race, all runs that finish come to one
-- state, since each path goes within a part as if it were alone. For Runs.
use Rattle.std.proofs.Common.{◌≡◌, ℕ, zero, suc, ◌<◌, ◌⊎◌, inl, inr, [], refl, ap, sym, subst, ◌∙◌, arith}
use Rattle.std.proofs.Math.Path.{fun_ext}
use Rattle.nc_number.proofs.Counts.{last_or_before}
use Rattle.race_order.proofs.Alone.{Running, Waiting, Finished, Half, half_at, Solo, solo_at, PathOf, turn, alone, Stands, Agree, turn_like, IsIdle, waits, finished, one_idle}

-- two paths, and the variables that they share
pub record Pair (V : Type 0) (p q : PathOf V) : Type 0 where
  pub first : Half p.S V
  pub second : Half q.S V
  -- what each shared variable holds
  pub env : ℕ → V

-- a pair of these two paths and these variables
abbrev pub pair_at : {V : Type 0} → (p q : PathOf V) → Half p.S V → Half q.S V → (ℕ → V) → Pair V p q
pair_at p q h g env = record { first = h; second = g; env = env }

-- a path behind its wait, which runs on with nothing read
abbrev pub behind_wait : {V : Type 0} → (p : PathOf V) → Half p.S V → Half p.S V
behind_wait p h = half_at (p.pass h.state) [] Running

-- one turn: of either path, or both pass their waits
pub data Goes {V : Type 0} (p q : PathOf V) (m : Pair V p q) : Pair V p q → Type 0 where
  -- a turn of the first path
  one : Goes p q m (pair_at p q (turn p m.first m.env).half m.second (turn p m.first m.env).env)
  -- a turn of the second path
  two : Goes p q m (pair_at p q m.first (turn q m.second m.env).half (turn q m.second m.env).env)
  -- both wait, and both pass their waits
  meet : m.first.mode ≡ Waiting → m.second.mode ≡ Waiting
      → Goes p q m (pair_at p q (behind_wait p m.first) (behind_wait q m.second) m.env)

-- a run of the pair: some turns, and meetings if both wait
pub data IsRun {V : Type 0} (p q : PathOf V) (start : Pair V p q) : Pair V p q → Type 0 where
  -- no turn yet
  begun : IsRun p q start start
  -- a run, and one turn more
  gone : (m to : Pair V p q) → IsRun p q start m → Goes p q m to → IsRun p q start to

-- no variable that a part of one path may write is named by the same part of the other
pub record IsFree {V : Type 0} (p q : PathOf V) : Type 0 where
  pub first : (n v : ℕ) → p.may n v → q.names n v → ⊥
  pub second : (n v : ℕ) → q.may n v → p.names n v → ⊥

-- A path within part n: from `x`, where it began the part, k turns alone lead to its state, and to
-- the same values of the variables that the part names.
pub record Side {V : Type 0} (p : PathOf V) (n : ℕ) (x : Solo p.S V) (h : Half p.S V) (env : ℕ → V) : Type 0 where
  -- how many turns alone the path has made in this part
  pub k : ℕ
  -- the path's own half of the machine is that behind these turns
  pub half : h ≡ (alone p k x).half
  -- the variables that the part names hold what they hold behind these turns
  pub agree : Agree p n env (alone p k x).env
  -- the path stands in part n, or waits at its end, or has finished
  pub stands : Stands p n h.mode h.state

-- both paths stand in part n, each as if it had run alone since the part began (`m0`); a variable
-- that neither may write in this part is as it was then
pub record IsWithin {V : Type 0} (p q : PathOf V) (n : ℕ) (m0 m : Pair V p q) : Type 0 where
  pub first : Side p n (solo_at m0.first m0.env) m.first m.env
  pub second : Side q n (solo_at m0.second m0.env) m.second m.env
  -- what neither path may write in this part is as it was
  pub rest : (v : ℕ) → (p.may n v → ⊥) → (q.may n v → ⊥) → m.env v ≡ m0.env v

-- the pair as part n begins
pub data Begins {V : Type 0} (p q : PathOf V) (start : Pair V p q) : ℕ → Pair V p q → Type 0 where
  -- part 0 begins with the run
  at_start : Begins p q start 0 start
  -- the next part begins as both paths pass the waits at which this part ended
  behind : (n : ℕ) (m0 m : Pair V p q) → Begins p q start n m0 → IsWithin p q n m0 m → m.first.mode ≡ Waiting → m.second.mode ≡ Waiting
      → Begins p q start (suc n) (pair_at p q (behind_wait p m.first) (behind_wait q m.second) m.env)

-- a turn of the path itself is one turn more alone
side_turns : {V : Type 0} → (p : PathOf V) (n : ℕ) (x : Solo p.S V) (h : Half p.S V) (env : ℕ → V) → Side p n x h env
    → Side p n x (turn p h env).half (turn p h env).env
side_turns p n x h env s =
    let like = turn_like p n h env (alone p s.k x).env s.agree s.stands in
    let e : turn p h (alone p s.k x).env ≡ alone p (suc s.k) x = ap (λ g. turn p g (alone p s.k x).env) s.half in
    record {
      k = suc s.k;
      half = like.half ∙ ap (λ y. y.half) e;
      agree = λ v named. like.agree v named ∙ ap (λ y. y.env v) e;
      stands = like.stands;
    }

-- a turn of the other path, which writes nothing that this part names, leaves the path as it was
side_stays : {V : Type 0} → (p : PathOf V) (n : ℕ) (x : Solo p.S V) (h : Half p.S V) (env new : ℕ → V) → Side p n x h env
    → ((v : ℕ) → p.names n v → new v ≡ env v) → Side p n x h new
side_stays p n x h env new s kept = record {
  k = s.k;
  half = s.half;
  agree = λ v named. kept v named ∙ s.agree v named;
  stands = s.stands;
}

-- behind a turn of either path both stand in part n, each as if it had run alone
goes_within : {V : Type 0} → (p q : PathOf V) → IsFree p q → (n : ℕ) (m0 m : Pair V p q) → IsWithin p q n m0 m
    → IsWithin p q n m0 (pair_at p q (turn p m.first m.env).half m.second (turn p m.first m.env).env)
    × IsWithin p q n m0 (pair_at p q m.first (turn q m.second m.env).half (turn q m.second m.env).env)
goes_within p q free n m0 m w =
    let one = turn_like p n m.first m.env m.env (λ v _. refl) w.first.stands in
    let two = turn_like q n m.second m.env m.env (λ v _. refl) w.second.stands in (
      record {
        first = side_turns p n (solo_at m0.first m0.env) m.first m.env w.first;
        second = side_stays q n (solo_at m0.second m0.env) m.second m.env (turn p m.first m.env).env w.second
            (λ v named. one.kept v (λ may. free.first n v may named));
        rest = λ v mine yours. one.kept v mine ∙ w.rest v mine yours;
      },
      record {
        first = side_stays p n (solo_at m0.first m0.env) m.first m.env (turn q m.second m.env).env w.first
            (λ v named. two.kept v (λ may. free.second n v may named));
        second = side_turns q n (solo_at m0.second m0.env) m.second m.env w.second;
        rest = λ v mine yours. two.kept v yours ∙ w.rest v mine yours;
      },
    )

-- as a part begins, the path stands in it with no turn alone made
begun_side : {V : Type 0} → (p : PathOf V) (n : ℕ) (h : Half p.S V) (env : ℕ → V) → Stands p n h.mode h.state → Side p n (solo_at h env) h env
begun_side p n h env stands = record { k = 0; half = refl; agree = λ v _. refl; stands = stands }

-- where a run is: within a part that began
pub record IsSomewhere {V : Type 0} (p q : PathOf V) (start m : Pair V p q) : Type 0 where
  -- the number of the part
  pub n : ℕ
  -- the pair as the part began
  pub m0 : Pair V p q
  pub begins : Begins p q start n m0
  pub within : IsWithin p q n m0 m

-- behind a turn or a meeting the pair stands within some part
goes_somewhere : {V : Type 0} → (p q : PathOf V) → IsFree p q → (start m to : Pair V p q) → IsSomewhere p q start m → Goes p q m to
    → IsSomewhere p q start to
goes_somewhere p q free start m _ at one =
    record { n = at.n; m0 = at.m0; begins = at.begins; within = (goes_within p q free at.n at.m0 m at.within).0 }
goes_somewhere p q free start m _ at two =
    record { n = at.n; m0 = at.m0; begins = at.begins; within = (goes_within p q free at.n at.m0 m at.within).1 }
goes_somewhere p q free start m _ at (meet here there) =
    record {
      n = suc at.n;
      m0 = pair_at p q (behind_wait p m.first) (behind_wait q m.second) m.env;
      begins = behind at.n at.m0 m at.begins at.within here there;
      within = record {
        first = begun_side p (suc at.n) (behind_wait p m.first) m.env
            (subst (λ mode. Stands p at.n mode m.first.state) here at.within.first.stands);
        second = begun_side q (suc at.n) (behind_wait q m.second) m.env
            (subst (λ mode. Stands q at.n mode m.second.state) there at.within.second.stands);
        rest = λ v _ _. refl;
      };
    }

-- behind each run the pair stands within some part
pub run_somewhere : {V : Type 0} → (p q : PathOf V) → IsFree p q → (start m : Pair V p q) → Stands p 0 start.first.mode start.first.state
    → Stands q 0 start.second.mode start.second.state → IsRun p q start m → IsSomewhere p q start m
run_somewhere p q free start _ here there begun = record {
  n = 0;
  m0 = start;
  begins = at_start;
  within = record {
    first = begun_side p 0 start.first start.env here;
    second = begun_side q 0 start.second start.env there;
    rest = λ v _ _. refl;
  };
}
run_somewhere p q free start _ here there (gone m to before goes) =
    goes_somewhere p q free start m to (run_somewhere p q free start m here there before) goes

-- two states of a path in one part, in both of which it is idle, are one, and so are the values
-- that the part names
sides_meet : {V : Type 0} → (p : PathOf V) (n : ℕ) (x : Solo p.S V) (h g : Half p.S V) (env new : ℕ → V) → Side p n x h env → Side p n x g new
    → IsIdle h.mode → IsIdle g.mode → (h ≡ g) × ((v : ℕ) → p.names n v → env v ≡ new v)
sides_meet p n x h g env new s t here there =
    let same = one_idle p x s.k t.k (subst (λ y. IsIdle y.mode) s.half here) (subst (λ y. IsIdle y.mode) t.half there) in (
      s.half ∙ (ap (λ y. y.half) same ∙ sym t.half),
      λ v named. s.agree v named ∙ (ap (λ y. y.env v) same ∙ sym (t.agree v named)),
    )

-- neither path runs
pub record AreIdle {V : Type 0} (p q : PathOf V) (m : Pair V p q) : Type 0 where
  pub first : IsIdle m.first.mode
  pub second : IsIdle m.second.mode

-- of this type, values that can't differ are the same
abbrev pub IsStable : Type 0 → Type 0
IsStable V = (a b : V) → ((a ≡ b → ⊥) → ⊥) → a ≡ b

-- one beginning of a part leads to one pair in which neither path runs
one_pair : {V : Type 0} → IsStable V → (p q : PathOf V) (n : ℕ) (m0 m to : Pair V p q) → IsWithin p q n m0 m → IsWithin p q n m0 to → AreIdle p q m → AreIdle p q to
    → m ≡ to
one_pair stable p q n m0 m to w u here there =
    let a = sides_meet p n (solo_at m0.first m0.env) m.first to.first m.env to.env w.first u.first here.first there.first in
    let b = sides_meet q n (solo_at m0.second m0.env) m.second to.second m.env to.env w.second u.second here.second there.second in
    let env : m.env ≡ to.env = fun_ext (λ v. stable (m.env v) (to.env v) (λ no. no
    (w.rest v (λ may. no (a.1 v (p.may_named n v may))) (λ may. no (b.1 v (q.may_named n v may)))
    ∙ sym (u.rest v (λ may. no (a.1 v (p.may_named n v may))) (λ may. no (b.1 v (q.may_named n v may))))))) in
    ap (λ h. pair_at p q h m.second m.env) a.0
    ∙ (ap (λ g. pair_at p q to.first g m.env) b.0 ∙ ap (λ e. pair_at p q to.first to.second e) env)

-- if both paths wait, neither runs
both_wait : {V : Type 0} → (p q : PathOf V) (m : Pair V p q) → m.first.mode ≡ Waiting → m.second.mode ≡ Waiting → AreIdle p q m
both_wait p q m here there = record { first = subst IsIdle (sym here) waits; second = subst IsIdle (sym there) waits }

-- there is one pair at which part n begins
pub one_beginning : {V : Type 0} → IsStable V → (p q : PathOf V) (start : Pair V p q) (n : ℕ) (m to : Pair V p q) → Begins p q start n m → Begins p q start n to → m ≡ to
one_beginning stable p q start zero _ _ at_start at_start = refl
one_beginning stable p q start (suc n) _ _ (behind _ m0 m before w here there) (behind _ n0 n' since u here' there') =
    let from = one_beginning stable p q start n m0 n0 before since in
    let same = one_pair stable p q n n0 m n' (subst (λ k. IsWithin p q n k m) from w) u (both_wait p q m here there) (both_wait p q n' here' there') in
    ap (λ k. pair_at p q (behind_wait p k.first) (behind_wait q k.second) k.env) same

-- both paths have finished
abbrev pub AreFinished : {V : Type 0} → (p q : PathOf V) → Pair V p q → Type 0
AreFinished p q m = (m.first.mode ≡ Finished) × (m.second.mode ≡ Finished)

-- if both paths have finished, neither runs
finished_idle : {V : Type 0} → (p q : PathOf V) (m : Pair V p q) → AreFinished p q m → AreIdle p q m
finished_idle p q m f = record { first = subst IsIdle (sym f.0) finished; second = subst IsIdle (sym f.1) finished }

-- part n ended with both paths at waits
pub record IsPassed {V : Type 0} (p q : PathOf V) (start : Pair V p q) (n : ℕ) : Type 0 where
  -- the pair as the part began
  pub m0 : Pair V p q
  -- the pair as the part ended
  pub m : Pair V p q
  pub begins : Begins p q start n m0
  pub within : IsWithin p q n m0 m
  pub here : m.first.mode ≡ Waiting
  pub there : m.second.mode ≡ Waiting

-- each part before one that begins ended with both paths at waits
passed_before : {V : Type 0} → (p q : PathOf V) (start : Pair V p q) (n k : ℕ) (to : Pair V p q) → Begins p q start k to → n < k → IsPassed p q start n
passed_before p q start n _ _ at_start h = absurd (omega arith)
passed_before p q start n _ _ (behind k m0 m before w here there) h =
    go (last_or_before n k (omega (arith, h))) (λ less. passed_before p q start n k m0 before less)
  where
    go : (n ≡ k) ⊎ (n < k) → (n < k → IsPassed p q start n) → IsPassed p q start n
    go (inl e) further =
        let all : IsPassed p q start k = record { m0 = m0; m = m; begins = before; within = w; here = here; there = there } in
        subst (λ i. IsPassed p q start i) (sym e) all
    go (inr less) further = further less

-- one part does not both end with the paths at waits and with the paths finished
not_both : {V : Type 0} → IsStable V → (p q : PathOf V) (start : Pair V p q) (n : ℕ) (m0 m : Pair V p q) → Begins p q start n m0 → IsWithin p q n m0 m
    → AreFinished p q m → IsPassed p q start n → ⊥
not_both stable p q start n m0 m b w f past =
    let from = one_beginning stable p q start n m0 past.m0 b past.begins in
    let same = one_pair stable p q n past.m0 m past.m (subst (λ k. IsWithin p q n k m) from w) past.within (finished_idle p q m f) (both_wait p q past.m past.here past.there) in
    let mode : Finished ≡ Waiting = sym f.0 ∙ (ap (λ k. k.first.mode) same ∙ past.here) in
    absurd cc

-- two numbers are equal, or one is less
pub less_same_more : (n k : ℕ) → (n < k) ⊎ ((n ≡ k) ⊎ (k < n))
less_same_more n k = grind arith

-- two runs that finish, each within some part, come to one pair
ends_alike : {V : Type 0} → IsStable V → (p q : PathOf V) (start m to : Pair V p q) → IsSomewhere p q start m → IsSomewhere p q start to
    → AreFinished p q m → AreFinished p q to → m ≡ to
ends_alike stable p q start m to a b fm ft = go (less_same_more a.n b.n)
  where
    go : (a.n < b.n) ⊎ ((a.n ≡ b.n) ⊎ (b.n < a.n)) → m ≡ to
    go (inl less) = absurd (not_both stable p q start a.n a.m0 m a.begins a.within fm (passed_before p q start a.n b.n b.m0 b.begins less))
    go (inr (inr more)) = absurd (not_both stable p q start b.n b.m0 to b.begins b.within ft (passed_before p q start b.n a.n a.m0 a.begins more))
    go (inr (inl e)) =
        let from = one_beginning stable p q start b.n a.m0 b.m0 (subst (λ i. Begins p q start i a.m0) e a.begins) b.begins in
        one_pair stable p q b.n b.m0 m to (subst (λ k. IsWithin p q b.n k m) from (subst (λ i. IsWithin p q i a.m0 m) e a.within)) b.within
        (finished_idle p q m fm) (finished_idle p q to ft)

-- Where no part has a race, any two runs that finish come to the same states and the same values.
pub race_free_runs_agree : {V : Type 0} → IsStable V → (p q : PathOf V) → IsFree p q → (start m to : Pair V p q)
    → Stands p 0 start.first.mode start.first.state → Stands q 0 start.second.mode start.second.state
    → IsRun p q start m → IsRun p q start to → AreFinished p q m → AreFinished p q to → m ≡ to
race_free_runs_agree stable p q free start m to here there one_run other fm ft =
    ends_alike stable p q start m to (run_somewhere p q free start m here there one_run) (run_somewhere p q free start to here there other) fm ft
