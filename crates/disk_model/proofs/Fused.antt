-- What a fuse makes of the calls that it passes on, and of those that it fails: a refinement of the
-- disk below it.
-- For the proofs of src/fuse.rt.
use Rattle.std.proofs.Common.{◌≡◌, ◌⊎◌, inl, inr, ⊎_elim, ℕ, ◌+◌, ◌-◌, ◌^◌, ◌≤◌, ◌<◌, min, List, length, Bool, true, false, refl, sym, ap, arith, subst, Result}
use Rattle.std.specs.Prelude.{◌==◌, not}
use Rattle.disk_model.specs.Device.{Torn, Tears, Looks, Elapses, HasCause}
use Rattle.nc_number.specs.Faults.{next}
use Rattle.disk_model.specs.Calls.{Measures, Fetches, Writes, Syncs}
use Rattle.disk_model.specs.Memory.{Memory, CrashLeaves, CrashLeft, MemoryAllows, memory_state, after_write}
use Rattle.disk_model.specs.Fuse.{Fuse, FuseAllows, after_stop, fuse_after_write, fuse_state}

-- a fuse round this disk that has failed no call yet
abbrev pub whole : Memory → ℕ → ℕ → Fuse
whole inner passes reach = record { inner = inner; passes = passes; burnt = 0; reach = reach }

-- A call that a fuse passes on, which has failed none: from `old` to `new` of the disk below. `p`
-- and `q` are how many calls it will still pass on before and after, `r` the end of its failed
-- writes.
module _ (old new : Memory) (p q r : ℕ) (less : p - 1 ≤ q) where
  -- a fuse that has failed no call counts just the calls of the disk below
  at_calls : old.calls + 0 ≡ old.calls
  at_calls = omega arith

  -- what a crash since a time may have left of the disk below after the call
  Since : ℕ → List ℕ → Type 0
  Since t c = CrashLeaves new c ⊎ CrashLeft new t c

  -- if time goes on below by a step, it does for the fuse
  time : (step : List ℕ → List ℕ → Type 0) → Elapses step (memory_state old) (memory_state new) → Elapses step (fuse_state (whole old p r)) (fuse_state (whole new q r))
  unfolding Since
  time step passed = record {
    later = omega (arith, passed.later);
    moves = omega (arith, passed.moves);
    covered = λ c here. subst (λ (t : ℕ). Since t c) (sym at_calls) (passed.covered c here);
    inside = λ c since. passed.inside c (subst (λ (t : ℕ). Since t c) at_calls since);
    before = λ t c le since. ⊎_elim (λ earlier. inl earlier) (λ now. inr (subst (λ (t : ℕ). Since t c) (sym at_calls) now)) (passed.before t c (omega (arith, le)) since);
  }

  -- if the disk below still allows what it allowed, so does the fuse, with one call less to pass on
  allows : ((calls end : ℕ) → MemoryAllows old calls end → MemoryAllows new calls end) → new.calls ≡ next old.calls → (calls end : ℕ) → FuseAllows (whole old p r) calls end → FuseAllows (whole new q r) calls end
  allows more counted calls end allowed =
      let small = allowed.inner.plan.counted in
      record { inner = more calls end allowed.inner; passed = omega (arith, less, counted, small, allowed.passed); unburnt = λ used. refl }

  -- a call that writes nothing, passed on, writes nothing
  pub passed_looks : Looks (memory_state old) (memory_state new) → Looks (fuse_state (whole old p r)) (fuse_state (whole new q r))
  passed_looks passed = record {
    time = time (λ b c. c ≡ b) passed.time;
    same = passed.same;
    counted = λ bytes is. omega (arith, passed.counted bytes is);
    reach = λ bytes is. omega (arith, passed.reach bytes is);
    allows = allows passed.allows (passed.counted old.bytes refl);
  }

  -- a write that is passed on tears no more than it does below
  pub passed_tears : (at n : ℕ) → Tears at n (memory_state old) (memory_state new) → Tears at n (fuse_state (whole old p r)) (fuse_state (whole new q r))
  passed_tears at n passed = record {
    time = time (Torn at n) passed.time;
    told = passed.told;
    untold = passed.untold;
    counted = λ bytes is. omega (arith, passed.counted bytes is);
    reach = λ bytes is. omega (arith, passed.reach bytes is);
    allows = allows passed.allows (passed.counted old.bytes refl);
  }

  -- a call that is passed on counts as many faults as below
  pub passed_cause : {T E : Type 0} (result : Result T E) → HasCause (memory_state old) (memory_state new) result → HasCause (fuse_state (whole old p r)) (fuse_state (whole new q r)) result
  passed_cause result passed = record { later = omega (arith, passed.later); failed = λ err. omega (arith, passed.failed err); calm = λ ok. ap (λ k. min (k + 0) (2 ^ 64 - 1)) (passed.calm ok) }

-- A call that is failed reaches nothing. `reach` is the end of failed writes after it.
module _ (f : Fuse) (fits : f.burnt < 2 ^ 64) (out : f.passes ≡ 0) (reach : ℕ) where
  -- the fuse after it failed the call
  abbrev stopped : Fuse
  stopped = record (after_stop f) { reach = reach }

  -- a failed call moves the time and no image
  stopped_time : (step : List ℕ → List ℕ → Type 0) → ((c : List ℕ) → step c c) → Elapses step (fuse_state f) (fuse_state stopped)
  stopped_time step still = record {
    later = omega (arith, fits);
    moves = omega (arith, fits);
    covered = λ c here. inl here;
    inside = λ c since. elim since [ inl now ↦ (c, now, still c) | inr past ↦ absurd (omega (arith, past.1)) ];
    before = λ t c le since. inl since;
  }

  -- a failed call leaves what the fuse allows: all of that was used up before
  stopped_allows : (calls end : ℕ) → FuseAllows f calls end → FuseAllows stopped calls end
  stopped_allows calls end allows = record { inner = allows.inner; passed = allows.passed; unburnt = λ used. absurd (omega (arith, used, out, allows.passed)) }

-- A call that is passed on by a fuse `f` that has failed none: `n` is the disk below after the
-- call, `p` how many calls the fuse then passes on.
module _ (f : Fuse) (n : Memory) (p : ℕ) (less : f.passes - 1 ≤ p) (none : f.burnt ≡ 0) where
  -- a call that writes nothing below writes nothing when the fuse passes it on
  on_looks : Looks (memory_state f.inner) (memory_state n) → Looks (fuse_state f) (fuse_state (record f { passes = p; inner = n }))
  on_looks passed = subst (λ (b : ℕ). Looks (fuse_state (record f { burnt = b })) (fuse_state (record f { burnt = b; passes = p; inner = n }))) (sym none) (passed_looks f.inner n f.passes p f.reach less passed)

  -- a write that tears its range below tears it when the fuse passes it on
  on_tears : (at len : ℕ) → Tears at len (memory_state f.inner) (memory_state n) → Tears at len (fuse_state f) (fuse_state (record f { passes = p; inner = n }))
  on_tears at len passed = subst (λ (b : ℕ). Tears at len (fuse_state (record f { burnt = b })) (fuse_state (record f { burnt = b; passes = p; inner = n }))) (sym none) (passed_tears f.inner n f.passes p f.reach less at len passed)

  -- a call that is passed on counts as many faults as below
  on_cause : {T E : Type 0} (result : Result T E) → HasCause (memory_state f.inner) (memory_state n) result → HasCause (fuse_state f) (fuse_state (record f { passes = p; inner = n })) result
  on_cause result passed = subst (λ (b : ℕ). HasCause (fuse_state (record f { burnt = b })) (fuse_state (record f { burnt = b; passes = p; inner = n })) result) (sym none) (passed_cause f.inner n f.passes p f.reach less result passed)

-- A call that is passed on, where the fuse is told by equations: `f` before the call, `i` once it
-- has counted the call; `n` is the disk below after the call.
module _ (f i : Fuse) (n : Memory) (none : f.burnt ≡ 0) (is : i ≡ record f { passes = f.passes - 1 }) where
  -- the passes that are left after the call are what the module above asks for
  less : f.passes - 1 ≤ f.passes - 1
  less = omega arith

  -- a length that is passed on keeps the trait's clause on lengths
  pub carried_measures : {E : Type 0} (result : Result ℕ E) → Measures (memory_state i.inner) (memory_state n) result → Measures (fuse_state f) (fuse_state (record i { inner = n })) result
  carried_measures result =
      subst (λ (k : Fuse). Measures (memory_state k.inner) (memory_state n) result → Measures (fuse_state f) (fuse_state (record k { inner = n })) result) (sym is)
      (λ does. record { size = does.size; small = does.small; looks = on_looks f n (f.passes - 1) less none does.looks; cause = on_cause f n (f.passes - 1) less none result does.cause })

  -- a read that is passed on keeps the trait's clause on reads
  pub carried_fetches : {E : Type 0} (at : ℕ) (before after : List ℕ) (result : Result ℕ E) → Fetches at before after (memory_state i.inner) (memory_state n) result → Fetches at before after (fuse_state f) (fuse_state (record i { inner = n })) result
  carried_fetches at before after result =
      subst (λ (k : Fuse). Fetches at before after (memory_state k.inner) (memory_state n) result → Fetches at before after (fuse_state f) (fuse_state (record k { inner = n })) result) (sym is)
      (λ does. record { within = does.within; count = does.count; got = does.got; looks = on_looks f n (f.passes - 1) less none does.looks; cause = on_cause f n (f.passes - 1) less none result does.cause })

  -- a write that is passed on keeps the trait's clause on writes
  pub carried_writes : {T E : Type 0} (at : ℕ) (bytes : List ℕ) (result : Result T E) → Writes at bytes (memory_state i.inner) (memory_state n) result → Writes at bytes (fuse_state f) (fuse_state (record i { inner = n })) result
  carried_writes at bytes result =
      subst (λ (k : Fuse). Writes at bytes (memory_state k.inner) (memory_state n) result → Writes at bytes (fuse_state f) (fuse_state (record k { inner = n })) result) (sym is)
      (λ does. record { written = does.written; small = does.small; tears = on_tears f n (f.passes - 1) less none at (length bytes) does.tears; cause = on_cause f n (f.passes - 1) less none result does.cause })

  -- a sync that is passed on keeps the trait's clause on syncs
  pub carried_syncs : {T E : Type 0} (result : Result T E) → Syncs (memory_state i.inner) (memory_state n) result → Syncs (fuse_state f) (fuse_state (record i { inner = n })) result
  carried_syncs result =
      subst (λ (k : Fuse). Syncs (memory_state k.inner) (memory_state n) result → Syncs (fuse_state f) (fuse_state (record k { inner = n })) result) (sym is)
      (λ does. record { settled = does.settled; looks = on_looks f n (f.passes - 1) less none does.looks; cause = on_cause f n (f.passes - 1) less none result does.cause })

  -- a write that is passed on leaves the fuse as `fuse_after_write` says
  pub carried_model : (at : ℕ) (bytes : List ℕ) → true ≡ not (f.passes == 0) → n ≡ after_write i.inner at bytes → record i { inner = n } ≡ fuse_after_write f at bytes
  carried_model at bytes passes =
      subst (λ (k : Fuse). n ≡ after_write k.inner at bytes → record k { inner = n } ≡ fuse_after_write f at bytes) (sym is)
      (λ same. rw (not_out (f.passes == 0) passes) (ap (λ (m : Memory). record f { passes = f.passes - 1; inner = m }) same))
    where
      not_out : (b : Bool) → true ≡ not b → b ≡ false
      not_out false e = refl
      not_out true e = absurd (cc)
