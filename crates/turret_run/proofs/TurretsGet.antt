-- What a turret got in several calls, one after another.
-- TurretsRun and the proofs of `place_both` (src/placing.rt), `run_opened` and `run_with_turrets`
-- (src/run.rt) use it.
use Rattle.std.proofs.Common.{arith, ◌≡◌, ◌⊎◌, ◌+◌, ◌≤◌, ℕ, suc, Bool, true, false, true≢false, IsTrue, List, [], ◌∷◌, ◌++◌, length, take, drop, refl, ap, sym, ◌∙◌, subst, inl, inr}
use Rattle.std.proofs.lemmas.List.{drop_all}
use Rattle.nc_number.specs.declared.point.Point.{Point}
use Rattle.nc_outside.specs.declared.got.Got.{Got}
use Rattle.nc_outside.specs.Faults.{CountsFault}
use Rattle.nc_outside.specs.Received.{TurretState, Receives}
use Rattle.drive_line.specs.Driving.{DrivenState, has_failed, failed_calls, move_count, GetsFirst, Serves}
use Rattle.drive_line.proofs.Adding.{adds_none, adds_both}
use Rattle.turret_run.specs.Served.{place_told, IsPlaced, GetsInRun, GetsAll, GetsPart, FailsAmong, GetsSome, Misses}

-- a turret that was not called got a prefix of anything, the empty one
pub not_called : (what : List Got) (a : TurretState) → GetsPart what a a
not_called what a = (
  0,
  record {
    within = omega arith;
    received = adds_none a.received;
    counted = record { later = omega arith; rose = λ p. absurd (true≢false (sym p)); kept = λ _. refl };
  },
)

-- a turret that was placed got its place and the rest there at most
pub placed_part : (at : Point) (a b : TurretState) → IsPlaced at a b → GetsPart (place_told at) a b
placed_part at a b placed = (
  2,
  record {
    within = omega arith;
    received = placed.0;
    counted = let same = placed.1 in record { later = omega (arith, same); rose = λ p. absurd (true≢false (sym p)); kept = λ _. same };
  },
)

-- a turret that was placed and served what it was told got all that is due, or missed so many moves of
-- it, and failed or not
abbrev pub GotBy : Bool → ℕ → List Got → TurretState → TurretState → Type 0
GotBy failed missed what a c = (n : ℕ) × (missed ≡ move_count (drop n what)) × (failed ≡ false → n ≡ length what) × GetsInRun what n failed a c

-- a turret that was placed and then served what it was told got its place and what it did not miss
pub served : (at : Point) (told : List Got) (a b : TurretState) (d : DrivenState) → IsPlaced at a b → Serves told b d
    → GotBy (has_failed d.phase) d.missed (place_told at ++ told) a d.state
served at told a b d place s =
    let within = s.gets.within in
    let f = failed_calls (has_failed d.phase) in
    let calls : 2 + (s.n + f) ≡ suc (suc s.n) + f = omega arith in (
      suc (suc s.n),
      s.missed,
      (λ calm. ap (λ (k : ℕ). suc (suc k)) (s.all calm)),
      record {
        gets = record {
          within = omega (arith, within);
          received = subst (λ k. Receives a d.state (place_told at ++ take s.n told) k) calls
              (adds_both a.received b.received d.state.received (place_told at) (take s.n told) 2 (s.n + f) place.0 s.gets.received);
          counted = subst (λ k. CountsFault k d.state.faults (IsTrue (has_failed d.phase))) place.1 s.gets.counted;
        };
        placed = omega arith;
      },
    )

-- a turret that got all that is due, or missed so many moves of it, and failed or not
module _ (failed : Bool) (missed : ℕ) (what : List Got) (a c : TurretState) (got : GotBy failed missed what a c) where
  -- a turret that did not fail got all
  pub all_of : failed ≡ false → GetsAll what a c
  all_of is = subst (λ n. GetsInRun what n false a c) (got.2 is) (subst (λ f. GetsInRun what got.0 f a c) is got.3)

  -- a turret that failed got a prefix
  pub fails_of : failed ≡ true → FailsAmong what a c
  fails_of is = (got.0, subst (λ f. GetsInRun what got.0 f a c) is got.3)

  -- a turret got a prefix, and may have failed
  pub some_of : GetsSome what a c
  some_of = (got.0, failed, got.3)

  -- a turret missed those moves that it did not get
  pub misses_of : Misses what missed a c
  misses_of = (got.0, failed, got.1, (λ calm. let all = got.2 calm in got.1 ∙ ap move_count (drop_all got.0 what (omega (arith, all)))), got.3)

-- a turret got all that is due, or it failed
pub either_of : (failed : Bool) (missed : ℕ) (what : List Got) (a c : TurretState) → GotBy failed missed what a c → GetsAll what a c ⊎ FailsAmong what a c
either_of true missed what a c got = inr (fails_of true missed what a c got refl)
either_of false missed what a c got = inl (all_of false missed what a c got refl)
