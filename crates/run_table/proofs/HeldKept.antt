-- A held table stays one over each call that changes it, and a table that is taken out may be held
-- again.
-- EndsTold and the proofs of src/held.rt use it.
use Rattle.run_table.specs.declared.resting.Resting.{Resting}
use Rattle.std.proofs.Common.{◌≡◌, ◌≢◌, [], ◌++◌, ℕ, ◌≤◌, ◌&&◌, Bool, true, false, length, refl, sym, ◌∙◌, ap, subst, Option, Some, None}
use Rattle.std.specs.Prelude.{not, MatchOption}
use Rattle.disk_model.specs.Device.{DiskState}
use Rattle.nc_number.specs.declared.path.Path.{Path}
use Rattle.nc_outside.specs.declared.halt.Halt.{Halt}
use Rattle.nc_outside.specs.declared.halt.Halt.TheVariants as halt
use Rattle.nc_outside.specs.declared.halt.Next.TheVariants as next
use Rattle.nc_outside.specs.Calls.{IsOfTurret}
use Rattle.seat_table.specs.Turning.{Answers as Adds, first_reason}
use Rattle.run_table.specs.declared.answer.TableStep.{TableStep}
use Rattle.nc_number.specs.declared.both.Both.{Both}
use Rattle.run_table.specs.Draining.{once_rested, rest_told, resting_behind, with_drained, FitsRest}
use Rattle.run_table.specs.declared.resting.Resting.TheVariants.{Unasked, Asked, Rests}
use Rattle.run_table.specs.Made.{joined}
use Rattle.nc_number.specs.Both.{of_path}
use Rattle.nc_number.specs.declared.path.Path.TheVariants.{One, Two}
use Rattle.run_table.specs.Kept.{TableView, IsTable}
use Rattle.run_table.specs.Since.{Since}
use Rattle.run_table.specs.Stepping.{step_of, IsStep}
use Rattle.run_table.specs.Holding.{HeldView, held_of, IsOf, ShowsFlushed, IsHeld, MayHoldAgain, without_turret, records_since, told_since, next_of, is_lost}
use Rattle.run_table.proofs.HeldSteps.{comes, halted_told, still_lost}
use Rattle.run_table.proofs.FlushedShown.{shows_on, shown_unless}
use Rattle.run_table.proofs.Then.{since_more}

-- whether a record was lost hangs on the numbers of records alone
pub lost_by : (shown : Bool) (result : TableStep) {a a' b b' : ℕ} → a ≡ a' → b ≡ b' → (shown && not (is_lost result a b)) ≡ (shown && not (is_lost result a' b'))
lost_by shown result first second = λ i. shown && not (is_lost result (first i) (second i))

-- if a table came of an opening, what has come of the table since came of that opening too
pub of_more : {D : Type 0} (state : D → DiskState) (opened : Option (TableView D)) (t t' : TableView D) → IsOf state opened t → Since state t t' → IsOf state opened t'
of_more state None t t' of since = absurd of
of_more state (Some start) t t' of since = since_more state start t t' of since

-- a step of a path of a held table, from the table t to t'
module _ {D : Type 0} (state : D → DiskState) (opened : Option (TableView D)) (path : Path) (t t' : TableView D) (result : TableStep) (shown shown' : Bool)
    (table : IsTable state t) (within : t.recording.flushed ≤ length t.recording.history) (held : IsHeld state opened t shown) (step : IsStep state (step_of t path) t t' result) (since : Since state t t')
    (resting : t'.resting ≡ resting_behind path result t.resting)
    (fits : FitsRest (of_path t.resting path) result)
    (shown_is : shown' ≡ (shown && not (is_lost result (length t.recording.history) (length t'.recording.history)))) where
  -- a step of a held table leaves a held table
  pub held_on : IsHeld state opened t' shown'
  held_on = record { of = of_more state opened t t' held.of since; lost = go opened held.of; shows = shows opened held.of held.shows }
    where
      shows : (o : Option (TableView D)) → IsOf state o t → ShowsFlushed o (held_of t shown) t → ShowsFlushed o (held_of t' shown') t'
      shows None of is = absurd of
      shows (Some start) of is = shows_on state path start t t' result shown shown' table of held.lost within is step since resting fits shown_is

      go : (o : Option (TableView D)) → IsOf state o t → shown' ≡ false → t'.halt ≡ Some halt.Disk
      go None of = absurd of
      go (Some start) of = still_lost state path start t t' result shown shown' table of held.lost step resting fits shown_is

  -- a step of a held table tells the turret of its path what it answers
  pub held_answers : MatchOption (next_of result) (◌≡◌ {A = HeldView D} (held_of t' shown') (held_of t shown))
      (λ next. Adds (told_since opened (held_of t shown) path) next (told_since opened (held_of t' shown') path))
  held_answers = go opened held.of
    where
      go : (o : Option (TableView D)) → IsOf state o t → MatchOption (next_of result) (◌≡◌ {A = HeldView D} (held_of t' shown') (held_of t shown))
          (λ next. Adds (told_since o (held_of t shown) path) next (told_since o (held_of t' shown') path))
      go None of = absurd of
      go (Some start) of = (comes state path start t t' result shown shown' table of held.lost step resting fits shown_is).0

  -- a step of a held table tells the turret of the other path nothing
  pub held_others : (p : Path) → p ≢ path → told_since opened (held_of t' shown') p ≡ told_since opened (held_of t shown) p
  held_others = go opened held.of
    where
      go : (o : Option (TableView D)) → IsOf state o t → (p : Path) → p ≢ path → told_since o (held_of t' shown') p ≡ told_since o (held_of t shown) p
      go None of = absurd of
      go (Some start) of = (comes state path start t t' result shown shown' table of held.lost step resting fits shown_is).1

  -- a table that has stopped answers why, and nothing changes
  pub held_halted : (why : Halt) → t.halt ≡ Some why
      → (next_of result ≡ Some (next.Halted why)) × (t'.halt ≡ Some why) × ((p : Path) → told_since opened (held_of t' shown') p ≡ told_since opened (held_of t shown) p)
  held_halted = go opened held.of
    where
      go : (o : Option (TableView D)) → IsOf state o t → (why : Halt) → t.halt ≡ Some why
          → (next_of result ≡ Some (next.Halted why)) × (t'.halt ≡ Some why) × ((p : Path) → told_since o (held_of t' shown') p ≡ told_since o (held_of t shown) p)
      go None of = absurd of
      go (Some start) of = halted_told state path start t t' result shown shown' table of held.lost step resting fits shown_is

-- to set which turrets rest for a wait changes nothing of what has come of the table
pub of_resting : {D : Type 0} (state : D → DiskState) (opened : Option (TableView D)) (t : TableView D) (resting : Both Resting) → IsOf state opened t → IsOf state opened (record t { resting = resting })
of_resting state None t resting of = absurd of
of_resting state (Some start) t resting of =
    record { verified = of.verified; made = of.made; recording = of.recording; budget = of.budget; cause = of.cause }

-- a reason that isn't a fault of the disk changes nothing of what has come of the table
pub of_halt : {D : Type 0} (state : D → DiskState) (opened : Option (TableView D)) (t : TableView D) (why : Option Halt) → (why ≡ Some halt.Disk → t.halt ≡ Some halt.Disk)
    → IsOf state opened t → IsOf state opened (record t { halt = why })
of_halt state None t why disk of = absurd of
of_halt state (Some start) t why disk of =
    record { verified = of.verified; made = of.made; recording = of.recording; budget = of.budget; cause = λ is. of.cause (disk is) }

-- a reason without a turret's fault is a fault of the disk only if the reason itself is
pub no_turret_disk : (why : Option Halt) → without_turret why ≡ Some halt.Disk → why ≡ Some halt.Disk
no_turret_disk None is = absurd (let clash : None ≡ Some halt.Disk = is in cc)
no_turret_disk (Some (halt.Alarm alarm)) is = is
no_turret_disk (Some halt.Disk) is = is
no_turret_disk (Some (halt.Turret path)) is = absurd (let clash : None ≡ Some halt.Disk = is in cc)
no_turret_disk (Some halt.Full) is = is
no_turret_disk (Some halt.Budget) is = is

-- if a turret's fault is noted and the reason is then a fault of the disk, it was one before
pub first_disk : (kept : Option Halt) (why : Halt) → IsOfTurret why → first_reason kept why ≡ Some halt.Disk → kept ≡ Some halt.Disk
first_disk None (halt.Alarm alarm) turret is = absurd turret
first_disk None halt.Disk turret is = absurd turret
first_disk None (halt.Turret path) turret is = absurd (let clash : Some (halt.Turret path) ≡ Some halt.Disk = is in cc)
first_disk None halt.Full turret is = absurd turret
first_disk None halt.Budget turret is = absurd turret
first_disk (Some first) why turret is = is

-- a turret's fault does not replace a fault of the disk as the reason
pub disk_first : (kept : Option Halt) (why : Halt) → kept ≡ Some halt.Disk → first_reason kept why ≡ Some halt.Disk
disk_first kept why is = ap (λ (k : Option Halt). first_reason k why) is

-- what a table showed is still on the disk if only it is set which turrets rest for a wait
pub shows_resting : {D : Type 0} (opened : Option (TableView D)) (t : TableView D) (shown : Bool) (resting : Both Resting) → ShowsFlushed opened (held_of t shown) t
    → ShowsFlushed opened (held_of (record t { resting = resting }) shown) (record t { resting = resting })
shows_resting None t shown resting is = is
shows_resting (Some start) t shown resting is = is

-- what a table showed is still on the disk if only its reason is set
pub shows_halt : {D : Type 0} (opened : Option (TableView D)) (t : TableView D) (shown : Bool) (why : Option Halt) → ShowsFlushed opened (held_of t shown) t
    → ShowsFlushed opened (held_of (record t { halt = why }) shown) (record t { halt = why })
shows_halt None t shown why is = is
shows_halt (Some start) t shown why is = is

-- what was shown stays on the disk when the table is taken out, whatever its reason
taken_shown : {D : Type 0} (opened : Option (TableView D)) (t : TableView D) (shown : Bool) (why : Option Halt) → ShowsFlushed opened (held_of t shown) t
    → ShowsFlushed opened (held_of t shown) (record t { halt = why })
taken_shown None t shown why is = is
taken_shown (Some start) t shown why is = is

-- what was told doesn't hang on the reason
told_halt : {D : Type 0} (opened : Option (TableView D)) (t : TableView D) (shown : Bool) (why : Option Halt) (p : Path)
    → told_since opened (held_of (record t { halt = why }) shown) p ≡ told_since opened (held_of t shown) p
told_halt None t shown why p = refl
told_halt (Some start) t shown why p = refl

-- a turret that was told to rest rests by what it was told
once_same : (r : Resting) → rest_told (once_rested r) ≡ rest_told r
once_same Unasked = refl
once_same (Asked code) = refl
once_same (Rests code) = refl

-- to note that a turret rests leaves what was told to rest for
rest_same : (path p : Path) (resting : Both Resting) → rest_told (of_path (with_drained path resting) p) ≡ rest_told (of_path resting p)
rest_same One One resting = once_same resting.one
rest_same One Two resting = refl
rest_same Two One resting = refl
rest_same Two Two resting = once_same resting.two

-- to note that a turret rests for a wait tells nothing more
pub told_rests : {D : Type 0} (opened : Option (TableView D)) (t : TableView D) (shown : Bool) (path p : Path)
    → told_since opened (held_of (record t { resting = with_drained path t.resting }) shown) p ≡ told_since opened (held_of t shown) p
told_rests None t shown path p = ap (λ l. [] ++ l) (rest_same path p t.resting)
told_rests (Some start) t shown path p = ap (λ l. joined (records_since (Some start) (held_of t shown) p) ++ l) (rest_same path p t.resting)

-- a held table that is taken out
module _ {D : Type 0} (state : D → DiskState) (opened : Option (TableView D)) (t : TableView D) (shown : Bool) (held : IsHeld state opened t shown) where
  -- what a held table has shown is on the disk of the table that is taken out
  pub taken_shows : ShowsFlushed opened (held_of t shown) (record t { halt = without_turret t.halt })
  taken_shows = taken_shown opened t shown (without_turret t.halt) held.shows

  -- the table that is taken out may be held again, with the same told
  pub taken_again : without_turret t.halt ≢ Some halt.Disk → MayHoldAgain state opened (held_of t shown) (record t { halt = without_turret t.halt })
  taken_again free =
      let free' : t.halt ≢ Some halt.Disk = λ is. free (ap without_turret is) in
      let now : shown ≡ true = shown_unless t shown held.lost free' in
      record {
        may = record {
          of = of_halt state opened t (without_turret t.halt) (no_turret_disk t.halt) held.of;
          shows = shows_halt opened t true (without_turret t.halt) (subst (λ (b : Bool). ShowsFlushed opened (held_of t b) t) now held.shows);
        };
        told = λ p.
            told_halt opened t true (without_turret t.halt) p ∙ ap (λ (b : Bool). told_since opened (held_of t b) p) (sym now);
      }
