-- What a drive keeps: its turret was told what the items that were taken tell, and if it failed,
-- that has halted the run. `serve` and `run_drive` (src/drive.rt) rest on it.
use Rattle.std.proofs.Common.{arith, ◌≡◌, ◌⊎◌, ◌≤◌, ℕ, suc, true, false, true≢false, List, take, [], ◌∷◌, ◌++◌, length, refl, ap, sym, ◌∙◌, subst, append-nil, inl, inr, ⊎_elim, Option, Some, None, MatchBool}
use Rattle.nc_number.specs.declared.path.Path.{Path}
use Rattle.nc_outside.specs.Calls.{IsCalled}
use Rattle.nc_outside.specs.declared.lined_move.LinedMove.{LinedMove}
use Rattle.nc_outside.specs.declared.got.Got.{Got}
use Rattle.nc_outside.specs.declared.got.Got.TheVariants.{Moved, Rested}
use Rattle.nc_outside.specs.declared.rest.Rest.TheVariants as rest
use Rattle.std.proofs.lemmas.List.{take_all}
use Rattle.nc_outside.specs.declared.halt.Halt.TheVariants.{Turret}
use Rattle.nc_outside.specs.declared.stepper.Call.{Call}
use Rattle.nc_outside.specs.declared.stepper.Call.TheVariants.{Halt}
use Rattle.nc_outside.specs.Received.{TurretState}
use Rattle.drive_line.specs.declared.item.Item.{Item}
use Rattle.drive_line.specs.declared.item.Item.TheVariants.{Move, Mark, Finish, End}
use Rattle.drive_line.specs.declared.phase.Phase.{Phase}
use Rattle.drive_line.specs.declared.phase.Phase.TheVariants.{Moving, Still, Failed, Halted}
use Rattle.drive_line.specs.Driving.{DrivenState, has_failed, move_count, IsAtRest, Serves}
use Rattle.drive_line.specs.Line.{moves_among, told_among, has_end, Takes}
use Rattle.path_worker.specs.Drive.{halts_at, halts_for, once_halted, StandsAt, HasSettled}
use Rattle.path_worker.proofs.Working.{called_more}

-- without a call the list of calls stays as it is
pub called_none : (a : Option (List Call)) → IsCalled a a []
called_none None = refl
called_none (Some was) = ap Some (sym (append-nil was))

-- what two lists of items tell, put together, is what the first tells and then what the second does
told_of_both : (a b : List Item) → told_among (a ++ b) ≡ told_among a ++ told_among b
told_of_both [] b = refl
told_of_both (Move what ∷ a) b = ap (λ l. Moved what ∷ l) (told_of_both a b)
told_of_both (Mark code ∷ a) b = ap (λ l. Rested (rest.Wait code) ∷ l) (told_of_both a b)
told_of_both (Finish ∷ a) b = ap (λ l. Rested rest.End ∷ l) (told_of_both a b)
told_of_both (End ∷ a) b = told_of_both a b

-- the moves among items are counted among what they tell
moves_counted : (items : List Item) → move_count (told_among items) ≡ length (moves_among items)
moves_counted [] = refl
moves_counted (Move what ∷ items) = ap suc (moves_counted items)
moves_counted (Mark code ∷ items) = moves_counted items
moves_counted (Finish ∷ items) = moves_counted items
moves_counted (End ∷ items) = moves_counted items

-- a move that is taken is told behind what was told so far
pub move_behind : (items : List Item) (what : LinedMove) → told_among (items ++ Move what ∷ []) ≡ told_among items ++ Moved what ∷ []
move_behind items what = told_of_both items (Move what ∷ [])

-- a mark tells the rest before the wait
pub mark_behind : (items : List Item) (code : ℕ) → told_among (items ++ Mark code ∷ []) ≡ told_among items ++ Rested (rest.Wait code) ∷ []
mark_behind items code = told_of_both items (Mark code ∷ [])

-- where the path has ended its rest there is told
pub finish_behind : (items : List Item) → told_among (items ++ Finish ∷ []) ≡ told_among items ++ Rested rest.End ∷ []
finish_behind items = told_of_both items (Finish ∷ [])

-- the end of the line tells nothing
pub end_behind : (items : List Item) → told_among (items ++ End ∷ []) ≡ told_among items
end_behind items = told_of_both items (End ∷ []) ∙ append-nil (told_among items)

-- a turret that has not failed may be on its way, or stands still
pub stands_on : (phase : Phase) → has_failed phase ≡ false → (phase ≡ Moving) ⊎ (phase ≡ Still)
stands_on Moving calm = inl refl
stands_on Still calm = inr refl
stands_on Failed calm = absurd (true≢false calm)
stands_on Halted calm = absurd (true≢false calm)

-- what is taken before the end stands behind the items so far
pub taken_open : (old new : List Item) (item : Item) → has_end old ≡ false → Takes old new item → new ≡ old ++ item ∷ []
taken_open old new item open_ taken = subst (λ b. MatchBool b ((new ≡ old) × (item ≡ End)) (new ≡ old ++ item ∷ [])) open_ taken

-- behind a fault that has halted the run nothing is left to be halted
pub halted_once : (was is : Phase) → is ≡ once_halted was → once_halted is ≡ is
halted_once Moving is e = ap once_halted e ∙ sym e
halted_once Still is e = ap once_halted e ∙ sym e
halted_once Failed is e = ap once_halted e ∙ sym e
halted_once Halted is e = ap once_halted e ∙ sym e

-- The steps of a drive at an item: how the turret stood, how it stands when it has served the item,
-- and how behind the halt.
module _ (first then last : Phase) (steady : once_halted first ≡ first) (halted : last ≡ once_halted then)
    (failed : has_failed first ≡ true → then ≡ first) where
  -- a turret that stood still or failed has settled behind the halt
  settled : (then ≡ Still) ⊎ (then ≡ Failed) → HasSettled last
  settled stands = ⊎_elim (λ (e : then ≡ Still). inl (halted ∙ ap once_halted e)) (λ (e : then ≡ Failed). inr (halted ∙ ap once_halted e)) stands

  -- at a mark and at the end the turret has settled behind the halt, also if it had failed before
  pub at_rest : (has_failed first ≡ false → (then ≡ Still) ⊎ (then ≡ Failed)) → HasSettled last
  at_rest stands = go first refl steady
    where
      go : (p : Phase) → first ≡ p → once_halted first ≡ first → HasSettled last
      go Moving e s = settled (stands (ap has_failed e))
      go Still e s = settled (stands (ap has_failed e))
      go Failed e s = let clash : Halted ≡ Failed = sym (ap once_halted e) ∙ s ∙ e in absurd (cc clash)
      go Halted e s = inr (halted ∙ ap once_halted (failed (ap has_failed e) ∙ e))

-- a turret that served an item is not halted
not_halted : (item : Item) (p : Phase) → StandsAt item p → p ≡ Halted → ⊥
not_halted (Move what) p stands e = ⊎_elim (λ (f : p ≡ Moving). absurd (one (sym f ∙ e))) (λ (f : p ≡ Failed). absurd (two (sym f ∙ e))) stands
  where
    one : Moving ≡ Halted → ⊥
    one x = cc

    two : Failed ≡ Halted → ⊥
    two x = cc
not_halted (Mark code) p stands e = ⊎_elim (λ (f : p ≡ Still). absurd (one (sym f ∙ e))) (λ (f : p ≡ Failed). absurd (two (sym f ∙ e))) stands
  where
    one : Still ≡ Halted → ⊥
    one x = cc

    two : Failed ≡ Halted → ⊥
    two x = cc
not_halted Finish p stands e = ⊎_elim (λ (f : p ≡ Still). absurd (one (sym f ∙ e))) (λ (f : p ≡ Failed). absurd (two (sym f ∙ e))) stands
  where
    one : Still ≡ Halted → ⊥
    one x = cc

    two : Failed ≡ Halted → ⊥
    two x = cc
not_halted End p stands e = ⊎_elim (λ (f : p ≡ Moving). absurd (one (sym f ∙ e))) (λ (f : p ≡ Still). absurd (two (sym f ∙ e))) stands
  where
    one : Moving ≡ Halted → ⊥
    one x = cc

    two : Still ≡ Halted → ⊥
    two x = cc

-- the calls of a halter whose turret had not failed before
calm_on : (path : Path) (a b c : Option (List Call)) (then last : Phase) → last ≡ once_halted then → (then ≡ Halted → ⊥) → IsCalled a b [] → IsCalled b c (halts_for path then)
    → IsCalled a c (halts_at path (has_failed last))
calm_on path a b c Moving last h n p q = subst (λ x. IsCalled a c (halts_at path (has_failed x))) (sym h) (called_more a b c [] [] p q)
calm_on path a b c Still last h n p q = subst (λ x. IsCalled a c (halts_at path (has_failed x))) (sym h) (called_more a b c [] [] p q)
calm_on path a b c Failed last h n p q = subst (λ x. IsCalled a c (halts_at path (has_failed x))) (sym h) (called_more a b c [] (Halt (Turret path) ∷ []) p q)
calm_on path a b c Halted last h n p q = absurd (n refl)

-- the calls of the halter: how the turret stood, how it stands when it has served the item, and how
-- behind the halt
pub halts_on : (path : Path) (item : Item) (a b c : Option (List Call)) (first then last : Phase) → once_halted first ≡ first → last ≡ once_halted then
    → (has_failed first ≡ true → then ≡ first) → (has_failed first ≡ false → StandsAt item then)
    → IsCalled a b (halts_at path (has_failed first)) → IsCalled b c (halts_for path then) → IsCalled a c (halts_at path (has_failed last))
halts_on path item a b c Moving then last s h f stands p q = calm_on path a b c then last h (not_halted item then (stands refl)) p q
halts_on path item a b c Still then last s h f stands p q = calm_on path a b c then last h (not_halted item then (stands refl)) p q
halts_on path item a b c Failed then last s h f stands p q = absurd (cc s)
halts_on path item a b c Halted then last s h f stands p q =
    let e : then ≡ Halted = f refl in
    subst (λ x. IsCalled a c (halts_at path (has_failed x))) (sym (h ∙ ap once_halted e))
    (called_more a b c (Halt (Turret path) ∷ []) [] p (subst (λ x. IsCalled b c (halts_for path x)) e q))

-- the turret took every move of these items and stands still behind it, or the run was halted
pub rests : (items : List Item) (start : TurretState) (d : DrivenState) → Serves (told_among items) start d → HasSettled d.phase → IsAtRest d (length (moves_among items))
rests items start d s settled = ⊎_elim
    (λ (e : d.phase ≡ Still).
    let whole : take s.n (told_among items) ≡ told_among items = take_all s.n (told_among items) (subst (λ k. length (told_among items) ≤ k) (sym (s.all (ap has_failed e))) (omega arith)) in
    inl (e, s.taken ∙ ap move_count whole ∙ moves_counted items)) (λ (e : d.phase ≡ Halted). inr e) settled
