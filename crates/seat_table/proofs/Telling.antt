-- What a stepper's calls told is what its seat lists: each call keeps that. The functions of
-- src/stepper.rt rest on it.
use Rattle.std.proofs.Common.{◌≡◌, ◌⊎◌, inl, inr, ℕ, List, [], ◌∷◌, ◌++◌, refl, ap, sym, ◌∙◌, ⊎_elim, append-nil, subst, Option}
use Rattle.std.specs.Prelude.{IsTrue, is_some}
use Rattle.nc_number.specs.declared.path.Path.{Path}
use Rattle.nc_outside.specs.declared.halt.Halt.{Halt as Reason}
use Rattle.nc_outside.specs.declared.halt.Next.{Next}
use Rattle.nc_outside.specs.declared.stepper.Call.{Call}
use Rattle.nc_outside.specs.declared.stepper.Call.TheVariants.{Step, Drained, Halt}
use Rattle.nc_outside.specs.Calls.{told_at, told_by}
use Rattle.nc_outside.proofs.Listed.{told_by_both}
use Rattle.seat_table.specs.Passes.{Halter, has_halt}
use Rattle.seat_table.specs.Turning.{Tellings, Answers}
use Rattle.seat_table.specs.declared.knowing.Stop.{Stop}

-- What calls told is listed still after a step.
pub step_told : (path : Path) (before : Tellings) (next : Next) (after : Tellings) (calls : List Call) → told_by calls ≡ before → Answers before next after
    → told_by (calls ++ Step path next ∷ []) ≡ after
step_told path before next after calls is a =
    told_by_both calls (Step path next ∷ []) ∙ ap (λ l. told_by calls ++ l) (append-nil (told_at next)) ∙ ap (λ l. l ++ told_at next) is ∙ sym a

-- What calls told is listed still after a drain.
pub drain_told : (path : Path) (count : ℕ) (listed : Tellings) (calls : List Call) → told_by calls ≡ listed → told_by (calls ++ Drained path count ∷ []) ≡ listed
drain_told path count listed calls is = told_by_both calls (Drained path count ∷ []) ∙ (append-nil (told_by calls) ∙ is)

-- What calls told is listed still after a halt.
pub halt_told : (why : Reason) (listed : Tellings) (calls : List Call) → told_by calls ≡ listed → told_by (calls ++ Halt why ∷ []) ≡ listed
halt_told why listed calls is = told_by_both calls (Halt why ∷ []) ∙ (append-nil (told_by calls) ∙ is)

-- A halt among calls with one more is among the first, or is that one.
halt_behind : (calls : List Call) (call : Call) → IsTrue (has_halt (calls ++ call ∷ [])) → IsTrue (has_halt calls) ⊎ IsTrue (has_halt (call ∷ []))
halt_behind [] call is = inr is
halt_behind (Step path answer ∷ calls) call is = halt_behind calls call is
halt_behind (Drained path count ∷ calls) call is = halt_behind calls call is
halt_behind (Halt why ∷ calls) call is = inl refl

-- After a call of a stepper that halts: if a halt is among its calls, its pass knows that the table
-- has halted.
pub call_told : (old new : Halter) (call : Call) → new ≡ record old { calls = old.calls ++ call ∷ [] }
    → (IsTrue (has_halt old.calls) → IsTrue (is_some old.stop)) → (IsTrue (has_halt (call ∷ [])) → IsTrue (is_some old.stop))
    → IsTrue (has_halt new.calls) → IsTrue (is_some new.stop)
call_told old new call is told now halts =
    let calls : new.calls ≡ old.calls ++ call ∷ [] = ap (λ (h : Halter). h.calls) is in
    let stop : new.stop ≡ old.stop = ap (λ (h : Halter). h.stop) is in
    subst (λ (o : Option Stop). IsTrue (is_some o)) (sym stop)
    (⊎_elim told now (halt_behind old.calls call (subst (λ (l : List Call). IsTrue (has_halt l)) calls halts)))
