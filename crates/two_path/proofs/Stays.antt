-- A path that changed nothing but its state, and a turn at a wait while the other path waits at
-- another code: for Settled and `came_to_wait` (src/turning.rt).
use Rattle.std.proofs.Common.{◌≡◌, ℕ, ◌==◌, false, Option, Some, refl, ap, ◌∙◌}
use Rattle.nc_number.specs.declared.path.Path.{Path}
use Rattle.path_state.specs.View.{PathView}
use Rattle.two_path.specs.Machine.{Part, MachineView}
use Rattle.two_path.specs.Turns.{crossed_waits, with_alarm, result_at_wait}

-- a part that changed nothing but its path's state, and whose state did not change, is as it was
pub stays : (me now : Part) → now ≡ record me { path = now.path } → now.path ≡ me.path → now ≡ me
stays me now rest e = rest ∙ ap (λ (q : PathView). record me { path = q }) e

-- a part that changed nothing but its path's state is, with the old state put back, as it was
pub else_same : (me now : Part) → now ≡ record me { path = now.path } → record now { path = me.path } ≡ me
else_same me now rest = ap (λ (p : Part). record p { path = me.path }) rest

-- a turn at a wait while the other path waits at another code is the alarm of both
pub crossed : (path : Path) (line : ℕ) (m : MachineView) (code there : ℕ) (o : Option ℕ) → o ≡ Some there → (code == there) ≡ false
    → (result_at_wait path line m code o).machine ≡ with_alarm (crossed_waits path line) m
crossed path line m code there o e n = rw (e, n) refl
