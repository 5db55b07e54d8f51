-- What is known before a block says where the path stands that comes to it.
use Rattle.std.proofs.Common.{◌≡◌, false, Some, ℤ, ◌+ℤ◌, ap, subst, ◌∙◌}
use Rattle.nc_number.specs.declared.point.Point.{Point}
use Rattle.offset_store.specs.Offsets.{plus}
use Rattle.path_state.specs.View.{PathView}
use Rattle.known_blocks.specs.declared.known.Known.{Known}
use Rattle.known_state.specs.Agreement.{IsSo, IsAt, Agrees, shift_under}
use Rattle.plain_runs.specs.Runs.{IsThere}

-- if X, Z and G90 are known, the path stands there
pub known-there : (known : Known) (path : PathView) (from : Point) → Agrees known path → known.x ≡ Some from.x → known.z ≡ Some from.z
    → known.incremental ≡ Some false → IsThere from path
known-there known path from so x z absolute =
    let shift = shift_under path.modal path.offsets in
    let across : path.position.x ≡ from.x +ℤ shift.x = subst (λ o. IsAt o path.position.x shift.x) x so.1 in
    let along : path.position.z ≡ from.z +ℤ shift.z = subst (λ o. IsAt o path.position.z shift.z) z so.2 in
    let both : path.position ≡ plus from shift =
    ap (λ (a : ℤ). record { x = a; z = path.position.z }) across ∙ ap (λ (a : ℤ). record { x = from.x +ℤ shift.x; z = a }) along in
    record { stands = both; absolute = subst (λ o. IsSo o path.modal.incremental) absolute so.0.incremental }
