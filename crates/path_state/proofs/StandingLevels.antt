-- Not more calls are those of macros than there are calls, so there is room for the level of each:
-- for `call_macro` (src/standing.rt).
use Rattle.std.proofs.Common.{◌≤◌, List, [], ◌∷◌, length, arith}
use Rattle.block_forms.specs.declared.called.CallKind.{CallKind}
use Rattle.block_forms.specs.declared.called.CallKind.TheVariants.{Macro, Subprogram}
use Rattle.path_state.specs.Standing.{macros}

-- of these calls, at most as many are calls of macros as there are
pub macros_few : (calls : List CallKind) → macros calls ≤ length calls
macros_few [] = omega arith
macros_few (Macro ∷ calls) = let few = macros_few calls in omega arith
macros_few (Subprogram ∷ calls) = let few = macros_few calls in omega arith
