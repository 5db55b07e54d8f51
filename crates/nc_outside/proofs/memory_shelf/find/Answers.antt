-- `find` answers the bytes of the first file of the name on a shelf in memory; a file of another
-- name is passed (src/memory_shelf.rt).
use Rattle.std.proofs.Common.{◌∙◌, sym, refl}
use Rattle.nc_outside.proofs.Finding.{named_here, named_behind}
use Rattle.nc_outside.proofs.memory_shelf.find.Goals as goal

pub returns-then-eq : goal.returns-then-eq
returns-then-eq c =
    c.loop-held.invariant ∙ named_here _ _ _ _ c.loop-held-item.result c.loop-held-test.true c.loop-held-item.is
    c.as_str.ensures.value (sym c.eq.ensures ∙ c.if-eq.true) ∙ rw c.as_slice.ensures.value refl

pub loop-held-preserved : goal.loop-held-preserved
loop-held-preserved c =
    c.loop-held.invariant ∙ named_behind _ _ _ _ c.loop-held-item.result c.loop-held-test.true c.loop-held-item.is
    c.as_str.ensures.value (sym c.eq.ensures ∙ c.if-eq.false)
