-- What a thread comes to by the order that it was told (src/order.rt, src/kept.rt).
use Rattle.std.specs.Prelude.{◌≡◌, Option, Some, None}
use Rattle.kept_threads.specs.declared.order.Order.{Order}
use Rattle.kept_threads.specs.declared.order.Order.TheVariants.{Work, Home}

-- a thread that was told to work has done its job, and one that was told to go home has done none
abbrev pub Obeys : {J Done : Type 0} → (J → Done → Type 0) → Order J → Option Done → Type 0
Obeys does (Work job) done = (d : _) × (done ≡ Some d) × does job d
Obeys does Home done = done ≡ None
