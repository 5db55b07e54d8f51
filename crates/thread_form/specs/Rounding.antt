-- To which side a depth that is a root is rounded, as the machine does. src/rounding.rt has it.
use Rattle.plain_form.specs.declared.settings.Roots.{Roots}
use Rattle.plain_form.specs.declared.settings.Roots.TheVariants as roots
use Rattle.thread_cycle.specs.declared.rounding.RootRounding.{RootRounding}
use Rattle.thread_cycle.specs.declared.rounding.RootRounding.TheVariants.{Down, Up}

abbrev pub rounding_of : Roots → RootRounding
rounding_of roots.Down = Down
rounding_of roots.Up = Up
