-- The names of the causes for which a block can't be written out. src/cause.rt has them.
use Rattle.std.specs.Prelude.{ℕ, List, Option, Some, None, codes}
use Rattle.plain_form.specs.declared.cause.PlainCause.{PlainCause}
use Rattle.plain_form.specs.declared.cause.PlainCause.TheVariants.{NoForm, Position, Feed, Unit, Incremental, Calculated, Missing, Unexpected, Range, Setting, Contour, Direction, Start, Allowance, Arc, Passes, Corner, Nose, Target, Control, Skip}

-- the name under which the cause is printed
abbrev pub cause_name : PlainCause → List ℕ
cause_name NoForm = codes "NoForm"
cause_name Position = codes "Position"
cause_name Feed = codes "Feed"
cause_name Unit = codes "Unit"
cause_name Incremental = codes "Incremental"
cause_name (Calculated letter) = codes "Calculated"
cause_name (Missing letter) = codes "Missing"
cause_name (Unexpected letter) = codes "Unexpected"
cause_name (Range letter) = codes "Range"
cause_name Setting = codes "Setting"
cause_name Contour = codes "Contour"
cause_name Direction = codes "Direction"
cause_name Start = codes "Start"
cause_name Allowance = codes "Allowance"
cause_name Arc = codes "Arc"
cause_name Passes = codes "Passes"
cause_name Corner = codes "Corner"
cause_name Nose = codes "Nose"
cause_name Target = codes "Target"
cause_name Control = codes "Control"
cause_name Skip = codes "Skip"

-- the letter of the word at fault, if the cause is about one
abbrev pub cause_letter : PlainCause → Option ℕ
cause_letter (Calculated letter) = Some letter
cause_letter (Missing letter) = Some letter
cause_letter (Unexpected letter) = Some letter
cause_letter (Range letter) = Some letter
cause_letter other = None
