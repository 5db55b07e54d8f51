-- What is known of a path before a block, by the text of its tape alone. src/known.rt has the type.
use Rattle.std.specs.Prelude.{Bool, true, false, None}
use Rattle.known_blocks.specs.declared.known.Known.{Known}

-- nothing is known
abbrev pub unknown : Known
unknown = record { x = None; z = None; motion = None; incremental = None; per_rev = None; feed = None; tool = None }

-- nothing is known of X and Z
abbrev pub nowhere : Known → Known
nowhere known = record known { x = None; z = None }

-- what is known of X and Z once the offsets of the block are in force
abbrev pub counted : Bool → Known → Known
counted true known = nowhere known
counted false known = known
