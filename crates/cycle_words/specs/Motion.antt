-- The code of motion in force before a cycle, and again after it. src/motion.rt computes it. 71 is
-- the letter G.
use Rattle.std.specs.Prelude.{Bool, true, false, List, [], ◌∷◌, codes, Option, Some, None, if◌then◌else◌}
use Rattle.code_tables.specs.declared.kind.CodeKind.{CodeKind}
use Rattle.code_tables.specs.declared.kind.CodeKind.TheVariants.{Rapid, Feed}
use Rattle.nc_text.specs.declared.tape.Block.{Block}
use Rattle.plain_form.specs.declared.scene.Scene.{Scene}
use Rattle.plain_form.specs.declared.cause.PlainCause.{PlainCause}
use Rattle.plain_form.specs.declared.cause.PlainCause.TheVariants as cause
use Rattle.plain_form.specs.Made.{made_word, plain_line}
use Rattle.cycle_words.specs.Causes.{first_cause}
use Rattle.cycle_words.specs.Scenes.{way_cause}

-- G00 or G01, and G01
abbrev pub is_straight : CodeKind → Bool
is_straight Rapid = true
is_straight Feed = true
is_straight other = false

abbrev pub is_cut : CodeKind → Bool
is_cut Feed = true
is_cut other = false

-- why a code can't be put in force again
abbrev pub kind_cause : CodeKind → Option PlainCause
kind_cause kind = if is_straight kind then None else Some cause.NoForm

-- why the code in force can't be
abbrev pub motion_cause : Option CodeKind → Option PlainCause
motion_cause None = Some cause.Position
motion_cause (Some kind) = kind_cause kind

-- why no cycle can be written out here
abbrev pub scene_cause : Scene → Option PlainCause
scene_cause scene = first_cause (way_cause scene) (motion_cause scene.motion)

-- the code in force is G01
abbrev pub cuts_before : Option CodeKind → Bool
cuts_before None = false
cuts_before (Some kind) = is_cut kind

-- the block that puts it in force again
abbrev pub code_lines : Option CodeKind → List Block
code_lines motion = if cuts_before motion then plain_line (made_word 71 (codes "01") ∷ []) ∷ [] else []
