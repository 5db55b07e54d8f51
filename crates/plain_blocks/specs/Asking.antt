-- The forms, and what is known where they are asked. src/asking.rt computes it.
use Rattle.std.specs.Prelude.{ℕ, List, Option, Some, None, ℤ}
use Rattle.code_tables.specs.declared.system.System.{System}
use Rattle.nc_number.specs.declared.value.Var.{Var}
use Rattle.nc_number.specs.declared.value.Var.TheVariants.{Vacant, Is}
use Rattle.nc_text.specs.declared.tape.Block.{Block}
use Rattle.known_blocks.specs.declared.known.Known.{Known}
use Rattle.plain_form.specs.declared.scene.Scene.{Scene}
use Rattle.plain_form.specs.declared.scene.Unit.TheVariants.{Millimetre}
use Rattle.plain_form.specs.declared.settings.FormSettings.{FormSettings}
use Rattle.plain_form.specs.declared.answer.FormAnswer.{FormAnswer}
use Rattle.plain_form.specs.declared.answer.FormAnswer.TheVariants.{NotMine, Refused, Written}
use Rattle.corner_words.specs.Form.{corners_form}
use Rattle.nose_words.specs.Form.{nose_form}
use Rattle.peck_form.specs.Form.{peck_form}
use Rattle.reference_form.specs.Form.{reference_form}
use Rattle.rough_words.specs.Form.{rough_form}
use Rattle.small_forms.specs.Codes.{codes_form}
use Rattle.small_forms.specs.Foreign.{foreign_form}
use Rattle.taper_form.specs.Form.{taper_form}
use Rattle.thread_form.specs.Form.{thread_form}

-- the number that a variable holds
abbrev pub number_of : Var → Option ℤ
number_of Vacant = None
number_of (Is value) = Some value

-- the number that a feed is
abbrev pub value_of : Option Var → Option ℤ
value_of None = None
value_of (Some held) = number_of held

-- what is known before a block, as forms take it
abbrev pub scene_of : System → Known → Scene
scene_of system known = record {
  system = system;
  unit = Some Millimetre;
  x = known.x;
  z = known.z;
  motion = known.motion;
  incremental = known.incremental;
  per_rev = known.per_rev;
  feed = value_of known.feed;
  tool = known.tool;
}

-- what a form answers, or another one, if it is not its own
abbrev pub or_else : FormAnswer → FormAnswer → FormAnswer
or_else NotMine other = other
or_else (Refused fault) other = Refused fault
or_else (Written lines) other = Written lines

-- what the form of codes answers, or else that of blocks that are refused by a cause of their own
abbrev pub ask_codes : List Block → ℕ → Scene → FormSettings → FormAnswer
ask_codes blocks place scene settings = or_else (codes_form blocks place scene settings) (foreign_form blocks place)

-- what the form of corners answers, or else those of codes
abbrev pub ask_corners : List Block → ℕ → Scene → FormSettings → FormAnswer
ask_corners blocks place scene settings = or_else (corners_form blocks place scene) (ask_codes blocks place scene settings)

-- what the form of compensation of the nose answers, or else those of corners and of codes
abbrev pub ask_noses : List Block → ℕ → Scene → FormSettings → FormAnswer
ask_noses blocks place scene settings = or_else (nose_form blocks place scene settings) (ask_corners blocks place scene settings)

-- what the form of roughing answers, or else those of the nose, of corners and of codes
abbrev pub ask_rough : List Block → ℕ → Scene → FormSettings → FormAnswer
ask_rough blocks place scene settings = or_else (rough_form blocks place scene settings) (ask_noses blocks place scene settings)

-- what the form of grooves and holes answers, or else those of roughing, of the nose, of corners and of codes
abbrev pub ask_pecks : List Block → ℕ → Scene → FormSettings → FormAnswer
ask_pecks blocks place scene settings = or_else (peck_form blocks place scene settings) (ask_rough blocks place scene settings)

-- what the form of G30 answers, or else those of grooves and holes and the further ones
abbrev pub ask_references : List Block → ℕ → Scene → FormSettings → FormAnswer
ask_references blocks place scene settings =
    or_else (reference_form blocks place scene settings) (ask_pecks blocks place scene settings)

-- what the form of cuts along tapers answers, or else those of G30 and the further ones
abbrev pub ask_tapers : List Block → ℕ → Scene → FormSettings → FormAnswer
ask_tapers blocks place scene settings = or_else (taper_form blocks place scene) (ask_references blocks place scene settings)

-- what the first of the forms answers that takes the block
abbrev pub ask : List Block → ℕ → Scene → FormSettings → FormAnswer
ask blocks place scene settings = or_else (thread_form blocks place scene settings) (ask_tapers blocks place scene settings)
