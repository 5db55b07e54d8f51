-- What the lines of a text say of the forms, together. src/choosing.rt reads it.
use Rattle.std.specs.Prelude.{ℕ, List, [], ◌∷◌, ◌++◌, Option, Some, None}
use Rattle.std.specs.List.{flat_map}
use Rattle.std.specs.Str.Lines.{lines}
use Rattle.plain_form.specs.declared.settings.FormSettings.{FormSettings}
use Rattle.plain_form.specs.declared.settings.Nose.{Nose}
use Rattle.plain_form.specs.Settings.{standard}
use Rattle.form_lines.specs.declared.choice.Choice.{Choice}
use Rattle.form_lines.specs.declared.choice.Choice.TheVariants as says
use Rattle.form_lines.specs.Naming.{line_choice}

-- the settings with a choice; letters are taken together, and so are noses
abbrev pub with_choice : FormSettings → Choice → FormSettings
with_choice settings (says.RoughDepth depth) = record settings { rough_depth = Some depth }
with_choice settings (says.RoughRetreat way) = record settings { rough_retreat = way }
with_choice settings (says.ThreadRoots roots) = record settings { thread_roots = roots }
with_choice settings (says.ThreadPasses passes) = record settings { thread_finishing = passes }
with_choice settings (says.ThreadPullOut tenths) = record settings { thread_pull_out = tenths }
with_choice settings (says.ThreadAngle degrees) = record settings { thread_angle = degrees }
with_choice settings (says.ThreadLeast depth) = record settings { thread_least = depth }
with_choice settings (says.ThreadLeft depth) = record settings { thread_left = depth }
with_choice settings (says.GrooveRetreat way) = record settings { groove_retreat = way }
with_choice settings (says.PeckRetreat way) = record settings { peck_retreat = way }
with_choice settings (says.PeckClearance way) = record settings { peck_clearance = way }
with_choice settings (says.TapCodes turns) = record settings { tap_turns = turns }
with_choice settings (says.Idle letter) = settings
with_choice settings (says.ToolNose nose) = settings
with_choice settings (says.SecondHome at) = record settings { second_home = Some at }

-- with choices, one after the other
abbrev pub with_choices : FormSettings → List Choice → FormSettings
with_choices settings [] = settings
with_choices settings (choice ∷ choices) = with_choices (with_choice settings choice) choices

-- the letters that choices name
abbrev pub idle_of : Choice → List ℕ
idle_of (says.Idle letter) = letter ∷ []
idle_of other = []

abbrev pub idle_letters : List Choice → List ℕ
idle_letters choices = flat_map idle_of choices

-- the noses that choices say
abbrev pub nose_of : Choice → List Nose
nose_of (says.ToolNose nose) = nose ∷ []
nose_of other = []

abbrev pub noses_in : List Choice → List Nose
noses_in choices = flat_map nose_of choices

-- the choice of a line, and those of lines
abbrev pub list_of : Option Choice → List Choice
list_of None = []
list_of (Some choice) = choice ∷ []

abbrev pub choices_of_line : List ℕ → List Choice
choices_of_line line = list_of (line_choice line)

abbrev pub choices_of : List (List ℕ) → List Choice
choices_of [] = []
choices_of (line ∷ others) = choices_of_line line ++ choices_of others

-- what the machine decides of the forms, as the lines of a text say it
abbrev pub choices_in : List Choice → FormSettings
choices_in choices = record (with_choices standard choices) { idle = idle_letters choices; noses = noses_in choices }

abbrev pub choices_said : List ℕ → FormSettings
choices_said text = choices_in (choices_of (lines text))
