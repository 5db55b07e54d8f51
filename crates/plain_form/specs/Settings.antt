-- The choices of a machine that says none. src/settings.rt has them.
use Rattle.std.specs.Prelude.{[], Some, None}
use Rattle.plain_form.specs.declared.settings.Corners.TheVariants.{Comma}
use Rattle.plain_form.specs.declared.settings.Roots.TheVariants.{Down}
use Rattle.plain_form.specs.declared.settings.FormSettings.{FormSettings}

abbrev pub standard : FormSettings
standard = record {
  corners = Comma;
  idle = [];
  second_home = None;
  rough_depth = None;
  rough_retreat = 500;
  pattern_passes = None;
  thread_finishing = 1;
  thread_pull_out = 0;
  thread_angle = 60;
  thread_least = 0;
  thread_left = 0;
  thread_roots = Down;
  tap_turns = Some (record { reverse = 4; forward = 3 });
  groove_retreat = 500;
  peck_retreat = None;
  peck_clearance = 500;
  noses = [];
}
