-- The settings and the fault of a line, as contracts see them.
use Rattle.std.specs.Prelude.{ℕ}
use Rattle.cell_settings.specs.declared.reading.SettingFault.{SettingFault}
use Rattle.cell_settings.specs.declared.settings.Settings.{Settings}
use Rattle.cell_settings.specs.Cell.{Cell}

-- what contracts see of the settings: all fields, without where they lie in memory
abbrev pub view : Settings → Cell
view s = record {
  wait_low = s.wait_low;
  wait_high = s.wait_high;
  shared100 = s.shared100;
  shared500 = s.shared500;
  bits = s.bits;
  system = s.system;
  skips = s.skips;
  unskips = s.unskips;
  place = s.place;
  home = s.home;
  records = s.records;
  presets = s.presets;
}

-- what contracts see of a fault of the settings: its line
abbrev pub line_of : SettingFault → ℕ
line_of fault = fault.line
