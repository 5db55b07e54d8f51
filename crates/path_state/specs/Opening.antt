-- A path as its tape begins: what `PathState::new` (src/path.rt) makes of a flow and the settings.
use Rattle.std.specs.Prelude.{List, [], ◌∷◌, slice_index_or, if◌then◌else◌}
use Rattle.nc_number.specs.declared.path.Path.{Path}
use Rattle.nc_number.specs.declared.point.Point.{Point}
use Rattle.nc_number.specs.Path.{index_of, is_same}
use Rattle.nc_number.specs.Position.{origin}
use Rattle.cell_settings.specs.declared.preset.Preset.{Preset}
use Rattle.cell_settings.specs.declared.settings.Settings.{Settings}
use Rattle.cell_settings.specs.Slots.{preset_slot}
use Rattle.common_vars.specs.Common.{none_written}
use Rattle.local_levels.specs.Stack.{base_level}
use Rattle.modal_state.specs.Modal.{opening_modal}
use Rattle.offset_store.specs.Table.{OffsetTable}
use Rattle.offset_store.specs.Offsets.{no_offsets}
use Rattle.offset_store.specs.Changes.{with_point}
use Rattle.block_order.specs.Labels.{start}
use Rattle.tape_flow.specs.declared.flow.Flow.{Flow}
use Rattle.path_state.specs.View.{PathView}

-- the offsets with one line of the settings, if it speaks of this path
abbrev pub with_preset : Path → Preset → OffsetTable → OffsetTable
with_preset path preset offsets =
    if is_same preset.path path then with_point offsets (preset_slot preset.kind preset.number) preset.to else offsets

-- the offsets with those that these lines of the settings have for the path
abbrev pub with_presets : Path → List Preset → OffsetTable → OffsetTable
with_presets path [] offsets = offsets
with_presets path (preset ∷ presets) offsets = with_presets path presets (with_preset path preset offsets)

-- of the points of the settings, one for each path, that of this path
abbrev pub point_of : Path → List Point → Point
point_of path points = slice_index_or points (index_of path) origin

-- A path at the first block of its main program, with nothing said: its system of G codes, its
-- turret, its offsets, its reference position and the shared variables are as the settings have
-- them.
abbrev pub opening_path : Flow → Settings → Path → PathView
opening_path flow settings path = record {
  place = start flow.order;
  calls = [];
  levels = base_level ∷ [];
  own = none_written;
  modal = opening_modal settings.system;
  offsets = with_presets path settings.presets no_offsets;
  position = point_of path settings.place;
  fixed = record {
    home = point_of path settings.home;
    shared100 = settings.shared100;
    shared500 = settings.shared500;
  };
}
