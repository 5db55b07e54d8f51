-- For `preset_offsets`, which sets the offsets that the settings have for a path (loop of
-- src/path.rt).
use Rattle.std.proofs.Common.{◌≡◌, drop}
use Rattle.offset_store.specs.Offsets.{no_offsets}
use Rattle.path_state.specs.Opening.{with_presets}
use Rattle.path_state.proofs.path.preset_offsets.Given as goal

-- the offsets set so far, with the settings that are left, come to those of all settings
abbrev pub invariant-loop-preset : goal.invariant-loop-preset
invariant-loop-preset l =
    with_presets l.path (drop l.preset-index l.presets) l.offsets ≡ with_presets l.fn.path l.fn.presets no_offsets
