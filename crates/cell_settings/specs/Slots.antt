-- The offset of offset_store that a line of the settings or of edits speaks of.
use Rattle.std.specs.Prelude.{ℕ}
use Rattle.offset_store.specs.declared.slot.Slot.{Slot}
use Rattle.offset_store.specs.declared.slot.Slot.TheVariants as slot
use Rattle.cell_settings.specs.declared.preset.PresetKind.{PresetKind}
use Rattle.cell_settings.specs.declared.preset.PresetKind.TheVariants.{Work, Geometry, Wear}

-- the offset that has this kind and number
abbrev pub preset_slot : PresetKind → ℕ → Slot
preset_slot Work n = slot.Work n
preset_slot Geometry n = slot.Geometry n
preset_slot Wear n = slot.Wear n
