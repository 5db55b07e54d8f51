-- The settings of the cell: what a text gives (Cell), what a line may say (Entry, PresetLine), the
-- opening offsets (Preset, Slots), and the type (Settings, View). Other crates cite Cell, View,
-- Preset, PresetLine and Slots.
pub mod Preset
pub mod PresetLine
pub mod Slots
pub mod Entry
pub mod Cell
pub mod Settings
pub mod View
