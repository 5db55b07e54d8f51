-- The lemmas of nose_path, each file after those that it uses.
pub mod Heights
pub mod Joined
pub mod LegsBeside
pub mod PathHolds
pub mod CornersStand
