-- The lemmas of corner_form, each file after those that it uses.
pub mod Halves
pub mod CornersKeep
