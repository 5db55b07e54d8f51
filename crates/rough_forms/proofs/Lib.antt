-- The lemmas of rough_forms, each file after those that it uses.
pub mod NothingInside
pub mod MadePasses
pub mod Pushed
pub mod Started
pub mod Signs
pub mod ToldClear
pub mod Sound
pub mod NothingLeft
