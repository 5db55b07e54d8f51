-- The words in which contracts speak of what a block says. Texts is cited in this crate alone.
pub mod Refusals
pub mod Controls
pub mod Forms
pub mod Views
pub mod Blocks
pub mod Texts
pub mod Variables
