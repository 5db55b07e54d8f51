-- What the disk of this crate is: its images (Among, Images), that its facts agree (Coherent), its
-- fields (Inside), and what comes of a call without memory (Outcome).
pub mod Among
pub mod Coherent
pub mod Images
pub mod Inside
pub mod Outcome
