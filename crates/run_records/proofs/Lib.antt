-- The lemmas of this crate, each file by its subject.
pub mod EditsSpelled
mod HeadsStand
pub mod OneSpelling
mod PutBehind
mod Read
pub mod Stamps
pub mod Texts
