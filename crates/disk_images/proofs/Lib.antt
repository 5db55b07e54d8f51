-- The lemmas of this crate, each file after those that it uses. No other crate uses them.
mod Parts
mod Moments
mod Torn
mod Coming
mod Writing
