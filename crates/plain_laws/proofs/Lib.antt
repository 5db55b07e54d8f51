-- The lemmas of the laws.
mod KeptTapes
mod Rereading
