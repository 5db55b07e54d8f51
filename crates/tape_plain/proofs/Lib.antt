-- The lemmas of tape_plain. No other crate takes any.
mod Stays
