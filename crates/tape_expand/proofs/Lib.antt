-- The lemmas of tape_expand, each file by its subject. No other crate takes any.
mod Answered
mod Counting
