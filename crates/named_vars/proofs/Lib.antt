-- The lemmas of the law of named_vars: what a block reads, and what it writes.
pub mod NeedsNamed
pub mod WritesMarked
