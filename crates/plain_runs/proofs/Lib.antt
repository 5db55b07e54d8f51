-- The lemmas of the law.
mod PlainEffect
mod PlainRuns
mod KeepsOut
mod KnownThere
mod InRuns
