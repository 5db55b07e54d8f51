-- The lemmas of this crate, for its proofs alone.
mod ExpansionTold
mod PlainTold
mod FitTexts
