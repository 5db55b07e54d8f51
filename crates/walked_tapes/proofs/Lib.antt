-- The lemmas of the law.
mod InPlace
mod Walking
