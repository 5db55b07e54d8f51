-- The lemmas of taper_form.
pub mod Rounds
pub mod WrittenTapers
