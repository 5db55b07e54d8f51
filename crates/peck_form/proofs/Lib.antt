-- The lemmas of peck_form.
pub mod Repeats
pub mod WrittenHoles
pub mod WrittenGrooves
