-- What a macro expression means (Meaning), its code for a stack (Postfix), and when a condition
-- holds (Relations).
pub mod Meaning
pub mod Postfix
pub mod Relations
