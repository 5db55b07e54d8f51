-- The lemma files of line_text, each after those that it uses.
pub mod Cutting
pub mod Placing
pub mod Judged
pub mod ShapeOfLine
pub mod Scanning
