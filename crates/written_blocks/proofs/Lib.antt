-- The lemmas of written_blocks. The laws of tape_plain take `said`.
pub mod Said
