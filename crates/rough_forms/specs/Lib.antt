-- What G71, G72 and G70 along lines and arcs mean: as they are seen, and as blocks of a tape.
pub mod Frames
pub mod Roughing
pub mod Moves
pub mod Told
pub mod Form
pub mod Check
pub mod Left
