-- What a line of a tape says, in the order in which it is read: signs, pieces, front, values, said.
-- Places is for this crate alone.
pub mod Signs
pub mod Places
pub mod Pieces
pub mod Front
pub mod Values
pub mod Refusals
pub mod Said
pub mod LineShape
