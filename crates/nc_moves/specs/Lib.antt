-- What callers read: where a move ends.
pub mod Motion
