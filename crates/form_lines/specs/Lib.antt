-- What callers read: what a text says of the forms (Choosing), and its other lines (Cell).
pub mod Naming
pub mod Choosing
pub mod Cell
