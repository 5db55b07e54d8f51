-- Codes looks codes up, Kinds says which kinds are refused, are arcs or are cycles, and Systems
-- gives the table of each system. Other crates cite these three; SystemA and SystemB have the rows.
pub mod Codes
pub mod Kinds
pub mod SystemA
pub mod SystemB
pub mod Systems
