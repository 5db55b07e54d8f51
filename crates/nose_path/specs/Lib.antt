-- What the path of a nose along lines means, in 0.0005 mm.
pub mod Beside
pub mod Paths
pub mod Legs
pub mod Tips
