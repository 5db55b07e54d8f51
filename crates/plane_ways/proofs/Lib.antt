-- The lemmas of plane_ways, each file after those that it uses.
pub mod Rings
pub mod Strips
pub mod Stored
pub mod Directions
pub mod Products
pub mod Lengths
pub mod Missed
