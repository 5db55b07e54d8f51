-- The lemmas of arc_contour, each file after those that it uses.
pub mod Lengths
pub mod Edges
pub mod Contours
pub mod Squares
pub mod Products
pub mod LeastEnd
