-- Contours of lines and arcs, what lies inside them, and where a pass over them ends, in 0.001 mm.
pub mod Contour
pub mod Edges
pub mod Inside
pub mod Ends
pub mod Circles
pub mod Least
pub mod Bounds
