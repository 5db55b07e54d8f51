-- Places, ways and lines of the plane, in 0.0005 mm.
pub mod Plane
pub mod Points
pub mod Steps
pub mod Meetings
pub mod Apart
