-- The words in which contracts speak of a disk. Device, Moments and Calls are for all crates; the
-- others are of the disks in memory.
pub mod Calls
pub mod Coherent
pub mod Device
pub mod Fuse
pub mod FuseInside
pub mod Image
pub mod Inside
pub mod Memory
pub mod Moments
