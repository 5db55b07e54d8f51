-- The lemmas of this crate: few pairs are looked at (Pruned, Parted), what may be touched lies in a stretch
-- (Touched), what is clear keeps apart (Kept), and what is hit is near (Near).
mod Pruned
mod Parted
mod Members
mod Touched
mod Kept
mod Near
