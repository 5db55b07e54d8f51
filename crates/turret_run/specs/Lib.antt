-- The words of the contracts of a run with turrets. What a turret gets is in Served, how a run ends
-- in Runs.
pub mod Served
pub mod Runs
pub mod Draining
-- How turrets are placed, and how the last turns are given. No other crate cites it, but words of it
-- stand in the contract of the public `give_turn`.
pub mod Rests
