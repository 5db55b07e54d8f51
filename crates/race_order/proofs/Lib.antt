-- The lemmas of race_order, from a path alone to a pair of tapes: Alone, Together, Alike, Machines,
-- Deeds, Turns, Runs, GoAlike, Flows; Calm and Stable are for Runs.
mod Alone
mod Together
mod Alike
mod Stable
mod Calm
mod Machines
mod Deeds
mod Turns
mod Runs
mod GoAlike
pub mod Flows
