-- The words of the contract of race_order: what a race is (Races), and when runs agree (Agreement).
pub mod Races
pub mod Agreement
