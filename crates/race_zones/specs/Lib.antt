-- The words of the contract of race_zones: which runs are finished, and that they have one zoning.
pub mod OneZoning
