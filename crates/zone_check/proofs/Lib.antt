-- The lemmas of this crate: the zones kept are those of the segments (Folded, Going), and what is hit
-- in them (Lapped), their text (ZoneByZone, FindingByFinding), and that paths stand where their moves
-- lead (MovesLead, TurnsLead); Unlined is for both. Other crates use Folded.
pub mod Folded
mod Unlined
mod Lapped
mod Going
mod ZoneByZone
mod FindingByFinding
mod MovesLead
mod TurnsLead
