-- The lemmas of this crate, by name. Those of literals, printing and arithmetic serve the laws of
-- src/laws.rt. Counts, Integers and Points are for other crates alone; Bools, CauseTable and Roots
-- are for them too.
pub mod Bools
pub mod CauseTable
pub mod Counts
pub mod DecimalDigits
pub mod Integers
pub mod LastDigits
pub mod LiteralsThatRead
pub mod NearestQuotient
pub mod Points
pub mod PrintedRoom
pub mod ReadsBack
pub mod Remainders
pub mod Roots
pub mod Spellings
pub mod TrailingZeros
pub mod Wide
pub mod WordLiterals
