-- The words in which the contracts of this crate speak of a file of gates. Other crates cite Chain
-- (the bytes), Gate (the file), Creation (how it is begun), Opening (how it is opened) and First
-- (`IsBeginning`). None cites Bodies and Run; the public law `appends_leave_prefixes` (src/laws.rt)
-- speaks by Run.
pub mod Bodies
pub mod Chain
pub mod Creation
pub mod First
pub mod Gate
pub mod Opening
pub mod Run
