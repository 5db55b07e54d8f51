-- The offsets of a path (Table, Lists), their numbers and slots, how they are set (Changes) and
-- what their shift is (Offsets), and the alarms (Faults). To Lists they come by Table.
pub mod Offsets
pub mod Slots
pub mod Changes
pub mod Table
pub mod Numbers
pub mod Lists
pub mod Faults
