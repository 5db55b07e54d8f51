-- What callers read: what words of a block say (Said), the words of plain blocks (Made), the
-- choices of a machine (Settings), and the names of refusals (Causes).
pub mod Said
pub mod Made
pub mod Settings
pub mod Causes
