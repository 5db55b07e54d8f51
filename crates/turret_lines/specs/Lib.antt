-- The lines of what a turret got (Stream), and those for its waits (Meetings).
pub mod Meetings
pub mod Stream
