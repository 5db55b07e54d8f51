-- What callers read: numbers of words, causes, lines of plain blocks, and where a cycle starts.
pub mod Numbers
pub mod Causes
pub mod Lines
pub mod Scenes
pub mod Motion
