-- The lemmas of this crate, each file by its subject. No other crate takes them.
mod Lesser
mod Segments
mod InParts
mod StretchLines
mod ItemLines
mod PartsLeast
mod Opened
mod Shown
mod Ready
