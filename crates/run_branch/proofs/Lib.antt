-- The lemmas of this crate, each file after those that it uses: where a branch ends (Points), what
-- making it does (Made), what opening it finds (Opened). No other crate uses them.
mod Points
mod Made
mod Opened
