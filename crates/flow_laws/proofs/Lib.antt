-- The lemmas of the laws, each file after those that it takes. No other crate takes them.
pub mod Unforked
pub mod Least
pub mod FirstFault
pub mod RisingBlocks
pub mod Refused
pub mod ByOneList
