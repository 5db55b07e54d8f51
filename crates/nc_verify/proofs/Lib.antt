-- The lemmas of nc_verify, each file by its subject.
pub mod Put
pub mod InPieces
pub mod Refused
pub mod NotBoth
pub mod OneRefusal
pub mod SomeAnswer
pub mod Named
