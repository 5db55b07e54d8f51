-- What the forms of G71 and G70 are, in the blocks of a tape. Words, Contour, Head and Forms are
-- cited in this crate alone; what Walk answers rests on them.
pub mod Faults
pub mod Marks
pub mod Words
pub mod Contour
pub mod Head
pub mod Parts
pub mod Forms
pub mod Walk
pub mod Sizes
