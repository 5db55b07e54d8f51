-- What callers read: the contour that a call means, and the feed and the speed that a block sets.
pub mod Contours
pub mod Tempos
pub mod Causes
-- Words of the inside: how a block moves, what it says, and the centre of an arc by its radius.
pub mod Motions
pub mod Steps
pub mod Radius
