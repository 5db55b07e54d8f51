-- What callers read: what becomes of the blocks of a tape (Walk), and
-- what holds of it (Calm).
pub mod Walk
pub mod Calm
-- Words of the inside.
pub mod Order
pub mod Targets
pub mod Passing
pub mod Asking
