-- Words after a comma: what a text with them is read as (Reading), where the commas stand (Places), and
-- the tape with small letters (Small).
pub mod Reading
pub mod Places
pub mod Small
