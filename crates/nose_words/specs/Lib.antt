-- The form of compensation of the nose radius (Form), what its blocks say (Said), the run that they make
-- (Run), the nose of the tool (Told), its path (Path), what is written of that (Cut, Written),
-- and what that keeps (Keeps).
pub mod Form
pub mod Said
pub mod Run
pub mod Told
pub mod Path
pub mod Cut
pub mod Written
pub mod Keeps
