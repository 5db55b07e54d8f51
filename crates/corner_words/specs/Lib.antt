-- The form of corners (Form), what its blocks say (Said), the run that they make (Run), and what is
-- cut of it (Cut).
pub mod Form
pub mod Said
pub mod Run
pub mod Cut
