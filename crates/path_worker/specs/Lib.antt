-- What the worker of a path does (Work), and what the drive of its turret does (Drive).
pub mod Drive
pub mod Work
