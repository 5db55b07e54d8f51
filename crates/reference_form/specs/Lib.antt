-- What callers read: the form (Form). Below it its lines.
pub mod Form
pub mod Lines
