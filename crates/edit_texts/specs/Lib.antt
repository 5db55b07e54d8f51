-- A text of edits: what it gives (Edits), and its refusal (Faults); what a line says (Lines), and
-- what a text gives without a reader (Given), which no other crate cites.
pub mod Edits
pub mod Given
pub mod Faults
pub mod Lines
