-- The lemmas of macro_limits, each file by its subject. No other crate takes any.
pub mod Scan
pub mod Numbers
pub mod Grammar
pub mod Exact
pub mod Stopping
pub mod StatementsStopping
