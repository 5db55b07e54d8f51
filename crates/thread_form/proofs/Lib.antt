-- The lemmas of thread_form.
pub mod WrittenThreads
