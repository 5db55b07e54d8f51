-- The relation between a text and its tape (Relation, over Parts, Programs, Conditions, LineAlone,
-- LineGrammar, Words, Value, Numbers and Characters), and the words of the laws of edits (Edited,
-- Changed, Alike). Cut is for the law of words. No other crate takes any of them.
pub mod Numbers
pub mod Value
pub mod Characters
pub mod Words
pub mod LineGrammar
pub mod LineAlone
pub mod Parts
pub mod Programs
pub mod Conditions
pub mod Relation
pub mod Cut
pub mod Alike
pub mod Changed
pub mod Edited
