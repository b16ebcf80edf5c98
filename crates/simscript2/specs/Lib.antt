-- The definition of the words with which the program refuses to start.
pub mod Words
