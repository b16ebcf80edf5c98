-- The definitions of this crate's calls: words with their numbers, columns, quoted lines, and dropped words.
pub mod Numbers
pub mod Columns
pub mod Quotes
pub mod Reserved
