-- The definitions of the data: pieces, the numbers that they write, items, entries, and the packed
-- form.
pub mod Pieces
pub mod Numbers
pub mod Items
pub mod Entries
pub mod Packed
