-- The definitions of a fault's explanation: findings about parts, missing entities, pieces of the
-- data, lines, questions, laws.
pub mod Readings
pub mod Missing
pub mod Texts
pub mod About
pub mod DataPieces
pub mod Refusal
pub mod DataTexts
pub mod DataSentence
pub mod Sentence
pub mod Asked
pub mod Laws
