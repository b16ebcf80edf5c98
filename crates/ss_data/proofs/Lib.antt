pub mod PackedLemmas
pub mod NumberLemmas
pub mod ItemLemmas
pub mod PartLemmas
pub mod EntryLemmas
