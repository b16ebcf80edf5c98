pub mod Comments
pub mod Takes
