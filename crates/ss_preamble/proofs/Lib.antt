pub mod Unfoldings
mod NotedItems
mod Texts
pub mod ReadIsSpelled
pub mod ReadingIsLocal
pub mod ReadBackItems
pub mod Counting
pub mod PastLimitLoop
pub mod ItemRoles
pub mod ItemLimits
pub mod Whole
pub mod AnswerAtStop
pub mod NoMemoryRefusal
pub mod AnswerByReading
pub mod Indexes
pub mod WordsBehind
pub mod Unique
pub mod Beginnings
pub mod Programs
mod DeclsWithin
