-- The definitions of questions that change, of the movements to a change, over and out of sections,
-- to a time and to a position, and of HISTORY and WHY.
pub mod Question
pub mod Value
pub mod Movements
pub mod Turn
pub mod View
pub mod Until
pub mod Laws
pub mod History
pub mod Sight
pub mod Touches
pub mod EntityNumbers
pub mod Told
pub mod Reading
pub mod Examples
