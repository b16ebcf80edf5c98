-- The files of this crate's definitions: the machine's views, histories, moments and statements.
pub mod View
pub mod Nodes
pub mod Locals
pub mod Dropping
pub mod ChangeView
pub mod Moment
pub mod Stands
pub mod Examples
pub mod Seen
pub mod Noting
pub mod Executor
pub mod Storing
pub mod Outcome
pub mod History
