-- The definitions of a whole run: its report, results, explanations and warnings, its trace, its
-- laws.
pub mod Fields
pub mod Explained
pub mod Report
pub mod Rows
pub mod Measure
pub mod Results
pub mod WholeRun
pub mod Advance
pub mod Trace
pub mod Tracing
pub mod Warned
pub mod Watched
pub mod WatchedView
pub mod Laws
pub mod Glance
pub mod Followed
pub mod Kept
