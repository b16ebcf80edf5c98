pub mod Paging
pub mod Notices
pub mod ReadBack
