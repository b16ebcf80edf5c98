-- The definitions of the messages: their framing, the requests that they hold, and their replies.
pub mod Escapes
pub mod Frames
pub mod Messages
pub mod Missing
pub mod Counting
pub mod Units
pub mod Requests
pub mod Bodies
pub mod Shown
pub mod Laws
