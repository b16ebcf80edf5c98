-- The modules of a session: its channel, its turns and its ends, and small examples.
pub mod Meaning
pub mod Channels
pub mod Seen
pub mod Faults
pub mod Session
pub mod Steps
pub mod Examples
