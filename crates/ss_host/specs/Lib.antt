-- The modules of the edge of a program: the reasons for which it stops, and their exit statuses.
pub mod Stops
