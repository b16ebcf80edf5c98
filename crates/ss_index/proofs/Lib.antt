pub mod FilingLaws
pub mod ForkLaws
pub mod OrderLaws
