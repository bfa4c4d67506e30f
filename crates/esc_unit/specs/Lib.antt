-- Read in this order: the unit, with its step and its call (call_of is what every claim speaks of); then replies as numbers.
pub mod Unit
pub mod Replies
