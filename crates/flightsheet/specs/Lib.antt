-- Read in this order: the craft of the command line's words; the sheet of a flight; pages that are written as samples come; the claim.
pub mod Craft
pub mod Pages
pub mod Flight
pub mod Claims
