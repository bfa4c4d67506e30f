-- Read in this order: records with their refusals; how wide their fields are; what the reader leaves; what a whole record has; whether a record is taken.
pub mod Record
pub mod Layout
pub mod Reader
pub mod Whole
pub mod Admission
