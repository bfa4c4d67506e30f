-- Read in this order: the record of the next line; a line with a wire byte.
pub mod NextRecord
pub mod WireLine
