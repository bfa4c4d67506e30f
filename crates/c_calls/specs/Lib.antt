-- Read in this order: what is lent for a result; a frame's fields, then the parser over a stream, which stores the same fields;
-- the board map; the sheet.
pub mod Lent
pub mod Frame
pub mod Stream
pub mod BoardMap
pub mod Sheet
