-- Read in this order: a session's text with no unit in it; the pieces that the program writes; sessions in capitals.
pub mod Traced
pub mod Pieces
pub mod Capitals
