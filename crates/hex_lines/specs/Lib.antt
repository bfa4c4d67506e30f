-- Read in this order: digits; lines, read and printed; the lines of a text; the digits once more, and what 2 is for; capitals in a text; a line as it was read
-- before they were digits; what is held of a line; the next line of a chunk.
pub mod Digit
pub mod Line
pub mod Lines
pub mod TypedDigits
pub mod OthersRefused
pub mod Capitals
pub mod LineBefore
pub mod HeldLine
pub mod NextLine
