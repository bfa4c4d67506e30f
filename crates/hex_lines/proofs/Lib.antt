-- Read in this order: a character in small letters; digits, two by two; the lines of a text; a line, what it is refused for, printed and
-- read again (to RoundTrip); as it was read before capitals were digits, and that none is printed; a line that is held; the first line of a chunk.
pub mod SmallLaws
pub mod DigitLaws
pub mod TableLaws
pub mod DigitCases
pub mod TypedDigits
pub mod Unended
pub mod LinesLaws
pub mod PairsLaws
pub mod PairsRead
pub mod LineLaws
pub mod OthersRefused
pub mod PrintLaws
pub mod RoundTrip
pub mod AsBefore
pub mod LineCases
pub mod PrintedSmall
pub mod HeldLaws
pub mod FirstLine
pub mod NextLineLaws
