-- Read in this order: the forms of answers; what bytes tell; a line, as a whole and character by character; what holds of every answer and
-- of every line.
pub mod Form
pub mod Told
pub mod AnswerLine
pub mod Claims
