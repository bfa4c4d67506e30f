-- Read in this order: the session, in chunks too (to SessionLaws); then the code's way: a line's answer,
-- the loop over a chunk, the end, a whole text.
pub mod HeldAnswer
pub mod AnswerLength
pub mod StreamLaws
pub mod SessionLaws
pub mod AnswersLaws
pub mod LineTurn
pub mod Feeding
pub mod FedLaws
pub mod FinishLaws
pub mod PieceLaws
