-- Read in this order: how long answers are; then cases that pin the layout, made of bytes that rise.
pub mod AnswerLaws
pub mod AnswerCases
