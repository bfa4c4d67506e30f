-- Read in this order: what fits a form, and each form by computation; lines, as a whole and character by character (AnswerLineLaws is what a loop
-- over characters cites), and lines by computation; then that every answer is told, and nothing else: each answer has a form (DeliveredByLength,
-- EveryAnswerTold), and bytes of each form are read back as an answer (JoinLaws to OnlyDeliveries).
pub mod FormLaws
pub mod ToldCases
pub mod LineTold
pub mod AnswerLineLaws
pub mod AnswerLineCases
pub mod PrintedTold
pub mod DeliveredByLength
pub mod EveryAnswerTold
pub mod JoinLaws
pub mod ReadBack
pub mod OnlyAnswers
pub mod OnlyDeliveries
