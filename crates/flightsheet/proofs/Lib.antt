-- Read in this order: the words of the command line; pages that are written as samples come; a text by characters, to its end; answers printed.
pub mod WordLaws
pub mod CraftCases
pub mod PagesLaws
pub mod FlightLaws
pub mod RunLaws
pub mod FlightOfAnswers
pub mod FlightCases
