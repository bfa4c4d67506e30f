-- Each way of a call.
pub mod UnitLaws
