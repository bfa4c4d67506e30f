-- What each kind does: `step_of`, a clause for each.
pub mod Step
