-- Read in this order: the settings, one lane and the passes over all four, the check's calls.
pub mod IdleConfig
pub mod IdleLane
pub mod Idle
