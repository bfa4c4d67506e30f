-- One file: what the rule of recovery never allows.
pub mod FaultLaws
