-- Read in this order: the settings; a verdict that stands; document 01's cases.
pub mod IdleConfigLaws
pub mod IdleLaws
pub mod IdleCases
