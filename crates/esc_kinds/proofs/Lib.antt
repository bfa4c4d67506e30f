-- Laws of 01 to 05; every other kind is opened by its function.
pub mod StepLaws
