-- Samples and their bytes; each from the other.
pub mod Samples
pub mod SamplesBack
