-- Read in this order: samples whose bytes are whole; pieces of one length, numbers, and samples read back from their bytes; cases.
pub mod SamplesLaws
pub mod PartsBack
pub mod NumberBack
pub mod SamplesBack
pub mod Cases
