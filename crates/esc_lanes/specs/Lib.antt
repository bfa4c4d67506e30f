-- Read in this order: lanes and their turn; requests and what answers them; the stored samples.
pub mod Output
pub mod Request
pub mod Samples
