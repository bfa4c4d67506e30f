-- A line with a wire byte, and such lines in capitals; that an opened unit takes whatever record the next line stands for.
pub mod NumberSteps
pub mod WireRead
pub mod WireCases
pub mod Opened
