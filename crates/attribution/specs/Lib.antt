-- Read in this order: marks and the log; what each request sent; tests on a log, the cut and the clock; the assumptions in three forms
-- (Wiring, Times, Cutting) and their claim; then the claim with noise: bytes since the 02, Pace, NeverAnotherArm.
pub mod Marks
pub mod Origin
pub mod Tests
pub mod Cut
pub mod Clock
pub mod Wiring
pub mod Times
pub mod Cutting
pub mod EachSample
pub mod Attributed
pub mod Since
pub mod Pace
pub mod NeverAnotherArm
