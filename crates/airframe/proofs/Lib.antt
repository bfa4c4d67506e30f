-- Read in this order: bytes with each motor once; motors by their numbers; a map that was read; its two conversions, from values and
-- from bytes; maps refused, and document 01's cases of speed.
pub mod EachOnceLaws
pub mod MotorLaws
pub mod BoardMapLaws
pub mod BothWays
pub mod ByByte
pub mod Cases
