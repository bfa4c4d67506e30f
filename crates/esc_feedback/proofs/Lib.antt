-- What 02 compares, and a byte that is only held.
pub mod QueueingLaws
pub mod WireLaws
