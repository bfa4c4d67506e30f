-- Read in this order: what a session writes is the text by the rules; so are the pieces, joined; sessions in capitals, and one that is live.
pub mod Traced
pub mod Joined
pub mod Capitals
pub mod CapitalsLive
