-- Read in this order: what was fed and seen (History); the rules, part by part, from Wire to Counts; the rule for every call; how a list is
-- run, and a unit's parser; then the claims, Claims first: who judges them begins there and looks up what they cite.
pub mod History
pub mod Wire
pub mod Booking
pub mod Faults
pub mod Turns
pub mod Samples
pub mod IdleRule
pub mod Counts
pub mod Rule
pub mod Run
pub mod Parser
pub mod Claims
pub mod FirstNine
pub mod FramedFromCut
pub mod Qualified
pub mod ShownNewest
