-- Read in this order: settings, counts; the manager's parts and the manager, with 08; a file for its other calls, 01 to 09. Lanes and
-- requests are esc_lanes's, the fault is esc_fault's.
pub mod Config
pub mod Stats
pub mod Turn
pub mod Pending
pub mod Manager
pub mod Queueing
pub mod Ack
pub mod Timeout
pub mod Wire
pub mod Recovery
