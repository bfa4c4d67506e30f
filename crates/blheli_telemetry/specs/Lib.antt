-- Read in this order: the check byte, the frame, the parser's calls; Stream has the same parser by the bytes that it holds alone; the
-- capture search needs only the frame.
pub mod Crc
pub mod Frame
pub mod Parser
pub mod Stream
pub mod Capture
