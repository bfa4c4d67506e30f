-- Read in this order: a session; a session in chunks, and in pieces; then how the code goes: a line's answer. What a line is stands in hex_lines, its
-- record in record_lines, the session by the rules alone in session_rules.
pub mod Session
pub mod Stream
pub mod Streams
pub mod Pieces
pub mod Answering
