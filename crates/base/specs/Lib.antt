-- Read in this order: a choice, a reply, what may be missing; numbers highest byte first, bytes put into a buffer and handed over;
-- counts and times.
pub mod Choice
pub mod Reply
pub mod Maybe
pub mod Bytes
pub mod BigEndian
pub mod Put
pub mod Handed
pub mod Saturated
pub mod Due
