-- Read in this order: what each answer's bytes are; the list that has room for any; that an answer is 00 and its body.
pub mod Answer
pub mod Encoded
pub mod Body
