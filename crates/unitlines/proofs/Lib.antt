-- A chunk in its parts; what a session has read and written so far.
pub mod Parts
pub mod SoFar
