-- Read in this order: motors, each number once, the board map made of these; speed stands alone.
pub mod Motor
pub mod Once
pub mod BoardMap
pub mod Speed
