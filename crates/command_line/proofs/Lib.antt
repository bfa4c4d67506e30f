-- Arguments as they are typed.
pub mod ArgumentCases
