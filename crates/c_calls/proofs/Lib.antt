-- Read in this order: the run of a parser over a stream; the sheet's refusals beside the map's.
pub mod Running
pub mod SheetLaws
pub mod SheetCases
