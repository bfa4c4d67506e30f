-- Read in this order: a field, a row; pieces one behind the other; a page, the sheet; what holds of
-- every row, and of every page and sheet.
pub mod Field
pub mod Row
pub mod Pieces
pub mod Page
pub mod Sheet
pub mod RowClaims
pub mod SheetClaims
