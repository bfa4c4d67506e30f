-- Read in this order: fields; pieces one behind the other, rows and pages made of them; a sheet that fits; what holds of every field, row,
-- page and sheet, and of one that grows; cases.
pub mod FieldLaws
pub mod PiecesLaws
pub mod PageLaws
pub mod SheetLaws
pub mod TextLaws
pub mod RowLaws
pub mod Pages
pub mod Growing
pub mod Cases
pub mod ReplyCases
