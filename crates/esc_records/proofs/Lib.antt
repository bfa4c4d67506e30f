-- Read in this order: how wide a record is; how it is read, and taken; then cases that pin the layout, made of bytes that rise.
pub mod LayoutLaws
pub mod RecordLaws
pub mod RecordCases
