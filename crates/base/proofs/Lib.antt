-- Read in this order: how a proof is split (ByCases, Both, Table); numbers and their bytes, bytes put one after the other, bytes handed over;
-- document 01's cases of Due, and bytes that rise, of which cases are made.
pub mod ByCases
pub mod Both
pub mod Table
pub mod BigEndianLaws
pub mod BytesLaws
pub mod NumberLaws
pub mod PutLaws
pub mod HandLaws
pub mod Cases
pub mod Rising
