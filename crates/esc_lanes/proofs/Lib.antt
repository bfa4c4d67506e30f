-- Laws on lanes and requests.
pub mod OutputLaws
pub mod RequestLaws
