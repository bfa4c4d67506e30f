-- Read in this order: the figures of each lane; the books that hold them.
pub mod Figures
pub mod Books
