-- One file: the fault, what is heard while it lasts, and the recovery that ends it.
pub mod Fault
