pub mod Left
pub mod Prints
pub mod Printed
pub mod Batch
