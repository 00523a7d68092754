pub mod Printed
pub mod Behind
