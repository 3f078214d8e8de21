pub mod Printed
pub mod PrintedTraces
