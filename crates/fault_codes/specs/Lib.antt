pub mod FaultCodes
pub mod FaultPlaces
