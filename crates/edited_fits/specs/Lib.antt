pub mod EditedFits
