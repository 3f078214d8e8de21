pub mod ShapedRoots
pub mod EditedFits
