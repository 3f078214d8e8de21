mod Masks
mod Pieces
