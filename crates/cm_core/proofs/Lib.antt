mod Values
mod Pieces
