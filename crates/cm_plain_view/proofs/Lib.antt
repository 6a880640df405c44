mod Loaders
mod Placing
