mod Takings
mod Logged
mod Unloaded
