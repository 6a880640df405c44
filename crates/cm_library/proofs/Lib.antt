mod Parted
mod Ran
