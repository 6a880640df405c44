mod Followed
mod Noting
mod Noted
mod Taking
mod RunBytes
