mod Kept
mod Chains
mod Moved
mod Reopened
mod Working
mod Told
