mod Fetching
mod ChainFacts
mod Places
mod Tightened
