mod FirstDuplicate
mod Interning
mod Repeating
mod SeenMembers
