mod Commands
mod Moments
mod Running
mod WorkedExamples
mod Asking
mod Opened
