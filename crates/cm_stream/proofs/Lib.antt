mod Numbers
mod Streams
