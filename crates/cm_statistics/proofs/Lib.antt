mod Sums
mod Rows
mod Small
mod Keys
mod Lists
mod Aligned
mod Measured
