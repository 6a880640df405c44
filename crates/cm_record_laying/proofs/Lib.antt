mod Steps
mod Fronts
mod ConstantsLaid
mod Joins
mod WholeFiles
