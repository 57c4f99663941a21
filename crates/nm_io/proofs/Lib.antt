mod Fronts
mod MemReads
mod Turns
mod Worked
