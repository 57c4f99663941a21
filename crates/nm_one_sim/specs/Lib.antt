pub mod OnePart
