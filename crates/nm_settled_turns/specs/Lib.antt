pub mod EndedParts
