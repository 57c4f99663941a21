pub mod EndedTurns
