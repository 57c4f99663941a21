pub mod PendingTurns
