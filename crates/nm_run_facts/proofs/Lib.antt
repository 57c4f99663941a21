pub mod RunHolding
