pub mod ThreadHolding
