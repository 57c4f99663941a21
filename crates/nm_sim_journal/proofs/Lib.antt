pub mod SimHolding
