pub mod Processing
