pub mod Labs
