pub mod Pages
pub mod EachKind
pub mod EachRun
