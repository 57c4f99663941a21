pub mod ThreadRuns
