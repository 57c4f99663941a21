pub mod LabRuns
