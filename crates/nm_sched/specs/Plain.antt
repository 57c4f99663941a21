-- What a simulation gives.
pub use Rattle.nm_programs.specs.Plain.{SimRun}
