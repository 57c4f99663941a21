pub mod ProcessorFaults
