pub mod SimJournals
