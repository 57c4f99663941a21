pub mod TransactionLaw
