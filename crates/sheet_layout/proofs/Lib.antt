pub mod Assigning
pub mod Bytewise
pub mod FiniteDomainHeads
pub mod FiniteDomainSheets
pub mod Framing
pub mod Opening
pub mod StripsSheets
pub mod Walking
