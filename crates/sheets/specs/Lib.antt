pub mod Described
pub mod FiniteDomainReading
pub mod FiniteDomainTasks
pub mod Kinds
pub mod Laws
pub mod Reading
pub mod Records
pub mod StripsTasks
