pub mod Causes
pub mod MemConn
pub mod MemLink
pub mod Memory
pub mod Readings
pub mod Status
pub mod Told
