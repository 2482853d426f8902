pub mod Rewrite
pub mod ResponseHeaders
pub mod Bounds
