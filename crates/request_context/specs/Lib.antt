pub mod Collecting
pub mod Comparing
pub mod Cutting
pub mod Echoing
pub mod Parcels
pub mod Parts
pub mod Reading
pub mod Record
