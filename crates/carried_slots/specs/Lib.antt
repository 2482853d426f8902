pub mod Carried
pub mod Acts
pub mod RunSlots
pub mod EmptySlots
pub mod Ranges
pub mod SlotLaws
pub mod RunLaws
pub mod FreeSlots
