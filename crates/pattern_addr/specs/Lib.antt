pub mod AddressPattern
