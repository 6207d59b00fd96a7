-- What the contracts of the reader cite.
pub mod Decode
pub mod Reading
pub mod Mapped
pub mod Sections
pub mod Lending
