pub mod Bytes
pub mod Cursor
pub mod Sections
pub mod Root
pub mod Records
pub mod Put
pub mod Layout
pub mod StoredLaws
