-- A field in a byte, an entry in its words: what is stored comes back. A struct within the limits.
pub mod Limits
pub mod FieldLaws
pub mod BitLaws
pub mod SpecialLaws
pub mod EntryFits
