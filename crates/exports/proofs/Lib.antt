-- Closed facts.
pub mod Worked
-- What holds of all texts.
pub mod TextLaws
-- A text stored with its zero.
pub mod TextStored
-- A walk's end by its words.
pub mod EndLaws
