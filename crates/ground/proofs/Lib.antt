pub mod SignedLaws
pub mod EntryLaws
pub mod MatrixLaws
pub mod ChargeLaws
pub mod RangeLaws
pub mod LeadLaws
pub mod LetterLaws
pub mod TextLaws
pub mod RowLaws
pub mod CharacterLaws
mod Filled
