pub mod RefusedLines
pub mod TextLineItems
pub mod ShiftLemmas
pub mod Utf8Lemmas
