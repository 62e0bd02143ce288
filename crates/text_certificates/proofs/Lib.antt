mod FieldsAgain
mod WrittenLemmas
pub mod TreeAgain
mod CertParts
mod TextAgain
pub mod FineWords
mod CertAgain
mod Sizes
pub mod NumberWords
mod SaidWords
mod SaidLinesLemmas
mod LineAgreement
mod SamePieces
mod SaysLemmas
