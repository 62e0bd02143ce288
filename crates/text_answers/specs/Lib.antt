pub mod TreeText
pub mod VerdictText
