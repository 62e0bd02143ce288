pub mod NameTrees
pub mod PlainGrammars
