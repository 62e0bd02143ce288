pub mod RuledTrees
