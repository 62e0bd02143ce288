pub mod TightLeaves
pub mod NodesAlone
pub mod OneAnswer
