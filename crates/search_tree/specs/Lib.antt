pub mod Views
pub mod Trees
pub mod Asked
pub mod Steps
pub mod Laws
