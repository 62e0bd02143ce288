pub mod ByNames
