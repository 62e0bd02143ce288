pub mod Form
pub mod Asked
pub mod Run
pub mod OneAnswer
