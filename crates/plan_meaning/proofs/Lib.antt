pub mod FirstTimes
pub mod WorkedRows
