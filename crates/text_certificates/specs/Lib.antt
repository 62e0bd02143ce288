pub mod Written
pub mod SaidLines
