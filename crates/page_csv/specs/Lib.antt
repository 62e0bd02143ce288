pub mod Pieces
pub mod PieceLaws
pub mod Sheets
pub mod Rows
pub mod Coverages
pub mod roster_calendar
