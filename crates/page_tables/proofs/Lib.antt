pub mod TableMarks
