pub mod Flags
pub mod Free
pub mod Marks
pub mod Order
pub mod Ahead
pub mod Shapes
pub mod DayArcs
