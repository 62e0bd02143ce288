pub mod count_boxes
pub mod roster_split
pub mod node_path
