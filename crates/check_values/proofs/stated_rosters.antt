pub mod RefusedLines
pub mod SoundRosters
