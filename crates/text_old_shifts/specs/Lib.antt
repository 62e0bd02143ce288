pub mod Fitting
pub mod FromOf
pub mod Header
pub mod ShiftLines
pub mod ShiftsOf
pub mod SoundShifts
pub mod Steps
