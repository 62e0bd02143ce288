pub mod StaffGroups
pub mod StaffDays
pub mod StaffNames
pub mod MoreHeads
pub mod CurveDays
pub mod CurvePoints
pub mod PointLines
