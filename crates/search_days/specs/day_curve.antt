pub mod Staffs
pub mod Named
pub mod Curves
pub mod CurveText
pub mod Laws
