pub mod LabelText
