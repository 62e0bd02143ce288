pub mod FittingLemmas
pub mod SoundReadings
