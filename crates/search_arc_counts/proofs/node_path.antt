mod BaseLemmas
mod ClimbLemmas
mod StepsLemmas
mod TurnsLemmas
