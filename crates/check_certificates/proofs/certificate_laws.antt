pub mod OneProof
pub mod ShownBound
pub mod RightLemmas
pub mod NoCause
pub mod OneCause
