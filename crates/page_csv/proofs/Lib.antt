pub mod PieceLemmas
pub mod PieceLoop
