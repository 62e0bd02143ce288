-- The lines of a price block, one by one.
use Rattle.std.proofs.Common.{◌≡◌, ℕ, ℤ, ◌+◌, ◌*◌, ◌<◌, ◌≤◌, true, List, [], ◌∷◌, length, Ok, Err, refl, ap, ◌∙◌, inl, inr, arith}
use Rattle.std.proofs.lemmas.Bool.{cases_lt, lt-ltb, le-ltb}
use Rattle.std.proofs.Math.Nat.{mul-le-mul_left}
use Rattle.text_lines.specs.Lines.{TextLine}
use Rattle.model_rosters.specs.declared.instance.Instance.{Instance}
use Rattle.model_rosters.specs.declared.instance.Mult.{Mult}
use Rattle.model_rosters.specs.Demands.{Demand}
use Rattle.model_rosters.specs.SoundInstance.{IsSoundInstance}
use Rattle.model_rosters.proofs.SoundCells.{length-all_cells}
use Rattle.text_proof_pieces.specs.declared.fault.PieceFault.{PieceFault}
use Rattle.text_proof_pieces.specs.declared.node.NodeLine.{NodeLine}
use Rattle.text_proof_pieces.specs.Ahead.{NoMult}
use Rattle.text_proof_pieces.specs.Items.{Items}
use Rattle.text_proof_pieces.specs.PieceList.{Place, block, nodes, cut_count, node_of, node_read, pieces_from}
use Rattle.text_proof_pieces.specs.PriceLines.{price_line, is_mult, mult_line}
use Rattle.text_proof_pieces.specs.Told.{node}

-- so many prices are those of whole lines
pub record AreWhole (periods most n : ℕ) : Type 0 where
  pub lines : ℕ
  pub made : n ≡ lines * periods
  pub within : n ≤ most

pub none_whole : (periods most n : ℕ) → n ≡ 0 → AreWhole periods most n
none_whole periods most n e = record { lines = 0; made = omega arith; within = omega arith }

next_multiple : (n p k c : ℕ) → n ≡ k * p → n < c * p → n + p ≤ c * p
next_multiple n p k c e lt = elim (cases_lt k c) [
  | inl less ↦ let more : k + 1 ≤ c = omega arith in omega (arith, e, mul-le-mul_left p more)
  | inr ge ↦ absurd (omega (arith, e, mul-le-mul_left p ge))
]

-- where a cell has no price, there is room for one more line
pub line_fits : (i : Instance) (n : ℕ) → IsSoundInstance i → AreWhole i.grammar.periods (length i.cells) n → n < length i.cells → n + i.grammar.periods ≤ length i.cells
line_fits i n s w lt =
    let ds : List Demand = s.cells.demands in
    let len : length i.cells ≡ length ds * i.grammar.periods = ap length s.cells.made ∙ length-all_cells i.grammar ds s.cells.each in
    let fits : n + i.grammar.periods ≤ length ds * i.grammar.periods = next_multiple n i.grammar.periods w.lines (length ds) w.made (omega arith) in
    omega arith

-- the cells are those of whole lines
pub cells_whole : (i : Instance) → IsSoundInstance i → AreWhole i.grammar.periods (length i.cells) (length i.cells)
cells_whole i s = record { lines = length s.cells.demands; made = ap length s.cells.made ∙ length-all_cells i.grammar s.cells.demands s.cells.each; within = omega arith }

pub one_line_whole : (i : Instance) (n m : ℕ) → IsSoundInstance i → AreWhole i.grammar.periods (length i.cells) n → n < length i.cells → m ≡ n + i.grammar.periods → AreWhole i.grammar.periods (length i.cells) m
one_line_whole i n m s w lt e =
    let fits = line_fits i n s w lt in
    record { lines = w.lines + 1; made = omega (arith, w.made); within = omega arith }

module _ (i : Instance) (h : NodeLine) (p : Place) where
  pub price_read : (cs ds : List ℤ) (ms : List Mult) (line : TextLine) (lines items : Items) → length cs < length i.cells → lines ≡ Ok line ∷ items
      → price_line line.number i cs line.words ≡ Ok ds → pieces_from i (block h cs ms) p lines ≡ pieces_from i (block h ds ms) p items
  price_read cs ds ms line lines items lt e said = rw (e, lt-ltb (length cs) (length i.cells) lt, said) refl

  pub price_refused : (cs : List ℤ) (ms : List Mult) (line : TextLine) (lines items : Items) (f : PieceFault) → length cs < length i.cells → lines ≡ Ok line ∷ items
      → price_line line.number i cs line.words ≡ Err f → pieces_from i (block h cs ms) p lines ≡ Err f ∷ []
  price_refused cs ms line lines items f lt e said = rw (e, lt-ltb (length cs) (length i.cells) lt, said) refl

  pub mult_read : (cs : List ℤ) (ms ns : List Mult) (line : TextLine) (lines items : Items) → length cs ≡ length i.cells → lines ≡ Ok line ∷ items → is_mult line.words ≡ true
      → mult_line line.number (cut_count i p) ms line.words ≡ Ok ns → pieces_from i (block h cs ms) p lines ≡ pieces_from i (block h cs ns) p items
  mult_read cs ms ns line lines items all e form said = rw (e, le-ltb (length cs) (length i.cells) (omega arith), form, said) refl

  pub mult_refused : (cs : List ℤ) (ms : List Mult) (line : TextLine) (lines items : Items) (f : PieceFault) → length cs ≡ length i.cells → lines ≡ Ok line ∷ items → is_mult line.words ≡ true
      → mult_line line.number (cut_count i p) ms line.words ≡ Err f → pieces_from i (block h cs ms) p lines ≡ Err f ∷ []
  mult_refused cs ms line lines items f all e form said = rw (e, le-ltb (length cs) (length i.cells) (omega arith), form, said) refl

  -- a line that is none of a multiplier ends the block
  pub block_done : (cs : List ℤ) (ms : List Mult) (items : Items) → length cs ≡ length i.cells → NoMult items
      → pieces_from i (block h cs ms) p items ≡ Ok (node (node_of h cs ms)) ∷ pieces_from i nodes (node_read h p) items
  block_done cs ms [] all other = rw (le-ltb (length cs) (length i.cells) (omega arith)) refl
  block_done cs ms (Err b ∷ items) all other = rw (le-ltb (length cs) (length i.cells) (omega arith)) refl
  block_done cs ms (Ok line ∷ items) all other = rw (le-ltb (length cs) (length i.cells) (omega arith), other) refl
