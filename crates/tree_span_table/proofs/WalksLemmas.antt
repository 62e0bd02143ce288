-- The walk down a tree of least sum: what it may ask at each step, and what it has written after it.
use Rattle.std.proofs.Common.{◌≡◌, ℕ, zero, suc, ℤ, ◌<◌, ◌+◌, ◌-◌, List, [], ◌∷◌, ◌++◌, Option, Some, arith, subst, sym, ap, ◌∙◌, length, length-append, append_assoc, drop}
use Rattle.std.proofs.lemmas.List.{append-nil}
use Rattle.model_rosters.specs.declared.grammar.Grammar.{Grammar}
use Rattle.model_rosters.specs.declared.grammar.Step.{Step}
use Rattle.model_rosters.specs.declared.grammar.Sym.{Sym}
use Rattle.model_rosters.specs.declared.grammar.Sym.TheVariants.{Code, Name}
use Rattle.model_rosters.specs.Trees.{Parts, done, letter, uses, span_length, On, steps}
use Rattle.model_rosters.specs.Sums.{PriceView, plus, tree_sum, parts_sum, SymbolLeast, PartsLeast}
use Rattle.model_rosters.specs.Room.{RoomView}
use Rattle.model_rosters.specs.tree_laws.Parts.{beside}
use Rattle.model_rosters.specs.tree_laws.Laws.{arc_at}
use Rattle.model_rosters.proofs.tree_laws.LeastValues.{IsLeast-one, left_there, right_there}
use Rattle.model_rosters.proofs.tree_laws.Splits.{joined}
use Rattle.model_rosters.proofs.tree_laws.Ends.{last-least, last_sum, only-least, only_sum, rooted}
use Rattle.model_rosters.proofs.tree_laws.Size.{steps-beside, use_count-beside, length-steps}
use Rattle.tree_span_cells.specs.Choices.{ChosenPart, ChosenRule}
use Rattle.tree_span_table.specs.Walks.{HasTree, HasParts, HasRoom, WritesTree, WritesParts}

module _ (g : Grammar) (p : PriceView) where
  -- a symbol has one least sum
  pub one_tree : (s : Sym) (i l : ℕ) (v w : Option ℤ) → SymbolLeast g p s i l v → SymbolLeast g p s i l w → v ≡ w
  one_tree s i l v w h k = IsLeast-one (On g (s ∷ []) i l) (tree_sum p i) v w h k

  -- so have the parts of symbols
  pub one_parts : (r k : ℕ) (ss : List Sym) (i l : ℕ) (v w : Option ℤ) → PartsLeast g p r k ss i l v → PartsLeast g p r k ss i l w → v ≡ w
  one_parts r k ss i l v w h o = IsLeast-one (On g ss i l) (parts_sum p r k i) v w h o

  has_tree : (s : Sym) (i l : ℕ) (v : Option ℤ) → SymbolLeast g p s i l v → (y : ℤ) × (v ≡ Some y) → HasTree g p s i l
  has_tree s i l v h e = (e.0, subst (λ (w : Option ℤ). SymbolLeast g p s i l w) e.1 h)

  has_parts : (r k : ℕ) (ss : List Sym) (i l : ℕ) (v : Option ℤ) → PartsLeast g p r k ss i l v → (y : ℤ) × (v ≡ Some y) → HasParts g p r k ss i l
  has_parts r k ss i l v h e = (e.0, subst (λ (w : Option ℤ). PartsLeast g p r k ss i l w) e.1 h)

  -- the last symbol has a tree with a sum where the last parts have
  pub last-has : (r k : ℕ) (s : Sym) (i l : ℕ) (v : Option ℤ) → SymbolLeast g p s i l v → HasParts g p r k (s ∷ []) i l → HasTree g p s i l
  last-has r zero s i l v h has =
      has_tree s i l v h (left_there v (Some (p.arc_of (arc_at r 0 i l l))) has.0 (one_parts r 0 (s ∷ []) i l _ (Some has.0) (only-least g p i l r s v h) has.1))
  last-has r (suc k) s i l v h has = has_tree s i l v h (has.0, one_parts r (suc k) (s ∷ []) i l v (Some has.0) (last-least g p i l r k s v h) has.1)

  -- a tree of the last symbol is the last parts
  pub last-writes : (r k : ℕ) (s : Sym) (i l : ℕ) (old new : RoomView) → WritesTree g p s i l old new → WritesParts g p r k (s ∷ []) i l old new
  last-writes r zero s i l old new w =
      (w.0, w.1, subst (λ (v : Option ℤ). PartsLeast g p r 0 (s ∷ []) i l v) (only_sum g p i l r s w.0 w.1) (only-least g p i l r s (tree_sum p i w.0) w.2), w.3)
  last-writes r (suc k) s i l old new w =
      (w.0, w.1, subst (λ (v : Option ℤ). PartsLeast g p r (suc k) (s ∷ []) i l v) (last_sum g p i l r k s w.0 w.1) (last-least g p i l r k s (tree_sum p i w.0) w.2), w.3)

  -- the tree of a code has no steps
  pub code-writes : (c i l : ℕ) (room : RoomView) → HasTree g p (Code c) i l → WritesTree g p (Code c) i l room room
  code-writes c i l room has = by has.1.attained.0 has.1.attained.1 has.1.attained.2
    where
      by : (t : Parts) → On g (Code c ∷ []) i l t → tree_sum p i t ≡ Some has.0 → WritesTree g p (Code c) i l room room
      by done h e = absurd h.0
      by (uses q z inner rest) h e = absurd h.0
      by (letter d (letter d' rest)) h e = absurd h.0.1
      by (letter d (uses q z inner rest)) h e = absurd h.0.1
      by (letter d done) h e =
          (letter d done, h, subst (λ (v : Option ℤ). SymbolLeast g p (Code c) i l v) (sym e) has.1, ap (λ (q : List Step). record room { steps = q }) (sym (append-nil room.steps)))

  -- two or more symbols: the chosen part and the others have sums
  module _ (r k : ℕ) (s x : Sym) (ss xs : List Sym) (i l part : ℕ) (z : ℤ) (v : Option ℤ) (chosen : ChosenPart g p r k s xs i l part v) (is : v ≡ Some z)
      (next : drop (k + 1) xs ≡ x ∷ ss) where
    all : plus chosen.head (plus (Some (p.arc_of (arc_at r k i l part))) chosen.tail) ≡ Some z
    all = sym chosen.sum ∙ is

    -- the first part has a sum
    pub first-has : HasTree g p s i part
    first-has = has_tree s i part chosen.head chosen.first (left_there chosen.head _ z all)

    others : (y : ℤ) × (chosen.tail ≡ Some y)
    others = let w = right_there chosen.head _ z all in right_there (Some (p.arc_of (arc_at r k i l part))) chosen.tail w.0 w.1

    -- so have the others
    pub others-has : HasParts g p r (k + 1) (drop (k + 1) xs) (i + part) (l - part)
    others-has = has_parts r (k + 1) (drop (k + 1) xs) (i + part) (l - part) chosen.tail chosen.rest others

  -- room for the first part, since there are others
  pub first-room : (r k : ℕ) (s x : Sym) (ss : List Sym) (i l m n : ℕ) (room : RoomView) → m + n ≡ l → HasRoom (On g (s ∷ x ∷ ss) i l) room
      → HasParts g p r k (x ∷ ss) (i + m) n → HasRoom (On g (s ∷ []) i m) room
  first-room r k s x ss i l m n room e space has t h =
      let u = has.1.attained.0 in
      let j = joined g p r k i m n l x ss e s t u h has.1.attained.1 in
      omega (arith, space (beside t u) j.0, use_count-beside t u)

  -- room for the others once the first part is written
  pub rest-room : (r k : ℕ) (s x : Sym) (ss : List Sym) (i l m n : ℕ) (old new : RoomView) → m + n ≡ l → HasRoom (On g (s ∷ x ∷ ss) i l) old
      → WritesTree g p s i m old new → HasRoom (On g (x ∷ ss) (i + m) n) new
  rest-room r k s x ss i l m n old new e space w u h =
      let j = joined g p r k i m n l x ss e s w.0 u w.1 h in
      let a = space (beside w.0 u) j.0 in
      let b : length new.steps ≡ length (old.steps ++ steps i w.0) = ap (λ (q : RoomView). length q.steps) w.3 in
      let c : new.most ≡ old.most = ap (λ (q : RoomView). q.most) w.3 in
      omega (arith, a, b, c, use_count-beside w.0 u, length-append old.steps (steps i w.0), length-steps w.0 i)

  -- the first part and the others together
  pub split-writes : (r k : ℕ) (s x : Sym) (ss : List Sym) (i l m n : ℕ) (old mid new : RoomView) (a b v : Option ℤ) → m + n ≡ l
      → SymbolLeast g p s i m a → PartsLeast g p r (suc k) (x ∷ ss) (i + m) n b → v ≡ plus a (plus (Some (p.arc_of (arc_at r k i l m))) b)
      → PartsLeast g p r k (s ∷ x ∷ ss) i l v
      → WritesTree g p s i m old mid → WritesParts g p r (suc k) (x ∷ ss) (i + m) n mid new → WritesParts g p r k (s ∷ x ∷ ss) i l old new
  split-writes r k s x ss i l m n old mid new a b v e ha hb sum least w o =
      let j = joined g p r k i m n l x ss e s w.0 o.0 w.1 o.1 in
      let same_a : tree_sum p i w.0 ≡ a = one_tree s i m (tree_sum p i w.0) a w.2 ha in
      let same_b : parts_sum p r (suc k) (i + m) o.0 ≡ b = one_parts r (suc k) (x ∷ ss) (i + m) n (parts_sum p r (suc k) (i + m) o.0) b o.2 hb in
      let whole : parts_sum p r k i (beside w.0 o.0) ≡ v = j.2 ∙ rw (same_a, same_b) (sym sum) in
      let cov : i + span_length w.0 ≡ i + m = ap (λ (q : ℕ). i + q) w.1.1 in
      let all : steps i (beside w.0 o.0) ≡ steps i w.0 ++ steps (i + m) o.0 = steps-beside w.0 o.0 i ∙ ap (λ (q : ℕ). steps i w.0 ++ steps q o.0) cov in
      let now : new ≡ record old { steps = old.steps ++ steps i (beside w.0 o.0) } =
      o.3 ∙ ap (λ (q : RoomView). record q { steps = q.steps ++ steps (i + m) o.0 }) w.3
      ∙ ap (λ (q : List Step). record old { steps = q }) (append_assoc old.steps (steps i w.0) (steps (i + m) o.0) ∙ ap (λ (q : List Step). old.steps ++ q) (sym all)) in
      (beside w.0 o.0, j.0, subst (λ (q : Option ℤ). PartsLeast g p r k (s ∷ x ∷ ss) i l q) (sym whole) least, now)

  -- a name: the parts of the chosen rule have a sum
  module _ (x i l number : ℕ) (z : ℤ) (v : Option ℤ) (chosen : ChosenRule g p x i l number v) (is : v ≡ Some z) where
    -- the parts have a sum
    pub rule-has : HasParts g p number 0 chosen.rule.right i l
    rule-has = has_parts number 0 chosen.rule.right i l chosen.inner chosen.parts (right_there (Some (p.rule_of number)) chosen.inner z (sym chosen.sum ∙ is))

    -- room for them once the step of the rule is written
    pub rule-room : (step : Step) (old new : RoomView) → 0 < l → HasRoom (On g (Name x ∷ []) i l) old → new ≡ record old { steps = old.steps ++ step ∷ [] }
        → HasRoom (On g chosen.rule.right i l) new
    rule-room step old new some space now t h =
        let a = space (uses number l t done) (rooted g p i l number x chosen.rule t chosen.at chosen.left chosen.stands some h) in
        let b : length new.steps ≡ length (old.steps ++ step ∷ []) = ap (λ (q : RoomView). length q.steps) now in
        let c : new.most ≡ old.most = ap (λ (q : RoomView). q.most) now in
        omega (arith, a, b, c, length-append old.steps (step ∷ []))

    -- the step of the rule and the parts together
    pub rule-writes : (old mid new : RoomView) → 0 < l → SymbolLeast g p (Name x) i l v
        → mid ≡ record old { steps = old.steps ++ record { rule = number; start = i; len = l } ∷ [] }
        → WritesParts g p number 0 chosen.rule.right i l mid new → WritesTree g p (Name x) i l old new
    rule-writes old mid new some least first w =
        let same : parts_sum p number 0 i w.0 ≡ chosen.inner = one_parts number 0 chosen.rule.right i l _ _ w.2 chosen.parts in
        let whole : tree_sum p i (uses number l w.0 done) ≡ v = ap (λ (q : Option ℤ). plus (Some (p.rule_of number)) q) same ∙ sym chosen.sum in
        let step : Step = record { rule = number; start = i; len = l } in
        let joined_steps : (old.steps ++ step ∷ []) ++ steps i w.0 ≡ old.steps ++ steps i (uses number l w.0 done) =
        append_assoc old.steps (step ∷ []) (steps i w.0) ∙ ap (λ (q : List Step). old.steps ++ (step ∷ q)) (sym (append-nil (steps i w.0))) in
        let now : new ≡ record old { steps = old.steps ++ steps i (uses number l w.0 done) } =
        w.3 ∙ ap (λ (q : RoomView). record q { steps = q.steps ++ steps i w.0 }) first ∙ ap (λ (q : List Step). record old { steps = q }) joined_steps in (
          uses number l w.0 done,
          rooted g p i l number x chosen.rule w.0 chosen.at chosen.left chosen.stands some w.1,
          subst (λ (q : Option ℤ). SymbolLeast g p (Name x) i l q) (sym whole) least,
          now,
        )
