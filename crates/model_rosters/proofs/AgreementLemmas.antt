-- Prices that agree give each tree of the day one sum.
use Rattle.std.proofs.Common.{◌≡◌, ℕ, ℤ, zero, suc, arith, ◌+◌, ◌≤◌, ◌<◌, Option, Some, List, [], ◌∷◌, refl, sym, subst, ◌∙◌, ap, All, length}
use Rattle.std.proofs.lemmas.List.Elements.{All-head, All-tail}
use Rattle.model_rosters.specs.declared.grammar.Grammar.{Grammar}
use Rattle.model_rosters.specs.declared.grammar.Rule.{Rule}
use Rattle.model_rosters.specs.declared.grammar.Sym.{Sym}
use Rattle.model_rosters.specs.declared.grammar.Sym.TheVariants.{Code, Name}
use Rattle.model_rosters.specs.Agreement.{Agree}
use Rattle.model_rosters.specs.Grammar.{rule_at}
use Rattle.model_rosters.specs.Sound.{Exists, IsRule}
use Rattle.model_rosters.specs.Trees.{Parts, done, letter, uses, span_length, Derive, IsTreeOf}
use Rattle.model_rosters.specs.Sums.{PriceView, arc_sum, parts_sum, tree_sum, plus}
use Rattle.std.proofs.lemmas.Option.{same_Some, none-some, slice_get_within, slice_get-get_or}

plus_same : (a b x y : Option ℤ) → a ≡ b → x ≡ y → plus a x ≡ plus b y
plus_same a b x y e f = cc

module _ (g : Grammar) (p q : PriceView) (rules : All (IsRule (length g.codes) (length g.names)) g.rules) (agree : Agree g p q) where
  symbols : (r : ℕ) (rule : Rule) → rule_at g r ≡ Some rule → All (Exists (length g.codes) (length g.names)) rule.right
  symbols zero rule e = absurd (none-some rule e)
  symbols (suc r) rule e =
      let within = slice_get_within g.rules r rule e in
      let P : Rule → Type 0 = λ (x : Rule). IsRule (length g.codes) (length g.names) x in
      (subst P (same_Some _ rule (sym (slice_get-get_or g.rules r rule within) ∙ e)) (rules r rule within)).symbols

  arc_same : (r k i s : ℕ) (t : Parts) → arc_sum p r k i s t ≡ arc_sum q r k i s t
  arc_same r zero i s t = agree.arcs _
  arc_same r (suc k) i s done = refl
  arc_same r (suc k) i s (letter c rest) = agree.arcs _
  arc_same r (suc k) i s (uses x n inner rest) = agree.arcs _

  parts_same : (t : Parts) (r k i : ℕ) (ss : List Sym) → All (Exists (length g.codes) (length g.names)) ss → Derive g ss i t → 1 ≤ i → i + span_length t ≤ g.periods + 1 → parts_sum p r k i t ≡ parts_sum q r k i t
  parts_same done r k i ss v d a b = refl
  parts_same (letter c rest) r k i [] v d a b = absurd d
  parts_same (letter c rest) r k i (Name x ∷ ss) v d a b = absurd d
  parts_same (letter c rest) r k i (Code x ∷ ss) v d a b =
      let at : x < length g.codes = All-head (Exists (length g.codes) (length g.names)) (Code x) ss v in
      let code : c < length g.codes = omega (arith, d.0) in
      plus_same _ _ _ _ (agree.letters c i code a (omega arith))
      (plus_same _ _ _ _ (ap (λ (z : ℤ). Some z) (arc_same r k i 1 rest)) (parts_same rest r (suc k) (i + 1) ss (All-tail (Exists (length g.codes) (length g.names)) (Code x) ss v) d.1 (omega arith) (omega arith)))
  parts_same (uses x n inner rest) r k i [] v d a b = absurd d
  parts_same (uses x n inner rest) r k i (Code c ∷ ss) v d a b = absurd d
  parts_same (uses x n inner rest) r k i (Name y ∷ ss) v d a b =
      plus_same _ _ _ _ (plus_same _ _ _ _ (ap (λ (z : ℤ). Some z) (agree.rules x d.0 d.1)) (parts_same inner x 0 i d.0.right (symbols x d.0 d.1) d.6 a (omega (arith, d.5))))
      (plus_same _ _ _ _ (ap (λ (z : ℤ). Some z) (arc_same r k i n rest)) (parts_same rest r (suc k) (i + n) ss (All-tail (Exists (length g.codes) (length g.names)) (Name y) ss v) d.7 (omega arith) (omega arith)))

  pub tree_same : (x : ℕ) (t : Parts) → IsTreeOf g x t → tree_sum p 1 t ≡ tree_sum q 1 t
  tree_same x done h = absurd h.0
  tree_same x (letter c rest) h = absurd h.0
  tree_same x (uses r n inner rest) h =
      let d = h.0 in
      plus_same _ _ _ _ (ap (λ (z : ℤ). Some z) (agree.rules r d.0 d.1)) (parts_same inner r 0 1 d.0.right (symbols r d.0 d.1) d.6 (omega arith) (omega (arith, d.5, h.1)))
