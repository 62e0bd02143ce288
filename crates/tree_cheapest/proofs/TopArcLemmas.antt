-- The least sum of what stands at a node with a given arc at the top.
use Rattle.std.proofs.Common.{◌≡◌, ℕ, zero, suc, ℤ, pos, ◌<◌, ◌+◌, ◌-◌, List, [], ◌∷◌, Option, None, Some, IfSome, arith, refl, subst, sym, ap, ◌∙◌, drop}
use Rattle.std.proofs.lemmas.Int.{ints}
use Rattle.std.proofs.lemmas.Option.{same_Some}
use Rattle.model_rosters.specs.declared.grammar.ArcKey.{ArcKey}
use Rattle.model_rosters.specs.declared.grammar.Grammar.{Grammar}
use Rattle.model_rosters.specs.declared.grammar.Rule.{Rule}
use Rattle.model_rosters.specs.declared.grammar.Sym.{Sym}
use Rattle.model_rosters.specs.declared.grammar.Sym.TheVariants.{Code, Name}
use Rattle.model_rosters.specs.Grammar.{rule_at, Stands}
use Rattle.model_rosters.specs.Trees.{Parts, done, letter, uses, Derive, On}
use Rattle.model_rosters.specs.Sums.{PriceView, plus, tree_sum, parts_sum, IsLeast, AtMost, SymbolLeast, PartsLeast}
use Rattle.model_rosters.specs.tree_laws.Laws.{arc_at}
use Rattle.model_rosters.specs.tree_laws.Parts.{first}
use Rattle.model_rosters.proofs.tree_laws.LeastValues.{IsLeast-same}
use Rattle.model_rosters.proofs.tree_laws.Splits.{split-least}
use Rattle.model_rosters.proofs.tree_laws.Ends.{last-least, only-least, rooted}
use Rattle.model_rosters.specs.arc_laws.OrNodes.{OrNode, name, suffix, left_of, right_of, made_by, made, symbol_node, rest_node, used_by, used}
use Rattle.model_rosters.proofs.arc_laws.BalanceLemmas.{left_of-is, right_of-is, drop-next}
use Rattle.model_rosters.specs.arc_laws.AtNodes.{IsAt}
use Rattle.model_rosters.proofs.arc_laws.PartCuts.{Fits, LastFits, IsCut}
use Rattle.tree_cheapest.specs.AtNodes.{sum_at, NodeLeast, top_arc, arc_total, with_rule}
use Rattle.tree_cheapest.proofs.StandLemmas.{Standing}

module _ (g : Grammar) (p : PriceView) where
  -- v and w are the least sums of what is below an arc: its first part, and what follows it
  abbrev pub KidsLeast : List OrNode → Option ℤ → Option ℤ → Type 0
  KidsLeast [] v w = ⊥
  KidsLeast (o ∷ []) v w = NodeLeast g p o v × (w ≡ Some (pos 0))
  KidsLeast (o ∷ q ∷ []) v w = NodeLeast g p o v × NodeLeast g p q w
  KidsLeast (o ∷ q ∷ s ∷ os) v w = ⊥

  plus-rule : (a b : Option ℤ) (e : ℤ) → AtMost a b → AtMost (plus (Some e) a) (plus (Some e) b)
  plus-rule a None e k = tt
  plus-rule None (Some b) e k = k
  plus-rule (Some a) (Some b) e k = omega (arith, ints)

  pub plus-nothing : (a : Option ℤ) (e : ℤ) → plus a (plus (Some e) (Some (pos 0))) ≡ plus a (Some e)
  plus-nothing None e = refl
  plus-nothing (Some z) e = ap Some (omega (arith, ints))

  -- a symbol by its node
  of_symbol : (s : Sym) (i l : ℕ) (v : Option ℤ) → Fits s l → NodeLeast g p (symbol_node s i l) v → SymbolLeast g p s i l v
  of_symbol (Name x) i l v fits h = h
  of_symbol (Code c) i l v fits h = subst (λ (n : ℕ). SymbolLeast g p (Code c) i n v) (sym fits) h

  -- trees of a name by one rule, with a first part of this length
  rule_top : (q x i l m : ℕ) (rule : Rule) (a : Option ℤ) → rule_at g q ≡ Some rule → rule.left ≡ x → Stands g.periods rule i l → 0 < l
      → IsLeast (λ w. On g rule.right i l w × (first w ≡ m)) (parts_sum p q 0 i) a
      → IsLeast (λ t. IsAt g (name x i l) t × (top_arc (name x i l) t ≡ arc_at q 0 i l m)) (sum_at p (name x i l)) (plus (Some (p.rule_of q)) a)
  rule_top q x i l m rule a at left stands some h = record { attained = attained a h.attained; least = λ t k. below t k }
    where
      attained : (a : Option ℤ) → IfSome a (λ z. (w : Parts) × (On g rule.right i l w × (first w ≡ m)) × (parts_sum p q 0 i w ≡ Some z))
          → IfSome (plus (Some (p.rule_of q)) a) (λ z. (t : Parts) × (IsAt g (name x i l) t × (top_arc (name x i l) t ≡ arc_at q 0 i l m)) × (tree_sum p i t ≡ Some z))
      attained None k = tt
      attained (Some y) k =
          (uses q l k.0 done, (rooted g p i l q x rule k.0 at left stands some k.1.0, ap (λ (n : ℕ). arc_at q 0 i l n) k.1.1), ap (λ v. plus (Some (p.rule_of q)) v) k.2)

      same : (rule' : Rule) → rule_at g q ≡ Some rule' → rule' ≡ rule
      same rule' e = same_Some rule' rule (sym e ∙ at)

      below : (t : Parts) → IsAt g (name x i l) t × (top_arc (name x i l) t ≡ arc_at q 0 i l m) → AtMost (plus (Some (p.rule_of q)) a) (tree_sum p i t)
      below done k = absurd k.0.0
      below (letter d rest) k = absurd k.0.0
      below (uses q' z inner (letter d rest)) k = absurd k.0.0.7
      below (uses q' z inner (uses q'' z' inner' rest)) k = absurd k.0.0.7
      below (uses q' z inner done) k =
          let e : q' ≡ q = ap (λ (b : ArcKey). b.rule) k.1 in
          let f : first inner ≡ m = ap (λ (b : ArcKey). b.part) k.1 in
          let len : z ≡ l = omega (arith, k.0.1) in
          let one : k.0.0.0 ≡ rule = same k.0.0.0 (subst (λ (n : ℕ). rule_at g n ≡ Some k.0.0.0) e k.0.0.1) in
          let on : On g rule.right i l inner = (subst (λ (r : Rule). Derive g r.right i inner) one k.0.0.6, k.0.0.5 ∙ len) in
          subst (λ (n : ℕ). AtMost (plus (Some (p.rule_of q)) a) (plus (Some (p.rule_of n)) (parts_sum p n 0 i inner))) (sym e)
          (plus-rule a (parts_sum p q 0 i inner) (p.rule_of q) (h.least inner (on, f)))

  -- the length of an only part
  pub only-first : (s : Sym) (i l : ℕ) (t : Parts) → On g (s ∷ []) i l t → first t ≡ l
  only-first (Code c) i l done h = absurd h.0
  only-first (Name c) i l done h = absurd h.0
  only-first (Name c) i l (letter d rest) h = absurd h.0
  only-first (Code c) i l (uses q z inner rest) h = absurd h.0
  only-first (Code c) i l (letter d (letter d' rest)) h = absurd h.0.1
  only-first (Code c) i l (letter d (uses q z inner rest)) h = absurd h.0.1
  only-first (Code c) i l (letter d done) h = h.1
  only-first (Name c) i l (uses q z inner (letter d rest)) h = absurd h.0.7
  only-first (Name c) i l (uses q z inner (uses q' z' inner' rest)) h = absurd h.0.7
  only-first (Name c) i l (uses q z inner done) h = omega (arith, h.1)

  module _ (r i l m : ℕ) where
    -- the parts of the symbols with a first part of this length
    abbrev Cut : ℕ → List Sym → Parts → Type 0
    Cut k ss w = On g ss i l w × (first w ≡ m)

    cut_rest : (k : ℕ) (x : Sym) (ss : List Sym) (n : ℕ) (w : Option ℤ) → drop (suc k) (right_of g r) ≡ x ∷ ss → LastFits (x ∷ ss) n → (o : OrNode)
        → rest_node (x ∷ ss) r (suc k) (i + m) n ≡ o ∷ [] → NodeLeast g p o w → PartsLeast g p r (suc k) (x ∷ ss) (i + m) n w
    cut_rest k x [] n w e fits o is h =
        let same : symbol_node x (i + m) n ≡ o = first_same (symbol_node x (i + m) n) o is in
        last-least g p (i + m) n r k x w (of_symbol x (i + m) n w fits (subst (λ (q : OrNode). NodeLeast g p q w) (sym same) h))
      where
        first_same : (a b : OrNode) → ◌≡◌ {A = List OrNode} (a ∷ []) (b ∷ []) → a ≡ b
        first_same a b f = cc
    cut_rest k x (y ∷ ss) n w e fits o is h =
        let same : suffix r (suc k) (i + m) n ≡ o = first_same (suffix r (suc k) (i + m) n) o is in
        subst (λ (q : List Sym). PartsLeast g p r (suc k) q (i + m) n w) e (subst (λ (q : OrNode). NodeLeast g p q w) (sym same) h)
      where
        first_same : (a b : OrNode) → ◌≡◌ {A = List OrNode} (a ∷ []) (b ∷ []) → a ≡ b
        first_same a b f = cc

    cut_least : (k : ℕ) (ss : List Sym) (v w : Option ℤ) → drop k (right_of g r) ≡ ss → IsCut k ss l m → KidsLeast (used_by ss (arc_at r k i l m)) v w
        → IsLeast (Cut k ss) (parts_sum p r k i) (plus v (plus (Some (p.arc_of (arc_at r k i l m))) w))
    cut_least k [] v w e cut kids = absurd cut
    cut_least (suc k) (s ∷ []) v w e cut kids = let no : suc k ≡ 0 = cut.0 in cc
    cut_least zero (s ∷ []) v w e cut kids =
        let sv : SymbolLeast g p s i l v = of_symbol s i l v cut.2 (subst (λ (n : ℕ). NodeLeast g p (symbol_node s i n) v) cut.1 kids.0) in
        let whole : PartsLeast g p r 0 (s ∷ []) i l (plus v (Some (p.arc_of (arc_at r 0 i l l)))) = only-least g p i l r s v sv in
        let sum : plus v (Some (p.arc_of (arc_at r 0 i l l))) ≡ plus v (plus (Some (p.arc_of (arc_at r 0 i l m))) w) =
        sym (plus-nothing v (p.arc_of (arc_at r 0 i l l))) ∙ ap (λ (n : ℕ). plus v (plus (Some (p.arc_of (arc_at r 0 i l n))) (Some (pos 0)))) (sym cut.1)
        ∙ ap (λ (o : Option ℤ). plus v (plus (Some (p.arc_of (arc_at r 0 i l m))) o)) (sym kids.1) in
        subst (λ (o : Option ℤ). IsLeast (Cut 0 (s ∷ [])) (parts_sum p r 0 i) o) sum
        (IsLeast-same (On g (s ∷ []) i l) (Cut 0 (s ∷ [])) (parts_sum p r 0 i) _ (λ t h. (h, only-first s i l t h ∙ sym cut.1)) (λ t h. h.0) whole)
    cut_least k (s ∷ x ∷ ss) v w e cut kids = by (rest_node (x ∷ ss) r (suc k) (i + m) (l - m)) refl kids
      where
        by : (os : List OrNode) → rest_node (x ∷ ss) r (suc k) (i + m) (l - m) ≡ os → KidsLeast (symbol_node s i m ∷ os) v w
            → IsLeast (Cut k (s ∷ x ∷ ss)) (parts_sum p r k i) (plus v (plus (Some (p.arc_of (arc_at r k i l m))) w))
        by [] is h = absurd (never x ss is)
          where
            never : (x : Sym) (ss : List Sym) → rest_node (x ∷ ss) r (suc k) (i + m) (l - m) ≡ [] → ⊥
            never x [] f = cc
            never x (y ∷ ss) f = cc
        by (o ∷ q ∷ os) is h = absurd h
        by (o ∷ []) is h =
            let fits : m + (l - m) ≡ l = omega (arith, cut.1) in
            let head : SymbolLeast g p s i m v = of_symbol s i m v cut.2 h.0 in
            let tail = cut_rest k x ss (l - m) w (drop-next k (right_of g r) s (x ∷ ss) e) cut.3 o is h.1 in
            split-least g p r k i m (l - m) l x ss fits s v w head tail

  -- an arc of the instance by what is below it
  total : (r k i l m : ℕ) → Standing g (arc_at r k i l m) → (v w : Option ℤ) → KidsLeast (used_by (drop k (right_of g r)) (arc_at r k i l m)) v w
      → IsLeast (λ t. IsAt g (made_by g r k i l) t × (top_arc (made_by g r k i l) t ≡ arc_at r k i l m)) (sum_at p (made_by g r k i l))
      (with_rule p r k (plus v (plus (Some (p.arc_of (arc_at r k i l m))) w)))
  total r zero i l m st v w kids =
      let right : right_of g r ≡ st.rule.right = right_of-is g r st.rule st.at in
      let left : left_of g r ≡ st.rule.left = left_of-is g r st.rule st.at in
      let kids2 = subst (λ (q : List Sym). KidsLeast (used_by q (arc_at r 0 i l m)) v w) right kids in
      let cut = cut_least r i l m 0 st.rule.right v w right st.cut kids2 in
      rule_top r (left_of g r) i l m st.rule _ st.at (sym left) st.here.0 st.day.some cut
  total r (suc k) i l m st v w kids =
      let right : drop (suc k) (right_of g r) ≡ drop (suc k) st.rule.right = ap (λ (xs : List Sym). drop (suc k) xs) (right_of-is g r st.rule st.at) in
      let here = subst (λ (q : List Sym). IsCut (suc k) q l m) (sym right) st.cut in
      let cut = cut_least r i l m (suc k) (drop (suc k) (right_of g r)) v w refl here kids in
      IsLeast-same (λ t. On g (drop (suc k) (right_of g r)) i l t × (first t ≡ m)) (λ t. IsAt g (suffix r (suc k) i l) t × (arc_at r (suc k) i l (first t) ≡ arc_at r (suc k) i l m)) (parts_sum p r (suc k) i) _
      (λ t h. (h.0, ap (λ (n : ℕ). arc_at r (suc k) i l n) h.1)) (λ t h. (h.0, ap (λ (b : ArcKey). b.part) h.1)) cut

  -- the least sum of what stands at the node that an arc makes, with this arc at the top
  pub arc-least : (a : ArcKey) → Standing g a → (v w : Option ℤ) → KidsLeast (used g a) v w
      → IsLeast (λ t. IsAt g (made g a) t × (top_arc (made g a) t ≡ a)) (sum_at p (made g a)) (arc_total p a v w)
  arc-least a st v w kids = total a.rule a.suffix a.start a.len a.part st v w kids
