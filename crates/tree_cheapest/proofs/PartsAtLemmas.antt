-- What stands at the node that an arc makes is put together from what stands below the arc.
use Rattle.std.proofs.Common.{◌≡◌, ℕ, zero, suc, ℤ, pos, ◌<◌, ◌+◌, ◌-◌, List, [], ◌∷◌, ◌++◌, Option, Some, arith, refl, subst, sym, ap, ◌∙◌, length, drop}
use Rattle.std.proofs.lemmas.List.{append-nil}
use Rattle.model_rosters.specs.declared.grammar.ArcKey.{ArcKey}
use Rattle.model_rosters.specs.declared.grammar.Grammar.{Grammar}
use Rattle.model_rosters.specs.declared.grammar.Step.{Step}
use Rattle.model_rosters.specs.declared.grammar.Sym.{Sym}
use Rattle.model_rosters.specs.declared.grammar.Sym.TheVariants.{Code, Name}
use Rattle.model_rosters.specs.Trees.{Parts, done, uses, span_length, On, steps}
use Rattle.model_rosters.specs.Sums.{PriceView, plus, tree_sum, parts_sum}
use Rattle.model_rosters.specs.tree_laws.Laws.{arc_at}
use Rattle.model_rosters.specs.tree_laws.Parts.{first, use_count, beside}
use Rattle.model_rosters.proofs.tree_laws.Splits.{joined}
use Rattle.model_rosters.proofs.tree_laws.Ends.{last_sum, only_sum, rooted}
use Rattle.model_rosters.proofs.tree_laws.Size.{steps-beside, use_count-beside}
use Rattle.model_rosters.specs.arc_laws.OrNodes.{OrNode, left_of, right_of, made, symbol_node, used_by, used}
use Rattle.model_rosters.proofs.arc_laws.BalanceLemmas.{left_of-is, right_of-is, drop-next}
use Rattle.model_rosters.specs.arc_laws.AtNodes.{IsAt, steps_of}
use Rattle.model_rosters.proofs.arc_laws.PartCuts.{Fits, IsCut}
use Rattle.tree_cheapest.specs.AtNodes.{sum_at, top_arc, arc_total}
use Rattle.tree_cheapest.proofs.StandLemmas.{Standing}
use Rattle.tree_cheapest.proofs.TopArcLemmas.{plus-nothing, only-first}

module _ (g : Grammar) (p : PriceView) where
  -- these stand below an arc: at its first part, and at what follows it
  abbrev pub KidsAt : List OrNode → Parts → Parts → Type 0
  KidsAt [] t u = ⊥
  KidsAt (o ∷ []) t u = IsAt g o t × (u ≡ done)
  KidsAt (o ∷ q ∷ []) t u = IsAt g o t × IsAt g q u
  KidsAt (o ∷ q ∷ s ∷ os) t u = ⊥

  -- their sums
  abbrev pub first_sum : List OrNode → Parts → Option ℤ
  first_sum [] t = Some (pos 0)
  first_sum (o ∷ os) t = sum_at p o t

  abbrev pub rest_sum : List OrNode → Parts → Option ℤ
  rest_sum [] u = Some (pos 0)
  rest_sum (o ∷ []) u = Some (pos 0)
  rest_sum (o ∷ q ∷ os) u = sum_at p q u

  -- what is put together of them
  pub record Built (a : ArcKey) (t u : Parts) : Type 0 where
    pub whole : Parts
    pub on : IsAt g (made g a) whole
    pub top : top_arc (made g a) whole ≡ a
    pub sum : sum_at p (made g a) whole ≡ arc_total p a (first_sum (used g a) t) (rest_sum (used g a) u)
    pub written : steps a.start whole ≡ steps_of a ++ (steps a.start t ++ steps (a.start + a.part) u)
    pub count : use_count whole ≡ length (steps_of a) + (use_count t + use_count u)

  symbol_on : (s : Sym) (i l : ℕ) (t : Parts) → Fits s l → IsAt g (symbol_node s i l) t → On g (s ∷ []) i l t
  symbol_on (Name x) i l t fits h = h
  symbol_on (Code c) i l t fits h = subst (λ (n : ℕ). On g (Code c ∷ []) i n t) (sym fits) h

  symbol_sum : (s : Sym) (i l : ℕ) (t : Parts) → sum_at p (symbol_node s i l) t ≡ tree_sum p i t
  symbol_sum (Name x) i l t = refl
  symbol_sum (Code c) i l t = refl

  module _ (r i l m : ℕ) where
    -- the parts of these symbols, of what stands below the arc
    record Cut (k : ℕ) (ss : List Sym) (t u : Parts) (v w : Option ℤ) : Type 0 where
      pub parts : Parts
      pub on : On g ss i l parts
      pub begins : first parts ≡ m
      pub sum : parts_sum p r k i parts ≡ plus v (plus (Some (p.arc_of (arc_at r k i l m))) w)
      pub written : steps i parts ≡ steps i t ++ steps (i + m) u
      pub count : use_count parts ≡ use_count t + use_count u

    two : (k : ℕ) (s x : Sym) (ss : List Sym) (t u : Parts) (v w : Option ℤ) → m < l → On g (s ∷ []) i m t → On g (x ∷ ss) (i + m) (l - m) u
        → v ≡ tree_sum p i t → w ≡ parts_sum p r (suc k) (i + m) u → Cut k (s ∷ x ∷ ss) t u v w
    two k s x ss t u v w less ht hu ev ew =
        let fits : m + (l - m) ≡ l = omega (arith, less) in
        let j = joined g p r k i m (l - m) l x ss fits s t u ht hu in
        let cov : i + span_length t ≡ i + m = ap (λ (q : ℕ). i + q) ht.1 in
        record {
          parts = beside t u;
          on = j.0;
          begins = j.1;
          sum = rw (ev, ew) j.2;
          written = steps-beside t u i ∙ ap (λ (q : ℕ). steps i t ++ steps q u) cov;
          count = use_count-beside t u;
        }

    cut : (k : ℕ) (ss : List Sym) (t u : Parts) → drop k (right_of g r) ≡ ss → IsCut k ss l m → KidsAt (used_by ss (arc_at r k i l m)) t u
        → Cut k ss t u (first_sum (used_by ss (arc_at r k i l m)) t) (rest_sum (used_by ss (arc_at r k i l m)) u)
    cut k [] t u e c kids = absurd c
    cut (suc k) (s ∷ []) t u e c kids = let no : suc k ≡ 0 = c.0 in cc
    cut zero (s ∷ []) t u e c kids =
        let at : IsAt g (symbol_node s i l) t = subst (λ (n : ℕ). IsAt g (symbol_node s i n) t) c.1 kids.0 in
        let on : On g (s ∷ []) i l t = symbol_on s i l t c.2 at in
        let sum : parts_sum p r 0 i t ≡ plus (tree_sum p i t) (plus (Some (p.arc_of (arc_at r 0 i l l))) (Some (pos 0))) =
        sym (only_sum g p i l r s t on) ∙ sym (plus-nothing g p (tree_sum p i t) (p.arc_of (arc_at r 0 i l l))) in
        let sum2 : parts_sum p r 0 i t ≡ plus (tree_sum p i t) (plus (Some (p.arc_of (arc_at r 0 i l m))) (Some (pos 0))) =
        sum ∙ ap (λ (n : ℕ). plus (tree_sum p i t) (plus (Some (p.arc_of (arc_at r 0 i l n))) (Some (pos 0)))) (sym c.1) in
        record {
          parts = t;
          on = on;
          begins = only-first g p s i l t on ∙ sym c.1;
          sum = sum2 ∙ ap (λ (v : Option ℤ). plus v (plus (Some (p.arc_of (arc_at r 0 i l m))) (Some (pos 0)))) (sym (symbol_sum s i m t));
          written = sym (append-nil (steps i t)) ∙ ap (λ (q : Parts). steps i t ++ steps (i + m) q) (sym kids.1);
          count = let n : use_count u ≡ 0 = ap use_count kids.1 in omega (arith, n);
        }
    cut k (s ∷ x ∷ []) t u e c kids =
        let hu : On g (x ∷ []) (i + m) (l - m) u = symbol_on x (i + m) (l - m) u c.3 kids.1 in
        two k s x [] t u _ _ c.1 (symbol_on s i m t c.2 kids.0) hu (symbol_sum s i m t)
        (symbol_sum x (i + m) (l - m) u ∙ last_sum g p (i + m) (l - m) r k x u hu)
    cut k (s ∷ x ∷ y ∷ ss) t u e c kids =
        let hu : On g (x ∷ y ∷ ss) (i + m) (l - m) u = subst (λ (q : List Sym). On g q (i + m) (l - m) u) (drop-next k (right_of g r) s (x ∷ y ∷ ss) e) kids.1 in
        two k s x (y ∷ ss) t u _ _ c.1 (symbol_on s i m t c.2 kids.0) hu (symbol_sum s i m t) refl

  build : (r k i l m : ℕ) → Standing g (arc_at r k i l m) → (t u : Parts) → KidsAt (used_by (drop k (right_of g r)) (arc_at r k i l m)) t u → Built (arc_at r k i l m) t u
  build r zero i l m st t u kids =
      let right : right_of g r ≡ st.rule.right = right_of-is g r st.rule st.at in
      let left : left_of g r ≡ st.rule.left = left_of-is g r st.rule st.at in
      let c = cut r i l m 0 (right_of g r) t u refl (subst (λ (q : List Sym). IsCut 0 q l m) (sym right) st.cut) kids in
      let on : On g st.rule.right i l c.parts = subst (λ (q : List Sym). On g q i l c.parts) right c.on in
      let step : Step = record { rule = r; start = i; len = l } in
      record {
        whole = uses r l c.parts done;
        on = rooted g p i l r (left_of g r) st.rule c.parts st.at (sym left) st.here.0 st.day.some on;
        top = ap (λ (n : ℕ). arc_at r 0 i l n) c.begins;
        sum = ap (λ (q : Option ℤ). plus (Some (p.rule_of r)) q) c.sum;
        written = append-nil (record { rule = r; start = i; len = l } ∷ steps i c.parts) ∙ ap (λ (q : List Step). record { rule = r; start = i; len = l } ∷ q) c.written;
        count = let n = c.count in omega (arith, n);
      }
  build r (suc k) i l m st t u kids =
      let right : drop (suc k) (right_of g r) ≡ drop (suc k) st.rule.right = ap (λ (xs : List Sym). drop (suc k) xs) (right_of-is g r st.rule st.at) in
      let c = cut r i l m (suc k) (drop (suc k) (right_of g r)) t u refl (subst (λ (q : List Sym). IsCut (suc k) q l m) (sym right) st.cut) kids in
      record { whole = c.parts; on = c.on; top = ap (λ (n : ℕ). arc_at r (suc k) i l n) c.begins; sum = c.sum; written = c.written; count = let n = c.count in omega (arith, n) }

  -- what stands below an arc of the instance makes what stands at the node
  pub built : (a : ArcKey) → Standing g a → (t u : Parts) → KidsAt (used g a) t u → Built a t u
  built a st t u kids = build a.rule a.suffix a.start a.len a.part st t u kids
