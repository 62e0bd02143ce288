-- What stands at the node that an arc makes is put together from what stands below it, and so are its arcs.
use Rattle.std.proofs.Common.{◌≡◌, ℕ, zero, suc, ◌<◌, ◌+◌, ◌-◌, List, [], ◌∷◌, ◌++◌, arith, refl, subst, sym, ap, ◌∙◌, drop}
use Rattle.std.proofs.lemmas.List.{append-nil}
use Rattle.model_rosters.specs.declared.grammar.ArcKey.{ArcKey}
use Rattle.model_rosters.specs.declared.grammar.Grammar.{Grammar}
use Rattle.model_rosters.specs.declared.grammar.Step.{Step}
use Rattle.model_rosters.specs.declared.grammar.Sym.{Sym}
use Rattle.model_rosters.specs.declared.grammar.Sym.TheVariants.{Code, Name}
use Rattle.model_rosters.specs.Trees.{Parts, done, letter, uses, On, steps}
use Rattle.model_rosters.specs.Arcs.{parts_arcs, arcs}
use Rattle.model_rosters.specs.tree_laws.Laws.{arc_at}
use Rattle.model_rosters.specs.tree_laws.Parts.{beside}
use Rattle.model_rosters.proofs.tree_laws.Ends.{rooted}
use Rattle.model_rosters.proofs.tree_laws.Size.{steps-beside}
use Rattle.model_rosters.specs.arc_laws.OrNodes.{OrNode, left_of, right_of, made, symbol_node, used_by, used}
use Rattle.model_rosters.proofs.arc_laws.BalanceLemmas.{left_of-is, right_of-is, drop-next}
use Rattle.model_rosters.specs.arc_laws.AtNodes.{IsAt, start_of, steps_of}
use Rattle.model_rosters.proofs.arc_laws.PartCuts.{Fits, IsCut}
use Rattle.tree_span_arcs.proofs.StandLemmas.{beside-arcs, last-arcs, only-arcs}
use Rattle.tree_span_arcs.specs.Marks.{free_view}
use Rattle.search_arc_counts.specs.roster_split.Nodes.{arcs_at}
use Rattle.search_arc_counts.proofs.roster_split.Shape.{Shape}

-- the arcs of what stands below an arc
abbrev pub kid_arcs : List OrNode → Parts → Parts → List ArcKey
kid_arcs [] t u = []
kid_arcs (o ∷ []) t u = arcs_at o t
kid_arcs (o ∷ q ∷ os) t u = arcs_at o t ++ arcs_at q u

-- its rule uses
abbrev pub kid_steps : List OrNode → Parts → Parts → List Step
kid_steps [] t u = []
kid_steps (o ∷ []) t u = steps (start_of o) t
kid_steps (o ∷ q ∷ os) t u = steps (start_of o) t ++ steps (start_of q) u

pub symbol_start : (s : Sym) (i l : ℕ) → start_of (symbol_node s i l) ≡ i
symbol_start (Code c) i l = refl
symbol_start (Name x) i l = refl

module _ (g : Grammar) where
  -- these stand below an arc: at its first part, and at what follows it
  abbrev pub KidsAt : List OrNode → Parts → Parts → Type 0
  KidsAt [] t u = ⊥
  KidsAt (o ∷ []) t u = IsAt g o t
  KidsAt (o ∷ q ∷ []) t u = IsAt g o t × IsAt g q u
  KidsAt (o ∷ q ∷ s ∷ os) t u = ⊥

  pub record Built (a : ArcKey) (t u : Parts) : Type 0 where
    pub whole : Parts
    pub on : IsAt g (made g a) whole
    pub listed : arcs_at (made g a) whole ≡ a ∷ kid_arcs (used g a) t u
    pub written : steps a.start whole ≡ steps_of a ++ kid_steps (used g a) t u

  symbol_on : (s : Sym) (i l : ℕ) (t : Parts) → Fits s l → IsAt g (symbol_node s i l) t → On g (s ∷ []) i l t
  symbol_on (Name x) i l t fits h = h
  symbol_on (Code c) i l t fits h = subst (λ (n : ℕ). On g (Code c ∷ []) i n t) (sym fits) h

  symbol_arcs : (s : Sym) (i l : ℕ) (t : Parts) → IsAt g (symbol_node s i l) t → arcs_at (symbol_node s i l) t ≡ arcs i t
  symbol_arcs (Name x) i l t h = refl
  symbol_arcs (Code c) i l done h = refl
  symbol_arcs (Code c) i l (letter d rest) h = refl
  symbol_arcs (Code c) i l (uses q n inner rest) h = absurd h.0

  module _ (r i l m : ℕ) where
    record Cut (k : ℕ) (ss : List Sym) (t u : Parts) : Type 0 where
      pub parts : Parts
      pub on : On g ss i l parts
      pub listed : parts_arcs r k i parts ≡ arc_at r k i l m ∷ kid_arcs (used_by ss (arc_at r k i l m)) t u
      pub written : steps i parts ≡ kid_steps (used_by ss (arc_at r k i l m)) t u

    two : (k : ℕ) (s x : Sym) (ss : List Sym) (t u : Parts) → m < l → IsAt g (symbol_node s i m) t → Fits s m → On g (x ∷ ss) (i + m) (l - m) u
        → (ys : List ArcKey) → ys ≡ parts_arcs r (suc k) (i + m) u
        → (n : ℕ) → n ≡ i + m
        → (parts : Parts) × On g (s ∷ x ∷ ss) i l parts × (parts_arcs r k i parts ≡ arc_at r k i l m ∷ (arcs_at (symbol_node s i m) t ++ ys))
        × (steps i parts ≡ steps (start_of (symbol_node s i m)) t ++ steps n u)
    two k s x ss t u less at fits hu ys ey n en =
        let sum : m + (l - m) ≡ l = omega (arith, less) in
        let ht = symbol_on s i m t fits at in
        let j = beside-arcs g r k i m (l - m) l x ss sum s t u ht hu in (
          beside t u,
          j.0,
          j.1
              ∙ ap (λ (xs : List ArcKey). arc_at r k i l m ∷ (xs ++ parts_arcs r (suc k) (i + m) u)) (sym (symbol_arcs s i m t at))
              ∙ ap (λ (xs : List ArcKey). arc_at r k i l m ∷ (arcs_at (symbol_node s i m) t ++ xs)) (sym ey),
          steps-beside t u i ∙ ap (λ (q : ℕ). steps i t ++ steps q u) (ap (λ (q : ℕ). i + q) ht.1 ∙ sym en) ∙ ap (λ (q : ℕ). steps q t ++ steps n u) (sym (symbol_start s i m)),
        )

    cut : (k : ℕ) (ss : List Sym) (t u : Parts) → drop k (right_of g r) ≡ ss → IsCut k ss l m → KidsAt (used_by ss (arc_at r k i l m)) t u → Cut k ss t u
    cut k [] t u e c kids = absurd c
    cut (suc k) (s ∷ []) t u e c kids = let no : suc k ≡ 0 = c.0 in cc
    cut zero (s ∷ []) t u e c kids =
        let at : IsAt g (symbol_node s i l) t = subst (λ (n : ℕ). IsAt g (symbol_node s i n) t) c.1 kids in
        let on : On g (s ∷ []) i l t = symbol_on s i l t c.2 at in
        record {
          parts = t;
          on = on;
          listed = only-arcs g i l r s t on ∙ ap (λ (n : ℕ). arc_at r 0 i l n ∷ arcs i t) (sym c.1) ∙ ap (λ (xs : List ArcKey). arc_at r 0 i l m ∷ xs) (sym (symbol_arcs s i m t kids));
          written = ap (λ (q : ℕ). steps q t) (sym (symbol_start s i m));
        }
    cut k (s ∷ x ∷ []) t u e c kids =
        let hu : On g (x ∷ []) (i + m) (l - m) u = symbol_on x (i + m) (l - m) u c.3 kids.1 in
        let w = two k s x [] t u c.1 kids.0 c.2 hu (arcs_at (symbol_node x (i + m) (l - m)) u) (symbol_arcs x (i + m) (l - m) u kids.1 ∙ sym (last-arcs g (i + m) (l - m) r k x u hu)) (start_of (symbol_node x (i + m) (l - m))) (symbol_start x (i + m) (l - m)) in
        record { parts = w.0; on = w.1; listed = w.2; written = w.3 }
    cut k (s ∷ x ∷ y ∷ ss) t u e c kids =
        let hu : On g (x ∷ y ∷ ss) (i + m) (l - m) u = subst (λ (q : List Sym). On g q (i + m) (l - m) u) (drop-next k (right_of g r) s (x ∷ y ∷ ss) e) kids.1 in
        let w = two k s x (y ∷ ss) t u c.1 kids.0 c.2 hu (parts_arcs r (suc k) (i + m) u) refl (i + m) refl in
        record { parts = w.0; on = w.1; listed = w.2; written = w.3 }

  build : (r k i l m : ℕ) → Shape g (arc_at r k i l m) → (t u : Parts) → KidsAt (used_by (drop k (right_of g r)) (arc_at r k i l m)) t u → Built (arc_at r k i l m) t u
  build r zero i l m st t u kids =
      let right : right_of g r ≡ st.rule.right = right_of-is g r st.rule st.at in
      let left : left_of g r ≡ st.rule.left = left_of-is g r st.rule st.at in
      let c = cut r i l m 0 (right_of g r) t u refl (subst (λ (q : List Sym). IsCut 0 q l m) (sym right) st.cut) kids in
      let on : On g st.rule.right i l c.parts = subst (λ (q : List Sym). On g q i l c.parts) right c.on in
      record {
        whole = uses r l c.parts done;
        on = rooted g free_view i l r (left_of g r) st.rule c.parts st.at (sym left) (st.stands refl) st.some on;
        listed = c.listed;
        written = append-nil (record { rule = r; start = i; len = l } ∷ steps i c.parts) ∙ ap (λ (q : List Step). record { rule = r; start = i; len = l } ∷ q) c.written;
      }
  build r (suc k) i l m st t u kids =
      let right : drop (suc k) (right_of g r) ≡ drop (suc k) st.rule.right = ap (λ (xs : List Sym). drop (suc k) xs) (right_of-is g r st.rule st.at) in
      let c = cut r i l m (suc k) (drop (suc k) (right_of g r)) t u refl (subst (λ (q : List Sym). IsCut (suc k) q l m) (sym right) st.cut) kids in
      record { whole = c.parts; on = c.on; listed = c.listed; written = c.written }

  -- what stands below an arc of the instance makes what stands at the node
  pub built : (a : ArcKey) → Shape g a → (t u : Parts) → KidsAt (used g a) t u → Built a t u
  built a st t u kids = build a.rule a.suffix a.start a.len a.part st t u kids

  -- an arc of the instance uses one node or two
  pub data Uses (os : List OrNode) : Type 0 where
    uses_one : (o : OrNode) → os ≡ o ∷ [] → Uses os
    uses_two : (o q : OrNode) → os ≡ o ∷ q ∷ [] → Uses os

  uses-by : (ss : List Sym) (a : ArcKey) (k l m : ℕ) → IsCut k ss l m → Uses (used_by ss a)
  uses-by [] a k l m c = absurd c
  uses-by (s ∷ []) a k l m c = uses_one _ refl
  uses-by (s ∷ x ∷ []) a k l m c = uses_two _ _ refl
  uses-by (s ∷ x ∷ y ∷ ss) a k l m c = uses_two _ _ refl

  pub uses-some : (a : ArcKey) → Shape g a → Uses (used g a)
  uses-some a st =
      let right : drop a.suffix (right_of g a.rule) ≡ drop a.suffix st.rule.right = ap (λ (xs : List Sym). drop a.suffix xs) (right_of-is g a.rule st.rule st.at) in
      uses-by (drop a.suffix (right_of g a.rule)) a a.suffix a.len a.part (subst (λ (q : List Sym). IsCut a.suffix q a.len a.part) (sym right) st.cut)
