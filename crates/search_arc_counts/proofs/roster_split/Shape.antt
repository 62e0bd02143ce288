-- An arc of the instance has a rule that stands where it is whole, and cuts its span as its symbols ask.
use Rattle.std.proofs.Common.{◌≡◌, ℕ, zero, suc, ◌<◌, ◌≤◌, ◌+◌, ◌-◌, List, [], ◌∷◌, ◌++◌, Some, arith, refl, subst, sym, ◌⊎◌, inl, inr, drop}
use Rattle.model_rosters.specs.declared.grammar.ArcKey.{ArcKey}
use Rattle.model_rosters.specs.declared.grammar.Grammar.{Grammar}
use Rattle.model_rosters.specs.declared.grammar.Rule.{Rule}
use Rattle.model_rosters.specs.declared.grammar.Sym.{Sym}
use Rattle.model_rosters.specs.declared.grammar.Sym.TheVariants.{Code, Name}
use Rattle.model_rosters.specs.Grammar.{rule_at, Stands}
use Rattle.model_rosters.specs.Trees.{Parts, done, letter, uses, span_length, Derive, IsDayTree}
use Rattle.model_rosters.specs.Folds.{In}
use Rattle.model_rosters.specs.Sums.{arc}
use Rattle.model_rosters.specs.Arcs.{arc_of_part, parts_arcs, arcs, IsArc}
use Rattle.model_rosters.proofs.arc_laws.FoldsLemmas.{In-append}
use Rattle.model_rosters.proofs.arc_laws.BalanceLemmas.{drop-next}
use Rattle.model_rosters.proofs.arc_laws.PartCuts.{Fits, LastFits, IsCut}
use Rattle.tree_span_arcs.proofs.StandLemmas.{some-covered}

pub record Shape (g : Grammar) (a : ArcKey) : Type 0 where
  pub rule : Rule
  pub at : rule_at g a.rule ≡ Some rule
  pub some : 0 < a.len
  pub cut : IsCut a.suffix (drop a.suffix rule.right) a.len a.part
  pub stands : a.suffix ≡ 0 → Stands g.periods rule a.start a.len

module _ (g : Grammar) where
  none-covered : (i : ℕ) (t : Parts) → Derive g [] i t → span_length t ≡ 0
  none-covered i done h = refl
  none-covered i (letter d rest) h = absurd h
  none-covered i (uses q n inner rest) h = absurd h

  last-fits : (ss : List Sym) (i : ℕ) (t : Parts) → Derive g ss i t → LastFits ss (span_length t)
  last-fits [] i t h = tt
  last-fits (s ∷ x ∷ ss) i t h = tt
  last-fits (Name x ∷ []) i t h = tt
  last-fits (Code c ∷ []) i done h = absurd h
  last-fits (Code c ∷ []) i (uses q n inner rest) h = absurd h
  last-fits (Code c ∷ []) i (letter d rest) h = let n = none-covered (i + 1) rest h.1 in omega (arith, n)

  module _ (r : ℕ) (rule : Rule) (at : rule_at g r ≡ Some rule) where
    own-cut : (k i m : ℕ) (s : Sym) (ss : List Sym) (rest : Parts) → (ss ≡ [] → k ≡ 0) → Derive g ss (i + m) rest → 1 ≤ m → Fits s m → IsCut k (s ∷ ss) (m + span_length rest) m
    own-cut k i m s [] rest only d some fits =
        let n : m ≡ m + span_length rest = omega (arith, none-covered (i + m) rest d) in
        (only refl, n, subst (λ (l : ℕ). Fits s l) n fits)
    own-cut k i m s (x ∷ ss) rest only d some fits =
        let n = some-covered g x ss (i + m) rest d in
        let e : span_length rest ≡ m + span_length rest - m = omega arith in
        (some, omega (arith, n), fits, subst (λ (l : ℕ). LastFits (x ∷ ss) l) e (last-fits (x ∷ ss) (i + m) rest d))

    own-shape : (k i m : ℕ) (s : Sym) (ss : List Sym) (rest : Parts) → drop k rule.right ≡ s ∷ ss → (ss ≡ [] → k ≡ 0) → Derive g ss (i + m) rest → 1 ≤ m → Fits s m
        → (k ≡ 0 → Stands g.periods rule i (m + span_length rest)) → Shape g (arc r k i m rest)
    own-shape k i m s ss rest e only d some fits stands = record {
      rule = rule;
      at = at;
      some = omega (arith, some);
      cut = subst (λ (q : List Sym). IsCut k q (m + span_length rest) m) (sym e) (own-cut k i m s ss rest only d some fits);
      stands = stands;
    }

    own : (k i m : ℕ) (s : Sym) (ss : List Sym) (rest : Parts) → drop k rule.right ≡ s ∷ ss → Derive g ss (i + m) rest → 1 ≤ m → Fits s m
        → (k ≡ 0 → Stands g.periods rule i (m + span_length rest)) → (a : ArcKey) → In a (arc_of_part r k i m rest) → Shape g a
    own zero i m s ss rest e d some fits stands a (inl h) = subst (λ (x : ArcKey). Shape g x) (sym h) (own-shape zero i m s ss rest e (λ f. refl) d some fits stands)
    own zero i m s ss rest e d some fits stands a (inr h) = absurd h
    own (suc k) i m s ss done e d some fits stands a h = absurd h
    own (suc k) i m s [] (letter c rest) e d some fits stands a h = absurd d
    own (suc k) i m s [] (uses q n inner rest) e d some fits stands a h = absurd d
    own (suc k) i m s (x ∷ ss) (letter c rest) e d some fits stands a (inr h) = absurd h
    own (suc k) i m s (x ∷ ss) (uses q n inner rest) e d some fits stands a (inr h) = absurd h
    own (suc k) i m s (x ∷ ss) (letter c rest) e d some fits stands a (inl h) =
        subst (λ (y : ArcKey). Shape g y) (sym h) (own-shape (suc k) i m s (x ∷ ss) (letter c rest) e (λ f. cc) d some fits stands)
    own (suc k) i m s (x ∷ ss) (uses q n inner rest) e d some fits stands a (inl h) =
        subst (λ (y : ArcKey). Shape g y) (sym h) (own-shape (suc k) i m s (x ∷ ss) (uses q n inner rest) e (λ f. cc) d some fits stands)

  parts-shape : (t : Parts) (r k i : ℕ) (rule : Rule) (ss : List Sym) → rule_at g r ≡ Some rule → drop k rule.right ≡ ss → Derive g ss i t
      → (k ≡ 0 → Stands g.periods rule i (span_length t)) → (a : ArcKey) → In a (parts_arcs r k i t) → Shape g a
  parts-shape done r k i rule ss at e d stands a h = absurd h
  parts-shape (letter c rest) r k i rule [] at e d stands a h = absurd d
  parts-shape (letter c rest) r k i rule (Name x ∷ ss) at e d stands a h = absurd d
  parts-shape (uses q n inner rest) r k i rule [] at e d stands a h = absurd d
  parts-shape (uses q n inner rest) r k i rule (Code c ∷ ss) at e d stands a h = absurd d
  parts-shape (letter c rest) r k i rule (Code b ∷ ss) at e d stands a h =
      pick (In-append a (arc_of_part r k i 1 rest) (parts_arcs r (suc k) (i + 1) rest) h)
      (λ j. parts-shape rest r (suc k) (i + 1) rule ss at (drop-next k rule.right (Code b) ss e) d.1 (λ f. absurd (omega (arith, f))) a j)
    where
      pick : In a (arc_of_part r k i 1 rest) ⊎ In a (parts_arcs r (suc k) (i + 1) rest) → (In a (parts_arcs r (suc k) (i + 1) rest) → Shape g a) → Shape g a
      pick (inl j) f = own r rule at k i 1 (Code b) ss rest e d.1 (omega arith) refl stands a j
      pick (inr j) f = f j
  parts-shape (uses q n inner rest) r k i rule (Name x ∷ ss) at e d stands a h =
      pick (In-append a (arc_of_part r k i n rest) (parts_arcs q 0 i inner ++ parts_arcs r (suc k) (i + n) rest) h)
      (λ j. parts-shape inner q 0 i d.0 d.0.right d.1 refl d.6 (λ f. subst (λ (l : ℕ). Stands g.periods d.0 i l) (sym d.5) d.3) a j)
      (λ j. parts-shape rest r (suc k) (i + n) rule ss at (drop-next k rule.right (Name x) ss e) d.7 (λ f. absurd (omega (arith, f))) a j)
    where
      both : In a (parts_arcs q 0 i inner) ⊎ In a (parts_arcs r (suc k) (i + n) rest) → (In a (parts_arcs q 0 i inner) → Shape g a) → (In a (parts_arcs r (suc k) (i + n) rest) → Shape g a) → Shape g a
      both (inl j) f f2 = f j
      both (inr j) f f2 = f2 j

      pick : In a (arc_of_part r k i n rest) ⊎ In a (parts_arcs q 0 i inner ++ parts_arcs r (suc k) (i + n) rest)
          → (In a (parts_arcs q 0 i inner) → Shape g a) → (In a (parts_arcs r (suc k) (i + n) rest) → Shape g a) → Shape g a
      pick (inl j) f f2 = own r rule at k i n (Name x) ss rest e d.7 (omega (arith, d.4)) tt stands a j
      pick (inr j) f f2 = both (In-append a (parts_arcs q 0 i inner) (parts_arcs r (suc k) (i + n) rest) j) f f2

  tree-shape : (t : Parts) → IsDayTree g t → (a : ArcKey) → In a (arcs 1 t) → Shape g a
  tree-shape done h a j = absurd j
  tree-shape (letter c rest) h a j = absurd j
  tree-shape (uses q n inner rest) h a j =
      let d = h.0 in
      parts-shape inner q 0 1 d.0 d.0.right d.1 refl d.6 (λ f. subst (λ (l : ℕ). Stands g.periods d.0 1 l) (sym d.5) d.3) a j

  pub arc-shape : (a : ArcKey) → IsArc g a → Shape g a
  arc-shape a is = tree-shape is.0 is.1 a is.2
