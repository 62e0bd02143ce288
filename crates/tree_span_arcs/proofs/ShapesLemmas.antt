-- The arcs of the instance have the shape of arcs.
use Rattle.std.proofs.Common.{◌≡◌, ℕ, zero, suc, arith, ◌+◌, ◌≤◌, List, [], ◌∷◌, ◌++◌, Some, length, drop, refl, ap, subst, sym, ◌⊎◌, inl, inr}
use Rattle.std.proofs.lemmas.List.{length-drop}
use Rattle.model_rosters.specs.declared.grammar.ArcKey.{ArcKey}
use Rattle.model_rosters.specs.declared.grammar.Grammar.{Grammar}
use Rattle.model_rosters.specs.declared.grammar.Rule.{Rule}
use Rattle.model_rosters.specs.declared.grammar.Sym.{Sym}
use Rattle.model_rosters.specs.declared.grammar.Sym.TheVariants.{Code, Name}
use Rattle.model_rosters.specs.Grammar.{rule_at}
use Rattle.model_rosters.specs.Trees.{Parts, done, letter, uses, span_length, Derive, IsDayTree}
use Rattle.model_rosters.specs.Sums.{arc}
use Rattle.model_rosters.specs.Sound.{IsSound}
use Rattle.model_rosters.specs.Folds.{In}
use Rattle.model_rosters.specs.Arcs.{arcs, parts_arcs, arc_of_part, IsArc}
use Rattle.model_rosters.proofs.tree_laws.Rules.{rule_at-within, sound-rule}
use Rattle.model_rosters.proofs.arc_laws.BalanceLemmas.{drop-next}
use Rattle.model_rosters.proofs.arc_laws.FoldsLemmas.{In-append}
use Rattle.tree_span_arcs.specs.Order.{IsSmall}
use Rattle.tree_span_arcs.specs.Shapes.{IsSplit, IsShaped}
use Rattle.tree_span_arcs.proofs.StandLemmas.{some-covered}

-- no symbols have no parts
none_follow : (g : Grammar) (xs : List Sym) (j : ℕ) (t : Parts) → Derive g xs j t → length xs ≡ 0 → t ≡ done
none_follow g [] j done d e = refl
none_follow g [] j (letter c rest) d e = absurd d
none_follow g [] j (uses q n inner rest) d e = absurd d
none_follow g (x ∷ xs) j t d e = absurd (omega (arith, e))

not_letter : (c : ℕ) (rest : Parts) {A : Type 0} → letter c rest ≡ done → A
not_letter c rest e = cc

not_uses : (q n : ℕ) (inner rest : Parts) {A : Type 0} → uses q n inner rest ≡ done → A
not_uses q n inner rest e = cc

module _ (g : Grammar) (a : ArcKey) where
  module _ (r : ℕ) (rule : Rule) (at : rule_at g r ≡ Some rule) where
    -- the arc of a part that begins the suffix
    arc_shaped : (k i n : ℕ) (s : Sym) (ss : List Sym) (rest : Parts) → drop k rule.right ≡ s ∷ ss → Derive g ss (i + n) rest → 1 ≤ i → 1 ≤ n → i + (n + span_length rest) ≤ g.periods + 1
        → (length ss ≡ 0 → k ≡ 0) → a ≡ arc r k i n rest → IsShaped g a
    arc_shaped k i n s ss rest e d begins some fits whole is =
        let long = length-drop k rule.right in
        let here : length (drop k rule.right) ≡ length (s ∷ ss) = ap length e in
        subst (λ (x : ArcKey). IsShaped g x) (sym is) (record {
          rule = rule;
          at = at;
          symbol = omega (arith, long, here);
          day = record { begins = begins; some = omega (arith, some); within = fits };
          some = some;
          inside = omega arith;
          others = λ two. let more = followed ss d (omega (arith, long, here, two)) in omega (arith, more);
          last = λ one.
              let empty : length ss ≡ 0 = omega (arith, long, here, one) in
              let none : span_length rest ≡ 0 = ap span_length (none_follow g ss (i + n) rest d empty) in
              (whole empty, omega (arith, none));
        })
      where
        followed : (xs : List Sym) → Derive g xs (i + n) rest → 1 ≤ length xs → 1 ≤ span_length rest
        followed [] d h = absurd (omega arith)
        followed (x ∷ xs) d h = some-covered g x xs (i + n) rest d

    part_shaped : (k i n : ℕ) (s : Sym) (ss : List Sym) (rest : Parts) → drop k rule.right ≡ s ∷ ss → Derive g ss (i + n) rest → 1 ≤ i → 1 ≤ n → i + (n + span_length rest) ≤ g.periods + 1
        → In a (arc_of_part r k i n rest) → IsShaped g a
    part_shaped zero i n s ss rest e d begins some fits (inl is) = arc_shaped zero i n s ss rest e d begins some fits (λ z. refl) is
    part_shaped zero i n s ss rest e d begins some fits (inr none) = absurd none
    part_shaped (suc k) i n s ss done e d begins some fits h = absurd h
    part_shaped (suc k) i n s ss (letter c rest) e d begins some fits (inl is) = arc_shaped (suc k) i n s ss (letter c rest) e d begins some fits (λ z. not_letter c rest (none_follow g ss (i + n) (letter c rest) d z)) is
    part_shaped (suc k) i n s ss (letter c rest) e d begins some fits (inr none) = absurd none
    part_shaped (suc k) i n s ss (uses q m inner rest) e d begins some fits (inl is) = arc_shaped (suc k) i n s ss (uses q m inner rest) e d begins some fits (λ z. not_uses q m inner rest (none_follow g ss (i + n) (uses q m inner rest) d z)) is
    part_shaped (suc k) i n s ss (uses q m inner rest) e d begins some fits (inr none) = absurd none

  -- parts of no symbols have no arcs
  of_some : (r k i : ℕ) (rule : Rule) (ss : List Sym) (t : Parts)
      → ((s : Sym) (tail : List Sym) → drop k rule.right ≡ s ∷ tail → Derive g (s ∷ tail) i t → In a (parts_arcs r k i t) → IsShaped g a)
      → drop k rule.right ≡ ss → Derive g ss i t → In a (parts_arcs r k i t) → IsShaped g a
  of_some r k i rule [] done f e d h = absurd h
  of_some r k i rule [] (letter c rest) f e d h = absurd d
  of_some r k i rule [] (uses q n inner rest) f e d h = absurd d
  of_some r k i rule (s ∷ tail) t f e d h = f s tail e d h

  parts_shaped : (t : Parts) (r k i : ℕ) (rule : Rule) (s : Sym) (ss : List Sym) → rule_at g r ≡ Some rule → drop k rule.right ≡ s ∷ ss → Derive g (s ∷ ss) i t
      → 1 ≤ i → i + span_length t ≤ g.periods + 1 → In a (parts_arcs r k i t) → IsShaped g a
  parts_shaped done r k i rule (Code c) ss at e d begins fits h = absurd d
  parts_shaped done r k i rule (Name x) ss at e d begins fits h = absurd d
  parts_shaped (letter c rest) r k i rule (Name x) ss at e d begins fits h = absurd d
  parts_shaped (uses q n inner rest) r k i rule (Code c) ss at e d begins fits h = absurd d
  parts_shaped (letter c rest) r k i rule (Code b) ss at e d begins fits h =
      by (In-append a (arc_of_part r k i 1 rest) (parts_arcs r (suc k) (i + 1) rest) h)
      (of_some r (suc k) (i + 1) rule ss rest
      (λ s tail e2 d2 p. parts_shaped rest r (suc k) (i + 1) rule s tail at e2 d2 (omega arith) (omega (arith, fits)) p)
      (drop-next k rule.right (Code b) ss e) d.1)
    where
      by : In a (arc_of_part r k i 1 rest) ⊎ In a (parts_arcs r (suc k) (i + 1) rest) → (In a (parts_arcs r (suc k) (i + 1) rest) → IsShaped g a) → IsShaped g a
      by (inl p) f = part_shaped r rule at k i 1 (Code b) ss rest e d.1 begins (omega arith) (omega (arith, fits)) p
      by (inr p) f = f p
  parts_shaped (uses q n inner rest) r k i rule (Name x) ss at e d begins fits h =
      by (In-append a (arc_of_part r k i n rest) (parts_arcs q 0 i inner ++ parts_arcs r (suc k) (i + n) rest) h)
      (of_some q 0 i d.0 d.0.right inner
      (λ s tail e2 d2 p. parts_shaped inner q 0 i d.0 s tail d.1 e2 d2 begins (omega (arith, fits, d.5)) p) refl d.6)
      (of_some r (suc k) (i + n) rule ss rest
      (λ s tail e2 d2 p. parts_shaped rest r (suc k) (i + n) rule s tail at e2 d2 (omega (arith, begins)) (omega (arith, fits)) p)
      (drop-next k rule.right (Name x) ss e) d.7)
    where
      by : In a (arc_of_part r k i n rest) ⊎ In a (parts_arcs q 0 i inner ++ parts_arcs r (suc k) (i + n) rest)
          → (In a (parts_arcs q 0 i inner) → IsShaped g a) → (In a (parts_arcs r (suc k) (i + n) rest) → IsShaped g a) → IsShaped g a
      by (inl p) f u = part_shaped r rule at k i n (Name x) ss rest e d.7 begins (omega (arith, d.4)) (omega (arith, fits)) p
      by (inr p) f u = elim (In-append a (parts_arcs q 0 i inner) (parts_arcs r (suc k) (i + n) rest) p) [ inl o ↦ f o | inr o ↦ u o ]

  tree_shaped : (t : Parts) → IsDayTree g t → In a (arcs 1 t) → IsShaped g a
  tree_shaped done day h = absurd h
  tree_shaped (letter c rest) day h = absurd h
  tree_shaped (uses q n inner rest) day h =
      let d = day.0 in
      of_some q 0 1 d.0 d.0.right inner
      (λ s tail e2 d2 p. parts_shaped inner q 0 1 d.0 s tail d.1 e2 d2 (omega arith) (omega (arith, day.1, d.5)) p) refl d.6 h

  -- an arc of the instance has the shape of one
  pub arc-shaped : IsArc g a → IsShaped g a
  arc-shaped is = tree_shaped is.0 is.1 is.2

-- a shape is a split of a suffix on its span
pub shaped-split : (g : Grammar) (a : ArcKey) → IsShaped g a → IsSplit g a
shaped-split g a s = record {
  rule = s.rule;
  at = s.at;
  symbol = s.symbol;
  day = s.day;
  some = s.some;
  inside = s.inside;
  others = s.others;
}

pub arc-split : (g : Grammar) (a : ArcKey) → IsArc g a → IsSplit g a
arc-split g a is = shaped-split g a (arc-shaped g a is)

-- the numbers of an arc of the instance are small
pub arc-small : (g : Grammar) → IsSound g → (a : ArcKey) → IsArc g a → IsSmall a
arc-small g sound a is =
    let h = arc-shaped g a is in
    let w = rule_at-within g a.rule h.rule h.at in
    let r = sound-rule g sound a.rule h.rule h.at in
    record {
      rule = omega (arith, w.1, sound.few_rules);
      suffix = omega (arith, h.symbol, r.eight);
      start = omega (arith, h.day.within, h.day.some, sound.few_periods);
      len = omega (arith, h.day.within, h.day.begins, sound.few_periods);
      part = omega (arith, h.inside, h.day.within, h.day.begins, sound.few_periods);
    }
