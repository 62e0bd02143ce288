-- An arc is one of the instance exactly where its suffix is marked and its parts derive.
use Rattle.std.proofs.Common.{◌≡◌, ℕ, zero, suc, ◌<◌, ◌≤◌, ◌+◌, ◌-◌, Bool, true, List, [], ◌∷◌, ◌++◌, Some, arith, refl, subst, sym, ap, ◌⊎◌, inl, inr, length, drop, get_or, add-one}
use Rattle.std.specs.Prelude.{◌↔◌}
use Rattle.std.proofs.lemmas.List.{length-drop}
use Rattle.model_rosters.specs.declared.grammar.ArcKey.{ArcKey}
use Rattle.model_rosters.specs.declared.grammar.Grammar.{Grammar}
use Rattle.model_rosters.specs.declared.grammar.Rule.{Rule}
use Rattle.model_rosters.specs.declared.grammar.Sym.{Sym}
use Rattle.model_rosters.specs.declared.grammar.Sym.TheVariants.{Code, Name}
use Rattle.model_rosters.specs.Grammar.{rule_at, Stands, InDay}
use Rattle.model_rosters.specs.Trees.{Parts, done, letter, uses, span_length, Derive, On}
use Rattle.model_rosters.specs.Folds.{In}
use Rattle.model_rosters.specs.Arcs.{arcs, parts_arcs, IsArc}
use Rattle.model_rosters.specs.Sound.{IsSound}
use Rattle.model_rosters.specs.tree_laws.Laws.{arc_at}
use Rattle.model_rosters.specs.tree_laws.Parts.{beside}
use Rattle.model_rosters.proofs.tree_laws.Rules.{sound-rule}
use Rattle.model_rosters.proofs.tree_laws.Symbols.{here_last}
use Rattle.tree_span_cells.specs.declared.slot.Layout.{Layout}
use Rattle.tree_span_cells.specs.declared.slot.Slot.TheVariants.{OfName, OfSuffix}
use Rattle.tree_span_cells.specs.Cells.{name_slot, suffix_slot, IsLayoutOf}
use Rattle.tree_span_arcs.specs.Marks.{HasSome, PartsStand, mark, SymbolMarked, RestMarked, PartsClosed, SuffixMarked, HasSplit, AreMarked}
use Rattle.tree_span_arcs.proofs.StandLemmas.{In-either, some-covered, beside-arcs, last-arcs, only-arcs, arc-stands, only-arc, right-stands}
use Rattle.tree_span_cells.proofs.PartsLemmas.{two-here, next-here}

-- the suffix of the arc is marked, and its parts derive
pub record Told (g : Grammar) (lay : Layout) (ms : List Bool) (a : ArcKey) : Type 0 where
  pub rule : Rule
  pub at : rule_at g a.rule ≡ Some rule
  pub day : InDay g.periods a.start a.len
  pub marked : SuffixMarked g lay ms rule a.rule a.suffix a.start a.len
  pub split : HasSplit g (drop a.suffix rule.right) a.start a.len a.part

-- two symbols are there
two_long : (xs : List Sym) (k : ℕ) (s x : Sym) (ss : List Sym) → drop k xs ≡ s ∷ x ∷ ss → k + 2 ≤ length xs
two_long xs k s x ss e = let a = length-drop k xs in let b = ap length e in omega (arith, a, b)

-- the symbols after the first
after_first : (xs : List Sym) (k : ℕ) (s : Sym) (ss : List Sym) → drop k xs ≡ s ∷ ss → drop (suc k) xs ≡ ss
after_first [] zero s ss e = cc
after_first [] (suc k) s ss e = cc
after_first (y ∷ xs) zero s ss e = ap (drop 1) e
after_first (y ∷ xs) (suc k) s ss e = after_first xs k s ss e

module _ (g : Grammar) (lay : Layout) (ms : List Bool) (sound : IsSound g) (fits : IsLayoutOf g lay) (marked : AreMarked g lay ms) where
  -- the parts from suffix k of a rule are marked on the span
  abbrev Here : ℕ → Rule → ℕ → List Sym → ℕ → ℕ → Type 0
  Here r rule zero ss i l = Stands g.periods rule i l × (mark lay ms (name_slot lay rule.left) i l ≡ true)
  Here r rule (suc k) ss i l = RestMarked lay ms r (suc k) ss i l

  module _ (r : ℕ) (rule : Rule) (at : rule_at g r ≡ Some rule) where
    -- what they are made of is marked
    closed : (k : ℕ) (s x : Sym) (ss : List Sym) (i l : ℕ) → drop k rule.right ≡ s ∷ x ∷ ss → InDay g.periods i l → Here r rule k (s ∷ x ∷ ss) i l → PartsClosed g lay ms r k (s ∷ x ∷ ss) i l
    closed zero s x ss i l e day h =
        subst (λ (q : List Sym). PartsClosed g lay ms r 0 q i l) e
        (marked.closed (name_slot lay rule.left) i l (OfName rule.left) (fits.names rule.left (sound-rule g sound r rule at).left) day (omega arith) h.1 r rule at refl h.0)
    closed (suc k) s x ss i l e day h =
        subst (λ (q : List Sym). PartsClosed g lay ms r (suc k) q i l) e
        (marked.closed (suffix_slot lay r (suc k)) i l (OfSuffix (record { rule = r; from = suc k })) (fits.suffixes r (suc k) rule at (omega arith) (two_long rule.right (suc k) s x ss e)) day (omega arith) h rule at)

    -- so is an only symbol
    only_closed : (s : Sym) (i l : ℕ) → rule.right ≡ s ∷ [] → InDay g.periods i l → Here r rule 0 (s ∷ []) i l → SymbolMarked lay ms s i l
    only_closed s i l e day h =
        subst (λ (q : List Sym). PartsClosed g lay ms r 0 q i l) e
        (marked.closed (name_slot lay rule.left) i l (OfName rule.left) (fits.names rule.left (sound-rule g sound r rule at).left) day (omega arith) h.1 r rule at refl h.0)

    -- the first part and the others are
    split_closed : (k : ℕ) (s x : Sym) (ss : List Sym) (i l m n : ℕ) → drop k rule.right ≡ s ∷ x ∷ ss → InDay g.periods i l → Here r rule k (s ∷ x ∷ ss) i l
        → m + n ≡ l → 1 ≤ m → 1 ≤ n → HasSome g (s ∷ []) i m → HasSome g (x ∷ ss) (i + m) n → SymbolMarked lay ms s i m × RestMarked lay ms r (suc k) (x ∷ ss) (i + m) n
    split_closed k s x ss i l m n e day h sum one some a b =
        let left : l - m ≡ n = omega arith in
        let b2 : HasSome g (x ∷ ss) (i + m) (l - m) = subst (λ (q : ℕ). HasSome g (x ∷ ss) (i + m) q) (sym left) b in
        let c = closed k s x ss i l e day h m one (omega arith) a b2 in
        (c.0, subst (λ (q : ℕ). RestMarked lay ms r q (x ∷ ss) (i + m) n) (add-one k) (subst (λ (q : ℕ). RestMarked lay ms r (k + 1) (x ∷ ss) (i + m) q) left c.1))

    -- the suffix is marked
    here_marked : (k : ℕ) (s x : Sym) (ss : List Sym) (i l : ℕ) → drop k rule.right ≡ s ∷ x ∷ ss → Here r rule k (s ∷ x ∷ ss) i l → SuffixMarked g lay ms rule r k i l
    here_marked zero s x ss i l e h = inl (refl, h.0, h.1)
    here_marked (suc k) s x ss i l e h = inr (omega arith, two_long rule.right (suc k) s x ss e, h)

    -- the arc of two parts, and the arcs of each
    told_two : (k : ℕ) (s x : Sym) (ss : List Sym) (i l m n : ℕ) (t u : Parts) (a : ArcKey) → drop k rule.right ≡ s ∷ x ∷ ss → InDay g.periods i l → Here r rule k (s ∷ x ∷ ss) i l
        → m + n ≡ l → 1 ≤ m → 1 ≤ n → On g (s ∷ []) i m t → On g (x ∷ ss) (i + m) n u
        → (In a (arcs i t) → Told g lay ms a) → (In a (parts_arcs r (suc k) (i + m) u) → Told g lay ms a)
        → In a (parts_arcs r k i (beside t u)) → Told g lay ms a
    told_two k s x ss i l m n t u a e day h sum one some ht hu first rest has =
        by (subst (λ (q : List ArcKey). In a q) (beside-arcs g r k i m n l x ss sum s t u ht hu).1 has)
      where
        others : HasSome g (x ∷ ss) (i + m) (l - m)
        others = let left : n ≡ l - m = omega arith in subst (λ (q : ℕ). HasSome g (x ∷ ss) (i + m) q) left (u, hu)

        here : Told g lay ms (arc_at r k i l m)
        here = record {
          rule = rule;
          at = at;
          day = day;
          marked = here_marked k s x ss i l e h;
          split = subst (λ (q : List Sym). HasSplit g q i l m) (sym e) (one, omega arith, (t, ht), others);
        }

        by : In a ((arc_at r k i l m ∷ []) ++ (arcs i t ++ parts_arcs r (suc k) (i + m) u)) → Told g lay ms a
        by (inl eq) = subst (λ (b : ArcKey). Told g lay ms b) (sym eq) here
        by (inr o) = elim (In-either a (arcs i t) (parts_arcs r (suc k) (i + m) u) o) [ inl p ↦ first p | inr p ↦ rest p ]

    -- the arc of an only part, and its arcs
    told_one : (k : ℕ) (s : Sym) (i l : ℕ) (t : Parts) (a : ArcKey) → drop k rule.right ≡ s ∷ [] → InDay g.periods i l → Here r rule k (s ∷ []) i l → On g (s ∷ []) i l t
        → (In a (arcs i t) → Told g lay ms a) → In a (parts_arcs r k i t) → Told g lay ms a
    told_one (suc k) s i l t a e day h ht first has = first (subst (λ (q : List ArcKey). In a q) (last-arcs g i l r k s t ht) has)
    told_one zero s i l t a e day h ht first has = by (subst (λ (q : List ArcKey). In a q) (only-arcs g i l r s t ht) has)
      where
        here : Told g lay ms (arc_at r 0 i l l)
        here = record { rule = rule; at = at; day = day; marked = inl (refl, h.0, h.1); split = subst (λ (q : List Sym). HasSplit g q i l l) (sym e) (refl, (t, ht)) }

        by : In a (arc_at r 0 i l l ∷ arcs i t) → Told g lay ms a
        by (inl eq) = subst (λ (b : ArcKey). Told g lay ms b) (sym eq) here
        by (inr o) = first o

    -- an only or last symbol is marked
    one_closed : (k : ℕ) (s : Sym) (i l : ℕ) → drop k rule.right ≡ s ∷ [] → InDay g.periods i l → Here r rule k (s ∷ []) i l → SymbolMarked lay ms s i l
    one_closed zero s i l e day h = only_closed s i l e day h
    one_closed (suc k) s i l e day h = h

  -- each arc of marked parts is told
  told : (t : Parts) (r k : ℕ) (rule : Rule) (at : rule_at g r ≡ Some rule) (ss : List Sym) → drop k rule.right ≡ ss → (i l : ℕ) → InDay g.periods i l → On g ss i l t → Here r rule k ss i l
      → (a : ArcKey) → In a (parts_arcs r k i t) → Told g lay ms a
  told done r k rule at ss e i l day on here a has = absurd has
  told (letter d rest) r k rule at [] e i l day on here a has = absurd on.0
  told (letter d rest) r k rule at (Name x ∷ ss) e i l day on here a has = absurd on.0
  told (letter d done) r k rule at (Code c ∷ []) e i l day on here a has =
      told_one r rule at k (Code c) i l (letter d done) a e day here on (λ h. absurd h) has
  told (letter d (letter d' rest)) r k rule at (Code c ∷ []) e i l day on here a has = absurd on.0.1
  told (letter d (uses q z inner rest)) r k rule at (Code c ∷ []) e i l day on here a has = absurd on.0.1
  told (letter d rest) r k rule at (Code c ∷ x ∷ ss) e i l day on here a has =
      let one : On g (Code c ∷ []) i 1 (letter d done) = ((on.0.0, tt), refl) in
      let others : On g (x ∷ ss) (i + 1) (span_length rest) rest = (on.0.1, refl) in
      let some = some-covered g x ss (i + 1) rest on.0.1 in
      let sum : 1 + span_length rest ≡ l = on.1 in
      let m = split_closed r rule at k (Code c) x ss i l 1 (span_length rest) e day here sum (omega arith) some (letter d done, one) (rest, others) in
      told_two r rule at k (Code c) x ss i l 1 (span_length rest) (letter d done) rest a e day here sum (omega arith) some one others (λ h. absurd h)
      (told rest r (suc k) rule at (x ∷ ss) (after_first rule.right k (Code c) (x ∷ ss) e) (i + 1) (span_length rest)
      (record { begins = omega (arith, day.begins); some = some; within = omega (arith, day.within, sum) }) others m.1 a) has
  told (uses q z inner rest) r k rule at [] e i l day on here a has = absurd on.0
  told (uses q z inner rest) r k rule at (Code c ∷ ss) e i l day on here a has = absurd on.0
  told (uses q z inner (letter d rest)) r k rule at (Name x ∷ []) e i l day on here a has = absurd on.0.7
  told (uses q z inner (uses q' z' inner' rest)) r k rule at (Name x ∷ []) e i l day on here a has = absurd on.0.7
  told (uses q z inner done) r k rule at (Name x ∷ []) e i l day on here a has =
      let same : z ≡ l = omega (arith, on.1) in
      let m : mark lay ms (name_slot lay x) i l ≡ true = one_closed r rule at k (Name x) i l e day here in
      let m2 : mark lay ms (name_slot lay on.0.0.left) i z ≡ true = rw (on.0.2, same) m in
      let d2 : InDay g.periods i z = rw same day in
      told_one r rule at k (Name x) i l (uses q z inner done) a e day here on
      (told inner q 0 on.0.0 on.0.1 on.0.0.right refl i z d2 (on.0.6, on.0.5) (on.0.3, m2) a) has
  told (uses q z inner rest) r k rule at (Name x ∷ y ∷ ss) e i l day on here a has =
      let one : On g (Name x ∷ []) i z (uses q z inner done) = ((on.0.0, on.0.1, on.0.2, on.0.3, on.0.4, on.0.5, on.0.6, tt), omega arith) in
      let others : On g (y ∷ ss) (i + z) (span_length rest) rest = (on.0.7, refl) in
      let some = some-covered g y ss (i + z) rest on.0.7 in
      let first : 1 ≤ z = on.0.4 in
      let sum : z + span_length rest ≡ l = on.1 in
      let m = split_closed r rule at k (Name x) y ss i l z (span_length rest) e day here sum first some (uses q z inner done, one) (rest, others) in
      let m2 : mark lay ms (name_slot lay on.0.0.left) i z ≡ true = rw on.0.2 m.0 in
      let d2 : InDay g.periods i z = record { begins = day.begins; some = first; within = omega (arith, day.within, sum) } in
      told_two r rule at k (Name x) y ss i l z (span_length rest) (uses q z inner done) rest a e day here sum first some one others
      (told inner q 0 on.0.0 on.0.1 on.0.0.right refl i z d2 (on.0.6, on.0.5) (on.0.3, m2) a)
      (told rest r (suc k) rule at (y ∷ ss) (after_first rule.right k (Name x) (y ∷ ss) e) (i + z) (span_length rest)
      (record { begins = omega (arith, day.begins); some = some; within = omega (arith, day.within, sum) }) others m.1 a) has

  -- an arc of the instance is told
  pub arc-told : (a : ArcKey) → IsArc g a → Told g lay ms a
  arc-told a (done, h, has) = absurd h.0
  arc-told a (letter c rest, h, has) = absurd h.0
  arc-told a (uses q z inner rest, h, has) =
      let on = h.0 in
      let same : z ≡ g.periods = only_length rest on.7 h.1 in
      let m2 : mark lay ms (name_slot lay on.0.left) 1 z ≡ true = rw (on.2, same) marked.root in
      let d2 : InDay g.periods 1 z = record { begins = omega arith; some = on.4; within = omega (arith, same) } in
      told inner q 0 on.0 on.1 on.0.right refl 1 z d2 (on.6, on.5) (on.3, m2) a has
    where
      only_length : (rest : Parts) → Derive g [] (1 + z) rest → z + span_length rest ≡ g.periods → z ≡ g.periods
      only_length done h e = omega (arith, e)
      only_length (letter c rest) h e = absurd h
      only_length (uses q z inner rest) h e = absurd h

  -- what is marked and derives has an arc of the instance
  parts_arc : (r k i l m : ℕ) (ss : List Sym) → PartsStand g r k ss i l → HasSplit g ss i l m → (k ≡ 0) ⊎ (2 ≤ length ss) → IsArc g (arc_at r k i l m)
  parts_arc r k i l m [] stand split kind = absurd split
  parts_arc r k i l m (s ∷ []) stand split (inr two) = absurd (omega arith)
  parts_arc r k i l m (s ∷ []) stand split (inl e) =
      rw (e, split.0) (only-arc g i l r s (subst (λ (q : ℕ). PartsStand g r q (s ∷ []) i l) e stand) split.1)
  parts_arc r k i l m (s ∷ x ∷ ss) stand split kind = arc-stands g r k i m (l - m) l x ss (omega (arith, split.1)) s stand split.2 split.3

  pub told-arc : (r k i l m : ℕ) (rule : Rule) → rule_at g r ≡ Some rule → InDay g.periods i l → SuffixMarked g lay ms rule r k i l → HasSplit g (drop k rule.right) i l m → IsArc g (arc_at r k i l m)
  told-arc r k i l m rule at day (inl h) split =
      let trees = marked.truth (name_slot lay rule.left) i l (OfName rule.left) (fits.names rule.left (sound-rule g sound r rule at).left) day h.2 in
      let parts = right-stands g i l r rule.left rule at refl h.1 day.some trees in
      parts_arc r k i l m (drop k rule.right) (rw h.0 parts) split (inl h.0)
  told-arc r k i l m rule at day (inr h) split =
      parts_arc r k i l m (drop k rule.right)
      (marked.truth (suffix_slot lay r k) i l (OfSuffix (record { rule = r; from = k })) (fits.suffixes r k rule at h.0 h.1) day h.2 rule at) split
      (inr (omega (arith, h.1, length-drop k rule.right)))

-- a marked suffix has symbols
pub marked-within : (g : Grammar) (lay : Layout) (ms : List Bool) (rule : Rule) (r k i l : ℕ) → 1 ≤ length rule.right → SuffixMarked g lay ms rule r k i l → k < length rule.right
marked-within g lay ms rule r k i l some (inl h) = omega (arith, h.0, some)
marked-within g lay ms rule r k i l some (inr h) = omega (arith, h.1)

-- the last symbol's split
pub last-split : (g : Grammar) (xs : List Sym) (k i l m : ℕ) (d s : Sym) → k + 1 ≡ length xs → get_or xs k d ≡ s → HasSplit g (drop k xs) i l m ↔ ((m ≡ l) × HasSome g (s ∷ []) i l)
last-split g xs k i l m d s e at =
    let o = here_last xs k d s e at in
    (λ h. subst (λ (q : List Sym). HasSplit g q i l m) o h, λ h. subst (λ (q : List Sym). HasSplit g q i l m) (sym o) h)

-- the split of two symbols or more
pub two-split : (g : Grammar) (xs : List Sym) (k i l m : ℕ) (d s : Sym) → k + 2 ≤ length xs → get_or xs k d ≡ s
    → HasSplit g (drop k xs) i l m ↔ ((1 ≤ m) × (m < l) × HasSome g (s ∷ []) i m × HasSome g (drop (k + 1) xs) (i + m) (l - m))
two-split g xs k i l m d s two at =
    let o = two-here xs k d s two at in
    let n = next-here xs k d s two at in (
      λ h. let p = subst (λ (q : List Sym). HasSplit g q i l m) o h in (p.0, p.1, p.2, subst (λ (q : List Sym). HasSome g q (i + m) (l - m)) (sym n) p.3),
      λ h. subst (λ (q : List Sym). HasSplit g q i l m) (sym o) (h.0, h.1, h.2, subst (λ (q : List Sym). HasSome g q (i + m) (l - m)) n h.3),
    )
