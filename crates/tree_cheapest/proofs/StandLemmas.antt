-- What stands at what an arc of the instance makes has all its arcs in the instance.
use Rattle.std.proofs.Common.{◌≡◌, ℕ, zero, suc, ◌≤◌, ◌+◌, ◌-◌, List, [], ◌∷◌, ◌++◌, Some, arith, refl, subst, sym, inl, inr, drop}
use Rattle.model_rosters.specs.declared.grammar.ArcKey.{ArcKey}
use Rattle.model_rosters.specs.declared.grammar.Grammar.{Grammar}
use Rattle.model_rosters.specs.declared.grammar.Rule.{Rule}
use Rattle.model_rosters.specs.declared.grammar.Sym.{Sym}
use Rattle.model_rosters.specs.declared.grammar.Sym.TheVariants.{Code, Name}
use Rattle.model_rosters.specs.Grammar.{rule_at, Stands, InDay}
use Rattle.model_rosters.specs.Trees.{Parts, done, letter, uses, span_length, Derive, On}
use Rattle.model_rosters.specs.Folds.{In}
use Rattle.model_rosters.specs.Arcs.{arcs, parts_arcs, IsArc}
use Rattle.model_rosters.specs.tree_laws.Laws.{arc_at}
use Rattle.model_rosters.specs.tree_laws.Parts.{beside}
use Rattle.model_rosters.proofs.arc_laws.BalanceLemmas.{drop-next}
use Rattle.model_rosters.proofs.arc_laws.PartCuts.{Fits, LastFits, IsCut}
use Rattle.tree_span_arcs.specs.Marks.{TreesStand, PartsStand}
use Rattle.tree_span_arcs.proofs.StandLemmas.{In-either, some-covered, beside-arcs, last-arcs, only-arcs, first-stands, rest-stands, last-stands, only-stands, right-stands}
use Rattle.tree_span_arcs.proofs.MarksLemmas.{day-stands}

-- what stands at the name, or at the suffix of these symbols, has all its arcs in the instance
abbrev pub Here : Grammar → ℕ → Rule → ℕ → List Sym → ℕ → ℕ → Type 0
Here g r rule zero ss i l = Stands g.periods rule i l × TreesStand g (Name rule.left) i l
Here g r rule (suc k) ss i l = PartsStand g r (suc k) ss i l

-- an arc of the instance: its rule, its span, how it is cut, and that what stands where it stands is of
-- the instance
pub record Standing (g : Grammar) (a : ArcKey) : Type 0 where
  pub rule : Rule
  pub at : rule_at g a.rule ≡ Some rule
  pub day : InDay g.periods a.start a.len
  pub cut : IsCut a.suffix (drop a.suffix rule.right) a.len a.part
  pub here : Here g a.rule rule a.suffix (drop a.suffix rule.right) a.start a.len

module _ (g : Grammar) where
  -- what a symbol derives has its length
  fits_on : (s : Sym) (i l : ℕ) (t : Parts) → On g (s ∷ []) i l t → Fits s l
  fits_on (Name x) i l t h = tt
  fits_on (Code c) i l done h = absurd h.0
  fits_on (Code c) i l (uses q z inner rest) h = absurd h.0
  fits_on (Code c) i l (letter d (letter d' rest)) h = absurd h.0.1
  fits_on (Code c) i l (letter d (uses q z inner rest)) h = absurd h.0.1
  fits_on (Code c) i l (letter d done) h = omega (arith, h.1)

  last_on : (s : Sym) (ss : List Sym) (i l : ℕ) (t : Parts) → On g (s ∷ ss) i l t → LastFits (s ∷ ss) l
  last_on s [] i l t h = fits_on s i l t h
  last_on s (x ∷ ss) i l t h = tt

  module _ (r : ℕ) (rule : Rule) (at : rule_at g r ≡ Some rule) where
    -- all parts of the symbols stand
    parts_stand : (k : ℕ) (ss : List Sym) (i l : ℕ) → drop k rule.right ≡ ss → 1 ≤ l → Here g r rule k ss i l → PartsStand g r k ss i l
    parts_stand zero ss i l e some h =
        subst (λ (q : List Sym). PartsStand g r 0 q i l) e (right-stands g i l r rule.left rule at refl h.0 some h.1)
    parts_stand (suc k) ss i l e some h = h

    at_suffix : (k : ℕ) (ss : List Sym) (i l m : ℕ) → drop k rule.right ≡ ss → InDay g.periods i l → IsCut k ss l m → Here g r rule k ss i l → Standing g (arc_at r k i l m)
    at_suffix k ss i l m e day cut h = record {
      rule = rule;
      at = at;
      day = day;
      cut = subst (λ (q : List Sym). IsCut k q l m) (sym e) cut;
      here = subst (λ (q : List Sym). Here g r rule k q i l) (sym e) h;
    }

    -- the arc of two parts, and the arcs of each
    of_two : (k : ℕ) (s x : Sym) (ss : List Sym) (i l m n : ℕ) (t u : Parts) (a : ArcKey) → drop k rule.right ≡ s ∷ x ∷ ss → InDay g.periods i l → Here g r rule k (s ∷ x ∷ ss) i l
        → m + n ≡ l → 1 ≤ m → 1 ≤ n → On g (s ∷ []) i m t → On g (x ∷ ss) (i + m) n u
        → (In a (arcs i t) → Standing g a) → (In a (parts_arcs r (suc k) (i + m) u) → Standing g a)
        → In a (parts_arcs r k i (beside t u)) → Standing g a
    of_two k s x ss i l m n t u a e day h sum one some ht hu first rest has =
        by (subst (λ (q : List ArcKey). In a q) (beside-arcs g r k i m n l x ss sum s t u ht hu).1 has)
      where
        last : LastFits (x ∷ ss) (l - m)
        last = let left : n ≡ l - m = omega arith in subst (λ (q : ℕ). LastFits (x ∷ ss) q) left (last_on x ss (i + m) n u hu)

        by : In a ((arc_at r k i l m ∷ []) ++ (arcs i t ++ parts_arcs r (suc k) (i + m) u)) → Standing g a
        by (inl eq) = subst (λ (b : ArcKey). Standing g b) (sym eq) (at_suffix k (s ∷ x ∷ ss) i l m e day (one, omega arith, fits_on s i m t ht, last) h)
        by (inr o) = elim (In-either a (arcs i t) (parts_arcs r (suc k) (i + m) u) o) [ inl p ↦ first p | inr p ↦ rest p ]

    -- the arc of an only part, and its arcs
    of_one : (k : ℕ) (s : Sym) (i l : ℕ) (t : Parts) (a : ArcKey) → drop k rule.right ≡ s ∷ [] → InDay g.periods i l → Here g r rule k (s ∷ []) i l → On g (s ∷ []) i l t
        → (In a (arcs i t) → Standing g a) → In a (parts_arcs r k i t) → Standing g a
    of_one (suc k) s i l t a e day h ht first has = first (subst (λ (q : List ArcKey). In a q) (last-arcs g i l r k s t ht) has)
    of_one zero s i l t a e day h ht first has = by (subst (λ (q : List ArcKey). In a q) (only-arcs g i l r s t ht) has)
      where
        by : In a (arc_at r 0 i l l ∷ arcs i t) → Standing g a
        by (inl eq) = subst (λ (b : ArcKey). Standing g b) (sym eq) (at_suffix 0 (s ∷ []) i l l e day (refl, refl, fits_on s i l t ht) h)
        by (inr o) = first o

    -- the trees of an only or last symbol stand
    one_stands : (k : ℕ) (s : Sym) (i l : ℕ) → drop k rule.right ≡ s ∷ [] → 1 ≤ l → Here g r rule k (s ∷ []) i l → TreesStand g s i l
    one_stands zero s i l e some h = only-stands g i l r s (parts_stand 0 (s ∷ []) i l e some h)
    one_stands (suc k) s i l e some h = last-stands g i l r k s h

  -- each arc of parts that stand is of this kind
  standing : (t : Parts) (r k : ℕ) (rule : Rule) (at : rule_at g r ≡ Some rule) (ss : List Sym) → drop k rule.right ≡ ss → (i l : ℕ) → InDay g.periods i l → On g ss i l t → Here g r rule k ss i l
      → (a : ArcKey) → In a (parts_arcs r k i t) → Standing g a
  standing done r k rule at ss e i l day on here a has = absurd has
  standing (letter d rest) r k rule at [] e i l day on here a has = absurd on.0
  standing (letter d rest) r k rule at (Name x ∷ ss) e i l day on here a has = absurd on.0
  standing (letter d done) r k rule at (Code c ∷ []) e i l day on here a has =
      of_one r rule at k (Code c) i l (letter d done) a e day here on (λ h. absurd h) has
  standing (letter d (letter d' rest)) r k rule at (Code c ∷ []) e i l day on here a has = absurd on.0.1
  standing (letter d (uses q z inner rest)) r k rule at (Code c ∷ []) e i l day on here a has = absurd on.0.1
  standing (letter d rest) r k rule at (Code c ∷ x ∷ ss) e i l day on here a has =
      let one : On g (Code c ∷ []) i 1 (letter d done) = ((on.0.0, tt), refl) in
      let others : On g (x ∷ ss) (i + 1) (span_length rest) rest = (on.0.1, refl) in
      let some = some-covered g x ss (i + 1) rest on.0.1 in
      let sum : 1 + span_length rest ≡ l = on.1 in
      let all = parts_stand r rule at k (Code c ∷ x ∷ ss) i l e day.some here in
      let tail = rest-stands g r k i 1 (span_length rest) l x ss sum (Code c) all (letter d done, one) in
      of_two r rule at k (Code c) x ss i l 1 (span_length rest) (letter d done) rest a e day here sum (omega arith) some one others (λ h. absurd h)
      (standing rest r (suc k) rule at (x ∷ ss) (drop-next k rule.right (Code c) (x ∷ ss) e) (i + 1) (span_length rest)
      (record { begins = omega (arith, day.begins); some = some; within = omega (arith, day.within, sum) }) others tail a) has
  standing (uses q z inner rest) r k rule at [] e i l day on here a has = absurd on.0
  standing (uses q z inner rest) r k rule at (Code c ∷ ss) e i l day on here a has = absurd on.0
  standing (uses q z inner (letter d rest)) r k rule at (Name x ∷ []) e i l day on here a has = absurd on.0.7
  standing (uses q z inner (uses q' z' inner' rest)) r k rule at (Name x ∷ []) e i l day on here a has = absurd on.0.7
  standing (uses q z inner done) r k rule at (Name x ∷ []) e i l day on here a has =
      let same : z ≡ l = omega (arith, on.1) in
      let trees : TreesStand g (Name x) i l = one_stands r rule at k (Name x) i l e day.some here in
      let trees2 : TreesStand g (Name on.0.0.left) i z = rw (on.0.2, same) trees in
      let d2 : InDay g.periods i z = rw same day in
      of_one r rule at k (Name x) i l (uses q z inner done) a e day here on
      (standing inner q 0 on.0.0 on.0.1 on.0.0.right refl i z d2 (on.0.6, on.0.5) (on.0.3, trees2) a) has
  standing (uses q z inner rest) r k rule at (Name x ∷ y ∷ ss) e i l day on here a has =
      let one : On g (Name x ∷ []) i z (uses q z inner done) = ((on.0.0, on.0.1, on.0.2, on.0.3, on.0.4, on.0.5, on.0.6, tt), omega arith) in
      let others : On g (y ∷ ss) (i + z) (span_length rest) rest = (on.0.7, refl) in
      let some = some-covered g y ss (i + z) rest on.0.7 in
      let first : 1 ≤ z = on.0.4 in
      let sum : z + span_length rest ≡ l = on.1 in
      let all = parts_stand r rule at k (Name x ∷ y ∷ ss) i l e day.some here in
      let tail = rest-stands g r k i z (span_length rest) l y ss sum (Name x) all (uses q z inner done, one) in
      let head = first-stands g r k i z (span_length rest) l y ss sum (Name x) all (rest, others) in
      let head2 : TreesStand g (Name on.0.0.left) i z = rw on.0.2 head in
      let d2 : InDay g.periods i z = record { begins = day.begins; some = first; within = omega (arith, day.within, sum) } in
      of_two r rule at k (Name x) y ss i l z (span_length rest) (uses q z inner done) rest a e day here sum first some one others
      (standing inner q 0 on.0.0 on.0.1 on.0.0.right refl i z d2 (on.0.6, on.0.5) (on.0.3, head2) a)
      (standing rest r (suc k) rule at (y ∷ ss) (drop-next k rule.right (Name x) (y ∷ ss) e) (i + z) (span_length rest)
      (record { begins = omega (arith, day.begins); some = some; within = omega (arith, day.within, sum) }) others tail a) has

  -- so is each arc of the instance
  pub arc-standing : (a : ArcKey) → IsArc g a → Standing g a
  arc-standing a (done, h, has) = absurd h.0
  arc-standing a (letter c rest, h, has) = absurd h.0
  arc-standing a (uses q z inner rest, h, has) =
      let on = h.0 in
      let same : z ≡ g.periods = only_length rest on.7 h.1 in
      let trees : TreesStand g (Name on.0.left) 1 z = rw (on.2, same) (day-stands g) in
      let d2 : InDay g.periods 1 z = record { begins = omega arith; some = on.4; within = omega (arith, same) } in
      standing inner q 0 on.0 on.1 on.0.right refl 1 z d2 (on.6, on.5) (on.3, trees) a has
    where
      only_length : (rest : Parts) → Derive g [] (1 + z) rest → z + span_length rest ≡ g.periods → z ≡ g.periods
      only_length done h e = omega (arith, e)
      only_length (letter c rest) h e = absurd h
      only_length (uses q z inner rest) h e = absurd h
