-- From the start name on the day down to a letter: no tree of the day with the letter has less than its
-- total.
use Rattle.std.proofs.Common.{◌≡◌, ℕ, zero, suc, ℤ, pos, ◌+ℤ◌, ◌-ℤ◌, ◌≤ℤ◌, ◌<◌, ◌≤◌, ◌+◌, ◌-◌, List, [], ◌∷◌, Option, None, Some, IfSome, arith, refl, subst, sym, ap, ◌∙◌, ◌⊎◌, inl, inr, length, get_or, drop, add-one}
use Rattle.std.proofs.lemmas.Int.{ints}
use Rattle.std.proofs.lemmas.Option.{same_Some}
use Rattle.std.proofs.Math.Seq.{drop-cons}
use Rattle.model_rosters.specs.declared.grammar.Grammar.{Grammar}
use Rattle.model_rosters.specs.declared.grammar.Rule.{Rule}
use Rattle.model_rosters.specs.declared.grammar.Sym.{Sym}
use Rattle.model_rosters.specs.declared.grammar.Sym.TheVariants.{Code, Name}
use Rattle.model_rosters.specs.Grammar.{rule_at, InDay, Stands}
use Rattle.model_rosters.specs.Trees.{Parts, done, letter, uses, span_length, Derive, On, IsDayTree}
use Rattle.model_rosters.specs.Sums.{PriceView, plus, tree_sum, parts_sum, arc_sum, IsLeast, AtMost, SymbolLeast, PartsLeast}
use Rattle.model_rosters.specs.Sound.{IsSound, Exists}
use Rattle.model_rosters.specs.Arcs.{Letter, letters}
use Rattle.model_rosters.specs.Folds.{In}
use Rattle.model_rosters.specs.tree_laws.Laws.{arc_at}
use Rattle.model_rosters.proofs.tree_laws.Ends.{code-least, code-none}
use Rattle.model_rosters.proofs.tree_laws.LeastValues.{AtMost-none, IsLeast-one}
use Rattle.model_rosters.proofs.tree_laws.Rules.{sound-symbol, sound-rule, rule_at-within}
use Rattle.model_rosters.proofs.tree_laws.Symbols.{here, here_last, rest-last, drop_none}
use Rattle.model_rosters.proofs.tree_laws.Splits.{arc_more}
use Rattle.tree_span_cells.proofs.PartsLemmas.{two-here}
use Rattle.tree_span_cells.specs.declared.slot.Layout.{Layout}
use Rattle.tree_span_cells.specs.declared.slot.Slot.TheVariants.{OfName, OfSuffix}
use Rattle.tree_span_cells.specs.Cells.{Held, IsLayoutOf, AreFilled, name_slot, suffix_slot, cell}
use Rattle.tree_span_cells.proofs.CellsLemmas.{filled-right}
use Rattle.tree_span_table.specs.declared.next_codes.totals.Totals.{Totals}
use Rattle.tree_span_table.specs.next_codes.Marginals.{IsMarginal, IsDayTreeWith}
use Rattle.tree_span_table.specs.next_codes.Totals.{AreThrough, letter_total, slot_total, symbol_total, rest_total}
use Rattle.tree_span_table.specs.next_codes.Pushes.{symbol_of, SymbolDue, RestDue, PartDone, PartsDone, RightDone, DoneFrom}
use Rattle.tree_span_table.proofs.next_codes.Surroundings.{In-cases}
use Rattle.tree_span_table.proofs.next_codes.PartPushes.{all-there}

-- where a total is at most a number, it is there
there : (v : Option ℤ) (z : ℤ) → AtMost v (Some z) → (y : ℤ) × (v ≡ Some y) × (y ≤ℤ z)
there None z h = absurd h
there (Some y) z h = (y, refl, h)

up : (v : Option ℤ) (y z : ℤ) → AtMost v (Some y) → y ≤ℤ z → AtMost v (Some z)
up None y z h le = absurd h
up (Some x) y z h le = omega (arith, ints, h, le)

-- so is a sum of a rule's price and the parts
both_of : (r : ℤ) (y : Option ℤ) (z : ℤ) → plus (Some r) y ≡ Some z → (b : ℤ) × (y ≡ Some b) × (z ≡ r +ℤ b)
both_of r None z e = cc
both_of r (Some b) z e = (b, refl, sym (same_Some (r +ℤ b) z e))

-- a least sum that something has
has_least : {A : Type 0} (P : A → Type 0) (sum : A → Option ℤ) (v : Option ℤ) (a : A) (z : ℤ) → IsLeast P sum v → P a → sum a ≡ Some z → (y : ℤ) × (v ≡ Some y) × (y ≤ℤ z)
has_least P sum v a z h q e = there v z (subst (λ (w : Option ℤ). AtMost v w) e (h.least a q))

-- symbols derive some periods
some_period : (g : Grammar) (s : Sym) (ss : List Sym) (j : ℕ) (w : Parts) → Derive g (s ∷ ss) j w → 1 ≤ span_length w
some_period g (Code c) ss j done h = absurd h
some_period g (Name c) ss j done h = absurd h
some_period g s ss j (letter d rest) h = omega arith
some_period g (Code c) ss j (uses q n inner rest) h = absurd h
some_period g (Name c) ss j (uses q n inner rest) h = omega (arith, h.4)

-- no symbols derive nothing
nothing_left : (g : Grammar) (j : ℕ) (u : Parts) → Derive g [] j u → u ≡ done
nothing_left g j done h = refl
nothing_left g j (letter c rest) h = absurd h
nothing_left g j (uses q n inner rest) h = absurd h

module _ (g : Grammar) (p : PriceView) (lay : Layout) (t : Totals) where
  -- what is due for less around is due for more
  part_up : (r k i l : ℕ) (xs : List Sym) (o w : ℤ) (m : ℕ) → o ≤ℤ w → PartDone g p lay t r k xs i l o m → PartDone g p lay t r k xs i l w m
  part_up r k i l xs o w m le h a b ha hb =
      let d = h a b ha hb in
      let e = p.arc_of (arc_at r k i l m) in
      let more : (o +ℤ (a +ℤ (e +ℤ b))) ≤ℤ (w +ℤ (a +ℤ (e +ℤ b))) = omega (arith, ints, le) in
      (up (symbol_total lay t (symbol_of xs k) i m) _ _ d.0 more, up (rest_total lay t r (k + 1) (drop (k + 1) xs) (i + m) (l - m)) _ _ d.1 more)

  right_up : (r i l : ℕ) (xs : List Sym) (o w : ℤ) → o ≤ℤ w → RightDone g p lay t r xs i l o → RightDone g p lay t r xs i l w
  right_up r i l xs o w le h = record {
    only = λ a one least. let e = p.arc_of (arc_at r 0 i l l) in
        let more : (o +ℤ (a +ℤ e)) ≤ℤ (w +ℤ (a +ℤ e)) = omega (arith, ints, le) in
        up (symbol_total lay t (symbol_of xs 0) i l) _ _ (h.only a one least) more;
    parts = λ two m one less. part_up r 0 i l xs o w m le (h.parts two m one less);
  }

  -- what is known of the symbols from suffix k on where so much stands around them
  record Open (r : ℕ) (xs : List Sym) (k i l : ℕ) (o : ℤ) : Type 0 where
    several : k + 2 ≤ length xs → PartsDone g p lay t r k xs i l o l
    last : (a : ℤ) → 1 ≤ k → k + 1 ≡ length xs → SymbolLeast g p (symbol_of xs k) i l (Some a) → SymbolDue lay t (symbol_of xs k) i l (o +ℤ a)
    only : (a : ℤ) → k ≡ 0 → length xs ≡ 1 → SymbolLeast g p (symbol_of xs 0) i l (Some a) → SymbolDue lay t (symbol_of xs 0) i l (o +ℤ (a +ℤ p.arc_of (arc_at r 0 i l l)))

  open_right : (r i l : ℕ) (xs : List Sym) (o : ℤ) → RightDone g p lay t r xs i l o → Open r xs 0 i l o
  open_right r i l xs o h = record {
    several = λ two. h.parts (omega (arith, two));
    last = λ a one e least. absurd (omega (arith, one));
    only = λ a zero one least. h.only a one least;
  }

module _ (g : Grammar) (p : PriceView) (sound : IsSound g) (lay : Layout) (fits : IsLayoutOf g lay) (h : Held) (filled : AreFilled g p lay h) (t : Totals) (all : DoneFrom g p lay t 0) where
  one_or_other : (a b : ℕ) → (a ≡ b) ⊎ (a ≡ b → ⊥)
  one_or_other a b = grind arith

  -- each symbol has a least sum on a span
  symbol_sum : (s : Sym) (i l : ℕ) → Exists (length g.codes) (length g.names) s → InDay g.periods i l → (v : Option ℤ) × SymbolLeast g p s i l v
  symbol_sum (Name x) i l lt day = (cell lay h (name_slot lay x) i l, (filled-right g p lay fits h filled i l day).names x lt)
  symbol_sum (Code c) i l lt day = by (one_or_other l 1)
    where
      by : (l ≡ 1) ⊎ (l ≡ 1 → ⊥) → (v : Option ℤ) × SymbolLeast g p (Code c) i l v
      by (inl e) = (p.letter_at c i, code-least g p i l c e)
      by (inr ne) = (None, code-none g p i l c ne)

  exists_at : (r k : ℕ) (rule : Rule) → rule_at g r ≡ Some rule → k < length rule.right → Exists (length g.codes) (length g.names) (symbol_of rule.right k)
  exists_at r k rule at lt = sound-symbol g sound r k rule (symbol_of rule.right k) _ at (here rule.right k (Code 0) (symbol_of rule.right k) lt refl)

  -- so have the symbols from a suffix on that is not the whole
  rest_sum : (r k i l : ℕ) (rule : Rule) → rule_at g r ≡ Some rule → 1 ≤ k → k < length rule.right → InDay g.periods i l → (v : Option ℤ) × PartsLeast g p r k (drop k rule.right) i l v
  rest_sum r k i l rule at one lt day = by (one_or_other (k + 1) (length rule.right))
    where
      by : (k + 1 ≡ length rule.right) ⊎ (k + 1 ≡ length rule.right → ⊥) → (v : Option ℤ) × PartsLeast g p r k (drop k rule.right) i l v
      by (inl e) = let v = symbol_sum (symbol_of rule.right k) i l (exists_at r k rule at lt) day in
          (v.0, rest-last g p i l r k rule.right (Code 0) (symbol_of rule.right k) v.0 one e refl v.1)
      by (inr ne) = (cell lay h (suffix_slot lay r k) i l, (filled-right g p lay fits h filled i l day).suffixes r k rule at one (omega (arith, lt, ne)))

  shift : (y z b : ℤ) → y ≤ℤ z → (y -ℤ b) ≤ℤ (z -ℤ b)
  shift y z b le = omega (arith, ints, le)

  back : (y b : ℤ) → y ≡ b +ℤ (y -ℤ b)
  back y b = omega (arith, ints)

  -- what is due of the others opens them
  open_rest : (r k i l : ℕ) (rule : Rule) (z b : ℤ) → rule_at g r ≡ Some rule → 1 ≤ k → k < length rule.right → InDay g.periods i l → PartsLeast g p r k (drop k rule.right) i l (Some b)
      → RestDue lay t r k rule.right i l z → Open g p lay t r rule.right k i l (z -ℤ b)
  open_rest r k i l rule z b at one lt day least due = record {
    several = λ two. let is = two-here rule.right k (Code 0) (symbol_of rule.right k) two refl in
        let y = there (slot_total lay t (suffix_slot lay r k) i l) z (subst (λ (q : List Sym). AtMost (rest_total lay t r k q i l) (Some z)) is due) in
        let parts = all (suffix_slot lay r k) i l (OfSuffix (record { rule = r; from = k })) (fits.suffixes r k rule at one two) day (omega arith)
        rule b (y.0 -ℤ b) at (y.1 ∙ ap Some (back y.0 b)) least in
        λ m some less. part_up g p lay t r k i l rule.right (y.0 -ℤ b) (z -ℤ b) m (shift y.0 z b y.2) (parts m some less);
    last = λ a some e has. let is = here_last rule.right k (Code 0) (symbol_of rule.right k) e refl in
        let same : b ≡ a = same_Some b a (IsLeast-one (On g (drop k rule.right) i l) (parts_sum p r k i) (Some b) (Some a) least (rest-last g p i l r k rule.right (Code 0) (symbol_of rule.right k) (Some a) one e refl has)) in
        let sum : z ≡ (z -ℤ b) +ℤ a = omega (arith, ints, same) in
        subst (λ (q : ℤ). SymbolDue lay t (symbol_of rule.right k) i l q) sum (subst (λ (q : List Sym). AtMost (rest_total lay t r k q i l) (Some z)) is due);
    only = λ a zero e has. absurd (omega (arith, one, zero));
  }

  -- what is due of a name opens its rules
  open_name : (x i l : ℕ) (z a : ℤ) → x < length g.names → InDay g.periods i l → SymbolLeast g p (Name x) i l (Some a) → SymbolDue lay t (Name x) i l z
      → (q : ℕ) (rule : Rule) → rule_at g q ≡ Some rule → rule.left ≡ x → Stands g.periods rule i l → RightDone g p lay t q rule.right i l ((z -ℤ a) +ℤ p.rule_of q)
  open_name x i l z a lt day least due q rule at left stands =
      let y = there (slot_total lay t (name_slot lay x) i l) z due in
      let done = all (name_slot lay x) i l (OfName x) (fits.names x lt) day (omega arith) a (y.0 -ℤ a) (y.1 ∙ ap Some (back y.0 a)) least
      q rule (omega (arith, (rule_at-within g q rule at).1)) at left stands in
      let low = shift y.0 z a y.2 in
      let more : ((y.0 -ℤ a) +ℤ p.rule_of q) ≤ℤ ((z -ℤ a) +ℤ p.rule_of q) = omega (arith, ints, low) in
      right_up g p lay t q i l rule.right _ _ more done

  -- a letter of parts that are open has at most the sum of all as its total
  abbrev Reach : Parts → Type 0
  Reach w = (r k i l : ℕ) (rule : Rule) → rule_at g r ≡ Some rule → k < length rule.right → InDay g.periods i l → (o e : ℤ) → Open g p lay t r rule.right k i l o
      → On g (drop k rule.right) i l w → parts_sum p r k i w ≡ Some e → (x : Letter) → In x (letters i w) → AtMost (letter_total lay t x.code x.period) (Some (o +ℤ e))

  arc_none : (r k i m : ℕ) → 1 ≤ k → arc_sum p r k i m done ≡ pos 0
  arc_none r zero i m one = absurd (omega (arith, one))
  arc_none r (suc k) i m one = refl

  arc_only : (r k i m l : ℕ) → k ≡ 0 → m ≡ l → arc_sum p r k i m done ≡ p.arc_of (arc_at r 0 i l l)
  arc_only r zero i m l e f = let d : m + 0 ≡ l = omega (arith, f) in ap (λ (n : ℕ). p.arc_of (arc_at r 0 i n m)) d ∙ ap (λ (n : ℕ). p.arc_of (arc_at r 0 i l n)) f
  arc_only r (suc k) i m l e f = absurd (omega (arith, e))

  -- A first part and the others, of a sum: what is known of them where the symbols are open.
  module _ (r k i l : ℕ) (rule : Rule) (at : rule_at g r ≡ Some rule) (lt : k < length rule.right) (day : InDay g.periods i l) (o e : ℤ) (opened : Open g p lay t r rule.right k i l o)
      (m : ℕ) (some : 1 ≤ m) (f u : Parts) (hf : On g (symbol_of rule.right k ∷ []) i m f) (hu : Derive g (drop (suc k) rule.right) (i + m) u) (len : m + span_length u ≡ l)
      (sum : plus (tree_sum p i f) (plus (Some (arc_sum p r k i m u)) (parts_sum p r (suc k) (i + m) u)) ≡ Some e) where
    sums : (a : ℤ) × (b : ℤ) × (tree_sum p i f ≡ Some a) × (parts_sum p r (suc k) (i + m) u ≡ Some b) × (e ≡ a +ℤ (arc_sum p r k i m u +ℤ b))
    sums = all-there (tree_sum p i f) (parts_sum p r (suc k) (i + m) u) (arc_sum p r k i m u) e sum

    first_day : InDay g.periods i m
    first_day = record { begins = day.begins; some = some; within = omega (arith, day.within, len) }

    -- the least sum of the first part's symbol
    first_least : (a : ℤ) × SymbolLeast g p (symbol_of rule.right k) i m (Some a) × (a ≤ℤ sums.0)
    first_least =
        let v = symbol_sum (symbol_of rule.right k) i m (exists_at r k rule at lt) first_day in
        let y = has_least (On g (symbol_of rule.right k ∷ []) i m) (tree_sum p i) v.0 f sums.0 v.1 hf sums.2 in
        (y.0, subst (λ (q : Option ℤ). SymbolLeast g p (symbol_of rule.right k) i m q) y.1 v.1, y.2)

    module _ (two : k + 2 ≤ length rule.right) where
      others : Derive g (get_or rule.right (suc k) (Code 0) ∷ drop (suc (suc k)) rule.right) (i + m) u
      others = subst (λ (q : List Sym). Derive g q (i + m) u) (drop-cons rule.right (suc k) (Code 0) (omega (arith, two))) hu

      some_others : 1 ≤ span_length u
      some_others = some_period g _ _ (i + m) u others

      rest_len : span_length u ≡ l - m
      rest_len = omega (arith, len)

      rest_day : InDay g.periods (i + m) (l - m)
      rest_day = record { begins = omega (arith, day.begins); some = omega (arith, some_others, rest_len); within = omega (arith, day.within, len, some_others) }

      the_arc : arc_sum p r k i m u ≡ p.arc_of (arc_at r k i l m)
      the_arc = arc_more g p r k i m (i + m) _ _ u others ∙ ap (λ (n : ℕ). p.arc_of (arc_at r k i n m)) len

      rest_least : (b : ℤ) × PartsLeast g p r (k + 1) (drop (k + 1) rule.right) (i + m) (l - m) (Some b) × (b ≤ℤ sums.1)
      rest_least =
          let v = rest_sum r (k + 1) (i + m) (l - m) rule at (omega arith) (omega (arith, two)) rest_day in
          let on : On g (drop (k + 1) rule.right) (i + m) (l - m) u = (rw add-one hu, rest_len) in
          let is : parts_sum p r (k + 1) (i + m) u ≡ Some sums.1 = rw add-one sums.3 in
          let y = has_least (On g (drop (k + 1) rule.right) (i + m) (l - m)) (parts_sum p r (k + 1) (i + m)) v.0 u sums.1 v.1 on is in
          (y.0, subst (λ (q : Option ℤ). PartsLeast g p r (k + 1) (drop (k + 1) rule.right) (i + m) (l - m) q) y.1 v.1, y.2)

      both_due : SymbolDue lay t (symbol_of rule.right k) i m (o +ℤ (first_least.0 +ℤ (p.arc_of (arc_at r k i l m) +ℤ rest_least.0)))
          × RestDue lay t r (k + 1) rule.right (i + m) (l - m) (o +ℤ (first_least.0 +ℤ (p.arc_of (arc_at r k i l m) +ℤ rest_least.0)))
      both_due = opened.several two m some (omega (arith, len, some_others)) first_least.0 rest_least.0 first_least.1 rest_least.1

      -- the others are open
      rest_open : (w : ℤ) × Open g p lay t r rule.right (k + 1) (i + m) (l - m) w × ((w +ℤ sums.1) ≤ℤ (o +ℤ e))
      rest_open =
          let z = o +ℤ (first_least.0 +ℤ (p.arc_of (arc_at r k i l m) +ℤ rest_least.0)) in
          let a = first_least.2 in
          let s = sums.4 in
          let arc = the_arc in
          (z -ℤ rest_least.0, open_rest r (k + 1) (i + m) (l - m) rule z rest_least.0 at (omega arith) (omega (arith, two)) rest_day rest_least.1 both_due.1, omega (arith, ints, a, s, arc))

    -- the total of the first part
    record First : Type 0 where
      around : ℤ
      due : SymbolDue lay t (symbol_of rule.right k) i m (around +ℤ first_least.0)
      most : (around +ℤ sums.0) ≤ℤ (o +ℤ e)

    first_several : k + 2 ≤ length rule.right → First
    first_several two =
        let b = (rest_least two).2 in
        let s = sums.4 in
        let arc = the_arc two in
        let w = o +ℤ (p.arc_of (arc_at r k i l m) +ℤ (rest_least two).0) in
        let e' : o +ℤ (first_least.0 +ℤ (p.arc_of (arc_at r k i l m) +ℤ (rest_least two).0)) ≡ w +ℤ first_least.0 = omega (arith, ints) in
        record {
          around = w;
          due = subst (λ (q : ℤ). SymbolDue lay t (symbol_of rule.right k) i m q) e' (both_due two).0;
          most = omega (arith, ints, b, s, arc);
        }

    no_others : k + 1 ≡ length rule.right → u ≡ done
    no_others e' = nothing_left g (i + m) u (subst (λ (q : List Sym). Derive g q (i + m) u) (drop_none rule.right (suc k) (omega (arith, e'))) hu)

    first_last : k + 1 ≡ length rule.right → First
    first_last one = by (one_or_other k 0)
      where
        ud : u ≡ done
        ud = no_others one

        ml : m ≡ l
        ml = let z = ap span_length ud in omega (arith, len, z)

        rest_zero : sums.1 ≡ pos 0
        rest_zero = sym (same_Some (pos 0) sums.1 (ap (λ (v : Parts). parts_sum p r (suc k) (i + m) v) (sym ud) ∙ sums.3))

        by : (k ≡ 0) ⊎ (k ≡ 0 → ⊥) → First
        by (inl zero') =
            let a0 = first_least.0 in
            let arc : arc_sum p r k i m u ≡ p.arc_of (arc_at r 0 i l l) = ap (λ (v : Parts). arc_sum p r k i m v) ud ∙ arc_only r k i m l zero' ml in
            let least1 = subst (λ (n : ℕ). SymbolLeast g p (symbol_of rule.right n) i m (Some first_least.0)) zero' first_least.1 in
            let least2 = subst (λ (n : ℕ). SymbolLeast g p (symbol_of rule.right 0) i n (Some first_least.0)) ml least1 in
            let due = opened.only first_least.0 zero' (omega (arith, one, zero')) least2 in
            let due1 = subst (λ (n : ℕ). SymbolDue lay t (symbol_of rule.right 0) i n (o +ℤ (first_least.0 +ℤ p.arc_of (arc_at r 0 i l l)))) (sym ml) due in
            let due2 = subst (λ (n : ℕ). SymbolDue lay t (symbol_of rule.right n) i m (o +ℤ (first_least.0 +ℤ p.arc_of (arc_at r 0 i l l)))) (sym zero') due1 in
            let e' : o +ℤ (first_least.0 +ℤ p.arc_of (arc_at r 0 i l l)) ≡ (o +ℤ p.arc_of (arc_at r 0 i l l)) +ℤ first_least.0 = omega (arith, ints) in
            let s = sums.4 in
            let z = rest_zero in
            record {
              around = o +ℤ p.arc_of (arc_at r 0 i l l);
              due = subst (λ (q : ℤ). SymbolDue lay t (symbol_of rule.right k) i m q) e' due2;
              most = omega (arith, ints, s, z, arc);
            }
        by (inr more) =
            let arc : arc_sum p r k i m u ≡ pos 0 = ap (λ (v : Parts). arc_sum p r k i m v) ud ∙ arc_none r k i m (omega (arith, more)) in
            let least2 = subst (λ (n : ℕ). SymbolLeast g p (symbol_of rule.right k) i n (Some first_least.0)) ml first_least.1 in
            let due = opened.last first_least.0 (omega (arith, more)) one least2 in
            let s = sums.4 in
            let z = rest_zero in
            record {
              around = o;
              due = subst (λ (n : ℕ). SymbolDue lay t (symbol_of rule.right k) i n (o +ℤ first_least.0)) (sym ml) due;
              most = omega (arith, ints, s, z, arc);
            }

    first_of : First
    first_of = by (one_or_other (k + 1) (length rule.right))
      where
        by : (k + 1 ≡ length rule.right) ⊎ (k + 1 ≡ length rule.right → ⊥) → First
        by (inl e') = first_last e'
        by (inr ne) = first_several (omega (arith, lt, ne))

    -- the letters of the others
    rest_reached : Reach u → (x : Letter) → In x (letters (i + m) u) → AtMost (letter_total lay t x.code x.period) (Some (o +ℤ e))
    rest_reached reach x h' = by (one_or_other (k + 1) (length rule.right))
      where
        by : (k + 1 ≡ length rule.right) ⊎ (k + 1 ≡ length rule.right → ⊥) → AtMost (letter_total lay t x.code x.period) (Some (o +ℤ e))
        by (inl e') = absurd (subst (λ (v : Parts). In x (letters (i + m) v)) (no_others e') h')
        by (inr ne) =
            let two : k + 2 ≤ length rule.right = omega (arith, lt, ne) in
            let w = rest_open two in
            let on : On g (drop (k + 1) rule.right) (i + m) (l - m) u = (rw add-one hu, rest_len two) in
            up (letter_total lay t x.code x.period) _ _ (reach r (k + 1) (i + m) (l - m) rule at (omega (arith, two)) (rest_day two) w.0 sums.1 w.1 on (rw add-one sums.3) x h') w.2

  starts : (r k : ℕ) (rule : Rule) → k < length rule.right → drop k rule.right ≡ symbol_of rule.right k ∷ drop (suc k) rule.right
  starts r k rule lt = here rule.right k (Code 0) (symbol_of rule.right k) lt refl

  more_sum : (o a b z : ℤ) → a ≤ℤ b → (o +ℤ b) ≤ℤ z → (o +ℤ a) ≤ℤ z
  more_sum o a b z le more = omega (arith, ints, le, more)

  reach_letter : (c : ℕ) (rest : Parts) → Reach rest → Reach (letter c rest)
  reach_letter c rest then r k i l rule at lt day o e opened on sum x inx =
      by (symbol_of rule.right k) refl (subst (λ (ss : List Sym). Derive g ss i (letter c rest)) (starts r k rule lt) on.0) inx
    where
      by : (s : Sym) → symbol_of rule.right k ≡ s → Derive g (s ∷ drop (suc k) rule.right) i (letter c rest) → In x (letters i (letter c rest)) → AtMost (letter_total lay t x.code x.period) (Some (o +ℤ e))
      by (Name y) is d h' = absurd d
      by (Code c') is d h' = go h'
        where
          hf : On g (symbol_of rule.right k ∷ []) i 1 (letter c done)
          hf = subst (λ (s : Sym). On g (s ∷ []) i 1 (letter c done)) (sym is) ((d.0, tt), omega arith)

          first : First r k i l rule at lt day o e opened 1 (omega arith) (letter c done) rest hf d.1 on.1 sum
          first = first_of r k i l rule at lt day o e opened 1 (omega arith) (letter c done) rest hf d.1 on.1 sum

          least : (a : ℤ) × SymbolLeast g p (symbol_of rule.right k) i 1 (Some a) × (a ≤ℤ (sums r k i l rule at lt day o e opened 1 (omega arith) (letter c done) rest hf d.1 on.1 sum).0)
          least = first_least r k i l rule at lt day o e opened 1 (omega arith) (letter c done) rest hf d.1 on.1 sum

          go : In x (letters i (letter c rest)) → AtMost (letter_total lay t x.code x.period) (Some (o +ℤ e))
          go (inl same) =
              let due = subst (λ (s : Sym). SymbolDue lay t s i 1 (first.around +ℤ least.0)) is first.due in
              let at' : letter_total lay t c' i ≡ letter_total lay t x.code x.period =
              ap (λ (q : ℕ). letter_total lay t q i) (d.0 ∙ ap (λ (y : Letter). y.code) (sym same)) ∙ ap (λ (q : ℕ). letter_total lay t x.code q) (ap (λ (y : Letter). y.period) (sym same)) in
              let due2 = subst (λ (v : Option ℤ). AtMost v (Some (first.around +ℤ least.0))) at' due in
              up (letter_total lay t x.code x.period) _ _ due2 (more_sum first.around least.0 _ (o +ℤ e) least.2 first.most)
          go (inr later) = rest_reached r k i l rule at lt day o e opened 1 (omega arith) (letter c done) rest hf d.1 on.1 sum then x later

  reach_uses : (q n : ℕ) (inner rest : Parts) → Reach inner → Reach rest → Reach (uses q n inner rest)
  reach_uses q n inner rest down then r k i l rule at lt day o e opened on sum x inx =
      by (symbol_of rule.right k) refl (subst (λ (ss : List Sym). Derive g ss i (uses q n inner rest)) (starts r k rule lt) on.0)
    where
      by : (s : Sym) → symbol_of rule.right k ≡ s → Derive g (s ∷ drop (suc k) rule.right) i (uses q n inner rest) → AtMost (letter_total lay t x.code x.period) (Some (o +ℤ e))
      by (Code c) is d = absurd d
      by (Name y) is d = go (In-cases x (letters i inner) (letters (i + n) rest) inx)
        where
          hf : On g (symbol_of rule.right k ∷ []) i n (uses q n inner done)
          hf = subst (λ (s : Sym). On g (s ∷ []) i n (uses q n inner done)) (sym is) ((d.0, d.1, d.2, d.3, d.4, d.5, d.6, tt), omega arith)

          some : 1 ≤ n
          some = omega (arith, d.4)

          first : First r k i l rule at lt day o e opened n some (uses q n inner done) rest hf d.7 on.1 sum
          first = first_of r k i l rule at lt day o e opened n some (uses q n inner done) rest hf d.7 on.1 sum

          least : (a : ℤ) × SymbolLeast g p (symbol_of rule.right k) i n (Some a) × (a ≤ℤ (sums r k i l rule at lt day o e opened n some (uses q n inner done) rest hf d.7 on.1 sum).0)
          least = first_least r k i l rule at lt day o e opened n some (uses q n inner done) rest hf d.7 on.1 sum

          whole : (a : ℤ) × (b : ℤ) × (tree_sum p i (uses q n inner done) ≡ Some a) × (parts_sum p r (suc k) (i + n) rest ≡ Some b) × (e ≡ a +ℤ (arc_sum p r k i n rest +ℤ b))
          whole = sums r k i l rule at lt day o e opened n some (uses q n inner done) rest hf d.7 on.1 sum

          first_in : InDay g.periods i n
          first_in = first_day r k i l rule at lt day o e opened n some (uses q n inner done) rest hf d.7 on.1 sum

          y_lt : y < length g.names
          y_lt = subst (λ (s : Sym). Exists (length g.codes) (length g.names) s) is (exists_at r k rule at lt)

          go : In x (letters i inner) ⊎ In x (letters (i + n) rest) → AtMost (letter_total lay t x.code x.period) (Some (o +ℤ e))
          go (inr later) = rest_reached r k i l rule at lt day o e opened n some (uses q n inner done) rest hf d.7 on.1 sum then x later
          go (inl below) =
              let due = subst (λ (s : Sym). SymbolDue lay t s i n (first.around +ℤ least.0)) is first.due in
              let has = subst (λ (s : Sym). SymbolLeast g p s i n (Some least.0)) is least.1 in
              let right = open_name y i n (first.around +ℤ least.0) least.0 y_lt first_in has due q d.0 d.1 d.2 d.3 in
              let parts = both_of (p.rule_of q) (parts_sum p q 0 i inner) whole.0 whole.2 in
              let inside = down q 0 i n d.0 d.1 (omega (arith, (sound-rule g sound q d.0 d.1).some)) first_in (((first.around +ℤ least.0) -ℤ least.0) +ℤ p.rule_of q) parts.0
              (open_right g p lay t q i n d.0.right _ right) (d.6, d.5) parts.1 x below in
              let most = first.most in
              let total = parts.2 in
              let le : ((((first.around +ℤ least.0) -ℤ least.0) +ℤ p.rule_of q) +ℤ parts.0) ≤ℤ (o +ℤ e) = omega (arith, ints, most, total) in
              up (letter_total lay t x.code x.period) _ _ inside le

  -- by the tree down to the letter
  reach_all : (w : Parts) → Reach w
  reach_all done = λ r k i l rule at lt day o e opened on sum x inx. absurd inx
  reach_all (letter c rest) = reach_letter c rest (reach_all rest)
  reach_all (uses q n inner rest) = reach_uses q n inner rest (reach_all inner) (reach_all rest)

  module _ (through : AreThrough g p lay t) (start : (a : ℤ) → SymbolLeast g p (Name g.start) 1 g.periods (Some a) → SymbolDue lay t (Name g.start) 1 g.periods a) where
    the_day : InDay g.periods 1 g.periods
    the_day = record { begins = omega arith; some = sound.some_period; within = omega arith }

    -- a letter of a tree of the day has at most its sum as its total
    day_reached : (w : Parts) (e : ℤ) → IsDayTree g w → tree_sum p 1 w ≡ Some e → (x : Letter) → In x (letters 1 w) → AtMost (letter_total lay t x.code x.period) (Some e)
    day_reached done e h' sum x inx = absurd h'.0
    day_reached (letter c rest) e h' sum x inx = absurd h'.0
    day_reached (uses q n inner rest) e h' sum x inx = go (In-cases x (letters 1 inner) (letters (1 + n) rest) inx)
      where
        alone : rest ≡ done
        alone = nothing_left g (1 + n) rest h'.0.7

        long : n ≡ g.periods
        long = let z = ap span_length alone in omega (arith, h'.1, z)

        go : In x (letters 1 inner) ⊎ In x (letters (1 + n) rest) → AtMost (letter_total lay t x.code x.period) (Some e)
        go (inr later) = absurd (subst (λ (v : Parts). In x (letters (1 + n) v)) alone later)
        go (inl below) =
            let v = symbol_sum (Name g.start) 1 g.periods sound.start the_day in
            let y = has_least (On g (Name g.start ∷ []) 1 g.periods) (tree_sum p 1) v.0 (uses q n inner rest) e v.1 h' sum in
            let has = subst (λ (u : Option ℤ). SymbolLeast g p (Name g.start) 1 g.periods u) y.1 v.1 in
            let due = start y.0 has in
            let day : InDay g.periods 1 n = subst (λ (m : ℕ). InDay g.periods 1 m) (sym long) the_day in
            let right = open_name g.start 1 n y.0 y.0 sound.start day (subst (λ (m : ℕ). SymbolLeast g p (Name g.start) 1 m (Some y.0)) (sym long) has)
            (subst (λ (m : ℕ). SymbolDue lay t (Name g.start) 1 m y.0) (sym long) due) q h'.0.0 h'.0.1 h'.0.2 h'.0.3 in
            let parts = both_of (p.rule_of q) (parts_sum p q 0 1 inner) e sum in
            let inside = reach_all inner q 0 1 n h'.0.0 h'.0.1 (omega (arith, (sound-rule g sound q h'.0.0 h'.0.1).some)) day ((y.0 -ℤ y.0) +ℤ p.rule_of q) parts.0
            (open_right g p lay t q 1 n h'.0.0.right _ right) (h'.0.6, h'.0.5) parts.1 x below in
            let total = parts.2 in
            let le : (((y.0 -ℤ y.0) +ℤ p.rule_of q) +ℤ parts.0) ≤ℤ e = omega (arith, ints, total) in
            up (letter_total lay t x.code x.period) _ _ inside le

    -- so the totals of the letters are the marginals
    pub reached : (c i : ℕ) → c < length g.codes → 1 ≤ i → i ≤ g.periods → IsMarginal g p c i (letter_total lay t c i)
    reached c i lt one most = record { attained = attained (letter_total lay t c i) refl; least = λ w q. below w q (tree_sum p 1 w) refl }
      where
        attained : (v : Option ℤ) → letter_total lay t c i ≡ v → IfSome v (λ z. (w : Parts) × IsDayTreeWith g c i w × (tree_sum p 1 w ≡ Some z))
        attained None e = tt
        attained (Some z) e = let w = through.letters c i z lt one most e in (w.0, (w.1, w.2), w.3)

        below : (w : Parts) → IsDayTreeWith g c i w → (v : Option ℤ) → tree_sum p 1 w ≡ v → AtMost (letter_total lay t c i) (tree_sum p 1 w)
        below w q None e = subst (λ (v : Option ℤ). AtMost (letter_total lay t c i) v) (sym e) (AtMost-none (letter_total lay t c i))
        below w q (Some z) e = subst (λ (v : Option ℤ). AtMost (letter_total lay t c i) v) (sym e) (day_reached w z q.0 e (record { code = c; period = i }) q.1)
