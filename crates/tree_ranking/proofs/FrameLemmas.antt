-- What a frame derives, by its first part.
use Rattle.std.proofs.Common.{◌≡◌, ℕ, zero, suc, ℤ, pos, ◌+ℤ◌, ◌≤◌, ◌+◌, ◌-◌, List, [], ◌∷◌, Option, None, Some, arith, refl, subst, sym, ap, ◌∙◌, drop}
use Rattle.std.specs.Prelude.{slice_get, true, false}
use Rattle.std.specs.Option.{is_some}
use Rattle.std.proofs.lemmas.Int.{ints}
use Rattle.std.proofs.lemmas.Option.{same_Some}
use Rattle.model_rosters.specs.declared.grammar.Grammar.{Grammar}
use Rattle.model_rosters.specs.declared.grammar.Rule.{Rule}
use Rattle.model_rosters.specs.declared.grammar.Sym.{Sym}
use Rattle.model_rosters.specs.declared.grammar.Sym.TheVariants.{Code, Name}
use Rattle.model_rosters.specs.Grammar.{rule_at}
use Rattle.model_rosters.specs.Trees.{Parts, done, letter, uses, span_length, Derive, On}
use Rattle.model_rosters.specs.Sums.{PriceView, parts_sum, arc_sum, plus, AtMost, PartsLeast, SymbolLeast}
use Rattle.model_rosters.specs.tree_laws.Laws.{arc_at}
use Rattle.model_rosters.proofs.tree_laws.LeastValues.{IsLeast-empty}
use Rattle.model_rosters.proofs.tree_laws.Ends.{last-least}
use Rattle.tree_ranking.specs.Frames.{right_of}

-- a symbol at a place begins what is from there on
pub symbol-here : (xs : List Sym) (k : ℕ) (s : Sym) → slice_get xs k ≡ Some s → drop k xs ≡ s ∷ drop (suc k) xs
symbol-here [] zero s e = cc
symbol-here [] (suc k) s e = cc
symbol-here (x ∷ xs) zero s e = ap (λ q. q ∷ xs) (same_Some x s e)
symbol-here (x ∷ xs) (suc k) s e = symbol-here xs k s e

pub symbol-none : (xs : List Sym) (k : ℕ) → slice_get xs k ≡ None → drop k xs ≡ []
symbol-none [] zero e = refl
symbol-none [] (suc k) e = refl
symbol-none (x ∷ xs) zero e = cc
symbol-none (x ∷ xs) (suc k) e = symbol-none xs k e

pub right-is : (g : Grammar) (q : ℕ) (rule : Rule) → rule_at g q ≡ Some rule → right_of g q ≡ rule.right
right-is g zero rule e = cc
right-is g (suc q) rule e = rw e

-- a sum of two that is there
pub plus-parts : (u v : Option ℤ) (z : ℤ) → plus u v ≡ Some z → (a : ℤ) × (b : ℤ) × (u ≡ Some a) × (v ≡ Some b) × (z ≡ a +ℤ b)
plus-parts None v z e = cc
plus-parts (Some a) None z e = cc
plus-parts (Some a) (Some b) z e = (a, b, refl, refl, sym (same_Some (a +ℤ b) z e))

pub plus-both : (u v : Option ℤ) (a b : ℤ) → u ≡ Some a → v ≡ Some b → plus u v ≡ Some (a +ℤ b)
plus-both u v a b e f = ap (λ q. plus q v) e ∙ ap (λ q. plus (Some a) q) f

-- all parts of the same symbols on a span go with the same arc
pub arc-same : (g : Grammar) (p : PriceView) (r k i m : ℕ) (ss : List Sym) (j n : ℕ) (t u : Parts) → On g ss j n t → On g ss j n u
    → arc_sum p r k i m t ≡ arc_sum p r k i m u
arc-same g p r zero i m ss j n t u h o = ap (λ q. p.arc_of (arc_at r 0 i (m + q) m)) (h.1 ∙ sym o.1)
arc-same g p r (suc k) i m [] j n done done h o = refl
arc-same g p r (suc k) i m [] j n (letter d t) u h o = absurd h.0
arc-same g p r (suc k) i m [] j n (uses q z a t) u h o = absurd h.0
arc-same g p r (suc k) i m [] j n done (letter d t) h o = absurd o.0
arc-same g p r (suc k) i m [] j n done (uses q z a t) h o = absurd o.0
arc-same g p r (suc k) i m (Code c ∷ ss) j n done u h o = absurd h.0
arc-same g p r (suc k) i m (Name c ∷ ss) j n done u h o = absurd h.0
arc-same g p r (suc k) i m (Code c ∷ ss) j n (uses q z a t) u h o = absurd h.0
arc-same g p r (suc k) i m (Name c ∷ ss) j n (letter d t) u h o = absurd h.0
arc-same g p r (suc k) i m (Code c ∷ ss) j n (letter d t) done h o = absurd o.0
arc-same g p r (suc k) i m (Code c ∷ ss) j n (letter d t) (uses q z a u) h o = absurd o.0
arc-same g p r (suc k) i m (Code c ∷ ss) j n (letter d t) (letter d' u) h o = ap (λ q. p.arc_of (arc_at r (suc k) i (m + q) m)) (h.1 ∙ sym o.1)
arc-same g p r (suc k) i m (Name c ∷ ss) j n (uses q z a t) done h o = absurd o.0
arc-same g p r (suc k) i m (Name c ∷ ss) j n (uses q z a t) (letter d u) h o = absurd o.0
arc-same g p r (suc k) i m (Name c ∷ ss) j n (uses q z a t) (uses q' z' a' u) h o = ap (λ y. p.arc_of (arc_at r (suc k) i (m + y) m)) (h.1 ∙ sym o.1)

module _ (g : Grammar) (p : PriceView) (r k i l : ℕ) where
  -- no symbol derives no part
  pub nothing-on : (t : Parts) → On g [] i l t → t ≡ done
  nothing-on done h = refl
  nothing-on (letter d t) h = absurd h.0
  nothing-on (uses q z a t) h = absurd h.0

  pub nothing-least : (a : ℤ) → PartsLeast g p r k [] i l (Some a) → a ≡ pos 0
  nothing-least a h = same_Some a (pos 0) (sym h.attained.2 ∙ ap (λ t. parts_sum p r k i t) (nothing-on h.attained.0 h.attained.1))

  -- a letter and the parts after it
  pub letter-on : (c : ℕ) (ss : List Sym) (t : Parts) → On g (Code c ∷ ss) i l t → (u : Parts) × (t ≡ letter c u) × On g ss (i + 1) (l - 1) u × (1 ≤ l)
  letter-on c ss done h = absurd h.0
  letter-on c ss (uses q z a u) h = absurd h.0
  letter-on c ss (letter d u) h = (u, ap (λ q. letter q u) (sym h.0.0), (h.0.1, omega (arith, h.1)), omega (arith, h.1))

  pub on-letter : (c : ℕ) (ss : List Sym) (u : Parts) → 1 ≤ l → On g ss (i + 1) (l - 1) u → On g (Code c ∷ ss) i l (letter c u)
  on-letter c ss u some h = ((refl, h.0), omega (arith, h.1))

  -- what the letter and its arc bring, and the least sum after them
  pub record IsLetter (c : ℕ) (ss : List Sym) (a : ℤ) : Type 0 where
    pub price : ℤ
    pub rest : ℤ
    pub some : 1 ≤ l
    pub rest_least : PartsLeast g p r (suc k) ss (i + 1) (l - 1) (Some rest)
    pub sum : a ≡ price +ℤ rest
    pub each : (u : Parts) → On g ss (i + 1) (l - 1) u → parts_sum p r k i (letter c u) ≡ plus (Some price) (parts_sum p r (suc k) (i + 1) u)

  letter_sum : (x y : Option ℤ) (e : ℤ) (b : ℤ) → x ≡ Some b → plus x (plus (Some e) y) ≡ plus (Some (b +ℤ e)) y
  letter_sum x None e b h = rw h refl
  letter_sum x (Some z) e b h = rw h (ap Some (omega (arith, ints)))

  below : (price a rest : ℤ) (v w : Option ℤ) → a ≡ price +ℤ rest → w ≡ plus (Some price) v → AtMost (Some a) w → AtMost (Some rest) v
  below price a rest None w e f h = tt
  below price a rest (Some z) w e f h = let q : AtMost (Some a) (Some (price +ℤ z)) = subst (λ o. AtMost (Some a) o) f h in omega (arith, ints, q, e)

  pub letter-least : (c : ℕ) (ss : List Sym) (a : ℤ) → PartsLeast g p r k (Code c ∷ ss) i l (Some a) → IsLetter c ss a
  letter-least c ss a h =
      let t = letter-on c ss h.attained.0 h.attained.1 in
      let sum : parts_sum p r k i (letter c t.0) ≡ Some a = ap (λ q. parts_sum p r k i q) (sym t.1) ∙ h.attained.2 in
      let parts = plus-parts (p.letter_at c i) (plus (Some (arc_sum p r k i 1 t.0)) (parts_sum p r (suc k) (i + 1) t.0)) a sum in
      let more = plus-parts (Some (arc_sum p r k i 1 t.0)) (parts_sum p r (suc k) (i + 1) t.0) parts.1 parts.3 in
      let arc : arc_sum p r k i 1 t.0 ≡ more.0 = same_Some _ _ more.2 in
      let each : (u : Parts) → On g ss (i + 1) (l - 1) u → parts_sum p r k i (letter c u) ≡ plus (Some (parts.0 +ℤ more.0)) (parts_sum p r (suc k) (i + 1) u) =
      λ u o. ap (λ q. plus (p.letter_at c i) (plus (Some q) (parts_sum p r (suc k) (i + 1) u))) (arc-same g p r k i 1 ss (i + 1) (l - 1) u t.0 o t.2 ∙ arc)
      ∙ letter_sum (p.letter_at c i) (parts_sum p r (suc k) (i + 1) u) more.0 parts.0 parts.2 in
      let total : a ≡ (parts.0 +ℤ more.0) +ℤ more.1 = omega (arith, ints, parts.4, more.4) in
      record {
        price = parts.0 +ℤ more.0;
        rest = more.1;
        some = t.3;
        rest_least = record {
          attained = (t.0, t.2, more.3);
          least = λ u o. below (parts.0 +ℤ more.0) a more.1 (parts_sum p r (suc k) (i + 1) u) (parts_sum p r k i (letter c u)) total (each u o) (h.least (letter c u) (on-letter c ss u t.3 o));
        };
        sum = total;
        each = each;
      }

  -- a rule use and the parts after it
  pub record IsUse (x : ℕ) (ss : List Sym) (t : Parts) : Type 0 where
    pub rule_number : ℕ
    pub len : ℕ
    pub inner : Parts
    pub rest : Parts
    pub is : t ≡ uses rule_number len inner rest
    pub on : On g (Name x ∷ ss) i l (uses rule_number len inner rest)

  pub use-on : (x : ℕ) (ss : List Sym) (t : Parts) → On g (Name x ∷ ss) i l t → IsUse x ss t
  use-on x ss done h = absurd h.0
  use-on x ss (letter d t) h = absurd h.0
  use-on x ss (uses q m t u) h = record { rule_number = q; len = m; inner = t; rest = u; is = refl; on = h }

some_covered : (g : Grammar) (s : Sym) (ss : List Sym) (i : ℕ) (t : Parts) → Derive g (s ∷ ss) i t → 1 ≤ span_length t
some_covered g (Code c) ss i done h = absurd h
some_covered g (Name c) ss i done h = absurd h
some_covered g (Code c) ss i (letter d t) h = omega arith
some_covered g (Name c) ss i (letter d t) h = absurd h
some_covered g (Code c) ss i (uses q z a t) h = absurd h
some_covered g (Name c) ss i (uses q z a t) h = omega (arith, h.4)

module _ (g : Grammar) (p : PriceView) (i l : ℕ) where
  -- at the end of a frame
  pub end-least : (r k : ℕ) (ss : List Sym) → ss ≡ [] → l ≡ 0 → PartsLeast g p r k ss i l (Some (pos 0))
  end-least r k ss e z = rw (e, z) (record { attained = (done, (tt, refl), refl); least = λ t h. subst (λ q. AtMost (Some (pos 0)) (parts_sum p r k i q)) (sym (nothing-on g p r k i 0 t h)) (omega (arith, ints)) })

  pub end-none : (r k : ℕ) (ss : List Sym) → ss ≡ [] → (l ≡ 0 → ⊥) → PartsLeast g p r k ss i l None
  end-none r k ss e z = rw e (IsLeast-empty (On g [] i l) (parts_sum p r k i) (λ t h. z (never t h)))
    where
      never : (t : Parts) → On g [] i l t → l ≡ 0
      never done h = sym h.1
      never (letter d t) h = absurd h.0
      never (uses q z a t) h = absurd h.0

  -- no symbol derives an empty span
  pub empty-none : (r k : ℕ) (s : Sym) (ss rest : List Sym) → ss ≡ s ∷ rest → l ≡ 0 → PartsLeast g p r k ss i l None
  empty-none r k s ss rest e z = rw e (IsLeast-empty (On g (s ∷ rest) i l) (parts_sum p r k i) (λ t h. omega (arith, some_covered g s rest i t h.0, h.1, z)))

  -- the start name on the day
  pub day-frame : (k : ℕ) (s : Sym) (a : Option ℤ) → 1 ≤ k → slice_get (right_of g 0) k ≡ Some s → SymbolLeast g p s i l a → PartsLeast g p 0 k (drop k (right_of g 0)) i l a
  day-frame zero s a some e h = absurd (omega arith)
  day-frame (suc zero) s a some e h = let same : Name g.start ≡ s = same_Some (Name g.start) s e in rw same (last-least g p i l 0 0 s a h)
  day-frame (suc (suc zero)) s a some e h = cc
  day-frame (suc (suc (suc k))) s a some e h = cc

-- the symbols of the day are its start name
pub day-symbol : (g : Grammar) (k : ℕ) (s : Sym) → slice_get (right_of g 0) k ≡ Some s → s ≡ Name g.start
day-symbol g zero s e = sym (same_Some (Name g.start) s e)
day-symbol g (suc zero) s e = sym (same_Some (Name g.start) s e)
day-symbol g (suc (suc zero)) s e = cc
day-symbol g (suc (suc (suc k))) s e = cc

-- the last part of several has no arc
pub no-arc : (g : Grammar) (p : PriceView) (r k i m j n : ℕ) (ss : List Sym) (t : Parts) → 1 ≤ k → ss ≡ [] → On g ss j n t → arc_sum p r k i m t ≡ pos 0
no-arc g p r zero i m j n ss t some e h = absurd (omega arith)
no-arc g p r (suc k) i m j n ss t some e h = let none : t ≡ done = nothing-on g p r k j n t (subst (λ q. On g q j n t) e h) in ap (λ q. arc_sum p r (suc k) i m q) none

-- the arc of a part that others follow, or of an only part
pub own-arc : (g : Grammar) (p : PriceView) (r k i m j n l : ℕ) (s : Sym) (ss rest : List Sym) (t : Parts) → m + n ≡ l → ss ≡ s ∷ rest → On g ss j n t
    → arc_sum p r k i m t ≡ p.arc_of (arc_at r k i l m)
own-arc g p r k i m j n l s ss rest t fits e h = at_least k (subst (λ q. On g q j n t) e h)
  where
    at_least : (k : ℕ) → On g (s ∷ rest) j n t → arc_sum p r k i m t ≡ p.arc_of (arc_at r k i l m)
    at_least zero o = ap (λ q. p.arc_of (arc_at r 0 i q m)) (omega (arith, o.1, fits))
    at_least (suc k) o = later t o
      where
        later : (t : Parts) → On g (s ∷ rest) j n t → arc_sum p r (suc k) i m t ≡ p.arc_of (arc_at r (suc k) i l m)
        later done o = absurd (omega (arith, some_covered g s rest j done o.0))
        later (letter d t) o = ap (λ q. p.arc_of (arc_at r (suc k) i q m)) (omega (arith, o.1, fits))
        later (uses q z a t) o = ap (λ y. p.arc_of (arc_at r (suc k) i y m)) (omega (arith, o.1, fits))

pub only-arc : (p : PriceView) (r k i m n l : ℕ) (t : Parts) → k ≡ 0 → m + n ≡ l → span_length t ≡ n → arc_sum p r k i m t ≡ p.arc_of (arc_at r k i l m)
only-arc p r zero i m n l t z fits o = ap (λ q. p.arc_of (arc_at r 0 i q m)) (omega (arith, o, fits))
only-arc p r (suc k) i m n l t z fits o = absurd (omega (arith, z))

pub none-of : {A : Type 0} (o : Option A) → is_some o ≡ false → o ≡ None
none-of None e = refl
none-of (Some x) e = cc

pub some-of : {A : Type 0} (o : Option A) → is_some o ≡ true → (x : A) × (o ≡ Some x)
some-of None e = cc
some-of (Some x) e = (x, refl)
