-- What a first part and the others must mark, by the symbols of a right side.
use Rattle.std.proofs.Common.{◌≡◌, ℕ, zero, suc, ◌<◌, ◌≤◌, ◌+◌, ◌-◌, Bool, true, List, [], ◌∷◌, Some, arith, subst, sym, ◌⊎◌, inl, inr, length, drop, get_or, add-one}
use Rattle.model_rosters.specs.declared.grammar.Grammar.{Grammar}
use Rattle.model_rosters.specs.declared.grammar.Rule.{Rule}
use Rattle.model_rosters.specs.declared.grammar.Sym.{Sym}
use Rattle.model_rosters.specs.declared.grammar.Sym.TheVariants.{Code, Name}
use Rattle.model_rosters.specs.Grammar.{rule_at}
use Rattle.model_rosters.specs.Sound.{Exists}
use Rattle.model_rosters.proofs.tree_laws.Symbols.{here_last}
use Rattle.tree_span_cells.specs.declared.periods.Periods.{Periods}
use Rattle.tree_span_cells.specs.declared.slot.Layout.{Layout}
use Rattle.tree_span_cells.specs.Cells.{place, name_slot, suffix_slot, IsLayoutOf}
use Rattle.tree_span_arcs.specs.Marks.{HasSome, TreesStand, PartsStand, IsBefore, mark, SymbolMarked, RestMarked, SplitMarked, SplitsMarked, PartsClosed, HasSplit}
use Rattle.tree_span_cells.specs.Periods.{Has}
use Rattle.tree_span_cells.proofs.PartsLemmas.{next-here, two-here}
use Rattle.tree_span_arcs.proofs.StandLemmas.{first-stands, rest-stands, last-stands, only-stands}
use Rattle.tree_span_cells.proofs.Slots.{name_slot-within}

-- the last of several symbols
pub last-of-rest : (g : Grammar) (i l r k : ℕ) (xs : List Sym) (d s : Sym) → 1 ≤ k → k + 1 ≡ length xs → get_or xs k d ≡ s → PartsStand g r k (drop k xs) i l → TreesStand g s i l
last-of-rest g i l r zero xs d s one e at h = absurd (omega arith)
last-of-rest g i l r (suc k) xs d s one e at h = last-stands g i l r k s (subst (λ (q : List Sym). PartsStand g r (suc k) q i l) (here_last xs (suc k) d s e at) h)

-- a name's place on the span is before the end of the span's cells
pub before-end : (g : Grammar) (lay : Layout) → IsLayoutOf g lay → (s : Sym) (i l n : ℕ) → Exists (length g.codes) (length g.names) s → place lay (length lay.slots.items) i l ≤ n → IsBefore lay s i l n
before-end g lay fits (Code c) i l n lt le = tt
before-end g lay fits (Name x) i l n lt le = omega (arith, name_slot-within g lay fits x lt, le)

module _ (xs : List Sym) (k : ℕ) (d s : Sym) (two : k + 2 ≤ length xs) (at : get_or xs k d ≡ s) where
  following : drop (k + 1) xs ≡ get_or xs (suc k) d ∷ drop (suc (suc k)) xs
  following = next-here xs k d s two at

  both : drop k xs ≡ s ∷ get_or xs (suc k) d ∷ drop (suc (suc k)) xs
  both = two-here xs k d s two at

  module _ (g : Grammar) (r i l m n : ℕ) (fits : m + n ≡ l) (stand : PartsStand g r k (drop k xs) i l) where
    stand2 : PartsStand g r k (s ∷ get_or xs (suc k) d ∷ drop (suc (suc k)) xs) i l
    stand2 = subst (λ (q : List Sym). PartsStand g r k q i l) both stand

    -- the first symbol's trees stand where the others derive
    pub first-of-two : HasSome g (drop (k + 1) xs) (i + m) n → TreesStand g s i m
    first-of-two h = first-stands g r k i m n l (get_or xs (suc k) d) (drop (suc (suc k)) xs) fits s stand2 (subst (λ (q : List Sym). HasSome g q (i + m) n) following h)

    -- the others stand where the first symbol derives
    pub rest-of-two : HasSome g (s ∷ []) i m → PartsStand g r (k + 1) (drop (k + 1) xs) (i + m) n
    rest-of-two h =
        let o = rest-stands g r k i m n l (get_or xs (suc k) d) (drop (suc (suc k)) xs) fits s stand2 h in
        subst (λ (q : List Sym). PartsStand g r (k + 1) q (i + m) n) (sym following) (rw add-one o)

  module _ (g : Grammar) (lay : Layout) (ms : List Bool) (r i l : ℕ) where
    -- a suffix of two or more symbols is marked by its slot
    pub rest-by-slot : mark lay ms (suffix_slot lay r k) i l ≡ true → RestMarked lay ms r k (drop k xs) i l
    rest-by-slot h = subst (λ (q : List Sym). RestMarked lay ms r k q i l) (sym both) h

    all-splits : SplitsMarked g lay ms r k s (drop (k + 1) xs) i l l → PartsClosed g lay ms r k (drop k xs) i l
    all-splits h = subst (λ (q : List Sym). PartsClosed g lay ms r k q i l) (sym both) (subst (λ (q : List Sym). SplitsMarked g lay ms r k s q i l l) following h)

    -- a first part and the others
    split_here : (m : ℕ) → 1 ≤ m → m < l → HasSome g (s ∷ []) i m → HasSome g (drop (k + 1) xs) (i + m) (l - m) → HasSplit g (drop k xs) i l m
    split_here m one less a b =
        subst (λ (q : List Sym). HasSplit g q i l m) (sym both) (one, less, a, subst (λ (q : List Sym). HasSome g q (i + m) (l - m)) following b)

    -- no first part is shorter than one period
    pub splits-begin : SplitsMarked g lay ms r k s (drop (k + 1) xs) i l 1
    splits-begin m one less a b = absurd (omega (arith, one, less))

    -- from a split point to the next one nothing is to be marked
    pub splits-skip : (points : Periods) (a b : ℕ) → ((m : ℕ) → HasSplit g (drop k xs) i l m → Has points (i + m) × (1 ≤ m) × (m < l))
        → i + 1 ≤ a → a ≤ b → b ≤ i + l → ((n : ℕ) → a ≤ n → n < i + l → Has points n → b ≤ n)
        → SplitsMarked g lay ms r k s (drop (k + 1) xs) i l (a - i) → SplitsMarked g lay ms r k s (drop (k + 1) xs) i l (b - i)
    splits-skip points a b told low order high first h m one less = by (before m (a - i))
      where
        before : (x y : ℕ) → (x < y) ⊎ (y ≤ x)
        before x y = grind arith

        by : (m < a - i) ⊎ (a - i ≤ m) → SplitMarked g lay ms r k s (drop (k + 1) xs) i m (l - m)
        by (inl lt) = h m one lt
        by (inr le) = λ x y.
            let inside : m < l = omega (arith, less, high, low, order) in
            let has = told m (split_here m one inside x y) in
            let n = first (i + m) (omega (arith, le, low)) (omega (arith, inside)) has.0 in
            absurd (omega (arith, n, less, low, order))

    -- after the last length the parts are closed
    pub splits-end : SplitsMarked g lay ms r k s (drop (k + 1) xs) i l l → PartsClosed g lay ms r k (drop k xs) i l
    splits-end h = all-splits h

-- an only symbol's place is before that of the rule's name
pub only-before : (g : Grammar) (lay : Layout) → IsLayoutOf g lay → (r i l : ℕ) (rule : Rule) (s : Sym) → rule_at g r ≡ Some rule → rule.right ≡ s ∷ []
    → IsBefore lay s i l (place lay (name_slot lay rule.left) i l)
only-before g lay fits r i l rule (Code c) at right = tt
only-before g lay fits r i l rule (Name y) at right = omega (arith, fits.order r y rule at right)

-- an only symbol stands where the right side does
pub only-of-right : (g : Grammar) (r i l : ℕ) (xs : List Sym) (s : Sym) → xs ≡ s ∷ [] → PartsStand g r 0 xs i l → TreesStand g s i l
only-of-right g r i l xs s e h = only-stands g i l r s (subst (λ (q : List Sym). PartsStand g r 0 q i l) e h)

-- and closes it
pub only-closed : (g : Grammar) (lay : Layout) (ms : List Bool) (r i l : ℕ) (xs : List Sym) (s : Sym) → xs ≡ s ∷ [] → SymbolMarked lay ms s i l → PartsClosed g lay ms r 0 xs i l
only-closed g lay ms r i l xs s e h = subst (λ (q : List Sym). PartsClosed g lay ms r 0 q i l) (sym e) h
