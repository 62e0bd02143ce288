-- Split points: where a first part and the others have sums.
use Rattle.std.proofs.Common.{◌≡◌, ◌≢◌, ℕ, suc, ℤ, ◌<◌, ◌≤◌, ◌+◌, ◌-◌, List, Option, None, Some, arith, refl, subst, ◌⊎◌, inl, inr, length, drop, get_or}
use Rattle.std.specs.Prelude.{IsSome}
use Rattle.model_rosters.specs.declared.grammar.Grammar.{Grammar}
use Rattle.model_rosters.specs.declared.grammar.Rule.{Rule}
use Rattle.model_rosters.specs.declared.grammar.Sym.{Sym}
use Rattle.model_rosters.specs.declared.grammar.Sym.TheVariants.{Code, Name}
use Rattle.model_rosters.specs.Grammar.{rule_at}
use Rattle.model_rosters.specs.Sound.{IsSound, Exists}
use Rattle.model_rosters.specs.Sums.{PriceView, plus, SymbolLeast, PartsLeast}
use Rattle.model_rosters.specs.tree_laws.Laws.{arc_at}
use Rattle.model_rosters.proofs.tree_laws.Ends.{code-least, code-none}
use Rattle.model_rosters.proofs.tree_laws.Rules.{sound-symbol}
use Rattle.model_rosters.proofs.tree_laws.Symbols.{here, rest-last}
use Rattle.tree_span_cells.specs.declared.slot.Layout.{Layout}
use Rattle.tree_span_cells.specs.Cells.{Held, IsLayoutOf, Right, cell, spot, name_slot, suffix_slot}
use Rattle.tree_span_cells.specs.Choices.{ChosenPart}
use Rattle.tree_span_cells.specs.Periods.{Has, set_at}
use Rattle.tree_span_cells.specs.Splits.{IsCode}
use Rattle.tree_span_cells.proofs.Slots.{name_slot-within, suffix_slot-within}

one_or_not : (l : ℕ) → (l ≡ 1) ⊎ (l ≢ 1)
one_or_not l = grind arith

-- what is noted where there is a sum is noted, or there is none
pub noted_or_none : (v : Option ℤ) (P : Type 0) → (IsSome v → P) → P ⊎ (v ≡ None)
noted_or_none None P f = inr refl
noted_or_none (Some z) P f = inl (f refl)

module _ (g : Grammar) (p : PriceView) (i l : ℕ) where
  -- the trees of a code have a least sum, or none
  code-value : (c : ℕ) → (v : Option ℤ) × SymbolLeast g p (Code c) i l v
  code-value c = by (one_or_not l)
    where
      by : (l ≡ 1) ⊎ (l ≢ 1) → (v : Option ℤ) × SymbolLeast g p (Code c) i l v
      by (inl e) = (p.letter_at c i, code-least g p i l c e)
      by (inr e) = (None, code-none g p i l c e)

  -- the only end of a code's span is one period on
  pub code-end : (c end : ℕ) → end ≡ i + 1 → (i + l ≡ end) ⊎ SymbolLeast g p (Code c) i l None
  code-end c end e = by (one_or_not l)
    where
      by : (l ≡ 1) ⊎ (l ≢ 1) → (i + l ≡ end) ⊎ SymbolLeast g p (Code c) i l None
      by (inl o) = inl (omega (arith, o, e))
      by (inr o) = inr (code-none g p i l c o)

  -- the only start is one period back
  pub code-start : (c end : ℕ) → i + l ≡ end → (i ≡ end - 1) ⊎ SymbolLeast g p (Code c) i l None
  code-start c end e = by (one_or_not l)
    where
      by : (l ≡ 1) ⊎ (l ≢ 1) → (i ≡ end - 1) ⊎ SymbolLeast g p (Code c) i l None
      by (inl o) = inl (omega (arith, o, e))
      by (inr o) = inr (code-none g p i l c o)

  module _ (lay : Layout) (fits : IsLayoutOf g lay) (h : Held) (right : Right g p lay h i l) where
    -- so have those of a symbol
    pub symbol-value : (s : Sym) → Exists (length g.codes) (length g.names) s → (v : Option ℤ) × SymbolLeast g p s i l v
    symbol-value (Name x) lt = (_, right.names x lt)
    symbol-value (Code c) lt = code-value c

    -- and the parts of a suffix
    pub rest-value : (r k : ℕ) (rule : Rule) → IsSound g → rule_at g r ≡ Some rule → 1 ≤ k → k < length rule.right
        → (v : Option ℤ) × PartsLeast g p r k (drop k rule.right) i l v
    rest-value r k rule sound at one lt = by (last_or_not (length rule.right) k lt)
      where
        last_or_not : (n k : ℕ) → k < n → (k + 1 ≡ n) ⊎ (k + 2 ≤ n)
        last_or_not n k lt = grind arith

        by : (k + 1 ≡ length rule.right) ⊎ (k + 2 ≤ length rule.right) → (v : Option ℤ) × PartsLeast g p r k (drop k rule.right) i l v
        by (inr two) = (_, right.suffixes r k rule at one two)
        by (inl last) =
            let s = get_or rule.right k (Code 0) in
            let v = symbol-value s (sound-symbol g sound r k rule s (drop (suc k) rule.right) at (here rule.right k (Code 0) s lt refl)) in
            (v.0, rest-last g p i l r k rule.right (Code 0) s v.0 one last refl v.1)

    -- a name's span is noted, or has no sum
    pub name-ends : (x : ℕ) → x < length g.names → Has (set_at h.present.ends.items (spot lay (name_slot lay x) i)) (i + l) ⊎ SymbolLeast g p (Name x) i l None
    name-ends x lt =
        elim (noted_or_none (cell lay h (name_slot lay x) i l) (Has (set_at h.present.ends.items (spot lay (name_slot lay x) i)) (i + l))
        (λ some. (right.noted (name_slot lay x) (name_slot-within g lay fits x lt) some).ends)) [
          | inl k ↦ inl k
          | inr e ↦ inr (subst (λ (v : Option ℤ). SymbolLeast g p (Name x) i l v) e (right.names x lt))
        ]

    pub name-starts : (x : ℕ) → x < length g.names → Has (set_at h.present.starts.items (spot lay (name_slot lay x) (i + l))) i ⊎ SymbolLeast g p (Name x) i l None
    name-starts x lt =
        elim (noted_or_none (cell lay h (name_slot lay x) i l) (Has (set_at h.present.starts.items (spot lay (name_slot lay x) (i + l))) i)
        (λ some. (right.noted (name_slot lay x) (name_slot-within g lay fits x lt) some).starts)) [
          | inl k ↦ inl k
          | inr e ↦ inr (subst (λ (v : Option ℤ). SymbolLeast g p (Name x) i l v) e (right.names x lt))
        ]

    -- so is that of a suffix
    pub suffix-starts : (r k : ℕ) (rule : Rule) → rule_at g r ≡ Some rule → 1 ≤ k → k + 2 ≤ length rule.right
        → Has (set_at h.present.starts.items (spot lay (suffix_slot lay r k) (i + l))) i ⊎ PartsLeast g p r k (drop k rule.right) i l None
    suffix-starts r k rule at one two =
        elim (noted_or_none (cell lay h (suffix_slot lay r k) i l) (Has (set_at h.present.starts.items (spot lay (suffix_slot lay r k) (i + l))) i)
        (λ some. (right.noted (suffix_slot lay r k) (suffix_slot-within g lay fits r k rule at one two) some).starts)) [
          | inl h ↦ inl h
          | inr e ↦ inr (subst (λ (v : Option ℤ). PartsLeast g p r k (drop k rule.right) i l v) e (right.suffixes r k rule at one two))
        ]

-- there is no sum where a first part or the others have none
no_plus : (a b : Option ℤ) (e : ℤ) → (a ≡ None) ⊎ (b ≡ None) → None ≡ plus a (plus (Some e) b)
no_plus None b e h = refl
no_plus (Some x) None e h = refl
no_plus (Some x) (Some y) e (inl h) = cc
no_plus (Some x) (Some y) e (inr h) = cc

-- so there is none of the split
pub no-split : (g : Grammar) (p : PriceView) (r k : ℕ) (s : Sym) (xs : List Sym) (i l m : ℕ) (v w : Option ℤ) → 1 ≤ m → m < l
    → SymbolLeast g p s i m v → PartsLeast g p r (k + 1) (drop (k + 1) xs) (i + m) (l - m) w → (v ≡ None) ⊎ (w ≡ None) → ChosenPart g p r k s xs i l m None
no-split g p r k s xs i l m v w one less a b none = record {
  head = v;
  tail = w;
  low = one;
  high = less;
  first = a;
  rest = b;
  sum = no_plus v w (p.arc_of (arc_at r k i l m)) none;
}

-- a code stands on one period alone
pub code-alone : (g : Grammar) (p : PriceView) (s : Sym) (i m : ℕ) → IsCode s → m ≢ 1 → SymbolLeast g p s i m None
code-alone g p (Code c) i m code other = code-none g p i m c other
code-alone g p (Name x) i m code other = absurd code
