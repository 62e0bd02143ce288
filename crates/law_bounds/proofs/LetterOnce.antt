-- A letter of a cell stands at most once in a tree of the day.
use Rattle.std.proofs.Common.{◌≡◌, ℕ, arith, ◌+◌, ◌≤◌, ◌<◌, Bool, true, false, cond, List, [], ◌∷◌, ◌++◌, length, refl, ◌⊎◌, inl, inr}
use Rattle.std.specs.Prelude.{nat_eq, ◌&&◌, ◌≢◌}
use Rattle.std.proofs.lemmas.Bool.Decides.{eqb_tells}
use Rattle.model_rosters.specs.declared.grammar.Grammar.{Grammar}
use Rattle.model_rosters.specs.declared.grammar.Sym.{Sym}
use Rattle.model_rosters.specs.declared.grammar.Sym.TheVariants.{Code, Name}
use Rattle.model_rosters.specs.declared.instance.Cell.{Cell}
use Rattle.model_rosters.specs.Trees.{Parts, done, letter, uses, span_length, Derive, IsDayTree}
use Rattle.model_rosters.specs.Folds.{count, Each}
use Rattle.model_rosters.specs.Arcs.{letters}
use Rattle.model_rosters.specs.Coverage.{is_at}
use Rattle.model_rosters.specs.arc_laws.TreeLists.{letters_of}
use Rattle.model_rosters.proofs.arc_laws.FoldsLemmas.{count-append}
use Rattle.law_bounds.specs.TreeRosters.{tree_cover}

module _ (g : Grammar) (c : Cell) where
  record Once (i : ℕ) (t : Parts) : Type 0 where
    before : c.period < i → count (is_at c) (letters i t) ≡ 0
    after : i + span_length t ≤ c.period → count (is_at c) (letters i t) ≡ 0
    one : count (is_at c) (letters i t) ≤ 1

  apart : (x i : ℕ) → c.period ≢ i → ◌≡◌ {A = ℕ} (cond (nat_eq c.code x && nat_eq c.period i) 1 0) 0
  apart x i n = by (eqb_tells c.period i) (nat_eq c.code x)
    where
      by : ((nat_eq c.period i ≡ true) × (c.period ≡ i)) ⊎ ((nat_eq c.period i ≡ false) × (c.period ≢ i)) → (b : Bool) → ◌≡◌ {A = ℕ} (cond (b && nat_eq c.period i) 1 0) 0
      by (inl a) b = absurd (n a.1)
      by (inr a) true = rw a.0 refl
      by (inr a) false = refl

  small : (b : Bool) → ◌≤◌ (cond b 1 0) 1
  small true = omega arith
  small false = omega arith

  once : (t : Parts) (ss : List Sym) (i : ℕ) → Derive g ss i t → Once i t
  once done ss i d = record { before = λ h. refl; after = λ h. refl; one = omega arith }
  once (letter x rest) [] i d = absurd d
  once (letter x rest) (Name y ∷ ss) i d = absurd d
  once (letter x rest) (Code b ∷ ss) i d =
      let more = once rest ss (i + 1) d.1 in
      record {
        before = λ h. let a = apart x i (λ e. omega arith) in let r = more.before (omega arith) in omega arith;
        after = λ h. let a = apart x i (λ e. omega arith) in let r = more.after (omega arith) in omega arith;
        one = by more (eqb_tells c.period i);
      }
    where
      by : Once (i + 1) rest → ((nat_eq c.period i ≡ true) × (c.period ≡ i)) ⊎ ((nat_eq c.period i ≡ false) × (c.period ≢ i)) → cond (nat_eq c.code x && nat_eq c.period i) 1 0 + count (is_at c) (letters (i + 1) rest) ≤ 1
      by more (inl a) = let r = more.before (omega (arith, a.1)) in let s = small (nat_eq c.code x && nat_eq c.period i) in omega arith
      by more (inr a) = let r = apart x i a.1 in omega (arith, more.one)
  once (uses q n inner rest) [] i d = absurd d
  once (uses q n inner rest) (Code b ∷ ss) i d = absurd d
  once (uses q n inner rest) (Name x ∷ ss) i d =
      let more = once rest ss (i + n) d.7 in
      let inside = once inner d.0.right i d.6 in
      let s = count-append (is_at c) (letters i inner) (letters (i + n) rest) in
      let e = d.5 in
      record {
        before = λ h. let a = inside.before h in let r = more.before (omega arith) in omega arith;
        after = λ h. let a = inside.after (omega arith) in let r = more.after (omega arith) in omega arith;
        one = by more inside s e (either c.period (i + n));
      }
    where
      either : (a b : ℕ) → (a < b) ⊎ (b ≤ a)
      either a b = grind arith

      by : Once (i + n) rest → Once i inner → count (is_at c) (letters i inner ++ letters (i + n) rest) ≡ count (is_at c) (letters i inner) + count (is_at c) (letters (i + n) rest) → span_length inner ≡ n → (c.period < i + n) ⊎ (i + n ≤ c.period)
          → count (is_at c) (letters i inner ++ letters (i + n) rest) ≤ 1
      by more inside s e (inl h) = let a = more.before h in omega (arith, inside.one)
      by more inside s e (inr h) = let a = inside.after (omega arith) in omega (arith, more.one)

  pub letter_once : (t : Parts) → IsDayTree g t → count (is_at c) (letters 1 t) ≤ 1
  letter_once t d = (once t (Name g.start ∷ []) 1 d.0).one

-- no more trees have a letter than there are
pub cover-le : (g : Grammar) (ts : List Parts) (c : Cell) → Each (IsDayTree g) ts → tree_cover ts c ≤ length ts
cover-le g [] c h = omega arith
cover-le g (t ∷ ts) c h =
    let s = count-append (is_at c) (letters 1 t) (letters_of ts) in
    let o = letter_once g c t h.0 in
    let r = cover-le g ts c h.1 in
    omega (arith, s, o, r)
