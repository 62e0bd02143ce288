-- A tree has a cell's letter as often as its word has it.
use Rattle.std.proofs.Common.{◌≡◌, ℕ, suc, arith, ◌+◌, ◌-◌, ◌≤◌, ◌<◌, Bool, true, false, cond, Option, None, Some, List, [], ◌∷◌, ◌++◌, length, map, sym, refl, ap, subst, ◌∙◌, ◌⊎◌, inl, inr, length-append}
use Rattle.std.specs.Prelude.{nat_eq, ◌&&◌, ◌≢◌}
use Rattle.std.proofs.lemmas.Bool.Decides.{eqb_tells}
use Rattle.std.proofs.lemmas.List.{map-append}
use Rattle.model_rosters.specs.declared.grammar.Grammar.{Grammar}
use Rattle.model_rosters.specs.declared.grammar.CodeDef.{CodeDef}
use Rattle.model_rosters.specs.declared.grammar.Sym.{Sym}
use Rattle.model_rosters.specs.declared.grammar.Sym.TheVariants.{Code, Name}
use Rattle.model_rosters.specs.declared.instance.Cell.{Cell}
use Rattle.model_rosters.specs.Trees.{Parts, done, letter, uses, span_length, Derive, word, byte_of}
use Rattle.model_rosters.specs.Folds.{count, Each}
use Rattle.model_rosters.specs.Arcs.{Letter, letters}
use Rattle.model_rosters.specs.Coverage.{code_byte, has_at, covers_cell, is_at}
use Rattle.model_rosters.proofs.EachLemmas.{Each-append}
use Rattle.law_bounds.proofs.ReadyInstances.{IsCode, IsSymbol, HasCodes}
use Rattle.model_rosters.specs.tree_laws.Letters.{codes_of, placed}
use Rattle.model_rosters.proofs.tree_laws.LettersLemmas.{placed-append}

module _ (g : Grammar) (has : HasCodes g) where
  record Spelled (i : ℕ) (t : Parts) : Type 0 where
    long : length (codes_of t) ≡ span_length t
    letters_are : letters i t ≡ placed i (codes_of t)
    spelled : word g t ≡ map (code_byte g) (codes_of t)
    valid : Each (IsCode g) (codes_of t)

  byte_is : (c : ℕ) → IsCode g c → byte_of g c ≡ code_byte g c ∷ []
  byte_is c h =
      let a = ap (λ (o : Option CodeDef). elim o as (λ v. List ℕ) [ None ↦ [] | Some d ↦ d.byte ∷ [] ]) h.1 in
      let b = ap (λ (o : Option CodeDef). elim o as (λ v. ℕ) [ None ↦ 0 | Some d ↦ d.byte ]) h.1 in
      a ∙ ap (λ (x : ℕ). x ∷ []) (sym b)

  spell : (t : Parts) (ss : List Sym) (i : ℕ) → Each (IsSymbol g) ss → Derive g ss i t → Spelled i t
  spell done ss i v d = record { long = refl; letters_are = refl; spelled = refl; valid = tt }
  spell (letter c rest) [] i v d = absurd d
  spell (letter c rest) (Name x ∷ ss) i v d = absurd d
  spell (letter c rest) (Code b ∷ ss) i v d =
      let more = spell rest ss (i + 1) v.1 d.1 in
      let code : IsCode g c = subst (λ (x : ℕ). IsCode g x) d.0 v.0 in
      record {
        long = omega (arith, more.long);
        letters_are = ap (λ (xs : List Letter). record { code = c; period = i } ∷ xs) more.letters_are;
        spelled = ap (λ (xs : List ℕ). xs ++ word g rest) (byte_is c code) ∙ ap (λ (xs : List ℕ). code_byte g c ∷ xs) more.spelled;
        valid = (code, more.valid);
      }
  spell (uses q n inner rest) [] i v d = absurd d
  spell (uses q n inner rest) (Code b ∷ ss) i v d = absurd d
  spell (uses q n inner rest) (Name x ∷ ss) i v d =
      let more = spell rest ss (i + n) v.1 d.7 in
      let inside = spell inner d.0.right i (has.symbols q d.0 d.1) d.6 in
      let len : i + length (codes_of inner) ≡ i + n = omega (arith, inside.long, d.5) in
      record {
        long = omega (arith, length-append (codes_of inner) (codes_of rest), inside.long, more.long, d.5);
        letters_are = ap (λ (xs : List Letter). xs ++ letters (i + n) rest) inside.letters_are ∙ ap (λ (xs : List Letter). placed i (codes_of inner) ++ xs) more.letters_are
            ∙ ap (λ (j : ℕ). placed i (codes_of inner) ++ placed j (codes_of rest)) (sym len) ∙ sym (placed-append i (codes_of inner) (codes_of rest));
        spelled = ap (λ (xs : List ℕ). xs ++ word g rest) inside.spelled ∙ ap (λ (xs : List ℕ). map (code_byte g) (codes_of inner) ++ xs) more.spelled ∙ sym (map-append (code_byte g) (codes_of inner) (codes_of rest));
        valid = Each-append (IsCode g) (codes_of inner) (codes_of rest) inside.valid more.valid;
      }

  module _ (c : Cell) (code : IsCode g c.code) where
    same_byte : (x : ℕ) → IsCode g x → nat_eq c.code x ≡ nat_eq (code_byte g x) (code_byte g c.code)
    same_byte x h = pick (eqb_tells c.code x) (eqb_tells (code_byte g x) (code_byte g c.code))
      where
        pick : ((nat_eq c.code x ≡ true) × (c.code ≡ x)) ⊎ ((nat_eq c.code x ≡ false) × (c.code ≢ x))
            → ((nat_eq (code_byte g x) (code_byte g c.code) ≡ true) × (code_byte g x ≡ code_byte g c.code)) ⊎ ((nat_eq (code_byte g x) (code_byte g c.code) ≡ false) × (code_byte g x ≢ code_byte g c.code))
            → nat_eq c.code x ≡ nat_eq (code_byte g x) (code_byte g c.code)
        pick (inl a) (inl b) = a.0 ∙ sym b.0
        pick (inl a) (inr b) = absurd (b.1 (ap (code_byte g) (sym a.1)))
        pick (inr a) (inl b) = absurd (a.1 (sym (has.apart x c.code h code b.1)))
        pick (inr a) (inr b) = a.0 ∙ sym b.0

    late : (i : ℕ) (cs : List ℕ) → c.period < i → count (is_at c) (placed i cs) ≡ 0
    late i [] h = refl
    late i (x ∷ cs) h = pick (eqb_tells c.period i) (nat_eq c.code x) (late (i + 1) cs (omega arith))
      where
        pick : ((nat_eq c.period i ≡ true) × (c.period ≡ i)) ⊎ ((nat_eq c.period i ≡ false) × (c.period ≢ i)) → (b : Bool) → count (is_at c) (placed (i + 1) cs) ≡ 0
            → cond (b && nat_eq c.period i) 1 0 + count (is_at c) (placed (i + 1) cs) ≡ 0
        pick (inl a) b ih = absurd (omega (arith, a.1))
        pick (inr a) true ih = rw a.0 (omega arith)
        pick (inr a) false ih = omega arith

    at_place : (i : ℕ) (cs : List ℕ) → Each (IsCode g) cs → i ≤ c.period → count (is_at c) (placed i cs) ≡ cond (has_at (code_byte g c.code) (map (code_byte g) cs) (c.period - i)) 1 0
    at_place i [] v h = refl
    at_place i (x ∷ cs) v h = pick (eqb_tells c.period i) (λ less. at_place (i + 1) cs v.1 less)
      where
        pick : ((nat_eq c.period i ≡ true) × (c.period ≡ i)) ⊎ ((nat_eq c.period i ≡ false) × (c.period ≢ i))
            → (i + 1 ≤ c.period → count (is_at c) (placed (i + 1) cs) ≡ cond (has_at (code_byte g c.code) (map (code_byte g) cs) (c.period - (i + 1))) 1 0)
            → cond (nat_eq c.code x && nat_eq c.period i) 1 0 + count (is_at c) (placed (i + 1) cs) ≡ cond (has_at (code_byte g c.code) (map (code_byte g) (x ∷ cs)) (c.period - i)) 1 0
        pick (inl a) ih =
            let e : c.period - i ≡ 0 = omega (arith, a.1) in
            let z = late (i + 1) cs (omega (arith, a.1)) in
            rw (e, a.0, same_byte x v.0, z) (only (nat_eq (code_byte g x) (code_byte g c.code)))
          where
            only : (b : Bool) → cond (b && true) 1 0 + 0 ≡ cond b 1 0
            only true = refl
            only false = refl
        pick (inr a) ih =
            let less : i + 1 ≤ c.period = omega (arith, a.1) in
            let e : c.period - i ≡ suc (c.period - (i + 1)) = omega arith in
            rw (e, a.0) (skip (nat_eq c.code x) (ih less))
          where
            skip : (b : Bool) → count (is_at c) (placed (i + 1) cs) ≡ cond (has_at (code_byte g c.code) (map (code_byte g) cs) (c.period - (i + 1))) 1 0
                → cond (b && false) 1 0 + count (is_at c) (placed (i + 1) cs) ≡ cond (has_at (code_byte g c.code) (map (code_byte g) cs) (c.period - (i + 1))) 1 0
            skip true h = omega (arith, h)
            skip false h = omega (arith, h)

    pub tree_has : (x : ℕ) (t : Parts) → Derive g (Name x ∷ []) 1 t → 1 ≤ c.period → count (is_at c) (letters 1 t) ≡ cond (covers_cell g c (word g t)) 1 0
    tree_has x t d h =
        let s = spell t (Name x ∷ []) 1 (tt, tt) d in
        ap (count (is_at c)) s.letters_are ∙ at_place 1 (codes_of t) s.valid h
        ∙ ap (λ (w : List ℕ). cond (has_at (code_byte g c.code) w (c.period - 1)) 1 0) (sym s.spelled)
