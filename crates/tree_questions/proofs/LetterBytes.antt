-- The letters of a tree are the bytes of its word, period by period.
use Rattle.std.proofs.Common.{◌≡◌, ◌⊎◌, inl, inr, ℕ, zero, suc, ◌+◌, ◌<◌, Option, None, Some, List, [], ◌∷◌, ◌++◌, length, length-append, map, arith, refl, sym, ap, subst, ◌∙◌}
use Rattle.std.specs.Prelude.{slice_get}
use Rattle.std.proofs.lemmas.Option.{same_Some}
use Rattle.std.proofs.lemmas.List.{map-append}
use Rattle.model_rosters.specs.declared.grammar.CodeDef.{CodeDef}
use Rattle.model_rosters.specs.declared.grammar.Grammar.{Grammar}
use Rattle.model_rosters.specs.declared.grammar.Sym.{Sym}
use Rattle.model_rosters.specs.declared.grammar.Sym.TheVariants.{Code, Name}
use Rattle.model_rosters.specs.Arcs.{Letter, letters}
use Rattle.model_rosters.specs.Coverage.{code_byte}
use Rattle.model_rosters.specs.Folds.{Each, In}
use Rattle.model_rosters.specs.Sound.{IsSound}
use Rattle.model_rosters.specs.Trees.{Parts, done, letter, uses, span_length, Derive, word}
use Rattle.model_rosters.proofs.EachLemmas.{Each-append, Each-get}
use Rattle.model_rosters.proofs.word_prices.Costs.{Are}
use Rattle.tree_questions.proofs.TreeSums.{code-at, spelled-by, right-are}
use Rattle.model_rosters.specs.tree_laws.Letters.{codes_of, placed}
use Rattle.model_rosters.proofs.tree_laws.LettersLemmas.{placed-append}

-- a letter among placed ones
pub placed-in : (cs : List ℕ) (j i c : ℕ) → In (record { code = c; period = i }) (placed j cs) → (k : ℕ) × (i ≡ j + k) × (slice_get cs k ≡ Some c)
placed-in [] j i c h = absurd h
placed-in (x ∷ cs) j i c (inl e) =
    let period : i ≡ j = ap (λ (l : Letter). l.period) e in
    let code : x ≡ c = sym (ap (λ (l : Letter). l.code) e) in
    (0, omega (arith, period), ap (λ (n : ℕ). Some n) code)
placed-in (x ∷ cs) j i c (inr h) =
    let r = placed-in cs (j + 1) i c h in
    (suc r.0, omega (arith, r.1), r.2)

pub in-placed : (cs : List ℕ) (j k c : ℕ) → slice_get cs k ≡ Some c → In (record { code = c; period = j + k }) (placed j cs)
in-placed [] j k c e = cc
in-placed (x ∷ cs) j zero c e =
    let code : c ≡ x = sym (same_Some x c e) in
    let period : j + 0 ≡ j = omega arith in
    inl (both c x (j + 0) j code period)
  where
    both : (a b m n : ℕ) → a ≡ b → m ≡ n → ◌≡◌ {A = Letter} (record { code = a; period = m }) (record { code = b; period = n })
    both a b m n e f = cc
in-placed (x ∷ cs) j (suc k) c e =
    let period : j + 1 + k ≡ j + suc k = omega arith in
    inr (subst (λ (n : ℕ). In (record { code = c; period = n }) (placed (j + 1) cs)) period (in-placed cs (j + 1) k c e))

mapped : (f : ℕ → ℕ) (cs : List ℕ) (k c : ℕ) → slice_get cs k ≡ Some c → slice_get (map f cs) k ≡ Some (f c)
mapped f [] k c e = cc
mapped f (x ∷ cs) zero c e = ap (λ (n : ℕ). Some (f n)) (same_Some x c e)
mapped f (x ∷ cs) (suc k) c e = mapped f cs k c e

unmapped : (f : ℕ → ℕ) (cs : List ℕ) (k b : ℕ) → slice_get (map f cs) k ≡ Some b → (c : ℕ) × (slice_get cs k ≡ Some c) × (f c ≡ b)
unmapped f [] k b e = cc
unmapped f (x ∷ cs) zero b e = (x, refl, same_Some (f x) b e)
unmapped f (x ∷ cs) (suc k) b e = unmapped f cs k b e

module _ (g : Grammar) (sound : IsSound g) where
  record Spelled (i : ℕ) (t : Parts) : Type 0 where
    long : length (codes_of t) ≡ span_length t
    letters_are : letters i t ≡ placed i (codes_of t)
    spelled : word g t ≡ map (code_byte g) (codes_of t)
    valid : Each (λ c. c < length g.codes) (codes_of t)

  byte_is : (c : ℕ) (d : CodeDef) → slice_get g.codes c ≡ Some d → code_byte g c ≡ d.byte
  byte_is c d at = ap (λ (o : Option CodeDef). elim o as (λ v. ℕ) [ None ↦ 0 | Some d ↦ d.byte ]) at

  spell : (t : Parts) (ss : List Sym) (i : ℕ) → Are g sound ss → Derive g ss i t → Spelled i t
  spell done ss i v d = record { long = refl; letters_are = refl; spelled = refl; valid = tt }
  spell (letter c rest) [] i v d = absurd d
  spell (letter c rest) (Name x ∷ ss) i v d = absurd d
  spell (letter c rest) (Code b ∷ ss) i v d =
      let more = spell rest ss (i + 1) v.1 d.1 in
      let here : c < length g.codes = rw (← d.0) v.0 in
      let def = code-at g c here in
      let own : Letter = record { code = c; period = i } in
      let byte = spelled-by g c def.0 def.1 ∙ ap (λ (n : ℕ). n ∷ []) (sym (byte_is c def.0 def.1)) in
      record {
        long = omega (arith, more.long);
        letters_are = ap (λ (ls : List Letter). own ∷ ls) more.letters_are;
        spelled = ap (λ (xs : List ℕ). xs ++ word g rest) byte ∙ ap (λ (xs : List ℕ). code_byte g c ∷ xs) more.spelled;
        valid = (here, more.valid);
      }
  spell (uses q n inner rest) [] i v d = absurd d
  spell (uses q n inner rest) (Code b ∷ ss) i v d = absurd d
  spell (uses q n inner rest) (Name x ∷ ss) i v d =
      let more = spell rest ss (i + n) v.1 d.7 in
      let inside = spell inner d.0.right i (right-are g sound q d.0 d.1) d.6 in
      let len : i + n ≡ i + length (codes_of inner) = omega (arith, inside.long, d.5) in
      record {
        long = length-append (codes_of inner) (codes_of rest) ∙ omega (arith, inside.long, more.long, d.5);
        letters_are = ap (λ (ls : List Letter). ls ++ letters (i + n) rest) inside.letters_are ∙ ap (λ (ls : List Letter). placed i (codes_of inner) ++ ls) more.letters_are
            ∙ ap (λ (j : ℕ). placed i (codes_of inner) ++ placed j (codes_of rest)) len ∙ sym (placed-append i (codes_of inner) (codes_of rest));
        spelled = ap (λ (xs : List ℕ). xs ++ word g rest) inside.spelled ∙ ap (λ (xs : List ℕ). map (code_byte g) (codes_of inner) ++ xs) more.spelled ∙ sym (map-append (code_byte g) (codes_of inner) (codes_of rest));
        valid = Each-append (λ c. c < length g.codes) (codes_of inner) (codes_of rest) inside.valid more.valid;
      }

  -- two codes with one byte are one
  same_code : (b c : ℕ) (d e : CodeDef) → slice_get g.codes b ≡ Some d → slice_get g.codes c ≡ Some e → d.byte ≡ e.byte → b ≡ c
  same_code b c d e at there same = by (order b c)
    where
      order : (m n : ℕ) → (m < n) ⊎ ((m ≡ n) ⊎ (n < m))
      order m n = grind arith

      by : (b < c) ⊎ ((b ≡ c) ⊎ (c < b)) → b ≡ c
      by (inl h) = absurd (sound.codes.apart b c d e h at there same)
      by (inr (inl h)) = h
      by (inr (inr h)) = absurd (sound.codes.apart c b e d h there at (sym same))

  module _ (t : Parts) (ss : List Sym) (v : Are g sound ss) (d : Derive g ss 1 t) (c : ℕ) (def : CodeDef) (at : slice_get g.codes c ≡ Some def) where
    own : Spelled 1 t
    own = spell t ss 1 v d

    -- a letter at a period is its byte there
    pub letter-byte : (i : ℕ) → In (record { code = c; period = i }) (letters 1 t) → (k : ℕ) × (i ≡ suc k) × (slice_get (word g t) k ≡ Some def.byte)
    letter-byte i h =
        let r = placed-in (codes_of t) 1 i c (subst (λ (ls : List Letter). In (record { code = c; period = i }) ls) own.letters_are h) in
        let b = mapped (code_byte g) (codes_of t) r.0 c r.2 in
        (r.0, omega (arith, r.1), ap (λ (w : List ℕ). slice_get w r.0) own.spelled ∙ b ∙ ap (λ (n : ℕ). Some n) (byte_is c def at))

    -- and a byte is the letter of the code that has it
    pub byte-letter : (k : ℕ) → slice_get (word g t) k ≡ Some def.byte → In (record { code = c; period = suc k }) (letters 1 t)
    byte-letter k h =
        let r = unmapped (code_byte g) (codes_of t) k def.byte (sym (ap (λ (w : List ℕ). slice_get w k) own.spelled) ∙ h) in
        let here = Each-get (λ x. x < length g.codes) (codes_of t) k r.0 own.valid r.1 in
        let other = code-at g r.0 here in
        let same : r.0 ≡ c = same_code r.0 c other.0 def other.1 at (sym (byte_is r.0 other.0 other.1) ∙ r.2) in
        let there = in-placed (codes_of t) 1 k c (r.1 ∙ ap (λ (n : ℕ). Some n) same) in
        let period : 1 + k ≡ suc k = omega arith in
        subst (λ (ls : List Letter). In (record { code = c; period = suc k }) ls) (sym own.letters_are)
        (subst (λ (n : ℕ). In (record { code = c; period = n }) (placed 1 (codes_of t))) period there)
