-- The word of a tree of the pool, by its codes.
use Rattle.std.proofs.Common.{All, ◌≡◌, ℕ, suc, ◌<◌, ◌+◌, true, Option, None, Some, List, [], ◌∷◌, ◌++◌, arith, refl, subst, sym, ap, ◌∙◌, length, map, take, get_or}
use Rattle.std.proofs.lemmas.Option.{slice_get_within, slice_get-get_or}
use Rattle.std.proofs.lemmas.List.{take_more, map-append}
use Rattle.std.proofs.lemmas.List.Elements.{All-nil, All-cons}
use Rattle.model_rosters.specs.declared.grammar.CodeDef.{CodeDef}
use Rattle.model_rosters.specs.declared.grammar.Grammar.{Grammar}
use Rattle.model_rosters.specs.declared.grammar.Sym.{Sym}
use Rattle.model_rosters.specs.declared.grammar.Sym.TheVariants.{Code, Name}
use Rattle.model_rosters.specs.Trees.{Parts, done, letter, uses, Derive, word, byte_of}
use Rattle.model_rosters.specs.Folds.{Each}
use Rattle.model_rosters.specs.Arcs.{Letter}
use Rattle.model_rosters.specs.Coverage.{code_byte}
use Rattle.model_rosters.specs.Names.{is_code_byte}
use Rattle.model_rosters.specs.Sound.{IsSound}
use Rattle.model_rosters.proofs.EachLemmas.{Each-append}
use Rattle.law_bounds.proofs.ReadyInstances.{IsCode, IsSymbol, HasCodes}
use Rattle.law_bounds.proofs.SoundCodes.{has-codes}
use Rattle.check_certificates.specs.Sound.{IsWordByte}
use Rattle.model_rosters.proofs.tree_laws.Rules.{All-slice_get}
use Rattle.model_rosters.specs.tree_laws.Letters.{codes_of}
use Rattle.tree_pool.specs.Pools.{PoolTree, letters_from, IsPoolTree}
use Rattle.tree_pool.proofs.LettersLemmas.{letters-are, length-codes}

first_code : List Letter → ℕ
first_code [] = 0
first_code (l ∷ ls) = l.code

rest_of : List Letter → List Letter
rest_of [] = []
rest_of (l ∷ ls) = ls

same_letters : (i : ℕ) (xs ys : List ℕ) → letters_from i xs ≡ letters_from i ys → xs ≡ ys
unfolding first_code rest_of
same_letters i [] [] e = refl
same_letters i [] (y ∷ ys) e = cc
same_letters i (x ∷ xs) [] e = cc
same_letters i (x ∷ xs) (y ∷ ys) e =
    let head : x ≡ y = ap first_code e in
    let tail : xs ≡ ys = same_letters (suc i) xs ys (ap rest_of e) in
    cc (head, tail)

module _ (g : Grammar) (sound : IsSound g) where
  byte_is : (c : ℕ) → IsCode g c → byte_of g c ≡ code_byte g c ∷ []
  byte_is c h =
      let a = ap (λ (o : Option CodeDef). elim o as (λ v. List ℕ) [ None ↦ [] | Some d ↦ d.byte ∷ [] ]) h.1 in
      let b = ap (λ (o : Option CodeDef). elim o as (λ v. ℕ) [ None ↦ 0 | Some d ↦ d.byte ]) h.1 in
      a ∙ ap (λ (x : ℕ). x ∷ []) (sym b)

  record Spells (t : Parts) : Type 0 where
    spelled : word g t ≡ map (code_byte g) (codes_of t)
    valid : Each (IsCode g) (codes_of t)

  spell : (t : Parts) (ss : List Sym) (i : ℕ) → Each (IsSymbol g) ss → Derive g ss i t → Spells t
  spell done ss i v d = record { spelled = refl; valid = tt }
  spell (letter c rest) [] i v d = absurd d
  spell (letter c rest) (Name x ∷ ss) i v d = absurd d
  spell (letter c rest) (Code b ∷ ss) i v d =
      let more = spell rest ss (i + 1) v.1 d.1 in
      let code : IsCode g c = subst (λ (x : ℕ). IsCode g x) d.0 v.0 in
      record {
        spelled = ap (λ (xs : List ℕ). xs ++ word g rest) (byte_is c code) ∙ ap (λ (xs : List ℕ). code_byte g c ∷ xs) more.spelled;
        valid = (code, more.valid);
      }
  spell (uses q n inner rest) [] i v d = absurd d
  spell (uses q n inner rest) (Code b ∷ ss) i v d = absurd d
  spell (uses q n inner rest) (Name x ∷ ss) i v d =
      let more = spell rest ss (i + n) v.1 d.7 in
      let has : HasCodes g = has-codes g sound in
      let inside = spell inner d.0.right i (has.symbols q d.0 d.1) d.6 in
      record {
        spelled = ap (λ (xs : List ℕ). xs ++ word g rest) inside.spelled ∙ ap (λ (xs : List ℕ). map (code_byte g) (codes_of inner) ++ xs) more.spelled ∙ sym (map-append (code_byte g) (codes_of inner) (codes_of rest));
        valid = Each-append (IsCode g) (codes_of inner) (codes_of rest) inside.valid more.valid;
      }

  each_all : (P Q : ℕ → Type 0) → ((c : ℕ) → P c → Q c) → (cs : List ℕ) → Each P cs → All Q cs
  each_all P Q f [] h = All-nil Q
  each_all P Q f (c ∷ cs) h = All-cons Q c cs (f c h.0) (each_all P Q f cs h.1)

  each_mapped : (f : ℕ → ℕ) (P Q : ℕ → Type 0) → ((c : ℕ) → P c → Q (f c)) → (cs : List ℕ) → Each P cs → Each Q (map f cs)
  each_mapped f P Q h [] k = tt
  each_mapped f P Q h (c ∷ cs) k = (h c k.0, each_mapped f P Q h cs k.1)

  long_mapped : (f : ℕ → ℕ) (cs : List ℕ) → length (map f cs) ≡ length cs
  long_mapped f [] = refl
  long_mapped f (c ∷ cs) = ap suc (long_mapped f cs)

  fine : (b : ℕ) → is_code_byte b ≡ true → IsWordByte b
  fine b h = grind (arith, h)

  fine_code : (c : ℕ) → IsCode g c → IsWordByte (code_byte g c)
  fine_code c h =
      let e : code_byte g c ≡ h.0.byte = ap (λ (o : Option CodeDef). elim o as (λ v. ℕ) [ None ↦ 0 | Some d ↦ d.byte ]) h.1 in
      subst IsWordByte (sym e) (fine h.0.byte (All-slice_get (λ (d : CodeDef). is_code_byte d.byte ≡ true) g.codes c h.0 sound.codes.bytes h.1))

  module _ (x : PoolTree) (t : Parts) (is : IsPoolTree g t x) where
    codes_are : x.codes ≡ codes_of t
    codes_are = same_letters 1 x.codes (codes_of t) (sym is.letters ∙ letters-are g t (Name g.start ∷ []) 1 is.day.0)

    its : Spells t
    its = spell t (Name g.start ∷ []) 1 (tt, tt) is.day.0

    -- the codes of a tree exist
    pub codes-exist : All (λ c. c < length g.codes) x.codes
    codes-exist = subst (λ (cs : List ℕ). All (λ c. c < length g.codes) cs) (sym codes_are)
        (each_all (IsCode g) (λ c. c < length g.codes) (λ c h. slice_get_within g.codes c h.0 h.1) (codes_of t) its.valid)

    -- their bytes are its word
    pub word-is : word g t ≡ map (code_byte g) x.codes
    word-is = its.spelled ∙ ap (map (code_byte g)) (sym codes_are)

    -- which is one of a text
    pub word-fine : Each IsWordByte (word g t)
    word-fine = subst (λ (w : List ℕ). Each IsWordByte w) (sym its.spelled) (each_mapped (code_byte g) (IsCode g) IsWordByte fine_code (codes_of t) its.valid)

    pub word-long : length (word g t) ≡ g.periods
    word-long = ap length its.spelled ∙ long_mapped (code_byte g) (codes_of t) ∙ length-codes g t (Name g.start ∷ []) 1 is.day.0 ∙ is.day.1

-- the byte of a code that was read
byte_read : (g : Grammar) (c : ℕ) (d : CodeDef) → c < length g.codes → (get_or g.codes c d).byte ≡ code_byte g c
byte_read g c d inside = sym (ap (λ (o : Option CodeDef). elim o as (λ v. ℕ) [ None ↦ 0 | Some e ↦ e.byte ]) (slice_get-get_or g.codes c d inside))

-- the bytes of one code more
pub bytes-next : (g : Grammar) (cs : List ℕ) (k c : ℕ) (d : CodeDef) (defs : List CodeDef) (old new : List ℕ) → k < length cs → c ≡ get_or cs k 0 → c < length g.codes → defs ≡ g.codes
    → old ≡ map (code_byte g) (take k cs) → new ≡ old ++ (get_or defs c d).byte ∷ [] → new ≡ map (code_byte g) (take (k + 1) cs)
bytes-next g cs k c d defs old new inside is there same e f =
    let byte : (get_or defs c d).byte ≡ code_byte g (get_or cs k 0) = ap (λ (q : List CodeDef). (get_or q c d).byte) same ∙ byte_read g c d there ∙ ap (code_byte g) is in
    f ∙ ap (λ (q : List ℕ). q ++ (get_or defs c d).byte ∷ []) e ∙ ap (λ (b : ℕ). map (code_byte g) (take k cs) ++ b ∷ []) byte
    ∙ sym (map-append (code_byte g) (take k cs) (get_or cs k 0 ∷ [])) ∙ ap (map (code_byte g)) (sym (take_more cs k 0 inside))
