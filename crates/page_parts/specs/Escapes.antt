-- Bytes of the texts as they stand on a page, and what a page is without them.
use Rattle.std.specs.Prelude.{ℕ, ◌≡◌, ◌≢◌, List, [], ◌∷◌, ◌++◌, codes, map}
use Rattle.model_rosters.specs.Folds.{Each, In}
use Rattle.model_rosters.specs.declared.grammar.CodeDef.{CodeDef}
use Rattle.page_parts.specs.Elements.{Element, marks, given, number, units, bar, caption, figure}

-- what stands for `<`, `>`, `&`, `"` and `'`
abbrev pub references : List (List ℕ)
references = codes "&lt;" ∷ codes "&gt;" ∷ codes "&amp;" ∷ codes "&quot;" ∷ codes "&#39;" ∷ []

-- the bytes begin with a reference
pub record BeginWithReference (bytes : List ℕ) : Type 0 where
  pub reference : List ℕ
  pub rest : List ℕ
  pub listed : In reference references
  pub whole : bytes ≡ reference ++ rest

-- none of `<`, `>`, `"` and `'`
pub record IsNoMark (byte : ℕ) : Type 0 where
  pub less : byte ≢ 60
  pub greater : byte ≢ 62
  pub double : byte ≢ 34
  pub single : byte ≢ 39

-- no byte begins or ends a mark or the value of an attribute, and each `&` begins a reference
pub record AreEscaped (bytes : List ℕ) : Type 0 where
  pub no_mark : Each IsNoMark bytes
  pub ampersands : (front rest : List ℕ) → bytes ≡ front ++ 38 ∷ rest → BeginWithReference (38 ∷ rest)

-- an element without the bytes of the texts
abbrev pub mark_of : Element → Element
mark_of (marks bytes) = marks bytes
mark_of (given bytes) = given []
mark_of (number n) = number n
mark_of (units d n) = units d n
mark_of (bar class a) = bar class a
mark_of (caption class x y bytes) = caption class x y []
mark_of (figure class x y n) = figure class x y n

-- what stands outside of the bytes of the texts: marks, words and numbers of the page's own
abbrev pub marks_of : List Element → List Element
marks_of es = map mark_of es

-- different bytes become different ones
abbrev pub IsOneToOne : (ℕ → ℕ) → Type 0
IsOneToOne f = (a b : ℕ) → f a ≡ f b → a ≡ b

-- the codes in their order with other bytes
abbrev pub recoded : (ℕ → ℕ) → List CodeDef → List CodeDef
recoded f cs = map (λ (c : CodeDef). record c { byte = f c.byte }) cs
