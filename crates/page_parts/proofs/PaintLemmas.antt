-- The colours of codes do not depend on the codes' bytes.
use Rattle.std.proofs.Common.{◌≡◌, ℕ, ◌+◌, List, [], ◌∷◌, refl, sym, ap, ◌∙◌, nat_eq, inl, inr}
use Rattle.std.proofs.lemmas.Bool.{eq-eqb}
use Rattle.std.proofs.lemmas.Bool.Decides.{eqb_tells}
use Rattle.std.specs.Prelude.{min}
use Rattle.model_rosters.specs.declared.grammar.CodeDef.{CodeDef}
use Rattle.page_parts.specs.Escapes.{IsOneToOne, recoded}
use Rattle.page_parts.specs.Paints.{paint_from, paint_of}

module _ (f : ℕ → ℕ) (one : IsOneToOne f) where
  pub same_test : (a b : ℕ) → nat_eq (f a) (f b) ≡ nat_eq a b
  same_test a b = elim (eqb_tells a b) [
    | inl h ↦ eq-eqb (f a) (f b) (ap f h.1) ∙ sym h.0
    | inr h ↦ elim (eqb_tells (f a) (f b)) [
      | inl k ↦ absurd (h.1 (one a b k.1))
      | inr k ↦ k.0 ∙ sym h.0
    ]
  ]

  same_from : (cs : List CodeDef) (byte works idles : ℕ) → paint_from (recoded f cs) (f byte) works idles ≡ paint_from cs byte works idles
  same_from [] byte works idles = refl
  same_from (c ∷ cs) byte works idles =
      rw (same_test c.byte byte, same_from cs byte (min (works + 1) 7) idles, same_from cs byte works (min (idles + 1) 4)) refl

  pub same_paint : (cs : List CodeDef) (byte : ℕ) → paint_of (recoded f cs) (f byte) ≡ paint_of cs byte
  same_paint cs byte = same_from cs byte 0 0
