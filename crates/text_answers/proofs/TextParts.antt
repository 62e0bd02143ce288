-- A text that grows by parts.
use Rattle.std.proofs.Common.{◌≡◌, ℕ, Result, Ok, Err, OnOk, List, ◌++◌, append_assoc, ap, ◌∙◌}

module _ {T E : Type 0} where
  -- three parts, one after another
  pub three : (r : Result T E) (new older old first second third : List ℕ) → older ≡ (old ++ first) ++ second → OnOk r (new ≡ older ++ third) → OnOk r (new ≡ old ++ (first ++ second ++ third))
  three (Err e) new older old first second third is h = h
  three (Ok x) new older old first second third is h =
      h ∙ ap (λ t. t ++ third) (is ∙ append_assoc old first second) ∙ append_assoc old (first ++ second) third
