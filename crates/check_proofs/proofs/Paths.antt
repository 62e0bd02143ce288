-- Paths of cuts over lists of open splits.
use Rattle.std.proofs.Common.{◌≡◌, ℕ, arith, ◌+◌, ◌-◌, List, [], ◌∷◌, ◌++◌, length, take, sym, ap, subst, ◌∙◌}
use Rattle.std.specs.Prelude.{reverse}
use Rattle.std.proofs.lemmas.List.{length-append, length-reverse, reverse-append, take-append-le, length-take-le}
use Rattle.std.proofs.Math.Seq.{take-append_seam}
use Rattle.model_rosters.specs.declared.instance.Cut.{Cut}
use Rattle.check_proofs.specs.declared.frame.Frame.{Frame}
use Rattle.check_proofs.specs.OpenSplits.{path}
use Rattle.check_proofs.specs.Stacks.{IsStack}

pub length-path : (base : List Cut) (st : List Frame) → length (path base st) ≡ length base + length st
length-path base [] = omega arith
length-path base (f ∷ st) = omega (arith, length-append (path base st) (f.cut ∷ []), length-path base st)

module _ (base most r q : ℕ) where
  -- how long the path of a stack is
  pub path-long : (fs : List Frame) (cs : List Cut) → IsStack base most fs cs r q → length cs ≡ base + length fs
  path-long fs cs s =
      let a = length-path (take base cs) (reverse fs) in
      let b = ap (λ (xs : List Cut). length xs) s.whole in
      let c = length-take-le base cs s.begins in
      let d = length-reverse fs in
      omega arith

  -- a stack without its innermost split
  pub popped : (fs gs : List Frame) (f : Frame) (cs ds : List Cut) (n : ℕ) → IsStack base most fs cs r q → fs ≡ gs ++ f ∷ [] → n ≡ length cs → ds ≡ take (n - 1) cs
      → IsStack base most gs ds r q × (take base ds ≡ take base cs) × (reverse fs ≡ f ∷ reverse gs)
  popped fs gs f cs ds n s e m d =
      let p = path (take base cs) (reverse gs) in
      let turned : reverse fs ≡ f ∷ reverse gs = ap (λ (xs : List Frame). reverse xs) e ∙ reverse-append gs (f ∷ []) in
      let whole : p ++ f.cut ∷ [] ≡ cs = subst (λ (xs : List Frame). path (take base cs) xs ≡ cs) turned s.whole in
      let long : length p ≡ base + length (reverse gs) = length-path (take base cs) (reverse gs) ∙ ap (λ (n : ℕ). n + length (reverse gs)) (length-take-le base cs s.begins) in
      let more = ap (λ (xs : List Cut). length xs) whole in
      let joined = length-append p (f.cut ∷ []) in
      let last : n - 1 ≡ length p = omega arith in
      let rest : ds ≡ p = d ∙ ap (λ (k : ℕ). take k cs) last ∙ ap (λ (xs : List Cut). take (length p) xs) (sym whole) ∙ take-append_seam p (f.cut ∷ []) in
      let same : take base ds ≡ take base cs = ap (λ (xs : List Cut). take base xs) rest ∙ sym (take-append-le base p (f.cut ∷ []) (omega arith)) ∙ ap (λ (xs : List Cut). take base xs) whole in
      let shorter = ap (λ (xs : List Cut). length xs) rest in
      (record { begins = omega arith; whole = ap (λ (xs : List Cut). path xs (reverse gs)) same ∙ sym rest; splits = s.splits; cuts = s.cuts }, same, turned)
