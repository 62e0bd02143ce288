-- The prices that were found of shifts, in order.
use Rattle.std.proofs.Common.{◌≡◌, ℕ, zero, suc, ◌+◌, ◌<◌, arith, Option, None, Some, MatchOption, List, [], ◌∷◌, ◌++◌, length, take, get_or, refl, ap, subst, ◌∙◌, add-one}
use Rattle.std.specs.Prelude.{slice_get}
use Rattle.std.proofs.lemmas.Option.{same_Some, slice_get_within}
use Rattle.model_rosters.specs.declared.instance.Instance.{Instance}
use Rattle.model_rosters.specs.declared.instance.Shift.{Shift}
use Rattle.model_rosters.specs.Duties.{Duty, duty}
use Rattle.check_certificates.specs.RosterCauses.{IsNoShift}
use Rattle.check_certificates.proofs.certificate_laws.NoCause.{one-team-price}
use Rattle.model_rosters.specs.Rosters.{IsTeamPrice}
use Rattle.check_values.specs.Causes.{IsFound, AreFound}

pub take-next : {A : Type 0} (xs : List A) (k : ℕ) (d : A) → k < length xs → take (k + 1) xs ≡ take k xs ++ get_or xs k d ∷ []
take-next {A} xs k d lt = rw (add-one k) (by xs k lt)
  where
    by : (ys : List A) (n : ℕ) → n < length ys → take (suc n) ys ≡ take n ys ++ get_or ys n d ∷ []
    by [] n l = absurd (omega (arith, l))
    by (y ∷ ys) zero l = refl
    by (y ∷ ys) (suc n) l = ap (λ (t : List A). y ∷ t) (by ys n (omega (arith, l)))

module _ (i : Instance) where
  pub found-length : (ss : List Shift) (os : List (Option ℕ)) → AreFound i ss os → length os ≡ length ss
  found-length [] [] h = refl
  found-length [] (o ∷ os) h = absurd h
  found-length (s ∷ ss) [] h = absurd h
  found-length (s ∷ ss) (o ∷ os) h = omega (arith, found-length ss os h.1)

  found_push : (ss : List Shift) (os : List (Option ℕ)) (s : Shift) (o : Option ℕ) → AreFound i ss os → IsFound i s o → AreFound i (ss ++ s ∷ []) (os ++ o ∷ [])
  found_push [] [] s o h p = (p, tt)
  found_push [] (x ∷ os) s o h p = absurd h
  found_push (x ∷ ss) [] s o h p = absurd h
  found_push (x ∷ ss) (y ∷ os) s o h p = (h.0, found_push ss os s o h.1 p)

  -- one more was found
  pub found-next : (ss : List Shift) (k : ℕ) (d : Shift) (os : List (Option ℕ)) (o : Option ℕ) → k < length ss → AreFound i (take k ss) os → IsFound i (get_or ss k d) o → AreFound i (take (k + 1) ss) (os ++ o ∷ [])
  found-next ss k d os o lt h p = rw (take-next ss k d lt) (found_push (take k ss) os (get_or ss k d) o h p)

  -- the price of a shift is that of each shift that is the same word in the same team
  same_found : (s t : Shift) (o : Option ℕ) → duty s ≡ duty t → IsFound i s o → IsFound i t o
  same_found s t None e h = λ team listed numbered shift.
      let group : s.group ≡ t.group = ap (λ (d : Duty). d.team) e in
      let word : s.word ≡ t.word = ap (λ (d : Duty). d.word) e in
      h team listed (rw group numbered) (rw word shift)
  same_found s t (Some price) e h = subst (λ (d : Duty). IsTeamPrice i d price) e h

  -- so is the one that was found of the shift at a place
  pub found-same : (ss : List Shift) (os : List (Option ℕ)) (k : ℕ) (s t : Shift) (d : Option ℕ) → AreFound i ss os → slice_get ss k ≡ Some s → duty s ≡ duty t → IsFound i t (get_or os k d)
  found-same [] os k s t d h at e = let within : k < 0 = slice_get_within [] k s at in absurd (omega (arith, within))
  found-same (x ∷ ss) [] k s t d h at e = absurd h
  found-same (x ∷ ss) (o ∷ os) zero s t d h at e = same_found x t o (ap duty (same_Some x s at) ∙ e) h.0
  found-same (x ∷ ss) (o ∷ os) (suc k) s t d h at e = found-same ss os k s t d h.1 at e

  -- a word that has a price in its team is a shift of it
  pub priced-shift : (s : Shift) (price : ℕ) → IsTeamPrice i (duty s) price → IsNoShift i s → ⊥
  priced-shift s price p none = none p.team p.listed p.numbered (p.priced.attained.0, p.priced.attained.1)

  one_found : (s : Shift) (o p : Option ℕ) → IsFound i s o → IsFound i s p → o ≡ p
  one_found s None None h k = refl
  one_found s None (Some q) h k = absurd (priced-shift s q k h)
  one_found s (Some q) None h k = absurd (priced-shift s q h k)
  one_found s (Some q) (Some r) h k = ap (λ (x : ℕ). Some x) (one-team-price i (duty s) q r h k)

  -- the prices of shifts are found in one way
  pub found-once : (ss : List Shift) (os ps : List (Option ℕ)) → AreFound i ss os → AreFound i ss ps → os ≡ ps
  found-once [] [] [] h k = refl
  found-once [] [] (p ∷ ps) h k = absurd k
  found-once [] (o ∷ os) ps h k = absurd h
  found-once (s ∷ ss) [] ps h k = absurd h
  found-once (s ∷ ss) (o ∷ os) [] h k = absurd k
  found-once (s ∷ ss) (o ∷ os) (p ∷ ps) h k =
      let e : o ≡ p = one_found s o p h.0 k.0 in
      let f : os ≡ ps = found-once ss os ps h.1 k.1 in
      cc

-- what was told of a shift's price was found of it
pub found-told : (i : Instance) (s : Shift) (o : Option ℕ) → MatchOption o (IsNoShift i s) (λ price. IsTeamPrice i (duty s) price) → IsFound i s o
found-told i s None h = h
found-told i s (Some price) h = h
