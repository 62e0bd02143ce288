-- The lines of causes, one more at a time.
use Rattle.std.proofs.Common.{◌≡◌, ℕ, zero, suc, ◌+◌, ◌<◌, arith, List, [], ◌∷◌, ◌++◌, length, take, get_or, refl, sym, ap, ◌∙◌, append_assoc, append-nil, add-one}
use Rattle.model_rosters.specs.declared.instance.Instance.{Instance}
use Rattle.model_rosters.specs.declared.instance.Shift.{Shift}
use Rattle.check_values.specs.declared.cause.Cause.{Cause}
use Rattle.check_values.specs.CauseText.{cause_text, causes_text}
use Rattle.check_values.proofs.CauseLists.{parts}

module _ (i : Instance) (shifts : List Shift) where
  causes_more : (cs : List Cause) (k : ℕ) (d : Cause) → k < length cs → causes_text i shifts (take (suc k) cs) ≡ causes_text i shifts (take k cs) ++ cause_text i shifts (get_or cs k d)
  causes_more [] k d lt = absurd (omega (arith, lt))
  causes_more (c ∷ cs) zero d lt = append-nil (cause_text i shifts c)
  causes_more (c ∷ cs) (suc k) d lt =
      ap (λ (t : List ℕ). cause_text i shifts c ++ t) (causes_more cs k d (omega (arith, lt)))
      ∙ sym (append_assoc (cause_text i shifts c) (causes_text i shifts (take k cs)) (cause_text i shifts (get_or cs k d)))

  -- the line of one more cause
  pub causes-next : (cs : List Cause) (k : ℕ) (d : Cause) (o0 o1 o2 : List ℕ) → k < length cs → o1 ≡ o0 ++ causes_text i shifts (take k cs)
      → o2 ≡ o1 ++ cause_text i shifts (get_or cs k d) → o2 ≡ o0 ++ causes_text i shifts (take (k + 1) cs)
  causes-next cs k d o0 o1 o2 lt e h =
      parts o0 o1 o2 (causes_text i shifts (take k cs)) (cause_text i shifts (get_or cs k d)) e h
      ∙ ap (λ (t : List ℕ). o0 ++ t) (sym (causes_more cs k d lt) ∙ ap (λ (m : ℕ). causes_text i shifts (take m cs)) (sym (add-one k)))
