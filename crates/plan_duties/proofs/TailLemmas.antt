-- Words behind the `=`, one after another.
use Rattle.std.proofs.Common.{◌≡◌, ℕ, zero, suc, List, [], ◌∷◌, drop, Ok, Err, refl}
use Rattle.plan_duties.specs.DutyLines.{step_at, tail_at}
use Rattle.plan_duties.specs.declared.tail.Tail.{Tail}
use Rattle.plan_faults.specs.declared.fault.LineFault.{LineFault}
use Rattle.plan_meaning.specs.declared.plan.PlanCode.{PlanCode}
use Rattle.plan_meaning.specs.declared.plan.PlanDay.{PlanDay}

module _ (d : PlanDay) (decimals : ℕ) (xs : List PlanCode) where
  -- words that are passed over
  pub tail_skip : (t : Tail) (k : ℕ) (ws : List (List ℕ)) → tail_at d decimals xs t k ws ≡ tail_at d decimals xs t 0 (drop k ws)
  tail_skip t zero [] = refl
  tail_skip t (suc k) [] = refl
  tail_skip t zero (w ∷ ws) = refl
  tail_skip t (suc k) (w ∷ ws) = tail_skip t k ws

  -- a word, and those that it takes
  pub tail_step : (t u : Tail) (w : List ℕ) (ws : List (List ℕ)) (k : ℕ) → step_at d decimals xs t w ws ≡ Ok (u, k)
      → tail_at d decimals xs t 0 (w ∷ ws) ≡ tail_at d decimals xs u 0 (drop k ws)
  tail_step t u w ws k e = rw e (tail_skip u k ws)

  pub tail_fails : (t : Tail) (w : List ℕ) (ws : List (List ℕ)) (f : LineFault) → step_at d decimals xs t w ws ≡ Err f
      → tail_at d decimals xs t 0 (w ∷ ws) ≡ Err f
  tail_fails t w ws f e = rw e refl

  -- ... as they are taken from the words that are left
  pub next_words : (t u : Tail) (w : List ℕ) (ws left rest : List (List ℕ)) (k : ℕ) → ws ≡ w ∷ left → step_at d decimals xs t w left ≡ Ok (u, k)
      → rest ≡ drop k left → tail_at d decimals xs t 0 ws ≡ tail_at d decimals xs u 0 rest
  next_words t u w ws left rest k e s r = rw (e, r) (tail_step t u w left k s)
