-- Teams have different numbers, and together the heads of the day.
use Rattle.std.proofs.Common.{◌≡◌, ℕ, arith, ◌+◌, ◌≤◌, ◌<◌, Bool, true, false, cond, List, [], ◌∷◌, refl, ◌⊎◌, inl, inr}
use Rattle.std.specs.Prelude.{nat_eq, ◌≢◌}
use Rattle.std.proofs.lemmas.Bool.Decides.{eqb_tells}
use Rattle.model_rosters.specs.declared.instance.Instance.{Instance}
use Rattle.model_rosters.specs.declared.instance.Group.{Group}
use Rattle.model_rosters.specs.Folds.{sum_n}
use Rattle.model_rosters.specs.Teams.{Team, teams_of, teams_from}

abbrev hits : ℕ → List Team → ℕ
hits d ts = sum_n (λ (t : Team). cond (nat_eq d t.number) 1 0) ts

hits_low : (d k : ℕ) (gs : List Group) → d < k → hits d (teams_from k gs) ≡ 0
hits_low d k [] h = refl
hits_low d k (g ∷ gs) h = pick (eqb_tells d k) (hits_low d (k + 1) gs (omega arith))
  where
    pick : ((nat_eq d k ≡ true) × (d ≡ k)) ⊎ ((nat_eq d k ≡ false) × (d ≢ k)) → hits d (teams_from (k + 1) gs) ≡ 0 → cond (nat_eq d k) 1 0 + hits d (teams_from (k + 1) gs) ≡ 0
    pick (inl e) r = absurd (omega (arith, e.1))
    pick (inr e) r = rw e.0 (omega arith)

hits_one : (d k : ℕ) (gs : List Group) → hits d (teams_from k gs) ≤ 1
hits_one d k [] = omega arith
hits_one d k (g ∷ gs) = pick (eqb_tells d k) (hits_one d (k + 1) gs)
  where
    pick : ((nat_eq d k ≡ true) × (d ≡ k)) ⊎ ((nat_eq d k ≡ false) × (d ≢ k)) → hits d (teams_from (k + 1) gs) ≤ 1 → cond (nat_eq d k) 1 0 + hits d (teams_from (k + 1) gs) ≤ 1
    pick (inl e) r = let low = hits_low d (k + 1) gs (omega (arith, e.1)) in rw e.0 (omega arith)
    pick (inr e) r = rw e.0 (omega arith)

pub team_hits : (i : Instance) (gs : List Group) (d : ℕ) → hits d (teams_of i gs) ≤ 1
team_hits i [] d = by (nat_eq d 0)
  where
    by : (b : Bool) → cond b 1 0 + 0 ≤ 1
    by true = omega arith
    by false = omega arith
team_hits i (g ∷ gs) d = hits_one d 1 (g ∷ gs)

pub least-from : (k : ℕ) (gs : List Group) → sum_n (λ (t : Team). t.least) (teams_from k gs) ≡ sum_n (λ (g : Group). g.heads_min) gs
least-from k [] = refl
least-from k (g ∷ gs) = omega (arith, least-from (k + 1) gs)

pub most-from : (k : ℕ) (gs : List Group) → sum_n (λ (t : Team). t.most) (teams_from k gs) ≡ sum_n (λ (g : Group). g.heads_max) gs
most-from k [] = refl
most-from k (g ∷ gs) = omega (arith, most-from (k + 1) gs)
