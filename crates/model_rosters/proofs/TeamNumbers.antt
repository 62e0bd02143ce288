-- The teams of a day have numbers of their own.
use Rattle.std.proofs.Common.{◌≡◌, ℕ, arith, ◌+◌, ◌≤◌, List, [], ◌∷◌, sym, ap, ◌∙◌, inl, inr}
use Rattle.model_rosters.specs.declared.instance.Instance.{Instance}
use Rattle.model_rosters.specs.declared.instance.Group.{Group}
use Rattle.model_rosters.specs.Folds.{In}
use Rattle.model_rosters.specs.Teams.{Team, teams_of, teams_from}

pub from_at : (k : ℕ) (gs : List Group) (a : Team) → In a (teams_from k gs) → k ≤ a.number
from_at k [] a h = absurd h
from_at k (g ∷ gs) a (inl e) = let f = ap (λ (t : Team). t.number) e in omega arith
from_at k (g ∷ gs) a (inr h) = omega (arith, from_at (k + 1) gs a h)

pub from_apart : (k : ℕ) (gs : List Group) (a b : Team) → In a (teams_from k gs) → In b (teams_from k gs) → a.number ≡ b.number → a ≡ b
from_apart k [] a b h l e = absurd h
from_apart k (g ∷ gs) a b (inl h) (inl l) e = h ∙ sym l
from_apart k (g ∷ gs) a b (inl h) (inr l) e = let f = ap (λ (t : Team). t.number) h in let m = from_at (k + 1) gs b l in absurd (omega arith)
from_apart k (g ∷ gs) a b (inr h) (inl l) e = let f = ap (λ (t : Team). t.number) l in let m = from_at (k + 1) gs a h in absurd (omega arith)
from_apart k (g ∷ gs) a b (inr h) (inr l) e = from_apart (k + 1) gs a b h l e

pub team_apart : (i : Instance) (gs : List Group) (a b : Team) → In a (teams_of i gs) → In b (teams_of i gs) → a.number ≡ b.number → a ≡ b
team_apart i [] a b (inl h) (inl l) e = h ∙ sym l
team_apart i [] a b (inl h) (inr l) e = absurd l
team_apart i [] a b (inr h) l e = absurd h
team_apart i (g ∷ gs) a b h l e = from_apart 1 (g ∷ gs) a b h l e
