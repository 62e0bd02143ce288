-- The trees of a candidate, and its least one.
use Rattle.std.proofs.Common.{◌≡◌, ℤ, ◌+ℤ◌, ◌<ℤ◌, ◌≤ℤ◌, List, [], ◌∷◌, ◌++◌, Option, Some, arith, refl, subst, sym, ap, ◌∙◌, ◌⊎◌, inl, inr}
use Rattle.std.proofs.lemmas.Int.{ints}
use Rattle.std.proofs.lemmas.Option.{same_Some}
use Rattle.model_rosters.specs.declared.grammar.Grammar.{Grammar}
use Rattle.model_rosters.specs.declared.grammar.Step.{Step}
use Rattle.model_rosters.specs.Sums.{PriceView, AtMost}
use Rattle.model_rosters.specs.Trees.{steps}
use Rattle.model_rosters.proofs.tree_laws.LeastValues.{IsLeast-one}
use Rattle.tree_ranking.specs.declared.candidate.Candidate.{Candidate}
use Rattle.tree_ranking.specs.declared.frame.Frame.{Frame}
use Rattle.tree_ranking.specs.declared.ranking.Ranked.{Ranked}
use Rattle.tree_ranking.specs.Frames.{OnFrame, frame_sum}
use Rattle.tree_ranking.specs.Ranking.{UsesBefore}
use Rattle.tree_ranking.specs.Candidates.{Completes, Leasts, Has, IsCandidate, Comes, Precedes}
use Rattle.tree_ranking.proofs.UsesLemmas.{uses-extend_right}

at_most : (v : Option ℤ) (a b : ℤ) → v ≡ Some b → AtMost (Some a) v → a ≤ℤ b
at_most v a b e h = let k : AtMost (Some a) (Some b) = subst (λ (o : Option ℤ). AtMost (Some a) o) e h in k

pub less_or_same : (a b : ℤ) → a ≤ℤ b → (a <ℤ b) ⊎ (a ≡ b)
less_or_same a b h = grind (arith, ints)

module _ (g : Grammar) (p : PriceView) where
  -- no derivation of what is pending has less than the least sum
  pub lower : (fs : List Frame) (more : List Step) (w z : ℤ) → Completes g p fs more w → Leasts g p fs z → z ≤ℤ w
  lower [] more w z h k = omega (arith, ints, h.1, k)
  lower (f ∷ fs) more w z h k =
      let first : k.0 ≤ℤ h.1 = at_most (frame_sum p f h.0) k.0 h.1 h.5 (k.2.least h.0 h.4) in
      let others = lower fs h.2 h.3 k.1 h.6 k.3 in
      omega (arith, ints, first, others, h.8, k.4)

  -- there is one least sum
  pub leasts-one : (fs : List Frame) (y z : ℤ) → Leasts g p fs y → Leasts g p fs z → y ≡ z
  leasts-one [] y z h k = h ∙ sym k
  leasts-one (f ∷ fs) y z h k =
      let first : h.0 ≡ k.0 = same_Some h.0 k.0 (IsLeast-one (OnFrame g f) (frame_sum p f) (Some h.0) (Some k.0) h.2 k.2) in
      let others = leasts-one fs h.1 k.1 h.3 k.3 in
      h.4 ∙ ap (λ q. q +ℤ h.1) first ∙ ap (λ q. k.0 +ℤ q) others ∙ sym k.4

  -- and some derivation has it
  pub reached : (fs : List Frame) (z : ℤ) → Leasts g p fs z → (more : List Step) × Completes g p fs more z
  reached [] z h = ([], (refl, h))
  reached (f ∷ fs) z h =
      let first = h.2.attained in
      let others = reached fs h.1 h.3 in
      (steps f.span.start first.0 ++ others.0, (first.0, h.0, others.0, h.1, first.1, first.2, others.1, refl, h.4))

  -- a tree of a candidate has no less than its sum
  pub has-least : (c : Candidate) (r : Ranked) → Has g p c r → c.sum ≤ℤ r.sum
  has-least c r h =
      let k = lower c.pending h.more h.sum h.least h.completes h.leasts in
      omega (arith, ints, k, h.above)

  -- and one has just that
  pub has-first : (c : Candidate) → IsCandidate g p c → (r : Ranked) × Has g p c r × (r.sum ≡ c.sum)
  has-first c is =
      let d = reached c.pending is.least is.leasts in (
        record { sum = c.sum; tree = c.steps ++ d.0 },
        record { more = d.0; sum = is.least; least = is.least; completes = d.1; leasts = is.leasts; uses = refl; above = refl },
        refl,
      )

  -- what comes before a candidate comes before its trees
  pub comes-has : (c d : Candidate) (r : Ranked) → Comes c d → Has g p d r → Precedes c r
  comes-has c d r h k = by h.before (less_or_same d.sum r.sum (has-least d r k))
    where
      by : (c.sum <ℤ d.sum) ⊎ ((c.sum ≡ d.sum) × UsesBefore c.steps d.steps) → (d.sum <ℤ r.sum) ⊎ (d.sum ≡ r.sum) → Precedes c r
      by (inl a) (inl b) = inl (omega (arith, ints, a, b))
      by (inl a) (inr b) = inl (omega (arith, ints, a, b))
      by (inr a) (inl b) = inl (omega (arith, ints, a.0, b))
      by (inr a) (inr b) = inr (a.0 ∙ b, subst (UsesBefore c.steps) (sym k.uses) (uses-extend_right c.steps d.steps k.more a.1))
