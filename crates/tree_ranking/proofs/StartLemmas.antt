-- The candidate of all trees of the day.
use Rattle.std.proofs.Common.{◌≡◌, ℕ, ℤ, pos, ◌+ℤ◌, ◌<◌, ◌≤◌, List, [], ◌∷◌, ◌++◌, None, Some, arith, refl, subst, sym, ap, ◌∙◌, length}
use Rattle.std.specs.Prelude.{slice_index_or}
use Rattle.std.specs.List.{remove}
use Rattle.std.proofs.lemmas.Int.{ints}
use Rattle.std.proofs.lemmas.List.{append-nil}
use Rattle.model_rosters.specs.declared.grammar.Grammar.{Grammar}
use Rattle.model_rosters.specs.declared.grammar.Sym.TheVariants.{Name}
use Rattle.model_rosters.specs.Trees.{steps}
use Rattle.model_rosters.specs.Sums.{PriceView, AtMost}
use Rattle.model_rosters.specs.Sound.{IsSound}
use Rattle.model_rosters.proofs.tree_laws.Ends.{last_sum}
use Rattle.tree_ranking.specs.declared.candidate.Candidate.{Candidate}
use Rattle.tree_ranking.specs.declared.frame.Frame.{Frame}
use Rattle.tree_ranking.specs.declared.ranking.Ranked.{Ranked}
use Rattle.tree_ranking.specs.Frames.{IsFrame, FrameLeast}
use Rattle.tree_ranking.specs.Ranking.{IsRankedTree}
use Rattle.tree_ranking.specs.Candidates.{Has, IsCandidate}
use Rattle.tree_ranking.specs.Progresses.{IsProgress}
use Rattle.tree_ranking.proofs.CandidatesLemmas.{leasts-one}
use Rattle.tree_ranking.proofs.ProgressLemmas.{is-begun, is-begun_empty}

-- the start name on the whole day
abbrev pub day_frame : ℕ → Frame
day_frame n = record { suffix = record { rule = 0; from = 1 }; span = record { start = 1; len = n } }

abbrev pub all_trees : ℕ → ℤ → Candidate
all_trees n sum = record { sum = sum; steps = []; pending = day_frame n ∷ [] }

module _ (g : Grammar) (p : PriceView) (sound : IsSound g) where
  pub day-is_frame : IsFrame g (day_frame g.periods)
  day-is_frame = record {
    known = omega arith;
    inner = λ e. omega arith;
    within = omega arith;
    eight = omega arith;
    begins = omega arith;
    fits = omega arith;
    few = sound.few_periods;
  }

  module _ (sum : ℤ) (least : FrameLeast g p (day_frame g.periods) (Some sum)) where
    of_day : (r : Ranked) → Has g p (all_trees g.periods sum) r → IsRankedTree g p r
    of_day r h =
        let d = h.completes in
        let z : h.least ≡ sum +ℤ pos 0 = leasts-one g p (day_frame g.periods ∷ []) h.least (sum +ℤ pos 0) h.leasts (sum, pos 0, least, refl, refl) in
        let same : d.1 ≡ r.sum = omega (arith, ints, h.above, z, d.8, d.6.1) in
        record {
          tree = d.0;
          of_day = d.4;
          sum = last_sum g p 1 g.periods 0 0 (Name g.start) d.0 d.4 ∙ d.5 ∙ ap Some same;
          uses = h.uses ∙ d.7 ∙ ap (λ q. steps 1 d.0 ++ q) d.6.0 ∙ append-nil (steps 1 d.0);
        }

    has_all : (r : Ranked) → IsRankedTree g p r → Has g p (all_trees g.periods sum) r
    has_all r h = record {
      more = steps 1 h.tree ++ [];
      sum = r.sum +ℤ pos 0;
      least = sum +ℤ pos 0;
      completes = (h.tree, r.sum, [], pos 0, h.of_day, sym (last_sum g p 1 g.periods 0 0 (Name g.start) h.tree h.of_day) ∙ h.sum, (refl, refl), refl, refl);
      leasts = (sum, pos 0, least, refl, refl);
      uses = h.uses ∙ sym (append-nil (steps 1 h.tree));
      above = omega (arith, ints);
    }

    is_candidate : IsCandidate g p (all_trees g.periods sum)
    is_candidate = record { least = sum +ℤ pos 0; leasts = (sum, pos 0, least, refl, refl); frames = (day-is_frame, tt); of_day = of_day }

    -- a ranking begins
    pub begins : (most : ℕ) → 1 ≤ most → IsProgress g p most [] (all_trees g.periods sum ∷ []) []
    begins most some = is-begun g p most (all_trees g.periods sum) some is_candidate has_all

  -- with no candidate where no tree has a sum
  pub begins_empty : (most : ℕ) → FrameLeast g p (day_frame g.periods) None → IsProgress g p most [] [] []
  begins_empty most least = is-begun_empty g p most never
    where
      never : (r : Ranked) → IsRankedTree g p r → ⊥
      never r h =
          let none : AtMost None (Some r.sum) = subst (λ v. AtMost None v) (sym (last_sum g p 1 g.periods 0 0 (Name g.start) h.tree h.of_day) ∙ h.sum) (least.least h.tree h.of_day) in
          none

-- the first of the candidates and the others
pub front : (xs ys : List Candidate) (x : Candidate) → 0 < length xs → x ≡ slice_index_or xs 0 x → ys ≡ remove xs 0 → xs ≡ x ∷ ys
front [] ys x l e f = absurd (omega (arith, l))
front (y ∷ xs) ys x l e f = ap (λ (q : Candidate). q ∷ xs) (sym e) ∙ ap (λ q. x ∷ q) (sym f)
