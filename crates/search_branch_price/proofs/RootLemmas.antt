-- What a search finds of a day without arcs: its one node is pinned.
use Rattle.std.proofs.Common.{true≢false, ◌≡◌, ℕ, arith, ◌≤◌, Bool, true, false, Option, None, Some, IfSome, List, [], ◌∷◌, length, refl, sym, subst, inl}
use Rattle.std.specs.Cmp.{unsigned_Decides}
use Rattle.std.specs.Prelude.{◌≢◌, ◌==◌}
use Rattle.std.proofs.lemmas.List.{append-nil}
use Rattle.std.proofs.lemmas.Option.{slice_get_within}
use Rattle.model_rosters.specs.declared.grammar.ArcKey.{ArcKey}
use Rattle.model_rosters.specs.declared.instance.Done.{Done}
use Rattle.model_rosters.specs.declared.instance.Done.TheVariants.{Equal, NoRoster, TurnsOut}
use Rattle.model_rosters.specs.declared.instance.Instance.{Instance}
use Rattle.model_rosters.specs.declared.instance.Shift.{Shift}
use Rattle.model_rosters.specs.Cuts.{base_cuts}
use Rattle.model_rosters.specs.GreatestCost.{greatest_cost}
use Rattle.model_rosters.specs.SoundInstance.{IsSoundInstance}
use Rattle.law_bounds.specs.Infeasible.{IsPlainlyInfeasible}
use Rattle.law_bounds.specs.Pinned.{IsPinned, IsPinnedValue}
use Rattle.law_bounds.proofs.BaseCuts.{base-open, base-asks}
use Rattle.check_certificates.specs.declared.cert.Node.TheVariants.{Pinned}
use Rattle.check_certificates.specs.Nodes.{pinned}
use Rattle.check_certificates.specs.certificate_laws.Accepted.{bound_number}
use Rattle.tree_graph.specs.Graphs.{GraphView, IsGraph}
use Rattle.check_certificates.specs.growing_laws.Grown.{tip, fixed}
use Rattle.check_certificates.specs.growing_laws.States.{IsGrowing}
use Rattle.search_candidates.specs.declared.roster.Roster.{Roster}
use Rattle.search_candidates.specs.Starts.{HasStart, StartsWith, IsAtMostStart}
use Rattle.search_candidates.specs.Offers.{limit_of, cost_of, IsBetter}
use Rattle.search_candidates.proofs.Limits.{cost-most}
use Rattle.search_branch_price.specs.declared.found.Found.{Found}
use Rattle.search_branch_price.specs.Arcless.{IsRootRoster}
use Rattle.search_branch_price.specs.Ends.{IsDoneAt, IsStatedBy, IsClosedBy}
use Rattle.search_branch_price.specs.Found.{HasNoArc, IsFound}
use Rattle.search_branch_price.specs.Plans.{AskForArcs}
use Rattle.search_branch_price.proofs.FoundLemmas.{says-best, same-cost, start-of, done-of, bound-most}
use Rattle.search_branch_price.proofs.ShownLimit.{shown-limit}

-- a graph that has an arc is of a day that has one
pub some-arc : (i : Instance) (v : GraphView) → IsGraph i.grammar v → (length v.arcs == 0) ≡ false → HasNoArc i → ⊥
some-arc i v graph some none = by v.arcs refl some
  where
    by : (xs : List ArcKey) → v.arcs ≡ xs → (length xs == 0) ≡ false → ⊥
    by [] e h = true≢false h
    by (a ∷ xs) e h = none a (graph.arcs.sound 0 a (rw e refl))

-- a graph without arcs is of a day without them
pub no-arc : (i : Instance) (v : GraphView) → IsGraph i.grammar v → (length v.arcs == 0) ≡ true → HasNoArc i
no-arc i v graph none = λ a is.
    let q = graph.arcs.whole a is in
    let lt = slice_get_within v.arcs q.0 a q.1 in
    let zero = (unsigned_Decides (length v.arcs) 0).0 none in
    absurd (omega (arith, lt, zero))

-- the cuts of the root ask for arcs alone
pub root-asks : (i : Instance) → IsSoundInstance i → (IsPlainlyInfeasible i → ⊥) → AskForArcs i (base_cuts i)
root-asks i sound busy = record {
  each = base-asks i sound busy;
  based = ([], sym (append-nil (base_cuts i)));
  wide = λ a. base-open i a sound;
}

abbrev pub found_of : List Shift → Option ℕ → Option ℕ → Done → Found
found_of shifts cost bound done = record {
  cert = record { shifts = shifts; cost = cost; bound = bound; nodes = Pinned ∷ [] };
  done = done;
  processed = 1;
  failed = 0;
}

module _ (i : Instance) (sound : IsSoundInstance i) (busy : IsPlainlyInfeasible i → ⊥) (none : HasNoArc i) where
  pub root-pinned : IsPinned i (base_cuts i)
  root-pinned = record { tight = λ a is. absurd (none a is) }

  -- a roster that costs no more than the counts of the root costs as much
  pub root-best : (v : GraphView) → IsGraph i.grammar v → (old best : Option Roster) (value : ℕ) → (HasStart i → StartsWith i old)
      → IsPinnedValue i (base_cuts i) value → limit_of i best ≤ value → IsBetter i old best → IsRootRoster i best
  root-best v graph old best value start is reached better =
      let grown : IsGrowing i true (limit_of i best) 0 1 (tip 0 (fixed value)) = record {
        tips = record { leaf = (root-pinned, is, reached); bound = omega arith; below = omega arith; once = refl };
        forks = tt;
      } in
      let under : value ≤ limit_of i best = shown-limit i sound v graph busy true (limit_of i best) 0 1 (tip 0 (fixed value)) grown best better.good in
      let same : value ≡ limit_of i best = omega (arith, reached, under) in
      record {
        costs = subst (λ (n : ℕ). IsPinnedValue i (base_cuts i) n) same is;
        good = better.good;
        start = λ has. better.start (start has);
      }

  module _ (best : Option Roster) (is : IsRootRoster i best) (shifts : List Shift) (cost : Option ℕ) (said : IsStatedBy best (shifts, cost)) where
    found-at : (bound : Option ℕ) (done : Done) → bound ≡ cost_of best → IfSome bound (λ b. b ≤ greatest_cost i) → IsDoneAt (cost_of best) bound done → done ≢ TurnsOut
        → (strict : Bool) (turns : ℕ) → 1 ≤ turns → IsFound i strict turns (found_of shifts cost bound done)
    found-at bound done same small ended more strict turns some =
        let says = says-best i sound best is.good shifts cost said in
        let costs = same-cost best shifts cost said in
        let value : IsPinnedValue i (base_cuts i) (bound_number i bound) = subst (λ (x : Option ℕ). IsPinnedValue i (base_cuts i) (bound_number i x)) (sym same) is.costs in
        record {
          sound = record {
            proof = pinned;
            nodes = record { whole = refl; few = omega arith; each = (tt, tt) };
            listed = (tt, tt);
            shifts = says.sound;
            few = says.few;
            none = says.none;
            cost = says.cost_most;
            bound = bound-most i sound bound small;
          };
          accepted = record {
            roster = says.stated;
            proof = pinned;
            nodes = refl;
            proved = record { on_arcs = (tt, tt); halves = (tt, tt); tight = (root-pinned, tt); shown = bound_number i bound; shows = value; enough = omega arith };
          };
          proof = pinned;
          nodes = refl;
          shows = value;
          most = small;
          ascending = says.ascending;
          whole = inl (record { each = (tt, tt); sharp = (tt, tt); within = some; ran_out = λ e. absurd (more e) });
          loose = λ _. (tt, tt);
          infeasible = λ h. absurd (busy h);
          arcless = λ _. refl;
          processed = refl;
          failed = refl;
          done = done-of (found_of shifts cost bound done).cert done (subst (λ (x : Option ℕ). IsDoneAt x bound done) (sym costs) ended);
          start = λ has. subst (λ (x : Option ℕ). IsAtMostStart i x) (sym costs) (start-of i best (is.start has));
        }

  pub root-found : (best : Option Roster) → IsRootRoster i best → (shifts : List Shift) (cost : Option ℕ) → IsStatedBy best (shifts, cost)
      → (said : Option ℕ × Done) → IsClosedBy best said → (strict : Bool) (turns : ℕ) → 1 ≤ turns
      → IsFound i strict turns (found_of shifts cost said.0 said.1)
  root-found None is shifts cost stated said closed strict turns some =
      subst (λ (s : Option ℕ × Done). IsFound i strict turns (found_of shifts cost s.0 s.1)) (sym closed)
      (found-at None is shifts cost stated None NoRoster refl tt (refl, refl) (λ e. absurd (cc)) strict turns some)
  root-found (Some r) is shifts cost stated said closed strict turns some =
      subst (λ (s : Option ℕ × Done). IsFound i strict turns (found_of shifts cost s.0 s.1)) (sym closed)
      (found-at (Some r) is shifts cost stated (Some r.cost) Equal refl (cost-most i r sound is.good) (refl, refl) (λ e. absurd (cc)) strict turns some)
