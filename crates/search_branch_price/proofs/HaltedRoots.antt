-- Prices of the root, where the first turn of a search is stopped.
use Rattle.std.proofs.Common.{◌≡◌, ℕ, arith, ◌≤◌, ◌<◌, Bool, IsTrue, Option, None, Some, List, [], ◌∷◌, refl, sym, subst, ap, inr}
use Rattle.model_rosters.specs.declared.instance.Cut.{Cut}
use Rattle.model_rosters.specs.declared.instance.Done.TheVariants.{TurnsOut}
use Rattle.model_rosters.specs.declared.instance.Instance.{Instance}
use Rattle.model_rosters.specs.declared.instance.Shift.{Shift}
use Rattle.model_rosters.specs.Cuts.{base_cuts}
use Rattle.model_rosters.specs.GreatestCost.{greatest_cost}
use Rattle.model_rosters.specs.SoundInstance.{IsSoundInstance}
use Rattle.law_bounds.specs.Infeasible.{IsPlainlyInfeasible}
use Rattle.check_certificates.specs.declared.cert.Node.TheVariants.{Priced}
use Rattle.check_certificates.specs.Nodes.{priced}
use Rattle.check_certificates.specs.certificate_laws.Accepted.{bound_number}
use Rattle.check_certificates.specs.growing_laws.Grown.{Grown, tip, fork, Leaf, fresh, busy}
use Rattle.check_certificates.specs.growing_laws.States.{IsLoosePath}
use Rattle.tree_graph.specs.Graphs.{GraphView}
use Rattle.search_open_nodes.specs.declared.leaf.OpenLeaf.{OpenLeaf}
use Rattle.search_tree.specs.Views.{IsPlace}
use Rattle.search_candidates.specs.declared.roster.Roster.{Roster}
use Rattle.search_candidates.specs.Starts.{IsAtMostStart}
use Rattle.search_candidates.specs.Offers.{limit_of, cost_of}
use Rattle.search_candidates.proofs.Limits.{limit-most}
use Rattle.search_branch_price.specs.declared.found.Found.{Found}
use Rattle.search_branch_price.specs.declared.progress.Progress.{Progress}
use Rattle.search_branch_price.specs.declared.turn_end.RootPrices.{RootPrices}
use Rattle.search_branch_price.specs.Ends.{IsDoneAt, IsStatedBy}
use Rattle.search_branch_price.specs.Found.{IsFound}
use Rattle.search_branch_price.specs.Roots.{AreShown, IsHaltedAtRoot, IsFoundHaltedAtRoot}
use Rattle.search_branch_price.specs.Steps.{AsksNode, IsStoppedAtRoot}
use Rattle.search_branch_price.proofs.FoundLemmas.{says-best, same-cost, start-of, done-of, bound-most}

-- where no node is processed the tree is one leaf, below the root's cuts
root-path : (cuts : List Cut) (t : Grown) (n up : ℕ) (path : List Cut) (leaf : Leaf) → busy t ≡ 0 → IsPlace cuts t n up path leaf → path ≡ cuts
root-path cuts (tip k l) n up path leaf none place = sym place.stands.1
root-path cuts (fork k a b own low high) n up path leaf none place = absurd (omega (arith, none))

-- the root keeps prices
pub stopped-root : (i : Instance) (v : GraphView) (strict : Bool) (before now low : ℕ) (patient : Bool) (p : Progress) (leaf : OpenLeaf) (cuts : List Cut) (root : RootPrices)
    → AsksNode i v strict before now low p leaf cuts → (IsTrue patient → ⊥) → p.tree.processed ≡ 0 → (IsPlainlyInfeasible i → ⊥) → IsLoosePath i cuts → AreShown i cuts (limit_of i p.best) root
    → IsStoppedAtRoot i patient p p root
stopped-root i v strict before now low patient p leaf cuts root asked restless none busy loose shown =
    let processed = asked.is.tree.processed in
    let path : cuts ≡ base_cuts i = root-path (base_cuts i) asked.tree leaf.kept.seat leaf.bound cuts fresh (omega (arith, none, processed)) asked.place in
    record {
      restless = restless;
      halted = record {
        shown = subst (λ (cs : List Cut). AreShown i cs (limit_of i p.best) root) path shown;
        loose = subst (λ (cs : List Cut). IsLoosePath i cs) path loose;
        busy = busy;
        good = asked.is.best;
        start = asked.is.start;
      };
      falls = omega arith;
    }

-- what is found then
module _ (i : Instance) (sound : IsSoundInstance i) (best : Option Roster) (root : RootPrices) (is : IsHaltedAtRoot i best root) (shifts : List Shift) (cost : Option ℕ) (said : IsStatedBy best (shifts, cost)) where
  abbrev pub found_at_root : Found
  found_at_root = record {
    cert = record { shifts = shifts; cost = cost; bound = Some root.value; nodes = Priced root.prices ∷ [] };
    done = TurnsOut;
    processed = 1;
    failed = 0;
  }

  small : root.value ≤ greatest_cost i
  small = let m = limit-most i best sound is.good in let below = is.shown.below in omega (arith, m, below)

  open-end : IsDoneAt (cost_of best) (Some root.value) TurnsOut
  open-end = λ e. let s : root.value ≡ limit_of i best = ap (bound_number i) e in let below = is.shown.below in omega (arith, s, below)

  is-found : (strict : Bool) → IsFound i strict 0 found_at_root
  is-found strict =
      let says = says-best i sound best is.good shifts cost said in
      let costs = same-cost best shifts cost said in
      record {
        sound = record {
          proof = priced root.prices;
          nodes = record { whole = refl; few = omega arith; each = (is.shown.fit, tt) };
          listed = (is.shown.listed, tt);
          shifts = says.sound;
          few = says.few;
          none = says.none;
          cost = says.cost_most;
          bound = bound-most i sound (Some root.value) small;
        };
        accepted = record {
          roster = says.stated;
          proof = priced root.prices;
          nodes = refl;
          proved = record { on_arcs = (tt, tt); halves = (tt, tt); tight = (tt, tt); shown = root.value; shows = is.shown.value; enough = omega arith };
        };
        proof = priced root.prices;
        nodes = refl;
        shows = is.shown.value;
        most = small;
        ascending = says.ascending;
        whole = inr (record { none = refl; prices = root.prices; nodes = refl; few = is.shown.few; done = refl });
        loose = λ h. (is.loose, tt);
        infeasible = λ h. absurd (is.busy h);
        arcless = λ none. absurd (none is.loose.0 is.loose.1);
        processed = refl;
        failed = refl;
        done = done-of found_at_root.cert TurnsOut (subst (λ (x : Option ℕ). IsDoneAt x (Some root.value) TurnsOut) (sym costs) open-end);
        start = λ has. subst (λ (x : Option ℕ). IsAtMostStart i x) (sym costs) (start-of i best (is.start has));
      }

  pub root-is-found : IsFoundHaltedAtRoot i found_at_root
  root-is-found = record { found = is-found; counted = λ before now rises apart proof e. omega (arith, rises) }
