-- The turns of a search, and its two ends.
use Rattle.std.proofs.Common.{◌≡◌, ℕ, arith, ◌+◌, ◌≤◌, ◌<◌, max, Bool, IsTrue, Option, None, Some, IfSome, List, [], ◌∷◌, length, refl, sym, subst, ap, ◌∙◌}
use Rattle.std.specs.Prelude.{◌≢◌}
use Rattle.model_rosters.specs.declared.instance.Done.{Done}
use Rattle.model_rosters.specs.declared.instance.Done.TheVariants.{Equal, NoRoster, TurnsOut}
use Rattle.model_rosters.specs.declared.instance.Instance.{Instance}
use Rattle.model_rosters.specs.declared.instance.Shift.{Shift}
use Rattle.model_rosters.specs.Cuts.{base_cuts}
use Rattle.model_rosters.specs.GreatestCost.{greatest_cost}
use Rattle.model_rosters.specs.SoundInstance.{IsSoundInstance}
use Rattle.law_bounds.specs.Infeasible.{IsPlainlyInfeasible}
use Rattle.check_certificates.specs.certificate_laws.Accepted.{bound_number}
use Rattle.tree_graph.specs.Graphs.{GraphView, IsGraph}
use Rattle.check_certificates.specs.growing_laws.Grown.{Grown, SomeTip, tip_bound, shown}
use Rattle.check_certificates.specs.growing_laws.Boxes.{IsOpenLeaf}
use Rattle.check_certificates.specs.growing_laws.States.{IsTip}
use Rattle.check_certificates.proofs.growing_laws.GrownLemmas.{some-map, some-both, least-bound}
use Rattle.check_certificates.proofs.growing_laws.StatesLemmas.{growing-closed, growing-few, some-fact}
use Rattle.search_open_nodes.specs.declared.leaf.OpenLeaf.{OpenLeaf}
use Rattle.search_tree.specs.Views.{TreeView}
use Rattle.search_tree.proofs.TreeLaws.{queued-leaf}
use Rattle.search_candidates.specs.declared.roster.Roster.{Roster}
use Rattle.search_candidates.specs.Offers.{limit_of, cost_of}
use Rattle.search_candidates.proofs.Limits.{cost-most, limit-most}
use Rattle.search_primal.specs.OldRosters.{ReachesOld}
use Rattle.search_branch_price.specs.declared.progress.Progress.{Progress}
use Rattle.search_branch_price.specs.Searching.{site_of, IsSearching}
use Rattle.search_branch_price.specs.declared.turn_end.RootPrices.{RootPrices}
use Rattle.search_branch_price.specs.Steps.{AsksTurn, IsTurned, IsStopped, IsStoppedAtRoot, IsBegun}
use Rattle.search_branch_price.specs.Ends.{IsNext, AsksEnd, IsEnd, IsEndOf, IsHalted, IsDoneAt, IsClosedBy}
use Rattle.search_branch_price.specs.Loops.{IsLooping}
use Rattle.search_branch_price.specs.Found.{HasNoArc}
use Rattle.search_branch_price.proofs.EndsLemmas.{final-is}
use Rattle.search_branch_price.proofs.ShownLimit.{shown-limit}

pub begun-loops : (i : Instance) (v : GraphView) (strict : Bool) (before turns : ℕ) (p : Progress) → IsBegun i v p
    → IsLooping i v strict before before turns p
begun-loops i v strict before turns p is =
    let t = is.is strict before in
    let none = is.none in
    record { low = 0; tree = t.0; is = t.1; rises = omega arith; within = omega (arith, none) }

-- a leaf in hand that leaves the least bound
module _ (i : Instance) (v : GraphView) (strict : Bool) (before now : ℕ) (p : Progress) (leaf : OpenLeaf) (t : Grown)
    (is : IsSearching (site_of i v strict before) now leaf.bound (leaf ∷ []) p t) where
  hand-open : SomeTip (λ up path k l. (k ≡ leaf.kept.seat) × IsOpenLeaf l × (tip_bound up l ≡ leaf.bound)) 0 (base_cuts i) t
  hand-open = queued-leaf t leaf p.tree.waiting (base_cuts i) is.tree.queue

  -- the tree shows its bound
  pub hand-shown : shown t ≡ leaf.bound
  hand-shown =
      let least = least-bound 0 (base_cuts i) t in
      let w = max 0 (shown t) in
      let under : w ≤ leaf.bound = some-fact (w ≤ leaf.bound) 0 (base_cuts i) t
      (some-both (λ up path k l. w ≤ tip_bound up l) (λ up path k l. (k ≡ leaf.kept.seat) × IsOpenLeaf l × (tip_bound up l ≡ leaf.bound)) (λ up path k l. w ≤ leaf.bound)
      (λ up path k l g h. let e = h.2 in omega (arith, g, e)) 0 (base_cuts i) t least.each hand-open) in
      let over : leaf.bound ≤ w = some-fact (leaf.bound ≤ w) 0 (base_cuts i) t
      (some-both (IsTip i (limit_of i p.best) leaf.bound (length p.tree.seats) t) (λ up path k l. tip_bound up l ≡ w) (λ up path k l. leaf.bound ≤ w)
      (λ up path k l g h. let b = g.bound in omega (arith, b, h)) 0 (base_cuts i) t is.tree.growing.tips least.attained) in
      omega (arith, under, over)

  -- the search ends with it, where the best roster costs more
  pub hand-end : IsSoundInstance i → (IsPlainlyInfeasible i → ⊥) → (HasNoArc i → ⊥) → (turns : ℕ) → turns ≤ 10000 → p.tree.processed ≡ turns → leaf.bound < limit_of i p.best
      → IsEnd i v strict before now turns p (Some leaf.bound) TurnsOut
  hand-end sound busy arcs turns few all below = record {
    low = leaf.bound;
    tree = t;
    final = final-is (site_of i v strict before) now leaf.bound (leaf ∷ []) p t is;
    busy = busy;
    arcless = λ none. absurd (arcs none);
    shows = hand-shown;
    small = let m = limit-most i p.best sound is.best in omega (arith, m, below);
    within = omega (arith, all);
    few = few;
    ended = λ e. let s : leaf.bound ≡ limit_of i p.best = ap (bound_number i) e in omega (arith, s, below);
    spent = λ done. record {
      all = all;
      few = λ points are.
          let some = some-map (λ up path k l. (k ≡ leaf.kept.seat) × IsOpenLeaf l × (tip_bound up l ≡ leaf.bound)) (λ up path k l. IsOpenLeaf l) (λ up path k l h. h.1) 0 (base_cuts i) t hand-open in
          let few = growing-few i strict (limit_of i p.best) leaf.bound (length p.tree.seats) points t sound is.tree.growing are some in
          let e = is.tree.processed in
          omega (arith, few, e, all);
    };
  }

-- a search halts with a leaf in hand, after no more turns than it has, and its best roster is none dearer than before
pub record Halts (i : Instance) (v : GraphView) (strict : Bool) (before now turns : ℕ) (patient : Bool) (old new : Progress) (left : OpenLeaf) : Type 0 where
  pub halted : IsHalted i (record { graph = v; strict = strict; before = before; now = now; turns = new.tree.processed }) new left
  pub few : new.tree.processed ≤ turns
  pub restless : IsTrue patient → ⊥
  pub falls : limit_of i new.best ≤ limit_of i old.best

module _ (i : Instance) (v : GraphView) (strict : Bool) (before now turns : ℕ) (few : turns ≤ 10000) (old p : Progress) (leaf : OpenLeaf)
    (is : IsLooping i v strict before now turns old) (next : IsNext i old p (Some leaf)) where
  taken : (leaf.bound < limit_of i old.best) × IsSearching (site_of i v strict before) now leaf.bound (leaf ∷ []) p is.tree
  taken = next.taken v strict before now is.low is.tree is.is

  below : leaf.bound < limit_of i p.best
  below = subst (λ (r : Option Roster). leaf.bound < limit_of i r) (sym next.best) taken.0

  processed-less : p.tree.processed ≢ turns → p.tree.processed < turns
  processed-less apart = let e = next.processed in let w = is.within in order p.tree.processed turns apart (omega (arith, e, w))
    where
      order : (n m : ℕ) → n ≢ m → n ≤ m → n < m
      order n m h le = grind arith

  pub asks-turn : (same : Bool) → same ≡ strict → p.tree.processed ≢ turns → AsksTurn i v same now p leaf
  asks-turn same e apart = record {
    before = before;
    tree = is.tree;
    is = subst (λ (s : Bool). IsSearching (site_of i v s before) now leaf.bound (leaf ∷ []) p is.tree) (sym e) taken.1;
    below = below;
    few = let k = processed-less apart in omega (arith, k, few);
  }

  pub turn-loops : (same : Bool) → same ≡ strict → p.tree.processed ≢ turns → (later : ℕ) → now ≤ later → (new : Progress)
      → ((asked : AsksTurn i v same now p leaf) → IsTurned i v same asked.before later leaf.bound p new)
      → IsLooping i v strict before later turns new
  turn-loops same e apart later le new turned =
      let asked : AsksTurn i v same now p leaf = record {
        before = before;
        tree = is.tree;
        is = subst (λ (s : Bool). IsSearching (site_of i v s before) now leaf.bound (leaf ∷ []) p is.tree) (sym e) taken.1;
        below = below;
        few = let k = processed-less apart in omega (arith, k, few);
      } in
      let t : IsTurned i v same before later leaf.bound p new = turned asked in
      let k = processed-less apart in
      let one = t.processed in
      let up = is.rises in
      record {
        low = leaf.bound;
        tree = t.tree;
        is = subst (λ (s : Bool). IsSearching (site_of i v s before) later leaf.bound [] new t.tree) e t.is;
        rises = omega (arith, up, le);
        within = omega (arith, one, k);
      }

  -- one more node is processed
  pub turn-nears : (same : Bool) → same ≡ strict → p.tree.processed ≢ turns → (later : ℕ) (new : Progress)
      → ((asked : AsksTurn i v same now p leaf) → IsTurned i v same asked.before later leaf.bound p new)
      → (old.tree.processed < turns) × (new.tree.processed ≡ old.tree.processed + 1)
  turn-nears same e apart later new turned =
      let t = turned (asks-turn same e apart) in
      let one = t.processed in
      let k = processed-less apart in
      let s = next.processed in
      (omega (arith, k, s), omega (arith, one, s))

  -- the best roster costs no more than before, so it reaches an old one still
  pub turn-reaches : (same : Bool) → same ≡ strict → p.tree.processed ≢ turns → (later : ℕ) (new : Progress)
      → ((asked : AsksTurn i v same now p leaf) → IsTurned i v same asked.before later leaf.bound p new)
      → (shifts : List Shift) → ReachesOld i shifts old.best → ReachesOld i shifts new.best
  turn-reaches same e apart later new turned shifts reach =
      let f = (turned (asks-turn same e apart)).falls in
      let s = ap (limit_of i) next.best in
      λ x costs. let r = reach x costs in omega (arith, f, s, r)

  -- a first turn that was stopped leaves prices of the root
  pub turn-halts-at-root : (same : Bool) → same ≡ strict → p.tree.processed ≢ turns → (later : ℕ) (patient : Bool) (new : Progress) (root : RootPrices)
      → (AsksTurn i v same now p leaf → IsStoppedAtRoot i patient p new root) → IsStoppedAtRoot i patient old new root
  turn-halts-at-root same e apart later patient new root turned =
      let t = turned (asks-turn same e apart) in
      let f = t.falls in
      let s = ap (limit_of i) next.best in
      record { restless = t.restless; halted = t.halted; falls = omega (arith, f, s) }

  -- a turn that was stopped leaves a search with a leaf in hand
  pub turn-halts : (same : Bool) → same ≡ strict → p.tree.processed ≢ turns → (later : ℕ) (patient : Bool) (new : Progress) (left : OpenLeaf)
      → ((asked : AsksTurn i v same now p leaf) → IsStopped i v same asked.before later leaf.bound patient p new left)
      → IsGraph i.grammar v → (IsPlainlyInfeasible i → ⊥) → (HasNoArc i → ⊥) → Halts i v strict before later turns patient old new left
  turn-halts same e apart later patient new left turned graph busy arcs =
      let asked : AsksTurn i v same now p leaf = record {
        before = before;
        tree = is.tree;
        is = subst (λ (s : Bool). IsSearching (site_of i v s before) now leaf.bound (leaf ∷ []) p is.tree) (sym e) taken.1;
        below = below;
        few = let k = processed-less apart in omega (arith, k, few);
      } in
      let t : IsStopped i v same before later leaf.bound patient p new left = turned asked in
      let k = processed-less apart in
      let as_many = t.processed in
      let f = t.falls in
      let s = ap (limit_of i) next.best in
      let at : IsSearching (site_of i v same before) later left.bound (left ∷ []) new t.tree =
      subst (λ (n : ℕ). IsSearching (site_of i v same before) later n (left ∷ []) new t.tree) (sym t.bound) t.is in
      record {
        halted = record {
          tree = t.tree;
          is = subst (λ (b : Bool). IsSearching (site_of i v b before) later left.bound (left ∷ []) new t.tree) e at;
          graph = graph;
          busy = busy;
          arcs = arcs;
          turns = refl;
          few = omega (arith, as_many, k, few);
        };
        few = omega (arith, as_many, k);
        restless = t.restless;
        falls = omega (arith, f, s);
      }

  pub turns-end : IsSoundInstance i → (IsPlainlyInfeasible i → ⊥) → (HasNoArc i → ⊥) → p.tree.processed ≡ turns
      → IsEnd i v strict before now turns p (Some leaf.bound) TurnsOut
  turns-end sound busy arcs all = hand-end i v strict before now p leaf is.tree taken.1 sound busy arcs turns few all below

-- where no open leaf leaves a bound below the limit, the bound is the cost of the best roster
module _ (i : Instance) (sound : IsSoundInstance i) (busy : IsPlainlyInfeasible i → ⊥) (arcs : HasNoArc i → ⊥) (v : GraphView) (graph : IsGraph i.grammar v) (strict : Bool) (before now turns : ℕ) (few : turns ≤ 10000) where
  shows-limit : (old p : Progress) (is : IsLooping i v strict before now turns old) → IsNext i old p None → shown is.tree ≡ limit_of i p.best
  shows-limit old p is next =
      let end = next.taken v strict before now is.low is.tree is.is in
      let best : limit_of i p.best ≡ limit_of i old.best = ap (limit_of i) next.best in
      let over = growing-closed i strict (limit_of i old.best) is.low (length old.tree.seats) is.tree is.is.tree.growing end.0 in
      let under = shown-limit i sound v graph busy strict (limit_of i p.best) is.low (length p.tree.seats) is.tree end.1.growing p.best end.1.best in
      omega (arith, best, over, under)

  closed-at : (old : Progress) (w : TreeView) (best : Option Roster) (is : IsLooping i v strict before now turns old) → IsNext i old (record { tree = w; best = best }) None
      → (bound : Option ℕ) (done : Done) → bound ≡ cost_of best → IfSome bound (λ b. b ≤ greatest_cost i) → IsDoneAt (cost_of best) bound done → done ≢ TurnsOut
      → IsEnd i v strict before now turns (record { tree = w; best = best }) bound done
  closed-at old w best is next bound done same small ended more = record {
    low = is.low;
    tree = is.tree;
    final = (next.taken v strict before now is.low is.tree is.is).1;
    busy = busy;
    arcless = λ none. absurd (arcs none);
    shows = shows-limit old (record { tree = w; best = best }) is next ∙ ap (bound_number i) (sym same);
    small = small;
    within = let e = next.processed in let k = is.within in omega (arith, e, k);
    few = few;
    ended = ended;
    spent = λ e. absurd (more e);
  }

  pub closed-end : (old : Progress) (w : TreeView) (best : Option Roster) (is : IsLooping i v strict before now turns old) → IsNext i old (record { tree = w; best = best }) None
      → (said : Option ℕ × Done) → IsClosedBy best said → IsEnd i v strict before now turns (record { tree = w; best = best }) said.0 said.1
  closed-end old w None is next said closed =
      subst (λ (s : Option ℕ × Done). IsEnd i v strict before now turns (record { tree = w; best = None }) s.0 s.1) (sym closed)
      (closed-at old w None is next None NoRoster refl tt (refl, refl) (λ e. absurd (cc)))
  closed-end old w (Some r) is next said closed =
      subst (λ (s : Option ℕ × Done). IsEnd i v strict before now turns (record { tree = w; best = Some r }) s.0 s.1) (sym closed)
      (closed-at old w (Some r) is next (Some r.cost) Equal refl (cost-most i r sound (next.taken v strict before now is.low is.tree is.is).1.best) (refl, refl) (λ e. absurd (cc)))

-- a search halts with a leaf in hand
module _ (i : Instance) (sound : IsSoundInstance i) (a : AsksEnd i) where
  -- it is open where the best roster costs more than the leaf leaves
  pub halted-open : (p : Progress) (leaf : OpenLeaf) → IsHalted i a p leaf → leaf.bound < limit_of i p.best → IsEndOf i a p (Some leaf.bound) TurnsOut
  halted-open p leaf is below =
      hand-end i a.graph a.strict a.before a.now p leaf is.tree is.is sound is.busy is.arcs a.turns is.few is.turns below

  closed-hand : (w : TreeView) (best : Option Roster) (leaf : OpenLeaf) (is : IsHalted i a (record { tree = w; best = best }) leaf) → limit_of i best ≤ leaf.bound
      → (bound : Option ℕ) (done : Done) → bound ≡ cost_of best → IfSome bound (λ b. b ≤ greatest_cost i) → IsDoneAt (cost_of best) bound done → done ≢ TurnsOut
      → IsEndOf i a (record { tree = w; best = best }) bound done
  closed-hand w best leaf is reached bound done same small ended more =
      let under : shown is.tree ≤ limit_of i best = shown-limit i sound a.graph is.graph is.busy a.strict (limit_of i best) leaf.bound (length w.seats) is.tree is.is.tree.growing best is.is.best in
      let over : shown is.tree ≡ leaf.bound = hand-shown i a.graph a.strict a.before a.now (record { tree = w; best = best }) leaf is.tree is.is in
      let shows : shown is.tree ≡ limit_of i best = omega (arith, under, over, reached) in
      record {
        low = leaf.bound;
        tree = is.tree;
        final = final-is (site_of i a.graph a.strict a.before) a.now leaf.bound (leaf ∷ []) (record { tree = w; best = best }) is.tree is.is;
        busy = is.busy;
        arcless = λ none. absurd (is.arcs none);
        shows = shows ∙ ap (bound_number i) (sym same);
        small = small;
        within = let e = is.turns in omega (arith, e);
        few = is.few;
        ended = ended;
        spent = λ e. absurd (more e);
      }

  -- and else closed
  pub halted-closed : (w : TreeView) (best : Option Roster) (leaf : OpenLeaf) → IsHalted i a (record { tree = w; best = best }) leaf → limit_of i best ≤ leaf.bound
      → (said : Option ℕ × Done) → IsClosedBy best said → IsEndOf i a (record { tree = w; best = best }) said.0 said.1
  halted-closed w None leaf is reached said closed =
      subst (λ (s : Option ℕ × Done). IsEndOf i a (record { tree = w; best = None }) s.0 s.1) (sym closed)
      (closed-hand w None leaf is reached None NoRoster refl tt (refl, refl) (λ e. absurd (cc)))
  halted-closed w (Some r) leaf is reached said closed =
      subst (λ (s : Option ℕ × Done). IsEndOf i a (record { tree = w; best = Some r }) s.0 s.1) (sym closed)
      (closed-hand w (Some r) leaf is reached (Some r.cost) Equal refl (cost-most i r sound is.is.best) (refl, refl) (λ e. absurd (cc)))

-- a search that ends before its turns are used is one of as many turns as it took
pub stopped-end : (i : Instance) (v : GraphView) (strict : Bool) (before now turns : ℕ) → turns ≤ 10000 → (old p : Progress) (leaf : OpenLeaf)
    → IsLooping i v strict before now turns old → IsNext i old p (Some leaf) → IsSoundInstance i → (IsPlainlyInfeasible i → ⊥) → (HasNoArc i → ⊥)
    → (p.tree.processed ≤ turns) × IsEnd i v strict before now p.tree.processed p (Some leaf.bound) TurnsOut
stopped-end i v strict before now turns few old p leaf is next sound busy arcs =
    let e = next.processed in
    let w = is.within in
    let within : p.tree.processed ≤ turns = omega (arith, e, w) in
    let small : p.tree.processed ≤ 10000 = omega (arith, within, few) in
    let own : IsLooping i v strict before now p.tree.processed old = record {
      low = is.low;
      tree = is.tree;
      is = is.is;
      rises = is.rises;
      within = omega (arith, e);
    } in
    (within, turns-end i v strict before now p.tree.processed small old p leaf own next sound busy arcs refl)
