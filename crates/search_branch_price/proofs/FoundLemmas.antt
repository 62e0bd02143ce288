-- At the end of a search its tree is what a certificate needs.
use Rattle.std.proofs.Common.{◌≡◌, ℕ, arith, ◌≤◌, Bool, Option, None, Some, IfSome, List, [], ◌∷◌, ◌++◌, length, length-append, refl, sym, ap, subst, ◌∙◌, inl, inr}
use Rattle.std.proofs.lemmas.List.{append-nil}
use Rattle.model_rosters.specs.declared.grammar.ArcKey.{ArcKey}
use Rattle.model_rosters.specs.declared.instance.Cut.{Cut}
use Rattle.model_rosters.specs.declared.instance.Done.{Done}
use Rattle.model_rosters.specs.declared.instance.Done.TheVariants.{Equal, NoRoster, TurnsOut}
use Rattle.model_rosters.specs.declared.instance.Instance.{Instance}
use Rattle.model_rosters.specs.declared.instance.Shift.{Shift}
use Rattle.model_rosters.specs.Cuts.{base_cuts}
use Rattle.model_rosters.specs.Folds.{count, Each}
use Rattle.model_rosters.specs.GreatestCost.{greatest_cost}
use Rattle.model_rosters.specs.SoundInstance.{IsSoundInstance}
use Rattle.law_bounds.proofs.OneValue.{one-priced}
use Rattle.check_certificates.specs.declared.cert.Cert.{Cert}
use Rattle.check_certificates.specs.declared.cert.Node.{Node}
use Rattle.check_certificates.specs.declared.cert.Node.TheVariants.{Split}
use Rattle.check_certificates.specs.Kinds as kinds
use Rattle.check_certificates.specs.Nodes.{Proof, Visit, visits, preorder, low_cut, high_cut}
use Rattle.check_certificates.specs.Sound.{most_cost, IsSoundCert, IsSoundShift, NoneIsZero}
use Rattle.check_certificates.proofs.OneTree.{same_start}
use Rattle.check_certificates.specs.certificate_laws.Accepted.{IsStated, bound_number}
use Rattle.check_certificates.specs.certificate_laws.Shown.{Shows}
use Rattle.check_certificates.specs.growing_laws.Grown.{Grown, tip, fork, Leaf, fresh, valued, fixed, Own, OnTips, OnForks, prices_of, leaf_proof, proof_of, numbers, shown}
use Rattle.check_certificates.specs.growing_laws.States.{IsLeaf, IsOwn, IsSplit, IsTip, IsGrowing, OwnShows, IsGrownProof}
use Rattle.check_certificates.proofs.growing_laws.NodeCounts.{grown-counts}
use Rattle.check_certificates.proofs.growing_laws.GrownLemmas.{ForkFact, tips-map, forks-map, grown-visits}
use Rattle.check_certificates.proofs.growing_laws.StatesLemmas.{growing-proves, tips-both}
use Rattle.search_tree.specs.Trees.{is_too_long}
use Rattle.search_candidates.specs.declared.roster.Roster.{Roster}
use Rattle.search_candidates.specs.Order.{AreAscending}
use Rattle.search_candidates.specs.Rosters.{IsGoodRoster}
use Rattle.search_candidates.specs.Starts.{StartsWith, IsAtMostStart}
use Rattle.search_candidates.specs.Offers.{limit_of, cost_of}
use Rattle.search_candidates.proofs.Limits.{cost-most}
use Rattle.search_branch_price.specs.declared.progress.Progress.{Progress}
use Rattle.search_branch_price.specs.Ends.{IsEndedLeaf, IsEnd, IsDoneAt, AsksEnd, IsStatedBy}
use Rattle.search_branch_price.specs.Found.{IsDone, IsSplitNode, IsSharpNode, IsFoundNode, IsLooseNode, IsFound, AreCounted}
use Rattle.search_branch_price.proofs.SoundEnds.{greatest-cost-most, nodes-sound, nodes-listed}

-- two facts of all splits
forks-both : (P Q R : ForkFact) → ((path : List Cut) (a : ArcKey) (b : ℕ) (own : Option Own) → P path a b own → Q path a b own → R path a b own) → (cuts : List Cut) (t : Grown)
    → OnForks P cuts t → OnForks Q cuts t → OnForks R cuts t
forks-both P Q R f cuts (tip k l) p q = tt
forks-both P Q R f cuts (fork k a b own low high) p q =
    (f cuts a b own p.0 q.0, forks-both P Q R f (cuts ++ low_cut a b ∷ []) low p.1 q.1, forks-both P Q R f (cuts ++ high_cut a b ∷ []) high p.2 q.2)

-- the nodes of a certificate are those of one tree
one-tree : (p q : Proof) → preorder p ≡ preorder q → p ≡ q
one-tree p q e = (same_start p q [] [] (append-nil (preorder p) ∙ e ∙ sym (append-nil (preorder q)))).0

-- there are as many nodes as numbers
nodes-long : (t : Grown) → length (preorder (proof_of t)) ≡ length (numbers t)
nodes-long (tip k fresh) = refl
nodes-long (tip k (valued o)) = refl
nodes-long (tip k (fixed v)) = refl
nodes-long (fork k a b own low high) =
    omega (arith, length-append (preorder (proof_of low)) (preorder (proof_of high)), length-append (numbers low) (numbers high), nodes-long low, nodes-long high)

leaf_found : (i : Instance) (strict : Bool) (limit bound : ℕ) (path : List Cut) (l : Leaf) → IsLeaf i limit path l → Each (λ (v : Visit). IsFoundNode i strict bound v v.node) (visits path (leaf_proof l))
leaf_found i strict limit bound path fresh h = (tt, tt)
leaf_found i strict limit bound path (valued o) h = (record { best = h.0.best; few = h.0.few }, tt)
leaf_found i strict limit bound path (fixed v) h = (tt, tt)

leaf_sharp : (i : Instance) (limit : ℕ) (path : List Cut) (l : Leaf) → IsLeaf i limit path l → IsEndedLeaf i limit path l → Each (λ (v : Visit). IsSharpNode i limit v v.node) (visits path (leaf_proof l))
leaf_sharp i limit path fresh h e = (tt, tt)
leaf_sharp i limit path (valued o) h (inl le) = (inl (λ x is. let e = one-priced i o.prices path x o.value is h.0.value in omega (arith, e, le)), tt)
leaf_sharp i limit path (valued o) h (inr s) = (inr s, tt)
leaf_sharp i limit path (fixed v) h e = (tt, tt)

leaf_loose : (i : Instance) (limit : ℕ) (path : List Cut) (l : Leaf) → IsLeaf i limit path l → Each (λ (v : Visit). IsLooseNode i v v.node) (visits path (leaf_proof l))
leaf_loose i limit path fresh h = (tt, tt)
leaf_loose i limit path (valued o) h = (h.1, tt)
leaf_loose i limit path (fixed v) h = (tt, tt)

own_found : (i : Instance) (strict : Bool) (low bound : ℕ) (path : List Cut) (a : ArcKey) (b : ℕ) (own : Option Own) → IsOwn i strict low path a b own → OwnShows bound own
    → IsSplitNode i strict bound (record { path = path; node = Split a b (prices_of own) }) (prices_of own)
own_found i strict low bound path a b None h s = h
own_found i strict low bound path a b (Some o) h s =
    (record { best = h.0.best; few = h.0.few }, λ x is. let e = one-priced i o.prices path x o.value is h.0.value in omega (arith, e, s))

own_sharp : (i : Instance) (strict : Bool) (limit low : ℕ) (path : List Cut) (a : ArcKey) (b : ℕ) (own : Option Own) → IsOwn i strict low path a b own
    → IsSharpNode i limit (record { path = path; node = Split a b (prices_of own) }) (Split a b (prices_of own))
own_sharp i strict limit low path a b None h = tt
own_sharp i strict limit low path a b (Some o) h = h.1

module _ (i : Instance) (strict : Bool) (limit low n : ℕ) (t : Grown) (is : IsGrowing i strict limit low n t) where
  -- each node is right
  each-found : (bound : ℕ) → shown t ≡ bound → Each (λ (v : Visit). IsFoundNode i strict bound v v.node) (visits (base_cuts i) (proof_of t))
  each-found bound e = grown-visits (λ (v : Visit). IsFoundNode i strict bound v v.node) 0 (base_cuts i) t
      (tips-map (IsTip i limit low n t) (λ up path k l. Each (λ (v : Visit). IsFoundNode i strict bound v v.node) (visits path (leaf_proof l))) (λ up path k l h. leaf_found i strict limit bound path l h.leaf) 0 (base_cuts i) t is.tips)
      (forks-both (IsSplit i strict low) (λ path a b own. OwnShows (shown t) own) (λ path a b own. IsSplitNode i strict bound (record { path = path; node = Split a b (prices_of own) }) (prices_of own))
      (λ path a b own h s. own_found i strict low bound path a b own h.1 (subst (λ (m : ℕ). OwnShows m own) e s)) (base_cuts i) t is.forks (growing-proves i strict limit low n t is).owns)

  -- and each split with prices is sharp; a leaf has one that is, or its prices show the limit
  each-sharp : OnTips (λ up path k l. IsEndedLeaf i limit path l) 0 (base_cuts i) t → Each (λ (v : Visit). IsSharpNode i limit v v.node) (visits (base_cuts i) (proof_of t))
  each-sharp leaves = grown-visits (λ (v : Visit). IsSharpNode i limit v v.node) 0 (base_cuts i) t
      (tips-both (IsTip i limit low n t) (λ up path k l. IsEndedLeaf i limit path l) (λ up path k l. Each (λ (v : Visit). IsSharpNode i limit v v.node) (visits path (leaf_proof l)))
      (λ up path k l h e. leaf_sharp i limit path l h.leaf e) 0 (base_cuts i) t is.tips leaves)
      (forks-map (IsSplit i strict low) (λ path a b own. IsSharpNode i limit (record { path = path; node = Split a b (prices_of own) }) (Split a b (prices_of own))) (λ path a b own h. own_sharp i strict limit low path a b own h.1) (base_cuts i) t is.forks)

  -- and each priced leaf leaves some arc more than one count
  each-loose : Each (λ (v : Visit). IsLooseNode i v v.node) (visits (base_cuts i) (proof_of t))
  each-loose = grown-visits (λ (v : Visit). IsLooseNode i v v.node) 0 (base_cuts i) t
      (tips-map (IsTip i limit low n t) (λ up path k l. Each (λ (v : Visit). IsLooseNode i v v.node) (visits path (leaf_proof l))) (λ up path k l h. leaf_loose i limit path l h.leaf) 0 (base_cuts i) t is.tips)
      (forks-map (IsSplit i strict low) (λ path a b own. IsLooseNode i (record { path = path; node = Split a b (prices_of own) }) (Split a b (prices_of own))) (λ path a b own h. tt) (base_cuts i) t is.forks)

-- what a certificate says of the best roster
pub record SaysBest (i : Instance) (shifts : List Shift) (cost : Option ℕ) : Type 0 where
  pub stated : IfSome cost (IsStated i shifts)
  pub ascending : AreAscending shifts
  pub sound : Each (IsSoundShift i) shifts
  pub few : length shifts ≤ 64
  pub none : cost ≡ None → shifts ≡ []
  pub cost_most : IfSome cost (λ n. n ≤ most_cost)

pub says-best : (i : Instance) → IsSoundInstance i → (best : Option Roster) → IfSome best (IsGoodRoster i) → (shifts : List Shift) (cost : Option ℕ) → IsStatedBy best (shifts, cost) → SaysBest i shifts cost
says-best i sound None good shifts cost e =
    let s : shifts ≡ [] = ap (λ (p : List Shift × Option ℕ). p.0) e in
    let c : cost ≡ None = ap (λ (p : List Shift × Option ℕ). p.1) e in
    subst (λ (xs : List Shift). SaysBest i xs cost) (sym s) (subst (λ (x : Option ℕ). SaysBest i [] x) (sym c) (record {
      stated = tt;
      ascending = tt;
      sound = tt;
      few = omega arith;
      none = λ _. refl;
      cost_most = tt;
    }))
says-best i sound (Some r) good shifts cost e =
    let s : shifts ≡ r.shifts = ap (λ (p : List Shift × Option ℕ). p.0) e in
    let c : cost ≡ Some r.cost = ap (λ (p : List Shift × Option ℕ). p.1) e in
    let a = cost-most i r sound good in
    let b = greatest-cost-most i sound in
    subst (λ (xs : List Shift). SaysBest i xs cost) (sym s) (subst (λ (x : Option ℕ). SaysBest i r.shifts x) (sym c) (record {
      stated = good.stated;
      ascending = good.ascending;
      sound = good.sound;
      few = good.few;
      none = λ f. cc;
      cost_most = omega (arith, a, b);
    }))

pub same-cost : (best : Option Roster) (shifts : List Shift) (cost : Option ℕ) → IsStatedBy best (shifts, cost) → cost ≡ cost_of best
same-cost None shifts cost e = ap (λ (p : List Shift × Option ℕ). p.1) e
same-cost (Some r) shifts cost e = ap (λ (p : List Shift × Option ℕ). p.1) e

pub start-of : (i : Instance) (best : Option Roster) → StartsWith i best → IsAtMostStart i (cost_of best)
start-of i None h = absurd h
start-of i (Some r) h = h

pub done-of : (c : Cert) (done : Done) → IsDoneAt c.cost c.bound done → IsDone c done
done-of c Equal h = h
done-of c NoRoster h = h
done-of c TurnsOut h = h

pub bound-most : (i : Instance) → IsSoundInstance i → (bound : Option ℕ) → IfSome bound (λ b. b ≤ greatest_cost i) → IfSome bound (λ n. n ≤ most_cost)
bound-most i sound None h = tt
bound-most i sound (Some b) h = let m = greatest-cost-most i sound in omega (arith, h, m)

module _ (i : Instance) (sound : IsSoundInstance i) (a : AsksEnd i) (p : Progress) (bound : Option ℕ) (done : Done) (is : IsEnd i a.graph a.strict a.before a.now a.turns p bound done)
    (shifts : List Shift) (cost : Option ℕ) (nodes : List Node) (processed failed : ℕ)
    (said : IsStatedBy p.best (shifts, cost)) (all : nodes ≡ preorder (proof_of is.tree)) (busy_is : processed ≡ p.tree.processed) (missed_is : failed ≡ p.tree.failed) where
  proves : IsGrownProof i is.tree
  proves = growing-proves i a.strict (limit_of i p.best) is.low (length p.tree.seats) is.tree is.final.growing

  says : SaysBest i shifts cost
  says = says-best i sound p.best is.final.best shifts cost said

  shows-bound : Shows i (base_cuts i) (proof_of is.tree) (bound_number i bound)
  shows-bound = subst (λ (v : ℕ). Shows i (base_cuts i) (proof_of is.tree) v) is.shows proves.shows

  few-nodes : length nodes ≤ 20001
  few-nodes =
      let n = ap length all in
      let l = nodes-long is.tree in
      let z = is.final.held.size in
      let f = is.final.few in
      let w = is.within in
      let m = is.few in
      omega (arith, n, l, z, f, w, m)

  sound-cert : IsSoundCert i (record { shifts = shifts; cost = cost; bound = bound; nodes = nodes })
  sound-cert = record {
    proof = proof_of is.tree;
    nodes = record {
      whole = sym all;
      few = few-nodes;
      each = nodes-sound i sound a.strict (limit_of i p.best) is.low (length p.tree.seats) is.tree is.final.growing;
    };
    listed = subst (λ (xs : List Node). Each NoneIsZero xs) (sym all) (nodes-listed i sound a.strict (limit_of i p.best) is.low (length p.tree.seats) is.tree is.final.growing);
    shifts = says.sound;
    few = says.few;
    none = says.none;
    cost = says.cost_most;
    bound = bound-most i sound bound is.small;
  }

  pub is-found : IsFound i a.strict a.turns (record { cert = record { shifts = shifts; cost = cost; bound = bound; nodes = nodes }; done = done; processed = processed; failed = failed })
  is-found = record {
    sound = sound-cert;
    accepted = record {
      roster = says.stated;
      proof = proof_of is.tree;
      nodes = sym all;
      proved = record {
        on_arcs = proves.on_arcs;
        halves = proves.halves;
        tight = proves.tight;
        shown = shown is.tree;
        shows = proves.shows;
        enough = let e = is.shows in omega (arith, e);
      };
    };
    proof = proof_of is.tree;
    nodes = sym all;
    shows = shows-bound;
    most = is.small;
    ascending = says.ascending;
    whole = inl (record {
      each = each-found i a.strict (limit_of i p.best) is.low (length p.tree.seats) is.tree is.final.growing (bound_number i bound) is.shows;
      sharp = subst (λ (x : Option ℕ). Each (λ (v : Visit). IsSharpNode i (bound_number i x) v v.node) (visits (base_cuts i) (proof_of is.tree))) (sym (same-cost p.best shifts cost said))
          (each-sharp i a.strict (limit_of i p.best) is.low (length p.tree.seats) is.tree is.final.growing is.final.leaves);
      within = let w = is.within in omega (arith, busy_is, w);
      ran_out = λ e. let s = is.spent e in record { all = busy_is ∙ s.all; few = s.few };
    });
    loose = λ busy. each-loose i a.strict (limit_of i p.best) is.low (length p.tree.seats) is.tree is.final.growing;
    infeasible = λ h. absurd (is.busy h);
    arcless = λ none. all ∙ ap preorder (is.arcless none);
    processed = busy_is ∙ is.final.processed ∙ sym (grown-counts is.tree).0 ∙ ap (count kinds.is_processed) (sym all);
    failed = missed_is ∙ is.final.failed ∙ sym (grown-counts is.tree).1 ∙ ap (count kinds.is_unpriced) (sym all);
    done = done-of (record { shifts = shifts; cost = cost; bound = bound; nodes = nodes }) done (subst (λ (x : Option ℕ). IsDoneAt x bound done) (sym (same-cost p.best shifts cost said)) is.ended);
    start = λ has. subst (λ (x : Option ℕ). IsAtMostStart i x) (sym (same-cost p.best shifts cost said)) (start-of i p.best (is.final.start has));
  }

  pub are-counted : AreCounted i a.before a.now (record { cert = record { shifts = shifts; cost = cost; bound = bound; nodes = nodes }; done = done; processed = processed; failed = failed })
  are-counted = λ ne proof e.
      let one = one-tree proof (proof_of is.tree) (e ∙ all) in
      let c = is.final.counted ne in
      let d = ap (λ (q : Proof). count (is_too_long i) (visits (base_cuts i) q)) one in
      omega (arith, c, d, missed_is)
