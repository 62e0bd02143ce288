-- What each step of a search leads to.
use Rattle.std.proofs.Common.{◌≡◌, ℕ, arith, ◌+◌, ◌≤◌, ◌<◌, max, cond, Option, None, Some, List, [], ◌∷◌, ◌++◌, length, refl, ap, sym, subst, ◌∙◌, ◌⊎◌, inl, inr}
use Rattle.std.specs.Prelude.{◌≢◌, nat_lt}
use Rattle.std.proofs.lemmas.Bool.{lt-ltb}
use Rattle.std.proofs.lemmas.Option.{none-some}
use Rattle.model_rosters.specs.declared.grammar.ArcKey.{ArcKey}
use Rattle.model_rosters.specs.declared.instance.Cut.{Cut}
use Rattle.model_rosters.specs.declared.instance.Prices.{Prices}
use Rattle.model_rosters.specs.Cuts.{base_cuts}
use Rattle.model_rosters.specs.Folds.{count}
use Rattle.check_certificates.specs.declared.cert.Node.TheVariants.{Priced, Pinned}
use Rattle.check_certificates.specs.Nodes.{low_cut, high_cut, visits}
use Rattle.law_bounds.specs.master_laws.Rows.{rows_of}
use Rattle.check_certificates.specs.growing_laws.Grown.{Grown, tip, fork, Leaf, fresh, valued, fixed, Own, OnTips, raised, tip_bound, proof_of, put}
use Rattle.check_certificates.specs.growing_laws.Boxes.{IsOpenLeaf}
use Rattle.check_certificates.specs.growing_laws.Opens.{Entry, IsEntryOf}
use Rattle.check_certificates.specs.growing_laws.States.{IsTip, IsSplit}
use Rattle.check_certificates.proofs.growing_laws.GrownLemmas.{TipFact}
use Rattle.search_open_nodes.specs.declared.leaf.Plan.{Plan}
use Rattle.search_open_nodes.specs.declared.leaf.OpenLeaf.{OpenLeaf}
use Rattle.search_open_nodes.specs.Queues.{SameLeaves}
use Rattle.search_tree.specs.Views.{TreeView, Site, IsLeafAt, entry_of}
use Rattle.search_tree.specs.Trees.{last_count, is_too_long, HasPlan}
use Rattle.search_tree.specs.Steps.{forked, marked, IsHalfOf}
use Rattle.search_tree.specs.Asked.{AsksSplit, IsHalved, AsksLeaf, IsProcessed, AsksPinned, AsksPriced, AsksFailed}
use Rattle.search_tree.proofs.TreeLaws.{few-seats, queued-leaf}
use Rattle.search_tree.proofs.NumberedLeaves.{at-leaf, missed-busy}
use Rattle.search_tree.proofs.Regrowth.{regrow}
use Rattle.search_tree.proofs.LeafSteps.{its-tip, marked_graft, marked_seated, forked_tree}

-- the number of the leaf in hand, and how many seats there are
pub leaf-room : (w : TreeView) (leaf : OpenLeaf) → AsksLeaf w leaf → (leaf.kept.seat < length w.seats) × (length w.seats ≤ 20001) × (w.failed < 10000)
leaf-room w leaf a =
    let h = its-tip a.site a.limit a.now a.low leaf w a.tree a.is leaf.bound a.path fresh a.place.at in
    let f = few-seats a.site a.limit a.now a.low (leaf ∷ []) w a.tree a.is in
    let m = missed-busy a.tree in
    let p = a.is.processed in
    let q = a.is.failed in
    let few = a.few in
    (h.below, omega (arith, f, few), omega (arith, m, p, q, few))

whole : (bound : ℕ) → tip_bound bound fresh ≡ bound
whole bound = omega arith

low-le : (w : TreeView) (leaf : OpenLeaf) (a : AsksLeaf w leaf) → a.low ≤ leaf.bound
low-le w leaf a = let b = (its-tip a.site a.limit a.now a.low leaf w a.tree a.is leaf.bound a.path fresh a.place.at).bound in omega (arith, b)

pub pinned-step : (leaf : OpenLeaf) (w v : TreeView) (value : ℕ) → v.seats ≡ marked w.seats leaf.kept.seat Pinned value → v.waiting ≡ w.waiting → v.processed ≡ w.processed + 1 → v.failed ≡ w.failed
    → (asked : AsksPinned w leaf value) → IsProcessed asked.taken.site asked.taken.limit asked.taken.now asked.taken.low w v
pinned-step leaf w v value seats waiting processed failed asked = record {
  tree = put leaf.kept.seat (tip leaf.kept.seat (fixed value)) asked.taken.tree;
  is = regrow a.site a.limit a.now a.now a.low leaf w v [] [] leaf.bound a.path fresh (tip leaf.kept.seat (fixed value)) a.tree a.is a.place.at tt (whole leaf.bound) (record {
    seats = marked_seated a.site a.limit a.now a.low leaf w a.tree a.is leaf.bound a.path fresh a.place.at tt (whole leaf.bound) v (fixed value) Pinned value refl refl seats;
    graft = marked_graft a.site a.limit a.now a.low leaf w a.tree a.is leaf.bound a.path fresh a.place.at tt (whole leaf.bound) v (fixed value) Pinned value refl refl seats
        (asked.pinned, asked.costs, asked.above) (let l = low-le w leaf a in omega (arith, l));
    entries = λ q. refl;
    queue = λ q. ap (λ (xs : List OpenLeaf). count q xs) (sym waiting);
    beside = tt;
    planned = tt;
    processed = omega (arith, processed);
    failed = omega (arith, failed);
    counted = λ ne. (ne, omega arith);
  });
  processed = processed;
}
  where
    a : AsksLeaf w leaf
    a = asked.taken

-- the plan of a leaf with prices
has-plan : (w : TreeView) (leaf : OpenLeaf) (prices : Prices) (value : ℕ) (plan : Option Plan) (asked : AsksPriced w leaf prices value plan)
    → HasPlan asked.taken.site.day asked.taken.site.graph asked.taken.limit asked.taken.path (valued (record { prices = prices; value = value })) plan
has-plan w leaf prices value plan asked = asked.planned

pub priced-step : (leaf : OpenLeaf) (w v : TreeView) (prices : Prices) (value : ℕ) (plan : Option Plan) (o : OpenLeaf)
    → o.bound ≡ max leaf.bound value → o.kept.seat ≡ leaf.kept.seat → o.kept.plan ≡ plan
    → v.seats ≡ marked w.seats leaf.kept.seat (Priced prices) value → SameLeaves (o ∷ w.waiting) v.waiting → v.processed ≡ w.processed + 1 → v.failed ≡ w.failed
    → (asked : AsksPriced w leaf prices value plan) → IsProcessed asked.taken.site asked.taken.limit asked.taken.now asked.taken.low w v
priced-step leaf w v prices value plan o bound seat kept seats waiting processed failed asked = record {
  tree = put leaf.kept.seat (tip leaf.kept.seat (valued own)) asked.taken.tree;
  is = regrow a.site a.limit a.now a.now a.low leaf w v (o ∷ []) [] leaf.bound a.path fresh (tip leaf.kept.seat (valued own)) a.tree a.is a.place.at tt (whole leaf.bound) (record {
    seats = marked_seated a.site a.limit a.now a.low leaf w a.tree a.is leaf.bound a.path fresh a.place.at tt (whole leaf.bound) v (valued own) (Priced prices) value refl refl seats;
    graft = marked_graft a.site a.limit a.now a.low leaf w a.tree a.is leaf.bound a.path fresh a.place.at tt (whole leaf.bound) v (valued own) (Priced prices) value refl refl seats
        (asked.priced, asked.loose) (let l = low-le w leaf a in omega (arith, l));
    entries = λ q. let x = ap {B = ℕ} (λ (e : Entry). cond (q e) 1 0) entry in omega (arith, x);
    queue = waiting;
    beside = (inl seat, tt);
    planned = (λ e. subst (λ (p : Option Plan). HasPlan a.site.day a.site.graph a.limit a.path (valued own) p) (sym kept) (has-plan w leaf prices value plan asked), tt);
    processed = omega (arith, processed);
    failed = omega (arith, failed);
    counted = λ ne. (ne, omega arith);
  });
  processed = processed;
}
  where
    a : AsksLeaf w leaf
    a = asked.taken

    own : Own
    own = record { prices = prices; value = value }

    entry : ◌≡◌ {A = Entry} (record { seat = leaf.kept.seat; bound = max leaf.bound value }) (entry_of o)
    entry = ap {B = Entry} (λ (m : ℕ). record { seat = m; bound = max leaf.bound value }) (sym seat) ∙ ap {B = Entry} (λ (m : ℕ). record { seat = o.kept.seat; bound = m }) (sym bound)

-- a split without prices whose master has too many rows is counted
long-split : (w : TreeView) (leaf : OpenLeaf) (arc : ArcKey) (b later : ℕ) (asked : AsksFailed w leaf arc b later) (low high : Grown) → later ≢ last_count
    → (asked.taken.now ≢ last_count) × (1 + asked.taken.now ≤ later + count (is_too_long asked.taken.site.day) (visits asked.taken.path (proof_of (fork leaf.kept.seat arc b None low high))))
long-split w leaf arc b later asked low high ne = by asked.cause
  where
    by : (asked.taken.now < later) ⊎ (later ≡ last_count) ⊎ ((asked.taken.now ≤ later) × (1500 < length (rows_of asked.taken.site.day asked.taken.path)))
        → (asked.taken.now ≢ last_count) × (1 + asked.taken.now ≤ later + count (is_too_long asked.taken.site.day) (visits asked.taken.path (proof_of (fork leaf.kept.seat arc b None low high))))
    by (inl h) = let within = asked.within in ((λ e. omega (arith, h, e, within)), omega (arith, h))
    by (inr (inl h)) = absurd (ne h)
    by (inr (inr h)) =
        let within = asked.within in
        let le = h.0 in
        let x : ◌≡◌ {A = ℕ} (cond (nat_lt 1500 (length (rows_of asked.taken.site.day asked.taken.path))) 1 0) 1 = rw (lt-ltb 1500 (length (rows_of asked.taken.site.day asked.taken.path)) h.1) refl in
        ((λ e. ne (omega (arith, le, e, within))), omega (arith, le, x))

pub failed-step : (leaf : OpenLeaf) (w v : TreeView) (arc : ArcKey) (b : ℕ) (o p : OpenLeaf) → IsHalfOf leaf (length w.seats) o → IsHalfOf leaf (length w.seats + 1) p
    → v.seats ≡ forked w.seats leaf.kept.seat leaf.bound arc b → SameLeaves (o ∷ p ∷ w.waiting) v.waiting → v.processed ≡ w.processed + 1 → v.failed ≡ w.failed + 1
    → (later : ℕ) (asked : AsksFailed w leaf arc b later) → IsProcessed asked.taken.site asked.taken.limit later asked.taken.low w v
failed-step leaf w v arc b o p half other seats waiting processed failed later asked = record {
  tree = put leaf.kept.seat (fork leaf.kept.seat arc b None (tip (length w.seats) fresh) (tip (length w.seats + 1) fresh)) a.tree;
  is = forked_tree a.site a.limit a.now a.low leaf w a.tree a.is leaf.bound a.path fresh a.place.at tt (whole leaf.bound) v arc b None refl refl seats later o p [] half other
      (asked.splits, asked.hard) (low-le w leaf a) waiting (omega (arith, processed)) failed (long-split w leaf arc b later asked (tip (length w.seats) fresh) (tip (length w.seats + 1) fresh));
  processed = processed;
}
  where
    a : AsksLeaf w leaf
    a = asked.taken

-- where a leaf with prices stands that is in hand with a plan
record Planned (s : Site) (leaf : OpenLeaf) (plan : Plan) (arc : ArcKey) (t : Grown) : Type 0 where
  pub up : ℕ
  pub path : List Cut
  pub own : Own
  pub at : IsLeafAt 0 (base_cuts s.day) t leaf.kept.seat up path (valued own)
  pub bound : tip_bound up (valued own) ≡ leaf.bound
  pub splits : IsSplit s.day s.strict leaf.bound path arc plan.b (Some own)

-- an open leaf of the tree, and where it stands
entry-place : (P : TipFact) (e : Entry) (above : ℕ) (cuts : List Cut) (t : Grown) → OnTips P above cuts t → IsEntryOf e above cuts t
    → (up : ℕ) × (path : List Cut) × (l : Leaf) × IsLeafAt above cuts t e.seat up path l × P up path e.seat l × IsOpenLeaf l × (tip_bound up l ≡ e.bound)
entry-place P e above cuts (tip k l) h g = (above, cuts, l, (g.0, refl, refl, refl), subst (λ (n : ℕ). P above cuts n l) g.0 h, g.1, g.2)
entry-place P e above cuts (fork k a b own low high) h (inl g) =
    let r = entry-place P e (raised above own) (cuts ++ low_cut a b ∷ []) low h.0 g in (r.0, r.1, r.2, inl r.3, r.4, r.5, r.6)
entry-place P e above cuts (fork k a b own low high) h (inr g) =
    let r = entry-place P e (raised above own) (cuts ++ high_cut a b ∷ []) high h.1 g in (r.0, r.1, r.2, inr r.3, r.4, r.5, r.6)

some-arc : (a b : ArcKey) → ◌≡◌ {A = Option ArcKey} (Some a) (Some b) → a ≡ b
some-arc a b e = ap (λ (o : Option ArcKey). or_arc o) e
  where
    or_arc : Option ArcKey → ArcKey
    or_arc None = a
    or_arc (Some c) = c

planned-leaf : (w : TreeView) (leaf : OpenLeaf) (plan : Plan) (arc : ArcKey) (asked : AsksSplit w leaf plan arc) → Planned asked.site leaf plan arc asked.tree
planned-leaf w leaf plan arc asked =
    let r = entry-place (λ up path k l. IsTip asked.site.day asked.limit leaf.bound (length w.seats) asked.tree up path k l) (entry_of leaf) 0 (base_cuts asked.site.day) asked.tree asked.is.growing.tips
    (queued-leaf asked.tree leaf w.waiting (base_cuts asked.site.day) asked.is.queue) in
    let p = at-leaf (λ up path k l. k ≡ leaf.kept.seat → HasPlan asked.site.day asked.site.graph asked.limit path l leaf.kept.plan) 0 (base_cuts asked.site.day) asked.tree leaf.kept.seat r.0 r.1 r.2 asked.is.planned.0 r.3 refl in
    by r.0 r.1 r.2 r.3 r.4 r.5 r.6 (subst (λ (o : Option Plan). HasPlan asked.site.day asked.site.graph asked.limit r.1 r.2 o) asked.kept p)
  where
    by : (up : ℕ) (path : List Cut) (l : Leaf) → IsLeafAt 0 (base_cuts asked.site.day) asked.tree leaf.kept.seat up path l → IsTip asked.site.day asked.limit leaf.bound (length w.seats) asked.tree up path leaf.kept.seat l
        → IsOpenLeaf l → tip_bound up l ≡ leaf.bound → HasPlan asked.site.day asked.site.graph asked.limit path l (Some plan) → Planned asked.site leaf plan arc asked.tree
    by up path fresh at h is_open bound p = absurd (none-some plan (sym p))
    by up path (fixed v) at h is_open bound p = absurd is_open
    by up path (valued o) at h is_open bound p = record {
      up = up;
      path = path;
      own = o;
      at = at;
      bound = bound;
      splits = subst (λ (c : ArcKey). IsSplit asked.site.day asked.site.strict leaf.bound path c plan.b (Some o)) (some-arc p.key arc (sym p.at ∙ asked.at))
          (p.splits, (h.leaf.0, p.sharp, omega (arith, bound)));
    }

pub split-room : (w : TreeView) (leaf : OpenLeaf) (plan : Plan) (arc : ArcKey) → AsksSplit w leaf plan arc → (leaf.kept.seat < length w.seats) × (length w.seats ≤ 20001)
split-room w leaf plan arc asked =
    let p = planned-leaf w leaf plan arc asked in
    let h = its-tip asked.site asked.limit asked.now leaf.bound leaf w asked.tree asked.is p.up p.path (valued p.own) p.at in
    let f = few-seats asked.site asked.limit asked.now leaf.bound (leaf ∷ []) w asked.tree asked.is in
    let few = asked.few in
    (h.below, omega (arith, f, few))

pub split-step : (leaf : OpenLeaf) (w v : TreeView) (plan : Plan) (arc : ArcKey) (o p : OpenLeaf) → IsHalfOf leaf (length w.seats) o → IsHalfOf leaf (length w.seats + 1) p
    → v.seats ≡ forked w.seats leaf.kept.seat leaf.bound arc plan.b → SameLeaves (o ∷ w.waiting) v.waiting → v.processed ≡ w.processed → v.failed ≡ w.failed
    → (asked : AsksSplit w leaf plan arc) → IsHalved asked.site asked.limit asked.now w v leaf p
split-step leaf w v plan arc o p half other seats waiting processed failed asked = by (planned-leaf w leaf plan arc asked)
  where
    by : Planned asked.site leaf plan arc asked.tree → IsHalved asked.site asked.limit asked.now w v leaf p
    by g = record {
      tree = put leaf.kept.seat (fork leaf.kept.seat arc plan.b (Some g.own) (tip (length w.seats) fresh) (tip (length w.seats + 1) fresh)) asked.tree;
      is = forked_tree asked.site asked.limit asked.now leaf.bound leaf w asked.tree asked.is g.up g.path (valued g.own) g.at tt g.bound v arc plan.b (Some g.own) refl g.bound seats asked.now o p (p ∷ []) half other
          g.splits (omega arith) (λ q. let e = waiting q in omega (arith, e)) (omega (arith, processed)) (omega (arith, failed)) (λ ne. (ne, omega arith));
      bound = other.0;
      fresh = other.2;
      processed = processed;
    }
