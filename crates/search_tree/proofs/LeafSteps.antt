-- A leaf in hand that shows something or is split keeps what is known of the tree.
use Rattle.std.proofs.Common.{◌≡◌, ℕ, arith, ◌+◌, ◌≤◌, ◌<◌, max, cond, Option, List, [], ◌∷◌, ◌++◌, length, refl, ap, sym, subst, ◌∙◌, inl, inr}
use Rattle.std.specs.Prelude.{◌≢◌}
use Rattle.model_rosters.specs.declared.grammar.ArcKey.{ArcKey}
use Rattle.model_rosters.specs.declared.instance.Cut.{Cut}
use Rattle.model_rosters.specs.Cuts.{base_cuts}
use Rattle.model_rosters.specs.Folds.{count}
use Rattle.check_certificates.specs.declared.cert.Node.{Node}
use Rattle.check_certificates.specs.declared.cert.Node.TheVariants.{Split}
use Rattle.check_certificates.specs.Nodes.{visits}
use Rattle.check_certificates.specs.growing_laws.Grown.{Grown, tip, fork, Leaf, fresh, Own, raised, tip_bound, leaf_value, leaf_busy, proof_of, prices_of, put, unpriced}
use Rattle.check_certificates.specs.declared.growing_laws.seat.Seat.{Seat}
use Rattle.check_certificates.specs.growing_laws.Boxes.{IsOpenLeaf}
use Rattle.check_certificates.specs.growing_laws.Opens.{Entry}
use Rattle.check_certificates.specs.growing_laws.Seats.{leaf_node, IsLeafSeat, seat_at}
use Rattle.check_certificates.specs.growing_laws.States.{IsTip, IsLeaf, IsSplit, IsGraft}
use Rattle.search_open_nodes.specs.declared.leaf.OpenLeaf.{OpenLeaf}
use Rattle.search_open_nodes.specs.Queues.{SameLeaves}
use Rattle.search_tree.specs.Views.{TreeView, Site, IsLeafAt, entry_of}
use Rattle.search_tree.specs.Trees.{last_count, is_too_long, IsTree}
use Rattle.search_tree.specs.Steps.{split_of, forked, marked, IsHalfOf}
use Rattle.search_tree.proofs.NumberedLeaves.{at-leaf, is-one, is-none}
use Rattle.search_tree.proofs.Regrowth.{Reseated, regrow}
use Rattle.search_tree.proofs.StepsLemmas.{leaf-seat, marked-seats, forked-seats}

module _ (s : Site) (limit now low : ℕ) (leaf : OpenLeaf) (w : TreeView) (t : Grown) (is : IsTree s limit now low (leaf ∷ []) w t)
    (up : ℕ) (path : List Cut) (l : Leaf) (at : IsLeafAt 0 (base_cuts s.day) t leaf.kept.seat up path l) where
  pub its-tip : IsTip s.day limit low (length w.seats) t up path leaf.kept.seat l
  its-tip = at-leaf (IsTip s.day limit low (length w.seats) t) 0 (base_cuts s.day) t leaf.kept.seat up path l is.growing.tips at

  its-seat : IsLeafSeat (seat_at w.seats leaf.kept.seat) up l
  its-seat = leaf-seat (seat_at w.seats) 0 (base_cuts s.day) t leaf.kept.seat up path l is.held.seated at

  module _ (is_open : IsOpenLeaf l) (bound : tip_bound up l ≡ leaf.bound) (v : TreeView) where
    -- the leaf shows something
    module _ (x : Leaf) (node : Node) (value : ℕ) (same_node : node ≡ leaf_node x) (same_value : value ≡ leaf_value x)
        (seats : v.seats ≡ marked w.seats leaf.kept.seat node value) where
      pub marked_graft : IsLeaf s.day limit path x → low ≤ tip_bound up x → IsGraft s.day s.strict limit low (length w.seats) (length v.seats) leaf.kept.seat (tip leaf.kept.seat x) up path
      marked_graft h le = record {
        tips = (
          record {
            leaf = h;
            bound = le;
            below = subst (λ (xs : List Seat). leaf.kept.seat < length xs) (sym seats) (marked-seats w.seats leaf.kept.seat up value node l x its-tip.below its-seat same_node same_value).within.0;
            once = is-one leaf.kept.seat leaf.kept.seat refl;
          },
          inl refl,
        );
        forks = tt;
      }

      pub marked_seated : Reseated w.seats v.seats leaf.kept.seat up (tip leaf.kept.seat x)
      marked_seated = subst (λ (xs : List Seat). Reseated w.seats xs leaf.kept.seat up (tip leaf.kept.seat x)) (sym seats) (marked-seats w.seats leaf.kept.seat up value node l x its-tip.below its-seat same_node same_value)

    -- the leaf is split
    module _ (a : ArcKey) (b : ℕ) (own : Option Own) (splits : split_of (leaf_node l) a b ≡ Split a b (prices_of own)) (risen : raised up own ≡ leaf.bound)
        (seats : v.seats ≡ forked w.seats leaf.kept.seat leaf.bound a b) where
      forked_seated : Reseated w.seats v.seats leaf.kept.seat up (fork leaf.kept.seat a b own (tip (length w.seats) fresh) (tip (length w.seats + 1) fresh))
      forked_seated = subst (λ (xs : List Seat). Reseated w.seats xs leaf.kept.seat up (fork leaf.kept.seat a b own (tip (length w.seats) fresh) (tip (length w.seats + 1) fresh))) (sym seats)
          (forked-seats w.seats leaf.kept.seat up leaf.bound b a own (leaf_node l) its-tip.below its-seat.node splits risen)

      forked_graft : IsSplit s.day s.strict low path a b own → low ≤ leaf.bound
          → IsGraft s.day s.strict limit low (length w.seats) (length v.seats) leaf.kept.seat (fork leaf.kept.seat a b own (tip (length w.seats) fresh) (tip (length w.seats + 1) fresh)) up path
      forked_graft h le =
          let room = forked_seated.within in
          record {
            tips = (
              (
                record {
                  leaf = tt;
                  bound = let r = risen in omega (arith, r, le);
                  below = room.1.0;
                  once = let x = is-one (length w.seats) (length w.seats) refl in let y = is-none (length w.seats + 1) (length w.seats) (λ e. omega (arith, e)) in omega (arith, x, y);
                },
                inr (omega arith),
              ),
              (
                record {
                  leaf = tt;
                  bound = let r = risen in omega (arith, r, le);
                  below = room.1.1.0;
                  once = let x = is-one (length w.seats + 1) (length w.seats + 1) refl in let y = is-none (length w.seats) (length w.seats + 1) (λ e. omega (arith, e)) in omega (arith, x, y);
                },
                inr (omega arith),
              ),
            );
            forks = (h, tt, tt);
          }

      pub forked_tree : (later : ℕ) (o p : OpenLeaf) (hand : List OpenLeaf) → IsHalfOf leaf (length w.seats) o → IsHalfOf leaf (length w.seats + 1) p
          → IsSplit s.day s.strict low path a b own → low ≤ leaf.bound
          → SameLeaves (o ∷ p ∷ w.waiting) (hand ++ v.waiting)
          → v.processed + leaf_busy l ≡ w.processed + 1 → v.failed ≡ w.failed + unpriced own
          → (later ≢ last_count → (now ≢ last_count) × (unpriced own + now ≤ later + count (is_too_long s.day) (visits path (proof_of (fork leaf.kept.seat a b own (tip (length w.seats) fresh) (tip (length w.seats + 1) fresh))))))
          → IsTree s limit later low hand v (put leaf.kept.seat (fork leaf.kept.seat a b own (tip (length w.seats) fresh) (tip (length w.seats + 1) fresh)) t)
      forked_tree later o p hand half other h le same processed failed counted =
          regrow s limit now later low leaf w v (o ∷ p ∷ []) hand up path l (fork leaf.kept.seat a b own (tip (length w.seats) fresh) (tip (length w.seats + 1) fresh)) t is at is_open bound (record {
            seats = forked_seated;
            graft = forked_graft h le;
            entries = λ q.
                let x = ap {B = ℕ} (λ (e : Entry). cond (q e) 1 0) (entry (length w.seats) o half) in
                let y = ap {B = ℕ} (λ (e : Entry). cond (q e) 1 0) (entry (length w.seats + 1) p other) in
                omega (arith, x, y);
            queue = same;
            beside = (inr (let e = half.1 in omega (arith, e)), (inr (let e = other.1 in omega (arith, e)), tt));
            planned = ((λ e. half.2, λ e. half.2), ((λ e. other.2, λ e. other.2), tt));
            processed = omega (arith, processed);
            failed = omega (arith, failed);
            counted = λ ne. let c = counted ne in (c.0, let d = c.1 in omega (arith, d));
          })
        where
          entry : (n : ℕ) (x : OpenLeaf) → IsHalfOf leaf n x → ◌≡◌ {A = Entry} (record { seat = n; bound = tip_bound (raised up own) fresh }) (entry_of x)
          entry n x h =
              let r : max (raised up own) 0 ≡ x.bound = let e = h.0 in let r = risen in omega (arith, e, r) in
              ap {B = Entry} (λ (m : ℕ). record { seat = m; bound = max (raised up own) 0 }) (sym h.1) ∙ ap {B = Entry} (λ (m : ℕ). record { seat = x.kept.seat; bound = m }) r
