-- The seats once a leaf shows something, or is split.
use Rattle.std.proofs.Common.{◌≡◌, ℕ, arith, ◌+◌, ◌≤◌, ◌<◌, true, false, cond, Option, List, [], ◌∷◌, ◌++◌, length, slice_set, refl, ap, sym, subst, ◌∙◌, ◌⊎◌, inl, inr}
use Rattle.std.specs.Prelude.{◌≢◌, nat_eq}
use Rattle.std.proofs.lemmas.List.{get_or-set_same, get_or-set_other, get_or_append_left, get_or-append-add, length-set, length-append}
use Rattle.model_rosters.specs.declared.grammar.ArcKey.{ArcKey}
use Rattle.model_rosters.specs.declared.instance.Cut.{Cut}
use Rattle.model_rosters.specs.Folds.{count}
use Rattle.check_certificates.specs.declared.cert.Node.{Node}
use Rattle.check_certificates.specs.declared.cert.Node.TheVariants.{Split}
use Rattle.check_certificates.specs.Nodes.{low_cut, high_cut}
use Rattle.check_certificates.specs.growing_laws.Grown.{Grown, tip, fork, Leaf, fresh, Own, raised, leaf_value, prices_of}
use Rattle.check_certificates.specs.declared.growing_laws.seat.Seat.{Seat}
use Rattle.check_certificates.specs.growing_laws.Seats.{leaf_node, IsLeafSeat, AreSeated, seat_at}
use Rattle.check_certificates.proofs.growing_laws.GrownLemmas.{told}
use Rattle.search_tree.specs.Views.{IsLeafAt}
use Rattle.search_tree.specs.Steps.{split_of, half_seat, split_seat, forked, marked_seat, marked}
use Rattle.search_tree.proofs.NumberedLeaves.{is-one, is-none}
use Rattle.search_tree.proofs.Regrowth.{Reseated}

-- the seat of a leaf that is found
pub leaf-seat : (seats : ℕ → Seat) (above : ℕ) (cuts : List Cut) (t : Grown) (n up : ℕ) (path : List Cut) (l : Leaf) → AreSeated seats above t → IsLeafAt above cuts t n up path l → IsLeafSeat (seats n) up l
leaf-seat seats above cuts (tip k x) n up path l is at =
    subst (λ (y : Leaf). IsLeafSeat (seats n) up y) at.3 (subst (λ (u : ℕ). IsLeafSeat (seats n) u x) at.1 (subst (λ (j : ℕ). IsLeafSeat (seats j) above x) at.0 is))
leaf-seat seats above cuts (fork k a b own low high) n up path l is (inl at) = leaf-seat seats (raised above own) (cuts ++ low_cut a b ∷ []) low n up path l is.1 at
leaf-seat seats above cuts (fork k a b own low high) n up path l is (inr at) = leaf-seat seats (raised above own) (cuts ++ high_cut a b ∷ []) high n up path l is.2 at

one-count : (j k : ℕ) → count (nat_eq j) (k ∷ []) ≤ 1
one-count j k = by (told j k)
  where
    by : (j ≡ k) × (nat_eq j k ≡ true) ⊎ (j ≢ k) × (nat_eq j k ≡ false) → cond (nat_eq j k) 1 0 + 0 ≤ 1
    by (inl h) = let e = is-one j k h.0 in omega (arith, e)
    by (inr h) = let e = is-none j k h.0 in omega (arith, e)

pub marked-seats : (seats : List Seat) (k up value : ℕ) (node : Node) (l x : Leaf) → k < length seats → IsLeafSeat (seat_at seats k) up l → node ≡ leaf_node x → value ≡ leaf_value x
    → Reseated seats (marked seats k node value) k up (tip k x)
marked-seats seats k up value node l x within is e f = record {
  top = refl;
  size = let s = length-set seats k (marked_seat (seat_at seats k) node value) in omega (arith, s);
  apart = (inl refl, tt);
  once = λ j. one-count j k;
  within = (let s = length-set seats k (marked_seat (seat_at seats k) node value) in omega (arith, s, within), tt);
  same = λ j h ne. get_or-set_other seats k j (marked_seat (seat_at seats k) node value) _ ne;
  links = record { parent = ap (λ (s : Seat). s.parent) here; cut = ap (λ (s : Seat). s.cut) here };
  seated = record {
    node = ap (λ (s : Seat). s.node) here ∙ e;
    value = ap (λ (s : Seat). s.value) here ∙ f;
    above = ap (λ (s : Seat). s.above) here ∙ is.above;
  };
}
  where
    here : seat_at (marked seats k node value) k ≡ marked_seat (seat_at seats k) node value
    here = get_or-set_same seats k (marked_seat (seat_at seats k) node value) _ within

-- two seats behind the others
pushed : (xs : List Seat) (m : ℕ) (x y : Seat) → length xs ≡ m → (seat_at (xs ++ x ∷ y ∷ []) m ≡ x) × (seat_at (xs ++ x ∷ y ∷ []) (m + 1) ≡ y)
pushed xs m x y e = subst (λ (n : ℕ). (seat_at (xs ++ x ∷ y ∷ []) n ≡ x) × (seat_at (xs ++ x ∷ y ∷ []) (n + 1) ≡ y)) e (first, get_or-append-add xs (x ∷ y ∷ []) 1 _)
  where
    first : seat_at (xs ++ x ∷ y ∷ []) (length xs) ≡ x
    first =
        let n : length xs + 0 ≡ length xs = omega arith in
        subst (λ (n : ℕ). seat_at (xs ++ x ∷ y ∷ []) n ≡ x) n (get_or-append-add xs (x ∷ y ∷ []) 0 _)

module _ (seats : List Seat) (k up above b : ℕ) (a : ArcKey) (own : Option Own) (node : Node) (within : k < length seats) (is_node : (seat_at seats k).node ≡ node)
    (splits : split_of node a b ≡ Split a b (prices_of own)) (risen : raised up own ≡ above) where
  set_length : length (slice_set seats k (split_seat (seat_at seats k) a b (length seats))) ≡ length seats
  set_length = length-set seats k (split_seat (seat_at seats k) a b (length seats))

  halves : (seat_at (forked seats k above a b) (length seats) ≡ half_seat k above (low_cut a b)) × (seat_at (forked seats k above a b) (length seats + 1) ≡ half_seat k above (high_cut a b))
  halves = pushed (slice_set seats k (split_seat (seat_at seats k) a b (length seats))) (length seats) (half_seat k above (low_cut a b)) (half_seat k above (high_cut a b)) set_length

  old : (j : ℕ) → j < length seats → seat_at (forked seats k above a b) j ≡ seat_at (slice_set seats k (split_seat (seat_at seats k) a b (length seats))) j
  old j h = get_or_append_left (slice_set seats k (split_seat (seat_at seats k) a b (length seats))) (half_seat k above (low_cut a b) ∷ half_seat k above (high_cut a b) ∷ []) _ j (let s = set_length in omega (arith, s, h))

  here : seat_at (forked seats k above a b) k ≡ split_seat (seat_at seats k) a b (length seats)
  here = old k within ∙ get_or-set_same seats k (split_seat (seat_at seats k) a b (length seats)) _ within

  long : length (forked seats k above a b) ≡ length seats + 2
  long = let s = set_length in let e = length-append (slice_set seats k (split_seat (seat_at seats k) a b (length seats))) (half_seat k above (low_cut a b) ∷ half_seat k above (high_cut a b) ∷ []) in omega (arith, s, e)

  once_each : (j : ℕ) → count (nat_eq j) (k ∷ length seats ∷ (length seats + 1) ∷ []) ≤ 1
  once_each j = by (told j k) (told j (length seats)) (told j (length seats + 1))
    where
      by : (j ≡ k) × (nat_eq j k ≡ true) ⊎ (j ≢ k) × (nat_eq j k ≡ false) → (j ≡ length seats) × (nat_eq j (length seats) ≡ true) ⊎ (j ≢ length seats) × (nat_eq j (length seats) ≡ false)
          → (j ≡ length seats + 1) × (nat_eq j (length seats + 1) ≡ true) ⊎ (j ≢ length seats + 1) × (nat_eq j (length seats + 1) ≡ false)
          → cond (nat_eq j k) 1 0 + (cond (nat_eq j (length seats)) 1 0 + (cond (nat_eq j (length seats + 1)) 1 0 + 0)) ≤ 1
      by (inl x) (inl y) z = let w = within in absurd (omega (arith, x.0, y.0, w))
      by (inl x) (inr y) (inl z) = let w = within in absurd (omega (arith, x.0, z.0, w))
      by (inl x) (inr y) (inr z) = rw (x.1, y.1, z.1) (omega arith)
      by (inr x) (inl y) (inl z) = absurd (omega (arith, y.0, z.0))
      by (inr x) (inl y) (inr z) = rw (x.1, y.1, z.1) (omega arith)
      by (inr x) (inr y) (inl z) = rw (x.1, y.1, z.1) (omega arith)
      by (inr x) (inr y) (inr z) = rw (x.1, y.1, z.1) (omega arith)

  half : (n : ℕ) (c : Cut) → seat_at (forked seats k above a b) n ≡ half_seat k above c → IsLeafSeat (seat_at (forked seats k above a b) n) (raised up own) fresh
  half n c e = record {
    node = ap (λ (s : Seat). s.node) e;
    value = ap (λ (s : Seat). s.value) e;
    above = ap (λ (s : Seat). s.above) e ∙ sym risen;
  }

  pub forked-seats : Reseated seats (forked seats k above a b) k up (fork k a b own (tip (length seats) fresh) (tip (length seats + 1) fresh))
  forked-seats = record {
    top = refl;
    size = let s = long in omega (arith, s);
    apart = (inl refl, (inr (omega arith), (inr (omega arith), tt)));
    once = once_each;
    within = let s = long in (omega (arith, s, within), (omega (arith, s), (omega (arith, s), tt)));
    same = λ j h ne. old j h ∙ get_or-set_other seats k j (split_seat (seat_at seats k) a b (length seats)) _ ne;
    links = record { parent = ap (λ (s : Seat). s.parent) here; cut = ap (λ (s : Seat). s.cut) here };
    seated = (
      record {
        node = ap (λ (s : Seat). s.node) here ∙ ap (λ (n : Node). split_of n a b) is_node ∙ splits;
        first = ap (λ (s : Seat). s.low) here;
        second = refl;
        low_parent = ap (λ (s : Seat). s.parent) halves.0;
        high_parent = ap (λ (s : Seat). s.parent) halves.1;
        low_half = ap (λ (s : Seat). s.cut) halves.0;
        high_half = ap (λ (s : Seat). s.cut) halves.1;
      },
      half (length seats) (low_cut a b) halves.0,
      half (length seats + 1) (high_cut a b) halves.1,
    );
  }
