-- The way from a node up to the root.
use Rattle.std.proofs.Common.{◌≡◌, ◌≢◌, ℕ, arith, ◌+◌, ◌≤◌, ◌<◌, cond, nat_eq, List, [], ◌∷◌, ◌++◌, length, reverse, get_or, refl, ap, sym, ◌∙◌, ◌⊎◌, inl, inr, append_assoc, length-append}
use Rattle.std.proofs.lemmas.Bool.{eq-eqb}
use Rattle.std.proofs.lemmas.List.{append-nil, length-reverse, reverse-append}
use Rattle.std.proofs.lemmas.Option.{same_Some, slice_get-get_or}
use Rattle.model_rosters.specs.declared.instance.Cut.{Cut}
use Rattle.model_rosters.specs.declared.instance.Instance.{Instance}
use Rattle.model_rosters.specs.Arcs.{IsArc}
use Rattle.model_rosters.specs.Cuts.{base_cuts}
use Rattle.model_rosters.specs.Folds.{count, In, Each}
use Rattle.model_rosters.proofs.EachLemmas.{Each-at}
use Rattle.check_certificates.specs.Nodes.{low_cut, high_cut}
use Rattle.check_certificates.specs.declared.growing_laws.seat.Seat.{Seat}
use Rattle.check_certificates.specs.growing_laws.Grown.{Grown, tip, fork, OnForks, numbers}
use Rattle.check_certificates.specs.growing_laws.Seats.{number, seat_at, StandsAt, LeadsUp}
use Rattle.check_certificates.specs.growing_laws.States.{IsSplitAt}
use Rattle.check_certificates.proofs.growing_laws.SeatsLemmas.{in-left, in-right, leads-up}
use Rattle.search_arc_counts.specs.node_path.Paths.{IsNode}
use Rattle.search_arc_counts.specs.node_path.Steps.{AreWithin, IsClimbed, IsClimbing}

-- ---- the path of a node

-- the path of a node of a tree goes on from the cuts above the tree by cuts that can be made
pub record Below (i : Instance) (t : Grown) (cuts : List Cut) (j : ℕ) (path : List Cut) : Type 0 where
  pub rest : List Cut
  pub is : path ≡ cuts ++ rest
  pub within : AreWithin i cuts rest
  pub arcs : Each (λ (c : Cut). IsArc i.grammar c.arc) rest
  pub few : length rest + 1 ≤ length (numbers t)
  pub inside : In j (numbers t)

pub below : (i : Instance) (t : Grown) (cuts : List Cut) (j : ℕ) (path : List Cut) → OnForks (λ above a b own. IsSplitAt i above a b) cuts t → StandsAt cuts t j path → Below i t cuts j path
below i (tip k l) cuts j path forks at = record { rest = []; is = sym at.1 ∙ sym (append-nil cuts); within = tt; arcs = tt; few = omega arith; inside = inl (sym at.0) }
below i (fork k a b own low high) cuts j path forks (inl at) = record { rest = []; is = sym at.1 ∙ sym (append-nil cuts); within = tt; arcs = tt; few = omega arith; inside = inl (sym at.0) }
below i (fork k a b own low high) cuts j path forks (inr (inl at)) =
    let d = below i low (cuts ++ low_cut a b ∷ []) j path forks.1 at in
    record {
      rest = low_cut a b ∷ d.rest;
      is = d.is ∙ append_assoc cuts (low_cut a b ∷ []) d.rest;
      within = ((forks.0.low, forks.0.high), d.within);
      arcs = (forks.0.arc, d.arcs);
      few = let f = d.few in let n = length-append (numbers low) (numbers high) in omega (arith, f, n);
      inside = inr (in-left j (numbers low) (numbers high) d.inside);
    }
below i (fork k a b own low high) cuts j path forks (inr (inr at)) =
    let d = below i high (cuts ++ high_cut a b ∷ []) j path forks.2 at in
    record {
      rest = high_cut a b ∷ d.rest;
      is = d.is ∙ append_assoc cuts (high_cut a b ∷ []) d.rest;
      within = ((forks.0.low, forks.0.high), d.within);
      arcs = (forks.0.arc, d.arcs);
      few = let f = d.few in let n = length-append (numbers low) (numbers high) in omega (arith, f, n);
      inside = inr (in-right j (numbers low) (numbers high) d.inside);
    }

stands-in : (t : Grown) (cuts : List Cut) (j : ℕ) (path : List Cut) → StandsAt cuts t j path → In j (numbers t)
stands-in (tip k l) cuts j path at = inl (sym at.0)
stands-in (fork k a b own low high) cuts j path (inl at) = inl (sym at.0)
stands-in (fork k a b own low high) cuts j path (inr (inl at)) = inr (in-left j (numbers low) (numbers high) (stands-in low (cuts ++ low_cut a b ∷ []) j path at))
stands-in (fork k a b own low high) cuts j path (inr (inr at)) = inr (in-right j (numbers low) (numbers high) (stands-in high (cuts ++ high_cut a b ∷ []) j path at))

in-counted : (j : ℕ) (xs : List ℕ) → In j xs → 1 ≤ count (nat_eq j) xs
in-counted j [] h = absurd h
in-counted j (x ∷ xs) (inl e) = let s : ◌≡◌ {A = ℕ} (cond (nat_eq j x) 1 0) 1 = rw (eq-eqb j x e) refl in omega (arith, s)
in-counted j (x ∷ xs) (inr h) = omega (arith, in-counted j xs h)

-- the path of the tree's own number is empty
root-path : (t : Grown) (cuts : List Cut) (j : ℕ) (path : List Cut) → ((n : ℕ) → count (nat_eq n) (numbers t) ≤ 1) → j ≡ number t → StandsAt cuts t j path → path ≡ cuts
root-path (tip k l) cuts j path once e at = sym at.1
root-path (fork k a b own low high) cuts j path once e (inl at) = sym at.1
root-path (fork k a b own low high) cuts j path once e (inr at) = absurd (omega (arith, once j, own_number, in-counted j (numbers low ++ numbers high) (halves at)))
  where
    own_number : ◌≡◌ {A = ℕ} (cond (nat_eq j k) 1 0) 1
    own_number = rw (eq-eqb j k e) refl

    halves : StandsAt (cuts ++ low_cut a b ∷ []) low j path ⊎ StandsAt (cuts ++ high_cut a b ∷ []) high j path → In j (numbers low ++ numbers high)
    halves (inl h) = in-left j (numbers low) (numbers high) (stands-in low (cuts ++ low_cut a b ∷ []) j path h)
    halves (inr h) = in-right j (numbers low) (numbers high) (stands-in high (cuts ++ high_cut a b ∷ []) j path h)

-- the seat that was read
pub same-seat : (seats : List Seat) (k : ℕ) (s : Seat) → k < length seats → s ≡ get_or seats k s → s ≡ seat_at seats k
same-seat seats k s lt e = e ∙ same_Some (get_or seats k s) (seat_at seats k) (sym (slice_get-get_or seats k s lt) ∙ slice_get-get_or seats k _ lt)

-- ---- the climb

module _ (i : Instance) (seats : List Seat) (start : ℕ) (t : Grown) (path : List Cut) (is : IsNode i seats start t path) where
  pub climb-begun : (old : List Cut) → IsClimbing i t path start old old
  climb-begun old = record { up = []; added = sym (append-nil old); shorter = path; stands = is.stands; down = sym (append-nil path) }

  module _ (k : ℕ) (old new : List Cut) (h : IsClimbing i t path k old new) where
    pub inside : k < length seats
    inside = Each-at (λ (j : ℕ). j < length seats) k (numbers t) is.held.within (stands-in t (base_cuts i) k h.shorter h.stands)

    -- fewer cuts are added than there are seats
    pub climb-left : length new < length old + length seats
    climb-left =
        let whole = below i t (base_cuts i) start path is.splits is.stands in
        let part = below i t (base_cuts i) k h.shorter is.splits h.stands in
        let few = whole.few in
        let size = is.held.size in
        let a = ap length whole.is ∙ length-append (base_cuts i) whole.rest in
        let b = ap length part.is ∙ length-append (base_cuts i) part.rest in
        let d = ap length h.down ∙ length-append h.shorter (reverse h.up) in
        let r = length-reverse h.up in
        let n = ap length h.added ∙ length-append old h.up in
        omega (arith, few, size, a, b, d, r, n)

    pub climb-more : k ≢ 0 → IsClimbing i t path (seat_at seats k).parent old (new ++ (seat_at seats k).cut ∷ [])
    climb-more ne = by (leads-up (seat_at seats) 0 (base_cuts i) t k h.shorter is.held.seated h.stands)
      where
        by : ((k ≡ number t) × (h.shorter ≡ base_cuts i)) ⊎ LeadsUp (seat_at seats) (base_cuts i) t k h.shorter
            → IsClimbing i t path (seat_at seats k).parent old (new ++ (seat_at seats k).cut ∷ [])
        by (inl e) = absurd (ne (e.0 ∙ is.held.root))
        by (inr l) =
            let c = (seat_at seats k).cut in
            record {
              up = h.up ++ c ∷ [];
              added = ap (λ (xs : List Cut). xs ++ c ∷ []) h.added ∙ append_assoc old h.up (c ∷ []);
              shorter = l.shorter;
              stands = l.split;
              down = h.down ∙ ap (λ (xs : List Cut). xs ++ reverse h.up) l.last ∙ append_assoc l.shorter (c ∷ []) (reverse h.up)
                  ∙ ap (λ (xs : List Cut). l.shorter ++ xs) (sym (reverse-append h.up (c ∷ [])));
            }

    pub climb-done : k ≡ 0 → IsClimbed i path old new
    climb-done e =
        let top : h.shorter ≡ base_cuts i = root-path t (base_cuts i) k h.shorter is.held.once (e ∙ sym is.held.root) h.stands in
        record { up = h.up; added = h.added; down = h.down ∙ ap (λ (xs : List Cut). xs ++ reverse h.up) top }
