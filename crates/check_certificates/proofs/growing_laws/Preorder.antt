-- The nodes of the tree that seats hold, one after another.
use Rattle.std.proofs.Common.{◌≡◌, ℕ, arith, ◌+◌, ◌≤◌, ◌<◌, cond, Option, List, [], ◌∷◌, ◌++◌, length, set, refl, ap, sym, subst, ◌∙◌, inl, inr, append_assoc, length-append, get_or-set_other}
use Rattle.std.specs.Prelude.{◌≢◌, nat_eq}
use Rattle.std.proofs.lemmas.List.{append-nil, length-set}
use Rattle.std.proofs.lemmas.Bool.{eq-eqb}
use Rattle.model_rosters.specs.declared.grammar.ArcKey.{ArcKey}
use Rattle.model_rosters.specs.Folds.{count, In, Each}
use Rattle.model_rosters.proofs.EachLemmas.{Each-at}
use Rattle.model_rosters.proofs.arc_laws.FoldsLemmas.{count-append}
use Rattle.model_rosters.proofs.arc_laws.ListEnds.{snoc-same, no-snoc}
use Rattle.check_certificates.specs.declared.cert.Node.{Node}
use Rattle.check_certificates.specs.Nodes.{preorder}
use Rattle.check_certificates.specs.declared.growing_laws.seat.Seat.{Seat}
use Rattle.check_certificates.specs.growing_laws.Grown.{Grown, tip, fork, Leaf, fresh, valued, fixed, Own, raised, numbers, proof_of}
use Rattle.check_certificates.specs.growing_laws.Seats.{number, leaf_node, IsLeafSeat, IsForkSeat, AreSeated, all_nodes, all_numbers, halves_of, IsHead, seat_at, HoldTree, AreOpen, IsListing, pushed_halves, HasHalves}
use Rattle.check_certificates.proofs.growing_laws.SeatsLemmas.{in-left, in-right, number-in, give-nodes}

-- a number that is not counted is none of the list
apart : (k j : ℕ) (xs : List ℕ) → count (nat_eq k) xs ≡ 0 → In j xs → j ≢ k
apart k j [] e h = absurd h
apart k j (x ∷ xs) e (inr h) = apart k j xs (omega (arith, e)) h
apart k j (x ∷ xs) e (inl h) = λ f. let s : ◌≡◌ {A = ℕ} (cond (nat_eq k x) 1 0) 1 = rw (eq-eqb k x (sym f ∙ h)) refl in omega (arith, e, s)

fork-same : (old new : ℕ → Seat) (k : ℕ) (a : ArcKey) (b : ℕ) (own : Option Own) (x y : ℕ) → new k ≡ old k → new x ≡ old x → new y ≡ old y → IsForkSeat old k a b own x y → IsForkSeat new k a b own x y
fork-same old new k a b own x y ek ex ey f = record {
  node = ap (λ (s : Seat). s.node) ek ∙ f.node;
  first = ap (λ (s : Seat). s.low) ek ∙ f.first;
  second = f.second;
  low_parent = ap (λ (s : Seat). s.parent) ex ∙ f.low_parent;
  high_parent = ap (λ (s : Seat). s.parent) ey ∙ f.high_parent;
  low_half = ap (λ (s : Seat). s.cut) ex ∙ f.low_half;
  high_half = ap (λ (s : Seat). s.cut) ey ∙ f.high_half;
}

-- seats elsewhere may change
seated-same : (old new : ℕ → Seat) (above : ℕ) (t : Grown) → ((k : ℕ) → In k (numbers t) → new k ≡ old k) → AreSeated old above t → AreSeated new above t
seated-same old new above (tip k l) same is = subst (λ (s : Seat). IsLeafSeat s above l) (sym (same k (inl refl))) is
seated-same old new above (fork k a b own low high) same is = (
  fork-same old new k a b own (number low) (number high) (same k (inl refl)) (same (number low) (inr (in-left (number low) (numbers low) (numbers high) (number-in low))))
      (same (number high) (inr (in-right (number high) (numbers low) (numbers high) (number-in high)))) is.0,
  seated-same old new (raised above own) low (λ j h. same j (inr (in-left j (numbers low) (numbers high) h))) is.1,
  seated-same old new (raised above own) high (λ j h. same j (inr (in-right j (numbers low) (numbers high) h))) is.2,
)

open-same : (old new : ℕ → Seat) (stack : List ℕ) (ts : List Grown) → ((k : ℕ) → In k (all_numbers ts) → new k ≡ old k) → AreOpen old stack ts → AreOpen new stack ts
open-same old new stack [] same is = is
open-same old new stack (t ∷ ts) same is = (
  is.0,
  is.1,
  is.2,
  seated-same old new is.1 t (λ j h. same j (in-left j (numbers t) (all_numbers ts) h)) is.3,
  open-same old new is.0 ts (λ j h. same j (in-right j (numbers t) (all_numbers ts) h)) is.4,
)

leaf-pushes : (l : Leaf) (low : ℕ) (stack : List ℕ) → pushed_halves (leaf_node l) low stack ≡ stack
leaf-pushes fresh low stack = refl
leaf-pushes (valued o) low stack = refl
leaf-pushes (fixed v) low stack = refl

-- the halves of the first tree are open in its place
open-halves : (seats : ℕ → Seat) (above : ℕ) (t : Grown) (stack : List ℕ) (ts : List Grown) → AreSeated seats above t → AreOpen seats stack ts
    → AreOpen seats (pushed_halves (seats (number t)).node (seats (number t)).low stack) (halves_of t ++ ts)
open-halves seats above (tip k l) stack ts is h = subst (λ (xs : List ℕ). AreOpen seats xs ts) (sym (ap (λ (n : Node). pushed_halves n (seats k).low stack) is.node ∙ leaf-pushes l (seats k).low stack)) h
open-halves seats above (fork k a b own low high) stack ts is h =
    let f = is.0 in
    let e : pushed_halves (seats k).node (seats k).low stack ≡ (stack ++ number high ∷ []) ++ number low ∷ [] =
    ap (λ (n : Node). pushed_halves n (seats k).low stack) f.node ∙ ap (λ (n : ℕ). (stack ++ (n + 1) ∷ []) ++ n ∷ []) f.first ∙ ap (λ (n : ℕ). (stack ++ n ∷ []) ++ number low ∷ []) (sym f.second) in
    (stack ++ number high ∷ [], raised above own, e, is.1, (stack, raised above own, refl, is.2, h))

all-append : (t : Grown) (ts : List Grown) → all_numbers (t ∷ ts) ≡ numbers t ++ all_numbers ts
all-append t ts = refl

module _ (size : ℕ) (whole : Grown) (seats : List Seat) (before stack : List ℕ) (listed : List Node) (k : ℕ) (is : IsListing size whole seats before listed) (e : before ≡ stack ++ k ∷ []) where
  -- the tree whose number was popped
  record Popped : Type 0 where
    pub tree : Grown
    pub rest : List Grown
    pub above : ℕ
    pub number_is : number tree ≡ k
    pub seated : AreSeated (seat_at seats) above tree
    pub others : AreOpen (seat_at seats) stack rest
    pub nodes : listed ++ all_nodes (tree ∷ rest) ≡ preorder (proof_of whole)
    pub once : (j : ℕ) → count (nat_eq j) (all_numbers (tree ∷ rest)) ≤ 1
    pub left : length listed + length (all_numbers (tree ∷ rest)) ≡ size
    pub within : Each (λ j. j < size) (all_numbers (tree ∷ rest))

  popped : Popped
  popped = by is.trees is.stacked is.nodes is.once is.left is.within
    where
      by : (ts : List Grown) → AreOpen (seat_at seats) before ts → listed ++ all_nodes ts ≡ preorder (proof_of whole) → ((j : ℕ) → count (nat_eq j) (all_numbers ts) ≤ 1)
          → length listed + length (all_numbers ts) ≡ size → Each (λ j. j < size) (all_numbers ts) → Popped
      by [] h n o l w = absurd (no-snoc stack k (sym e ∙ h))
      by (t ∷ ts) h n o l w =
          let q = snoc-same h.0 stack (number t) k (sym h.2 ∙ e) in
          record { tree = t; rest = ts; above = h.1; number_is = q.1; seated = h.3; others = subst (λ (xs : List ℕ). AreOpen (seat_at seats) xs ts) q.0 h.4; nodes = n; once = o; left = l; within = w }

  head : IsHead (seat_at seats) popped.tree popped.rest
  head = give-nodes (seat_at seats) popped.above popped.tree popped.rest popped.seated

  listed_as : all_numbers (popped.tree ∷ popped.rest) ≡ k ∷ all_numbers (halves_of popped.tree ++ popped.rest)
  listed_as = head.listed ∙ ap (λ (n : ℕ). n ∷ all_numbers (halves_of popped.tree ++ popped.rest)) popped.number_is

  pub inside : k < length seats
  inside =
      let w = subst (λ (xs : List ℕ). Each (λ j. j < size) xs) listed_as popped.within in
      let s = is.same in
      let f = w.0 in
      omega (arith, f, s)

  pub more-left : length listed < size
  more-left = let l = popped.left in let n = ap length listed_as in omega (arith, l, n)

  pub halves-fit : length seats < 4294967295 → HasHalves (seat_at seats k).node (seat_at seats k).low
  halves-fit few = subst (λ (n : ℕ). HasHalves (seat_at seats n).node (seat_at seats n).low) popped.number_is (by popped.tree popped.above popped.rest popped.seated popped.within)
    where
      by : (t : Grown) (above : ℕ) (ts : List Grown) → AreSeated (seat_at seats) above t → Each (λ j. j < size) (all_numbers (t ∷ ts)) → HasHalves (seat_at seats (number t)).node (seat_at seats (number t)).low
      by (tip n l) above ts s w = subst (λ (m : Node). HasHalves m (seat_at seats n).low) (sym s.node) (leaf l)
        where
          leaf : (l : Leaf) → HasHalves (leaf_node l) (seat_at seats n).low
          leaf fresh = tt
          leaf (valued o) = tt
          leaf (fixed v) = tt
      by (fork n a b own low high) above ts s w =
          let f = s.0 in
          let i = Each-at (λ j. j < size) (number low) (all_numbers (fork n a b own low high ∷ ts)) w (inr (in-left (number low) (numbers low ++ numbers high) (all_numbers ts) (in-left (number low) (numbers low) (numbers high) (number-in low)))) in
          let same = is.same in
          let lt : (seat_at seats n).low < 4294967295 = let g = f.first in omega (arith, g, i, same, few) in
          subst (λ (m : Node). HasHalves m (seat_at seats n).low) (sym f.node) lt

  pub further : (s : Seat) → IsListing size whole (set seats k s) (pushed_halves (seat_at seats k).node (seat_at seats k).low stack) (listed ++ (seat_at seats k).node ∷ [])
  further s =
      let p = popped in
      let hd = head in
      let la = listed_as in
      let kept : (j : ℕ) → In j (all_numbers (halves_of p.tree ++ p.rest)) → seat_at (set seats k s) j ≡ seat_at seats j =
      λ j h. get_or-set_other seats k j s _ (apart k j (all_numbers (halves_of p.tree ++ p.rest)) (none p.once la) h) in
      let st = subst (λ (n : ℕ). AreOpen (seat_at seats) (pushed_halves (seat_at seats n).node (seat_at seats n).low stack) (halves_of p.tree ++ p.rest)) p.number_is
      (open-halves (seat_at seats) p.above p.tree stack p.rest p.seated p.others) in
      record {
        trees = halves_of p.tree ++ p.rest;
        stacked = open-same (seat_at seats) (seat_at (set seats k s)) _ (halves_of p.tree ++ p.rest) kept st;
        nodes = append_assoc listed ((seat_at seats k).node ∷ []) (all_nodes (halves_of p.tree ++ p.rest))
            ∙ ap (λ (n : ℕ). listed ++ ((seat_at seats n).node ∷ all_nodes (halves_of p.tree ++ p.rest))) (sym p.number_is)
            ∙ ap (λ (xs : List Node). listed ++ xs) (sym hd.nodes) ∙ p.nodes;
        once = λ j. let o = p.once j in let c = ap (λ (xs : List ℕ). count (nat_eq j) xs) la in omega (arith, o, c);
        left = let l = p.left in let n = ap length la in let a = length-append listed ((seat_at seats k).node ∷ []) in omega (arith, l, n, a);
        within = (subst (λ (xs : List ℕ). Each (λ j. j < size) xs) la p.within).1;
        same = length-set seats k s ∙ is.same;
      }
    where
      none : ((j : ℕ) → count (nat_eq j) (all_numbers (popped.tree ∷ popped.rest)) ≤ 1) → all_numbers (popped.tree ∷ popped.rest) ≡ k ∷ all_numbers (halves_of popped.tree ++ popped.rest)
          → count (nat_eq k) (all_numbers (halves_of popped.tree ++ popped.rest)) ≡ 0
      none once la =
          let o = once k in
          let c = ap (λ (xs : List ℕ). count (nat_eq k) xs) la in
          let one : ◌≡◌ {A = ℕ} (cond (nat_eq k k) 1 0) 1 = rw (eq-eqb k k refl) refl in
          omega (arith, o, c, one)

pub began : (t : Grown) (seats : List Seat) → HoldTree seats t → IsListing (length seats) t seats (0 ∷ []) []
began t seats h = record {
  trees = t ∷ [];
  stacked = ([], 0, ap (λ (n : ℕ). n ∷ []) (sym h.root), h.seated, refl);
  nodes = append-nil (preorder (proof_of t));
  once = λ j. let o = h.once j in let c = count-append (nat_eq j) (numbers t) [] in omega (arith, o, c);
  left = let s = h.size in let a = length-append (numbers t) [] in omega (arith, s, a);
  within = subst (λ (xs : List ℕ). Each (λ j. j < length seats) xs) (sym (append-nil (numbers t))) h.within;
  same = refl;
}

pub ended : (size : ℕ) (t : Grown) (seats : List Seat) (listed : List Node) → IsListing size t seats [] listed → listed ≡ preorder (proof_of t)
ended size t seats listed is = by is.trees is.stacked is.nodes
  where
    by : (ts : List Grown) → AreOpen (seat_at seats) [] ts → listed ++ all_nodes ts ≡ preorder (proof_of t) → listed ≡ preorder (proof_of t)
    by [] h n = sym (append-nil listed) ∙ n
    by (u ∷ ts) h n = absurd (no-snoc h.0 (number u) (sym h.2))
