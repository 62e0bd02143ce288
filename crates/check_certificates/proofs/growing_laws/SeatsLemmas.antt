-- The seats of a growing tree.
use Rattle.std.proofs.Common.{◌≡◌, ℕ, arith, ◌+◌, ◌*◌, true, false, cond, List, [], ◌∷◌, ◌++◌, refl, ap, sym, subst, ◌∙◌, ◌⊎◌, inl, inr, append_assoc}
use Rattle.std.specs.Prelude.{◌≢◌, nat_eq}
use Rattle.model_rosters.specs.declared.instance.Cut.{Cut}
use Rattle.model_rosters.specs.Folds.{count, In}
use Rattle.model_rosters.proofs.arc_laws.FoldsLemmas.{count-append}
use Rattle.check_certificates.specs.declared.cert.Node.{Node}
use Rattle.check_certificates.specs.declared.cert.Node.TheVariants.{Split}
use Rattle.check_certificates.specs.Nodes.{low_cut, high_cut, preorder}
use Rattle.check_certificates.specs.growing_laws.Grown.{Grown, tip, fork, Leaf, fresh, valued, fixed, prices_of, raised, numbers, put, proof_of}
use Rattle.check_certificates.specs.declared.growing_laws.seat.Seat.{Seat}
use Rattle.check_certificates.specs.growing_laws.Seats.{leaf_node, number, IsLeafSeat, IsForkSeat, AreSeated, IsUnsplit, SameLinks, AtLeaf, SeatedPut, PutNumbers, LeadsUp, SeatsLeadUp, all_nodes, all_numbers, SeatsGiveNodes}
use Rattle.check_certificates.proofs.growing_laws.GrownLemmas.{told}

pub in-left : (x : ℕ) (xs ys : List ℕ) → In x xs → In x (xs ++ ys)
in-left x [] ys h = absurd h
in-left x (z ∷ xs) ys (inl e) = inl e
in-left x (z ∷ xs) ys (inr h) = inr (in-left x xs ys h)

pub in-right : (x : ℕ) (xs ys : List ℕ) → In x ys → In x (xs ++ ys)
in-right x [] ys h = h
in-right x (z ∷ xs) ys h = inr (in-right x xs ys h)

pub number-in : (t : Grown) → In (number t) (numbers t)
number-in (tip k l) = inl refl
number-in (fork k a b own low high) = inl refl

-- the top of a tree keeps its number
pub number-put : (n : ℕ) (new t : Grown) → number new ≡ n → number (put n new t) ≡ number t
number-put n new (fork k a b own low high) e = refl
number-put n new (tip k l) e = by (told k n)
  where
    by : (k ≡ n) × (nat_eq k n ≡ true) ⊎ (k ≢ n) × (nat_eq k n ≡ false) → number (cond (nat_eq k n) new (tip k l)) ≡ k
    by (inl h) = rw h.1 (e ∙ sym h.0)
    by (inr h) = rw h.1 refl

module _ (old seats : ℕ → Seat) (n : ℕ) (new : Grown) (top : number new ≡ n) (links : SameLinks (seats n) (old n)) where
  -- links up stay at every number of the tree
  linked : (k : ℕ) → (k ≢ n → seats k ≡ old k) → SameLinks (seats k) (old k)
  linked k same = by (told k n)
    where
      by : (k ≡ n) × (nat_eq k n ≡ true) ⊎ (k ≢ n) × (nat_eq k n ≡ false) → SameLinks (seats k) (old k)
      by (inl h) = subst (λ (j : ℕ). SameLinks (seats j) (old j)) (sym h.0) links
      by (inr h) = record { parent = ap (λ (s : Seat). s.parent) (same h.0); cut = ap (λ (s : Seat). s.cut) (same h.0) }

  seated : (above : ℕ) (t : Grown) → IsUnsplit n t → ((k : ℕ) → In k (numbers t) → k ≢ n → seats k ≡ old k) → AtLeaf (λ up. AreSeated seats up new) n above t → AreSeated old above t → AreSeated seats above (put n new t)
  seated above (tip k l) un same at is = by (told k n)
    where
      by : (k ≡ n) × (nat_eq k n ≡ true) ⊎ (k ≢ n) × (nat_eq k n ≡ false) → AreSeated seats above (cond (nat_eq k n) new (tip k l))
      by (inl h) = rw h.1 (at h.0)
      by (inr h) = rw h.1 (subst (λ (s : Seat). IsLeafSeat s above l) (sym (same k (inl refl) h.0)) is)
  seated above (fork k a b own low high) un same at is =
      let x = number-put n new low top in
      let y = number-put n new high top in
      let here = same k (inl refl) un.0 in
      let p = linked (number low) (λ ne. same (number low) (inr (in-left (number low) (numbers low) (numbers high) (number-in low))) ne) in
      let q = linked (number high) (λ ne. same (number high) (inr (in-right (number high) (numbers low) (numbers high) (number-in high))) ne) in
      let f = is.0 in
      let g : IsForkSeat seats k a b own (number low) (number high) = record {
        node = ap (λ (s : Seat). s.node) here ∙ f.node;
        first = ap (λ (s : Seat). s.low) here ∙ f.first;
        second = f.second;
        low_parent = p.parent ∙ f.low_parent;
        high_parent = q.parent ∙ f.high_parent;
        low_half = p.cut ∙ f.low_half;
        high_half = q.cut ∙ f.high_half;
      } in (
        subst (λ (m : ℕ). IsForkSeat seats k a b own m (number (put n new high))) (sym x) (subst (λ (m : ℕ). IsForkSeat seats k a b own (number low) m) (sym y) g),
        seated (raised above own) low un.1 (λ j h ne. same j (inr (in-left j (numbers low) (numbers high) h)) ne) at.0 is.1,
        seated (raised above own) high un.2 (λ j h ne. same j (inr (in-right j (numbers low) (numbers high) h)) ne) at.1 is.2,
      )

pub seated-put : SeatedPut
seated-put old seats n above new t top un same links at is = seated old seats n new top links above t un same at is

pub put-numbers : PutNumbers
put-numbers j n new (tip k l) = by (told k n)
  where
    by : (k ≡ n) × (nat_eq k n ≡ true) ⊎ (k ≢ n) × (nat_eq k n ≡ false)
        → count (nat_eq j) (numbers (cond (nat_eq k n) new (tip k l))) + cond (nat_eq k n) 1 0 * cond (nat_eq j n) 1 0 ≡ cond (nat_eq j k) 1 0 + 0 + cond (nat_eq k n) 1 0 * count (nat_eq j) (numbers new)
    by (inl e) = let s = ap {B = ℕ} (λ (m : ℕ). cond (nat_eq j m) 1 0) e.0 in rw e.1 (omega (arith, s))
    by (inr e) = rw e.1 (omega arith)
put-numbers j n new (fork k a b own low high) =
    let p = put-numbers j n new low in
    let q = put-numbers j n new high in
    let x = count-append (nat_eq j) (numbers (put n new low)) (numbers (put n new high)) in
    let y = count-append (nat_eq j) (numbers low) (numbers high) in
    omega (arith, p, q, x, y)

pub leads-up : SeatsLeadUp
leads-up seats above cuts (tip k l) j path is h = inl (sym h.0, sym h.1)
leads-up seats above cuts (fork k a b own low high) j path is (inl h) = inl (sym h.0, sym h.1)
leads-up seats above cuts (fork k a b own low high) j path is (inr (inl h)) = by (leads-up seats (raised above own) (cuts ++ low_cut a b ∷ []) low j path is.1 h)
  where
    f : IsForkSeat seats k a b own (number low) (number high)
    f = is.0

    by : ((j ≡ number low) × (path ≡ cuts ++ low_cut a b ∷ [])) ⊎ LeadsUp seats (cuts ++ low_cut a b ∷ []) low j path
        → ((j ≡ k) × (path ≡ cuts)) ⊎ LeadsUp seats cuts (fork k a b own low high) j path
    by (inr u) = inr (record { shorter = u.shorter; split = inr (inl u.split); last = u.last })
    by (inl e) = inr (subst (λ (m : ℕ). LeadsUp seats cuts (fork k a b own low high) m path) (sym e.0) (record {
      shorter = cuts;
      split = inl (sym is.0.low_parent, refl);
      last = e.1 ∙ ap (λ (c : Cut). cuts ++ c ∷ []) (sym is.0.low_half);
    }))
leads-up seats above cuts (fork k a b own low high) j path is (inr (inr h)) = by (leads-up seats (raised above own) (cuts ++ high_cut a b ∷ []) high j path is.2 h)
  where
    by : ((j ≡ number high) × (path ≡ cuts ++ high_cut a b ∷ [])) ⊎ LeadsUp seats (cuts ++ high_cut a b ∷ []) high j path
        → ((j ≡ k) × (path ≡ cuts)) ⊎ LeadsUp seats cuts (fork k a b own low high) j path
    by (inr u) = inr (record { shorter = u.shorter; split = inr (inr u.split); last = u.last })
    by (inl e) = inr (subst (λ (m : ℕ). LeadsUp seats cuts (fork k a b own low high) m path) (sym e.0) (record {
      shorter = cuts;
      split = inl (sym is.0.high_parent, refl);
      last = e.1 ∙ ap (λ (c : Cut). cuts ++ c ∷ []) (sym is.0.high_half);
    }))

leaf-nodes : (l : Leaf) (k : ℕ) (rest : List Node) → preorder (proof_of (tip k l)) ++ rest ≡ leaf_node l ∷ rest
leaf-nodes fresh k rest = refl
leaf-nodes (valued o) k rest = refl
leaf-nodes (fixed v) k rest = refl

pub give-nodes : SeatsGiveNodes
give-nodes seats above (tip k l) rest is = record {
  nodes = leaf-nodes l k (all_nodes rest) ∙ ap (λ (m : Node). m ∷ all_nodes rest) (sym is.node);
  listed = refl;
}
give-nodes seats above (fork k a b own low high) rest is = record {
  nodes = ap (λ (xs : List Node). Split a b (prices_of own) ∷ xs) (append_assoc (preorder (proof_of low)) (preorder (proof_of high)) (all_nodes rest))
      ∙ ap (λ (m : Node). m ∷ (preorder (proof_of low) ++ (preorder (proof_of high) ++ all_nodes rest))) (sym is.0.node);
  listed = ap (λ (xs : List ℕ). k ∷ xs) (append_assoc (numbers low) (numbers high) (all_numbers rest));
}
