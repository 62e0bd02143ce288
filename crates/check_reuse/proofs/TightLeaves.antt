-- Where no node is the first that is not pinned, all pinned leaves are.
use Rattle.std.proofs.Common.{◌≡◌, ℕ, zero, suc, arith, ◌<◌, ◌≤◌, ◌-◌, Some, List, [], ◌∷◌, refl, sym, ap, subst, ◌∙◌}
use Rattle.std.specs.Prelude.{slice_get}
use Rattle.model_rosters.specs.declared.grammar.ArcKey.{ArcKey}
use Rattle.model_rosters.specs.declared.instance.Cut.{Cut}
use Rattle.model_rosters.specs.declared.instance.Instance.{Instance}
use Rattle.model_rosters.specs.Arcs.{IsArc}
use Rattle.model_rosters.specs.Cuts.{lo, hi}
use Rattle.model_rosters.specs.Folds.{Each}
use Rattle.model_rosters.specs.Sound.{IsSound}
use Rattle.model_rosters.specs.arc_laws.Loose.{IsLoose, IsFirstLoose}
use Rattle.check_certificates.specs.declared.cert.Node.{Node}
use Rattle.check_certificates.specs.declared.cert.Node.TheVariants.{Split, Priced, Pinned, Bare}
use Rattle.check_certificates.specs.First.{IsFirst}
use Rattle.check_certificates.specs.Nodes.{Visit}
use Rattle.check_certificates.specs.NodeCauses.{IsUnpinned, IsFirstUnpinned}
use Rattle.check_certificates.specs.certificate_laws.Accepted.{IsTight}
use Rattle.tree_span_arcs.specs.Order.{key_number}
use Rattle.tree_span_arcs.proofs.OrderLemmas.{before-lower}
use Rattle.tree_span_arcs.proofs.ShapesLemmas.{arc-small}

module _ {A : Type 0} (P : A → Type 0) where
  first-here : (x : A) (xs : List A) → P x → IsFirst P (x ∷ xs) 1 x
  first-here x xs h = record { positive = omega arith; place = refl; meets = h; before = λ j y less e p. absurd (omega (arith, less)) }

  first-later : (x : A) (xs : List A) (k m : ℕ) (y : A) → k ≡ suc m → (P x → ⊥) → IsFirst P xs k y → IsFirst P (x ∷ xs) (suc k) y
  first-later x xs k m y e none f =
      let here : k - 1 ≡ m = omega (arith, e) in
      let there : suc k - 1 ≡ suc m = omega (arith, e) in
      let place : slice_get xs m ≡ Some y = sym (ap (λ (n : ℕ). slice_get xs n) here) ∙ f.place in
      record {
        positive = omega arith;
        place = ap (λ (n : ℕ). slice_get (x ∷ xs) n) there ∙ place;
        meets = f.meets;
        before = before;
      }
    where
      before : (j : ℕ) (z : A) → j < suc k - 1 → slice_get (x ∷ xs) j ≡ Some z → P z → ⊥
      before zero z less q p = let same : z ≡ x = cc in none (subst P same p)
      before (suc j) z less q p = f.before j z (omega (arith, less)) q p

module _ (i : Instance) (sound : IsSound i.grammar) where
  -- of the arcs that the cuts leave more than one count, one is the first
  some-first : (cuts : List Cut) → ((a : ArcKey) → IsFirstLoose i cuts a → ⊥) → (n : ℕ) (a : ArcKey) → IsArc i.grammar a → IsLoose i cuts a → key_number a < n → ⊥
  some-first cuts none zero a is loose less = omega (arith, less)
  some-first cuts none (suc n) a is loose less =
      none a (record {
        arc = is;
        loose = loose;
        first = λ x here before free. some-first cuts none n x here free
            (omega (arith, less, before-lower x a (arc-small i.grammar sound x here) (arc-small i.grammar sound a is) before));
      })

  no-loose : (cuts : List Cut) → ((a : ArcKey) → IsFirstLoose i cuts a → ⊥) → (a : ArcKey) → IsArc i.grammar a → IsLoose i cuts a → ⊥
  no-loose cuts none a is loose = some-first cuts none (suc (key_number a)) a is loose (omega arith)

  unpinned-loose : (cuts : List Cut) (node : Node) → IsUnpinned i cuts node → ((a : ArcKey) → IsFirstLoose i cuts a → ⊥) → ⊥
  unpinned-loose cuts (Split a b own) h none = h
  unpinned-loose cuts (Priced p) h none = h
  unpinned-loose cuts Pinned h none = no-loose cuts none h.0 h.1 h.2
  unpinned-loose cuts Bare h none = h

  few : (m n : ℕ) → (n < m → ⊥) → m ≤ n
  few m n h = grind (arith, h)

  tight-node : (cuts : List Cut) (node : Node) → (IsUnpinned i cuts node → ⊥) → IsTight i cuts node
  tight-node cuts (Split a b own) h = tt
  tight-node cuts (Priced p) h = tt
  tight-node cuts Pinned h = record { tight = λ a is. few (hi i.heads_max cuts a) (lo cuts a) (λ loose. h (a, is, loose)) }
  tight-node cuts Bare h = tt

  pub all-tight : (vs : List Visit) → ((n : ℕ) (a : ArcKey) → IsFirstUnpinned i vs n a → ⊥) → Each (λ (v : Visit). IsTight i v.path v.node) vs
  all-tight [] none = tt
  all-tight (v ∷ vs) none =
      (tight-node v.path v.node here, all-tight vs later)
    where
      here : IsUnpinned i v.path v.node → ⊥
      here h = unpinned-loose v.path v.node h
          (λ a f. none 1 a (record { visit = v; first = first-here (λ (w : Visit). IsUnpinned i w.path w.node) v vs h; arc = f }))

      later : (n : ℕ) (a : ArcKey) → IsFirstUnpinned i vs n a → ⊥
      later n a f =
          none (suc n) a (record {
            visit = f.visit;
            first = first-later (λ (w : Visit). IsUnpinned i w.path w.node) v vs n (n - 1) f.visit (omega (arith, f.first.positive)) here f.first;
            arc = f.arc;
          })
