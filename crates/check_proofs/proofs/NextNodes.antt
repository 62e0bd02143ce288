-- What the next node does to the open splits.
use Rattle.std.proofs.Common.{◌≡◌, ℕ, arith, ◌≤◌, Bool, Option, None, List, ◌∷◌, length, sym, refl, subst, ◌∙◌}
use Rattle.std.specs.Prelude.{IsTrue}
use Rattle.model_rosters.specs.declared.grammar.ArcKey.{ArcKey}
use Rattle.model_rosters.specs.declared.instance.Cut.{Cut}
use Rattle.model_rosters.specs.declared.instance.Instance.{Instance}
use Rattle.model_rosters.specs.declared.instance.Prices.{Prices}
use Rattle.check_certificates.specs.declared.cert.Node.{Node}
use Rattle.check_certificates.specs.declared.cert.Node.TheVariants.{Split, Priced, Pinned, Bare}
use Rattle.check_certificates.specs.Nodes.{Visit, low_cut}
use Rattle.check_proofs.specs.OpenSplits.{path, ValueAfter, VisitsAfter, ValueNext, VisitsNext, IsLeaf, IsLeafValue, IsOwnValue}
use Rattle.check_proofs.proofs.OpenSplitsLemmas.{value-split, value-leaf, visits-split, visits-leaf}
use Rattle.text_proof_pieces.specs.PieceList.{after_leaf}
use Rattle.check_proofs.specs.Stacks.{StackView, AreSmall, halves_of}
use Rattle.check_proofs.proofs.StacksLemmas.{small-more}
use Rattle.check_proofs.specs.Steps.{way, halves_after, MayFollow, IsShown}

-- a leaf ends halves
leaf-halves : (leaf : Node) (halves : List Bool) → IsLeaf leaf → after_leaf halves ≡ halves_after leaf halves
leaf-halves (Split a b own) halves is = absurd is
leaf-halves (Priced p) halves is = refl
leaf-halves Pinned halves is = refl
leaf-halves Bare halves is = refl

module _ (i : Instance) (old : StackView) (is_right : Bool) where
  pub split-shown : (a : ArcKey) (b : ℕ) (own : Option Prices) (x : Option ℕ) (new : StackView) → MayFollow i old (Split a b own) → (IsTrue is_right → IsOwnValue i (way old) own x)
      → new ≡ record old { splits = record { cut = low_cut a b; own = x; low = 0 } ∷ old.splits } → IsShown i old (Split a b own) is_right new None
  split-shown a b own x new may h e = subst (λ (s : StackView). IsShown i old (Split a b own) is_right s None) (sym e) (record {
    base = refl;
    most = refl;
    deeper = omega arith;
    halves = refl;
    small = small-more (way old) (low_cut a b) may.small may.sound.1;
    values = λ r rest v n. value-split i old.base old.splits rest v a b own x 0 (h r) n;
    visits = λ rest vs m. visits-split old.base old.splits rest vs a b own x 0 m;
  })

  pub leaf-shown : (leaf : Node) (x : ℕ) (new : StackView) (shown : Option ℕ) → MayFollow i old leaf → IsLeaf leaf → (IsTrue is_right → IsLeafValue i (way old) leaf x)
      → new.base ≡ old.base → new.most ≡ old.most → length new.splits ≤ length old.splits → halves_of new.splits ≡ after_leaf (halves_of old.splits)
      → (AreSmall (path old.base old.splits) → AreSmall (path old.base new.splits)) → ((rest : List Node) (v : ℕ) → ValueNext i old.base shown new.splits rest v → ValueAfter i old.base old.splits x rest v)
      → ((rest : List Node) (vs : List Visit) → VisitsAfter old.base old.splits rest vs → VisitsNext old.base shown new.splits rest vs)
      → IsShown i old leaf is_right new shown
  leaf-shown leaf x new shown may is h base most fewer halves small values visits = record {
    base = base;
    most = most;
    deeper = omega arith;
    halves = halves ∙ leaf-halves leaf (halves_of old.splits) is;
    small = subst (λ (cs : List Cut). AreSmall (path cs new.splits)) (sym base) (small may.small);
    values = λ r rest v n. value-leaf i old.base old.splits rest v leaf x (h r) (values rest v n);
    visits = λ rest vs m. let seen = visits-leaf old.base old.splits rest vs leaf is m in (seen.0, seen.1, visits rest seen.0 seen.2);
  }
