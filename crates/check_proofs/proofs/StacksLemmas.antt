-- Splits that are closed.
use Rattle.std.proofs.Common.{◌≡◌, ℕ, arith, ◌≤◌, min, Bool, List, [], ◌∷◌, ◌++◌, refl, ◌∙◌}
use Rattle.std.proofs.Common.{Some}
use Rattle.std.proofs.lemmas.List.Elements.{All-nil, All-cons, All-append, All-pop}
use Rattle.model_rosters.specs.declared.instance.Cut.{Cut}
use Rattle.model_rosters.specs.declared.instance.Side.{Side}
use Rattle.model_rosters.specs.declared.instance.Side.TheVariants.{Low, High}
use Rattle.check_proofs.specs.declared.frame.Frame.{Frame}
use Rattle.check_proofs.specs.OpenSplits.{path}
use Rattle.check_proofs.proofs.OpenSplitsLemmas.{value-high, visits-high}
use Rattle.text_proof_pieces.specs.PieceList.{after_leaf}
use Rattle.check_proofs.specs.Stacks.{StackView, AreSmall, is_high, halves_of, IsClosing}
use Rattle.check_certificates.specs.certificate_laws.Shown.{joined}

-- one more cut is small
pub small-more : (cuts : List Cut) (c : Cut) → AreSmall cuts → c.b ≤ 63 → AreSmall (cuts ++ c ∷ [])
small-more cuts c h k = All-append (λ (x : Cut). x.b ≤ 63) cuts (c ∷ []) h (All-cons (λ (x : Cut). x.b ≤ 63) c [] k (All-nil (λ (x : Cut). x.b ≤ 63)))

small-less : (cuts : List Cut) (c : Cut) → AreSmall (cuts ++ c ∷ []) → AreSmall cuts × (c.b ≤ 63)
small-less cuts c h = All-pop (λ (x : Cut). x.b ≤ 63) (cuts ++ c ∷ []) cuts (Some c) refl h

-- the path to the other half is as small
pub small-turned : (base : List Cut) (st : List Frame) (f g : Frame) → g.cut.b ≡ f.cut.b → AreSmall (path base (f ∷ st)) → AreSmall (path base (g ∷ st))
small-turned base st f g e h = let s = small-less (path base st) f.cut h in small-more (path base st) g.cut s.0 (omega (arith, e, s.1))

-- a leaf ends a High half
ended : (halves : List Bool) (s : Side) → s ≡ High → after_leaf halves ≡ after_leaf (is_high s ∷ halves)
ended halves s e = rw e refl

-- a split whose halves are both read is closed
pub closed : (old next : StackView) (value shown : ℕ) (f : Frame) → f.cut.side ≡ High → IsClosing old value (record next { splits = f ∷ next.splits }) shown
    → IsClosing old value next (joined f.own (min f.low shown))
closed old next value shown f e h = record {
  base = h.base;
  most = h.most;
  fewer = omega (arith, h.fewer);
  halves = ended (halves_of next.splits) f.cut.side e ∙ h.halves;
  small = λ s. (small-less (path old.base next.splits) f.cut (h.small s)).0;
  values = λ i rest v n. h.values i rest v (value-high i old.base next.splits rest v f shown e n);
  visits = λ rest vs n. visits-high old.base next.splits rest vs f e (h.visits rest vs n);
}

-- a leaf turns a Low half
pub turned-halves : (old next : StackView) (value shown : ℕ) (f g : Frame) → f.cut.side ≡ Low → g.cut.side ≡ High → IsClosing old value (record next { splits = f ∷ next.splits }) shown
    → halves_of (g ∷ next.splits) ≡ after_leaf (halves_of old.splits)
turned-halves old next value shown f g e h c = turned (halves_of next.splits) f.cut.side g.cut.side e h ∙ c.halves
  where
    turned : (halves : List Bool) (s t : Side) → s ≡ Low → t ≡ High → is_high t ∷ halves ≡ after_leaf (is_high s ∷ halves)
    turned halves s t e h = rw (e, h) refl

-- all halves are ended
pub no-halves : (old now : StackView) (value shown : ℕ) → now.splits ≡ [] → IsClosing old value now shown → halves_of now.splits ≡ after_leaf (halves_of old.splits)
no-halves old now value shown e c = none now.splits e ∙ c.halves
  where
    none : (st : List Frame) → st ≡ [] → halves_of st ≡ after_leaf (halves_of st)
    none st e = rw e refl
