-- The steps of the walk over the nodes.
use Rattle.std.proofs.Common.{◌≡◌, ℕ, min, Option, None, Some, List, [], ◌∷◌, ◌++◌, append_assoc, append-nil, sym, refl, ap, subst, ◌∙◌}
use Rattle.std.specs.Prelude.{IsSome}
use Rattle.model_rosters.specs.declared.grammar.ArcKey.{ArcKey}
use Rattle.model_rosters.specs.declared.instance.Cut.{Cut}
use Rattle.model_rosters.specs.declared.instance.Instance.{Instance}
use Rattle.model_rosters.specs.declared.instance.Prices.{Prices}
use Rattle.model_rosters.specs.declared.instance.Side.TheVariants.{Low, High}
use Rattle.check_certificates.specs.declared.cert.Node.{Node}
use Rattle.check_certificates.specs.declared.cert.Node.TheVariants.{Split, Priced, Pinned, Bare}
use Rattle.check_certificates.specs.Nodes.{Proof, split, priced, pinned, bare, preorder, Visit, visits, low_cut, high_cut}
use Rattle.check_certificates.specs.certificate_laws.Shown.{Shows, IsSplitValue, joined}
use Rattle.check_proofs.specs.declared.frame.Frame.{Frame}
use Rattle.check_proofs.specs.OpenSplits.{path, ValueAfter, LeadsTo, VisitsAfter, MakeVisits, VisitsNext, IsLeaf, IsLeafValue, IsOwnValue}

-- the nodes of a tree are some
pub never-empty : (t : Proof) (tail : List Node) → ◌≡◌ {A = List Node} [] (preorder t ++ tail) → ⊥
never-empty (split a b o low high) tail e = cc
never-empty (priced p) tail e = cc
never-empty pinned tail e = cc
never-empty bare tail e = cc

split-shows : (i : Instance) (cuts : List Cut) (own : Option Prices) (x : Option ℕ) (w : ℕ) → IsOwnValue i cuts own x → IsSplitValue i cuts own w (joined x w)
split-shows i cuts None None w h = refl
split-shows i cuts None (Some x) w h = absurd h
split-shows i cuts (Some p) None w h = absurd h
split-shows i cuts (Some p) (Some x) w h = (x, h, refl)

module _ (i : Instance) (base : List Cut) (st : List Frame) (rest : List Node) (v : ℕ) where
  -- where the nodes after a split lead with its Low half open, they lead with the split before them
  pub value-split : (a : ArcKey) (b : ℕ) (own : Option Prices) (x : Option ℕ) (y : ℕ) → IsOwnValue i (path base st) own x → LeadsTo i base (record { cut = low_cut a b; own = x; low = y } ∷ st) rest v
      → LeadsTo i base st (Split a b own ∷ rest) v
  value-split a b own x y h r =
      let low = r.0 in
      let f = r.5 in
      let high = f.0 in
      let whole : rest ≡ (preorder low ++ preorder high) ++ f.1 = r.3 ∙ ap (λ (xs : List Node). preorder low ++ xs) f.3 ∙ sym (append_assoc (preorder low) (preorder high) f.1) in
      (split a b own low high, f.1, joined x (min r.2 f.2), ap (λ (xs : List Node). Split a b own ∷ xs) whole, (r.2, f.2, r.4, f.4, split-shows i (path base st) own x (min r.2 f.2) h), f.5)

  -- so do the nodes after a leaf
  pub value-leaf : (n : Node) (x : ℕ) → IsLeafValue i (path base st) n x → ValueAfter i base st x rest v → LeadsTo i base st (n ∷ rest) v
  value-leaf (Split a b own) x h f = absurd h
  value-leaf (Priced p) x h f = (priced p, rest, x, refl, h, f)
  value-leaf Pinned x h f = (pinned, rest, x, refl, h, f)
  value-leaf Bare x h f = (bare, rest, x, refl, h, f)

  -- once the Low half is read, the High half opens
  pub value-low : (f : Frame) (x : ℕ) → f.cut.side ≡ Low → LeadsTo i base (record { cut = high_cut f.cut.arc f.cut.b; own = f.own; low = x } ∷ st) rest v → ValueAfter i base (f ∷ st) x rest v
  value-low f x e a = rw e a

  -- once both are read, the split is closed
  pub value-high : (f : Frame) (x : ℕ) → f.cut.side ≡ High → ValueAfter i base st (joined f.own (min f.low x)) rest v → ValueAfter i base (f ∷ st) x rest v
  value-high f x e a = rw e a

module _ (base : List Cut) (st : List Frame) (rest : List Node) (vs : List Visit) where
  pub visits-split : (a : ArcKey) (b : ℕ) (own : Option Prices) (x : Option ℕ) (y : ℕ) → MakeVisits base st (Split a b own ∷ rest) vs
      → (us : List Visit) × (vs ≡ record { path = path base st; node = Split a b own } ∷ us) × MakeVisits base (record { cut = low_cut a b; own = x; low = y } ∷ st) rest us
  visits-split a b own x y r = by r.0 r.3 r.4 r.5
    where
      by : (t : Proof) → Split a b own ∷ rest ≡ preorder t ++ r.1 → vs ≡ visits (path base st) t ++ r.2 → VisitsAfter base st r.1 r.2
          → (us : List Visit) × (vs ≡ record { path = path base st; node = Split a b own } ∷ us) × MakeVisits base (record { cut = low_cut a b; own = x; low = y } ∷ st) rest us
      by bare e s f = cc
      by pinned e s f = cc
      by (priced p) e s f = cc
      by (split a' b' own' low high) e s f =
          let ea : a' ≡ a = cc in
          let eb : b' ≡ b = cc in
          let eo : own' ≡ own = cc in
          let tail : rest ≡ (preorder low ++ preorder high) ++ r.1 = cc in
          let whole : rest ≡ preorder low ++ (preorder high ++ r.1) = tail ∙ append_assoc (preorder low) (preorder high) r.1 in
          let lows = visits (path base st ++ low_cut a b ∷ []) low in
          let highs = visits (path base st ++ high_cut a b ∷ []) high in
          let seen : vs ≡ record { path = path base st; node = Split a b own } ∷ ((lows ++ highs) ++ r.2) = cc in
          let parted : (lows ++ highs) ++ r.2 ≡ lows ++ (highs ++ r.2) = append_assoc lows highs r.2 in (
            lows ++ (highs ++ r.2),
            seen ∙ ap (λ (us : List Visit). record { path = path base st; node = Split a b own } ∷ us) parted,
            (low, preorder high ++ r.1, highs ++ r.2, whole, refl, (high, r.1, r.2, refl, refl, f)),
          )

  one-visit : (cuts : List Cut) (n : Node) (t : Proof) (tail : List Node) (us : List Visit) → IsLeaf n → n ∷ rest ≡ preorder t ++ tail → vs ≡ visits cuts t ++ us → (tail ≡ rest) × (vs ≡ record { path = cuts; node = n } ∷ us)
  one-visit cuts (Split a b own) t tail us h e s = absurd h
  one-visit cuts (Priced p) (priced q) tail us h e s = let same : q ≡ p = cc in (cc, cc)
  one-visit cuts (Priced p) (split a b o low high) tail us h e s = cc
  one-visit cuts (Priced p) pinned tail us h e s = cc
  one-visit cuts (Priced p) bare tail us h e s = cc
  one-visit cuts Pinned (priced q) tail us h e s = cc
  one-visit cuts Pinned (split a b o low high) tail us h e s = cc
  one-visit cuts Pinned pinned tail us h e s = (cc, s)
  one-visit cuts Pinned bare tail us h e s = cc
  one-visit cuts Bare (priced q) tail us h e s = cc
  one-visit cuts Bare (split a b o low high) tail us h e s = cc
  one-visit cuts Bare pinned tail us h e s = cc
  one-visit cuts Bare bare tail us h e s = (cc, s)

  pub visits-leaf : (n : Node) → IsLeaf n → MakeVisits base st (n ∷ rest) vs → (us : List Visit) × (vs ≡ record { path = path base st; node = n } ∷ us) × VisitsAfter base st rest us
  visits-leaf n h r =
      let one = one-visit (path base st) n r.0 r.1 r.2 h r.3 r.4 in
      (r.2, one.1, subst (λ (xs : List Node). VisitsAfter base st xs r.2) one.0 r.5)

  pub visits-low : (f : Frame) (x : ℕ) → f.cut.side ≡ Low → VisitsAfter base (f ∷ st) rest vs → MakeVisits base (record { cut = high_cut f.cut.arc f.cut.b; own = f.own; low = x } ∷ st) rest vs
  visits-low f x e a = rw e at a

  pub visits-high : (f : Frame) → f.cut.side ≡ High → VisitsAfter base (f ∷ st) rest vs → VisitsAfter base st rest vs
  visits-high f e a = rw e at a

-- ---- the whole walk
pub visits-start : (base : List Cut) (t : Proof) → MakeVisits base [] (preorder t) (visits base t)
visits-start base t = (t, [], [], sym (append-nil (preorder t)), sym (append-nil (visits base t)), (refl, refl))

-- the tree is not whole before the last node
pub not-yet : (base : List Cut) (value : Option ℕ) (st : List Frame) (n : Node) (rest : List Node) (vs : List Visit) → VisitsNext base value st (n ∷ rest) vs → MakeVisits base st (n ∷ rest) vs
not-yet base None st n rest vs h = h
not-yet base (Some x) st n rest vs h = let e = h.0 in cc

-- after the last node it is
pub at-end : (base : List Cut) (value : Option ℕ) (st : List Frame) (vs : List Visit) → VisitsNext base value st [] vs → IsSome value × (vs ≡ [])
at-end base None st vs h = absurd (never-empty h.0 h.1 h.3)
at-end base (Some x) st vs h = (refl, h.1)

-- a whole tree shows its value
pub whole-shows : (i : Instance) (base : List Cut) (nodes : List Node) (x : ℕ) → LeadsTo i base [] nodes x → (t : Proof) × (preorder t ≡ nodes) × Shows i base t x
whole-shows i base nodes x r =
    let f = r.5 in
    let none = f.0 in
    let whole : preorder r.0 ≡ nodes = sym (append-nil (preorder r.0)) ∙ ap (λ (xs : List Node). preorder r.0 ++ xs) (sym none) ∙ sym r.3 in
    (r.0, whole, subst (λ (n : ℕ). Shows i base r.0 n) (sym f.1) r.4)
