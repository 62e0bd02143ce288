-- A certificate is refused for one first cause.
use Rattle.std.proofs.Common.{◌≡◌, ℕ, arith, ◌-◌, ◌<◌, Option, List, [], ◌∷◌, length, sym, refl, ap, subst, ◌∙◌, ◌⊎◌, inl, inr}
use Rattle.std.specs.Prelude.{slice_get}
use Rattle.model_rosters.specs.declared.grammar.ArcKey.{ArcKey}
use Rattle.model_rosters.specs.declared.instance.Cell.{Cell}
use Rattle.model_rosters.specs.declared.instance.Cut.{Cut}
use Rattle.model_rosters.specs.declared.instance.Instance.{Instance}
use Rattle.model_rosters.specs.declared.instance.Shift.{Shift}
use Rattle.model_rosters.specs.Arcs.{arc_numbers, ComesFirst}
use Rattle.model_rosters.specs.Coverage.{covered, code_byte}
use Rattle.model_rosters.specs.Cuts.{base_cuts}
use Rattle.model_rosters.specs.Duties.{duty}
use Rattle.model_rosters.specs.Folds.{count}
use Rattle.model_rosters.specs.Rosters.{IsTeamPrice, is_in_team, roster_cost}
use Rattle.model_rosters.specs.Teams.{Team, teams}
use Rattle.check_certificates.specs.declared.cert.Cert.{Cert}
use Rattle.check_certificates.specs.declared.why.Why.{Why}
use Rattle.check_certificates.specs.declared.why.Why.TheVariants.{NotAShift, ShiftCost, WrongHeads, WrongCost, NotAnArc, EmptyHalf, NotPinned, BoundTooHigh, Outside}
use Rattle.check_certificates.specs.First.{IsFirst}
use Rattle.check_certificates.specs.Nodes.{Proof, preorder, Visit, visits}
use Rattle.model_rosters.specs.arc_laws.Loose.{IsFirstLoose}
use Rattle.check_certificates.specs.NodeCauses.{IsFirstNoArc, IsFirstEmptyHalf, IsFirstUnpinned}
use Rattle.check_certificates.specs.RosterCauses.{duties, IsFirstMispriced, IsFirstOutOfRange, IsMiscounted, IsFirstOutside}
use Rattle.check_certificates.specs.certificate_laws.Causes.{stated_bound, IsAbove, Cause, cause_number, IsFirstCause}
use Rattle.check_certificates.specs.certificate_laws.Shown.{Shows}
use Rattle.check_certificates.proofs.certificate_laws.NoCause.{one-team-price, one-prices}
use Rattle.check_certificates.proofs.certificate_laws.OneProof.{same-proof, one-shown}

order : (k m : ℕ) → (k < m) ⊎ ((m < k) ⊎ (k ≡ m))
order k m = grind arith

-- a list has one first item with a property
first-one : {A : Type 0} (P : A → Type 0) (xs : List A) (k m : ℕ) (x y : A) → IsFirst P xs k x → IsFirst P xs m y → (k ≡ m) × (x ≡ y)
first-one P xs k m x y f g = pick (order (k - 1) (m - 1))
  where
    pick : (k - 1 < m - 1) ⊎ ((m - 1 < k - 1) ⊎ (k - 1 ≡ m - 1)) → (k ≡ m) × (x ≡ y)
    pick (inl h) = absurd (g.before (k - 1) x h f.place f.meets)
    pick (inr (inl h)) = absurd (f.before (m - 1) y h g.place g.meets)
    pick (inr (inr h)) =
        let same = sym f.place ∙ ap (λ (n : ℕ). slice_get xs n) h ∙ g.place in
        (omega (arith, f.positive, g.positive), cc)

-- of two lists of numbers of one length, one comes first or they are the same
same-numbers : (xs ys : List ℕ) → length xs ≡ length ys → (ComesFirst xs ys → ⊥) → (ComesFirst ys xs → ⊥) → xs ≡ ys
same-numbers [] [] e f g = refl
same-numbers [] (y ∷ ys) e f g = absurd (omega (arith, e))
same-numbers (x ∷ xs) [] e f g = absurd (omega (arith, e))
same-numbers (x ∷ xs) (y ∷ ys) e f g = pick (order x y) (λ h. same-numbers xs ys (omega (arith, e)) (λ k. f (inr (h, k))) (λ k. g (inr (sym h, k))))
  where
    pick : (x < y) ⊎ ((y < x) ⊎ (x ≡ y)) → (x ≡ y → xs ≡ ys) → x ∷ xs ≡ y ∷ ys
    pick (inl h) r = absurd (f (inl h))
    pick (inr (inl h)) r = absurd (g (inl h))
    pick (inr (inr h)) r = let rest = r h in cc

same-arc : (a b : ArcKey) → arc_numbers a ≡ arc_numbers b → a ≡ b
same-arc a b e =
    let r : a.rule ≡ b.rule = cc in
    let k : a.suffix ≡ b.suffix = cc in
    let s : a.start ≡ b.start = cc in
    let l : a.len ≡ b.len = cc in
    let p : a.part ≡ b.part = cc in
    ap (λ (n : ℕ). record a { rule = n }) r ∙ ap (λ (n : ℕ). record a { rule = b.rule; suffix = n }) k ∙ ap (λ (n : ℕ). record a { rule = b.rule; suffix = b.suffix; start = n }) s
    ∙ ap (λ (n : ℕ). record a { rule = b.rule; suffix = b.suffix; start = b.start; len = n }) l
    ∙ ap (λ (n : ℕ). record a { rule = b.rule; suffix = b.suffix; start = b.start; len = b.len; part = n }) p

one-loose : (i : Instance) (cuts : List Cut) (a b : ArcKey) → IsFirstLoose i cuts a → IsFirstLoose i cuts b → a ≡ b
one-loose i cuts a b f g = same-arc a b (same-numbers (arc_numbers a) (arc_numbers b) refl (λ l. g.first a f.arc l f.loose) (λ l. f.first b g.arc l g.loose))

module _ (i : Instance) (shifts : List Shift) where
  one-mispriced : (k m s t a b : ℕ) → IsFirstMispriced i shifts k s a → IsFirstMispriced i shifts m t b → (k ≡ m) × (s ≡ t) × (a ≡ b)
  one-mispriced k m s t a b f g =
      let o = first-one _ shifts k m f.shift g.shift f.first g.first in
      let price = subst (λ (x : Shift). IsTeamPrice i (duty x) a) o.1 f.price in
      (o.0, sym f.stated ∙ ap (λ (x : Shift). x.price) o.1 ∙ g.stated, one-team-price i (duty g.shift) a b price g.price)

  one-range : (g h m n : ℕ) → IsFirstOutOfRange i shifts g m → IsFirstOutOfRange i shifts h n → (g ≡ h) × (m ≡ n)
  one-range g h m n a b =
      let o = first-one _ (teams i) a.place b.place a.team b.team a.first b.first in
      (sym a.number ∙ ap (λ (t : Team). t.number) o.1 ∙ b.number, sym a.count ∙ ap (λ (t : Team). count (is_in_team t) (duties shifts)) o.1 ∙ b.count)

  one-found : (s t a b : ℕ) → IsMiscounted i shifts s a → IsMiscounted i shifts t b → a ≡ b
  one-found s t a b f g = sym f.cost ∙ ap (λ (ps : List ℕ). roster_cost i (duties shifts) ps) (one-prices i (duties shifts) f.prices g.prices f.priced g.priced) ∙ g.cost

  one-outside : (a b p q m n : ℕ) → IsFirstOutside i shifts a p m → IsFirstOutside i shifts b q n → (a ≡ b) × (p ≡ q) × (m ≡ n)
  one-outside a b p q m n f g =
      let o = first-one _ i.cells f.place g.place f.cell g.cell f.first g.first in (
        sym f.code ∙ ap (λ (c : Cell). code_byte i.grammar c.code) o.1 ∙ g.code,
        sym f.when ∙ ap (λ (c : Cell). c.period) o.1 ∙ g.when,
        sym f.count ∙ ap (λ (c : Cell). covered i.grammar c (duties shifts)) o.1 ∙ g.count,
      )

module _ (i : Instance) (c : Cert) where
  -- the visits of two trees of the nodes
  same-visits : (p q : Proof) → preorder p ≡ c.nodes → preorder q ≡ c.nodes → visits (base_cuts i) p ≡ visits (base_cuts i) q
  same-visits p q h k = ap (λ (t : Proof). visits (base_cuts i) t) (same-proof p q c.nodes h k)

  one-unpinned : (vs : List Visit) (m n : ℕ) (a b : ArcKey) → IsFirstUnpinned i vs m a → IsFirstUnpinned i vs n b → (m ≡ n) × (a ≡ b)
  one-unpinned vs m n a b f g =
      let o = first-one _ vs m n f.visit g.visit f.first g.first in
      (o.0, one-loose i g.visit.path a b (subst (λ (v : Visit). IsFirstLoose i v.path a) o.1 f.arc) g.arc)

  one-above : (s t : Option ℕ) → IsAbove i c s → IsAbove i c t → s ≡ t
  one-above s t f g =
      let same = same-proof f.proof g.proof c.nodes f.nodes g.nodes in
      let value = one-shown i (base_cuts i) g.proof f.value g.value (subst (λ (p : Proof). Shows i (base_cuts i) p f.value) same f.shows) g.shows in
      sym f.stated ∙ ap (λ (n : ℕ). stated_bound i n) value ∙ g.stated

  one-cause : (v w : Why) → cause_number v ≡ cause_number w → Cause i c v → Cause i c w → v ≡ w
  one-cause (NotAShift k) (NotAShift m) e h g = let o = first-one _ c.shifts k m h.1.0 g.1.0 h.1.1 g.1.1 in let a = o.0 in cc
  one-cause (ShiftCost k s a) (ShiftCost m t b) e h g = let o = one-mispriced i c.shifts k m s t a b h.1 g.1 in cc
  one-cause (WrongHeads a m) (WrongHeads b n) e h g = let o = one-range i c.shifts a b m n h.1 g.1 in cc
  one-cause (WrongCost s a) (WrongCost t b) e h g = let o = one-found i c.shifts s t a b h.1 g.1 in let l = h.0 in let m = g.0 in cc
  one-cause (NotAnArc m) (NotAnArc n) e h g =
      let f = subst (λ (vs : List Visit). IsFirstNoArc i vs m) (same-visits h.0 g.0 h.1 g.1) h.2 in
      let o = first-one _ (visits (base_cuts i) g.0) m n f.0 g.2.0 f.1 g.2.1 in
      let a = o.0 in
      cc
  one-cause (EmptyHalf m) (EmptyHalf n) e h g =
      let f = subst (λ (vs : List Visit). IsFirstEmptyHalf i vs m) (same-visits h.0 g.0 h.1 g.1) h.2 in
      let o = first-one _ (visits (base_cuts i) g.0) m n f.0 g.2.0 f.1 g.2.1 in
      let a = o.0 in
      cc
  one-cause (NotPinned m a) (NotPinned n b) e h g =
      let f = subst (λ (vs : List Visit). IsFirstUnpinned i vs m a) (same-visits h.0 g.0 h.1 g.1) h.2 in
      let o = one-unpinned (visits (base_cuts i) g.0) m n a b f g.2 in
      cc
  one-cause (BoundTooHigh s a) (BoundTooHigh t b) e h g = let o = one-above a b h.1 g.1 in let l = h.0 in let m = g.0 in cc
  one-cause (Outside a p m) (Outside b q n) e h g = let o = one-outside i c.shifts a b p q m n h.1 g.1 in cc
  one-cause v w e h g = absurd (omega (arith, e))

  pub one-first : (v w : Why) → IsFirstCause i c v → IsFirstCause i c w → v ≡ w
  one-first v w h g = one-cause v w (omega (arith, h.least w g.holds, g.least v h.holds)) h.holds g.holds
