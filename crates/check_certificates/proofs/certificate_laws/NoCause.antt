-- A certificate that is accepted has no cause to be refused.
use Rattle.std.proofs.Common.{◌≡◌, ℕ, arith, ◌≤◌, ◌<◌, ◌-◌, Option, None, Some, IfSome, List, [], ◌∷◌, sym, refl, ap, subst, ◌∙◌, ◌⊎◌, inl, inr}
use Rattle.std.specs.Prelude.{slice_get, IsSome}
use Rattle.model_rosters.specs.declared.grammar.ArcKey.{ArcKey}
use Rattle.model_rosters.specs.declared.grammar.Grammar.{Grammar}
use Rattle.model_rosters.specs.declared.instance.Cell.{Cell}
use Rattle.model_rosters.specs.declared.instance.Cut.{Cut}
use Rattle.model_rosters.specs.declared.instance.Instance.{Instance}
use Rattle.model_rosters.specs.declared.instance.Shift.{Shift}
use Rattle.model_rosters.specs.Cuts.{base_cuts}
use Rattle.model_rosters.specs.Duties.{Duty, duty}
use Rattle.model_rosters.specs.Folds.{Each}
use Rattle.model_rosters.specs.Rosters.{IsTeamPrice, ArePrices, HasHeads, roster_cost}
use Rattle.model_rosters.specs.Coverage.{covered, IsWithinCell}
use Rattle.model_rosters.specs.Shifts.{IsPrice}
use Rattle.model_rosters.specs.Teams.{Team, teams}
use Rattle.model_rosters.proofs.TeamNumbers.{team_apart}
use Rattle.model_rosters.proofs.EachLemmas.{Each-get}
use Rattle.check_certificates.specs.declared.cert.Cert.{Cert}
use Rattle.check_certificates.specs.declared.cert.Node.{Node}
use Rattle.check_certificates.specs.declared.cert.Node.TheVariants.{Split, Priced, Pinned, Bare}
use Rattle.check_certificates.specs.declared.why.Why.{Why}
use Rattle.check_certificates.specs.declared.why.Why.TheVariants.{NotAShift, ShiftCost, WrongHeads, WrongCost, NotAnArc, EmptyHalf, NotPinned, BoundTooHigh, Outside}
use Rattle.check_certificates.specs.First.{IsFirst}
use Rattle.check_certificates.specs.Nodes.{Proof, preorder, Visit, visits}
use Rattle.check_certificates.specs.NodeCauses.{SplitsNoArc, HasEmptyHalf, IsUnpinned, IsFirstNoArc, IsFirstEmptyHalf, IsFirstUnpinned}
use Rattle.check_certificates.specs.RosterCauses.{duties, IsFirstNoShift, IsFirstMispriced, IsFirstOutOfRange, IsMiscounted, IsFirstOutside}
use Rattle.check_certificates.specs.RosterCauses.{stated_prices}
use Rattle.check_certificates.specs.certificate_laws.Accepted.{IsOnArc, LeavesBoth, IsTight, IsStated, bound_number, Accepts}
use Rattle.check_certificates.specs.certificate_laws.Causes.{Cause}
use Rattle.check_certificates.specs.certificate_laws.Shown.{Shows}
use Rattle.check_certificates.proofs.certificate_laws.OneProof.{same-proof, one-shown}

one-price : (g : Grammar) (x : ℕ) (w : List ℕ) (a b : ℕ) → IsPrice g x w a → IsPrice g x w b → a ≡ b
one-price g x w a b h k =
    let m = h.least k.attained.0 k.attained.1 in
    let n = k.least h.attained.0 h.attained.1 in
    omega (arith, h.attained.2, k.attained.2)

-- a word has one price in its team
pub one-team-price : (i : Instance) (d : Duty) (a b : ℕ) → IsTeamPrice i d a → IsTeamPrice i d b → a ≡ b
one-team-price i d a b h k =
    let same = team_apart i i.groups h.team k.team h.listed k.listed (h.numbered ∙ sym k.numbered) in
    one-price i.grammar k.team.name d.word a b (subst (λ (t : Team). IsPrice i.grammar t.name d.word a) same h.priced) k.priced

pub one-prices : (i : Instance) (ds : List Duty) (ps qs : List ℕ) → ArePrices i ds ps → ArePrices i ds qs → ps ≡ qs
one-prices i [] [] [] h k = refl
one-prices i [] [] (q ∷ qs) h k = absurd k
one-prices i [] (p ∷ ps) qs h k = absurd h
one-prices i (d ∷ ds) [] qs h k = absurd h
one-prices i (d ∷ ds) (p ∷ ps) [] h k = absurd k
one-prices i (d ∷ ds) (p ∷ ps) (q ∷ qs) h k =
    let e = one-team-price i d p q h.0 k.0 in
    let f = one-prices i ds ps qs h.1 k.1 in
    cc

module _ (i : Instance) (shifts : List Shift) where
  -- each stated shift has its stated price
  stated-price : (k : ℕ) (s : Shift) → ArePrices i (duties shifts) (stated_prices shifts) → slice_get shifts k ≡ Some s → IsTeamPrice i (duty s) s.price
  stated-price k s h e = Each-get (λ (x : Shift). IsTeamPrice i (duty x) x.price) shifts k s (each shifts h) e
    where
      each : (xs : List Shift) → ArePrices i (duties xs) (stated_prices xs) → Each (λ (x : Shift). IsTeamPrice i (duty x) x.price) xs
      each [] h = tt
      each (x ∷ xs) h = (h.0, each xs h.1)

  pub no-shift-refused : (k : ℕ) → ArePrices i (duties shifts) (stated_prices shifts) → IsFirstNoShift i shifts k → ⊥
  no-shift-refused k h f =
      let p = stated-price (k - 1) f.0 h f.1.place in
      f.1.meets p.team p.listed p.numbered (p.priced.attained.0, p.priced.attained.1)

  pub mispriced-refused : (k said least : ℕ) → ArePrices i (duties shifts) (stated_prices shifts) → IsFirstMispriced i shifts k said least → ⊥
  mispriced-refused k said least h f =
      let p = stated-price (k - 1) f.shift h f.first.place in
      let m = f.first.meets in
      m.2 (one-team-price i (duty f.shift) f.shift.price m.0 p m.1)

  outside-range : {a b n : ℕ} → a ≤ n → n ≤ b → (n < a) ⊎ (b < n) → ⊥
  outside-range x y (inl z) = omega arith
  outside-range x y (inr z) = omega arith

  pub heads-refused : (g n : ℕ) → Each (HasHeads (duties shifts)) (teams i) → IsFirstOutOfRange i shifts g n → ⊥
  heads-refused g n h f = let m = Each-get _ (teams i) (f.place - 1) f.team h f.first.place in outside-range m.least m.most f.first.meets

  pub cost-refused : (said found : ℕ) → ArePrices i (duties shifts) (stated_prices shifts) → roster_cost i (duties shifts) (stated_prices shifts) ≡ said → IsMiscounted i shifts said found → ⊥
  cost-refused said found h total f =
      let same = one-prices i (duties shifts) f.prices (stated_prices shifts) f.priced h in
      f.other (sym total ∙ sym (ap (roster_cost i (duties shifts)) same) ∙ f.cost)

  pub coverage-refused : (byte period n : ℕ) → Each (λ (c : Cell). IsWithinCell c (covered i.grammar c (duties shifts))) i.cells → IsFirstOutside i shifts byte period n → ⊥
  coverage-refused byte period n h f = let m = Each-get _ i.cells (f.place - 1) f.cell h f.first.place in outside-range m.floor m.ceiling f.first.meets

pub no-arc-refused : (i : Instance) (n : Node) → IsOnArc i n → SplitsNoArc i n → ⊥
no-arc-refused i (Split a b own) h k = k h
no-arc-refused i (Priced p) h k = k
no-arc-refused i Pinned h k = k
no-arc-refused i Bare h k = k

pub empty-half-refused : (i : Instance) (cuts : List Cut) (n : Node) → LeavesBoth i cuts n → HasEmptyHalf i cuts n → ⊥
empty-half-refused i cuts (Split a b own) h (inl k) = omega (arith, h.0, k)
empty-half-refused i cuts (Split a b own) h (inr k) = omega (arith, h.1, k)
empty-half-refused i cuts (Priced p) h k = k
empty-half-refused i cuts Pinned h k = k
empty-half-refused i cuts Bare h k = k

pub unpinned-refused : (i : Instance) (cuts : List Cut) (n : Node) → IsTight i cuts n → IsUnpinned i cuts n → ⊥
unpinned-refused i cuts (Split a b own) h k = k
unpinned-refused i cuts (Priced p) h k = k
unpinned-refused i cuts Pinned h k = let m = h.tight k.0 k.1 in omega (arith, m, k.2)
unpinned-refused i cuts Bare h k = k

-- what is right at every visit is wrong at none
none-first : (P Q : Visit → Type 0) (vs : List Visit) (n : ℕ) (v : Visit) → ((u : Visit) → P u → Q u → ⊥) → Each P vs → IsFirst Q vs n v → ⊥
none-first P Q vs n v clash each first = clash v (Each-get P vs (n - 1) v each first.place) first.meets

module _ (i : Instance) (vs : List Visit) where
  pub arcs-refused : (n : ℕ) → Each (λ (v : Visit). IsOnArc i v.node) vs → IsFirstNoArc i vs n → ⊥
  arcs-refused n h f = none-first _ _ vs n f.0 (λ u. no-arc-refused i u.node) h f.1

  pub halves-refused : (n : ℕ) → Each (λ (v : Visit). LeavesBoth i v.path v.node) vs → IsFirstEmptyHalf i vs n → ⊥
  halves-refused n h f = none-first _ _ vs n f.0 (λ u. empty-half-refused i u.path u.node) h f.1

  pub tight-refused : (n : ℕ) (a : ArcKey) → Each (λ (v : Visit). IsTight i v.path v.node) vs → IsFirstUnpinned i vs n a → ⊥
  tight-refused n a h f = none-first _ _ vs n f.visit (λ u. unpinned-refused i u.path u.node) h f.first

module _ (i : Instance) (c : Cert) (p : Proof) (whole : preorder p ≡ c.nodes) where
  -- the visits of any tree of the nodes
  same-visits : (q : Proof) → preorder q ≡ c.nodes → visits (base_cuts i) q ≡ visits (base_cuts i) p
  same-visits q h = ap (λ (t : Proof). visits (base_cuts i) t) (same-proof q p c.nodes h whole)

  pub no-arc-cause : (n : ℕ) → Each (λ (v : Visit). IsOnArc i v.node) (visits (base_cuts i) p) → Cause i c (NotAnArc n) → ⊥
  no-arc-cause n each h = arcs-refused i (visits (base_cuts i) p) n each (subst (λ (vs : List Visit). IsFirstNoArc i vs n) (same-visits h.0 h.1) h.2)

  pub half-cause : (n : ℕ) → Each (λ (v : Visit). LeavesBoth i v.path v.node) (visits (base_cuts i) p) → Cause i c (EmptyHalf n) → ⊥
  half-cause n each h = halves-refused i (visits (base_cuts i) p) n each (subst (λ (vs : List Visit). IsFirstEmptyHalf i vs n) (same-visits h.0 h.1) h.2)

  pub pinned-cause : (n : ℕ) (a : ArcKey) → Each (λ (v : Visit). IsTight i v.path v.node) (visits (base_cuts i) p) → Cause i c (NotPinned n a) → ⊥
  pinned-cause n a each h = tight-refused i (visits (base_cuts i) p) n a each (subst (λ (vs : List Visit). IsFirstUnpinned i vs n a) (same-visits h.0 h.1) h.2)

  pub above-cause : (said shown : Option ℕ) (v : ℕ) → Shows i (base_cuts i) p v → bound_number i c.bound ≤ v → Cause i c (BoundTooHigh said shown) → ⊥
  above-cause said shown v shows enough h =
      let a = h.1 in
      let same = same-proof a.proof p c.nodes a.nodes whole in
      let value = one-shown i (base_cuts i) p v a.value shows (subst (λ (q : Proof). Shows i (base_cuts i) q a.value) same a.shows) in
      omega (arith, a.less, enough)

pub has-cost : {P : ℕ → Type 0} (cost : Option ℕ) → IsSome cost → IfSome cost P → (amount : ℕ) × (cost ≡ Some amount) × P amount
has-cost None h k = cc
has-cost (Some n) h k = (n, refl, k)

module _ (i : Instance) (c : Cert) (good : Accepts i c) where
  stated : IsSome c.cost → (amount : ℕ) × (c.cost ≡ Some amount) × IsStated i c.shifts amount
  stated h = has-cost c.cost h good.roster

  pub refused : (why : Why) → Cause i c why → ⊥
  refused (NotAShift k) h = let s = stated h.0 in no-shift-refused i c.shifts k s.2.roster.shifts h.1
  refused (ShiftCost k said least) h = let s = stated h.0 in mispriced-refused i c.shifts k said least s.2.roster.shifts h.1
  refused (WrongHeads g n) h = let s = stated h.0 in heads-refused i c.shifts g n s.2.roster.heads h.1
  refused (WrongCost said found) h =
      let e = h.0 in
      let s = stated (subst (λ (o : Option ℕ). IsSome o) (sym e) refl) in
      let amount : s.0 ≡ said = cc in
      cost-refused i c.shifts said found s.2.roster.shifts (s.2.total ∙ amount) h.1
  refused (NotAnArc n) h = no-arc-cause i c good.proof good.nodes n good.proved.on_arcs h
  refused (EmptyHalf n) h = half-cause i c good.proof good.nodes n good.proved.halves h
  refused (NotPinned n a) h = pinned-cause i c good.proof good.nodes n a good.proved.tight h
  refused (BoundTooHigh said shown) h = above-cause i c good.proof good.nodes said shown good.proved.shown good.proved.shows good.proved.enough h
  refused (Outside byte period n) h = let s = stated h.0 in coverage-refused i c.shifts byte period n s.2.roster.coverage h.1
