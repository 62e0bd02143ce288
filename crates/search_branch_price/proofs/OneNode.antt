-- What a search finds of a day that is plainly infeasible: one node shows it.
use Rattle.std.proofs.Common.{◌≡◌, ℕ, ℤ, arith, pos, ◌+ℤ◌, ◌≤◌, ◌<◌, ◌+◌, ◌*◌, Bool, Option, None, List, [], ◌∷◌, length, refl, sym, ap, subst, ◌⊎◌, inl, inr}
use Rattle.std.specs.Prelude.{◌*ℤ◌, ◌≤ℤ◌}
use Rattle.std.proofs.lemmas.Int.{ints}
use Rattle.model_rosters.specs.declared.grammar.ArcKey.{ArcKey}
use Rattle.model_rosters.specs.declared.instance.Cut.{Cut}
use Rattle.model_rosters.specs.declared.instance.Done.TheVariants.{NoRoster}
use Rattle.model_rosters.specs.declared.instance.Instance.{Instance}
use Rattle.model_rosters.specs.declared.instance.Mult.{Mult}
use Rattle.model_rosters.specs.declared.instance.Prices.{Prices}
use Rattle.model_rosters.specs.Cuts.{lo, base_cuts}
use Rattle.model_rosters.specs.Folds.{sum_n, Each, In}
use Rattle.model_rosters.specs.GreatestCost.{greatest_cost}
use Rattle.model_rosters.specs.SoundInstance.{IsSoundInstance}
use Rattle.model_rosters.specs.Shifts.{IsShift}
use Rattle.model_rosters.specs.Teams.{Team, teams}
use Rattle.model_rosters.proofs.SoundCells.{few_cells}
use Rattle.model_rosters.proofs.EachLemmas.{Each-at}
use Rattle.model_rosters.specs.arc_laws.Counts.{AreCounts}
use Rattle.model_rosters.specs.arc_laws.Lists.{AreArcs}
use Rattle.law_bounds.specs.BestPrices.{AreBest, loss}
use Rattle.law_bounds.specs.Infeasible.{IsPlainlyInfeasible}
use Rattle.law_bounds.specs.Lagrangian.{IsLagrangian, lagrangian_sum}
use Rattle.law_bounds.specs.Pinned.{IsPinned, IsPinnedValue}
use Rattle.law_bounds.specs.Priced.{IsPricedValue}
use Rattle.law_bounds.proofs.OneValue.{one-priced}
use Rattle.law_bounds.proofs.SoundReady.{ready}
use Rattle.check_parts.proofs.priced_part.WholeCosts.{whole_up}
use Rattle.check_certificates.specs.declared.cert.Node.{Node}
use Rattle.check_certificates.specs.declared.cert.Node.TheVariants.{Split, Priced, Pinned, Bare}
use Rattle.check_certificates.specs.Nodes.{Visit, priced, pinned}
use Rattle.search_candidates.specs.Starts.{HasStart, IsFreeCell}
use Rattle.search_branch_price.specs.declared.found.Found.{Found}
use Rattle.search_branch_price.specs.Found.{IsFound, ArePrices, HasNoArc}
use Rattle.search_branch_price.specs.Infeasible.{ArePlain, IsPlainLeast, IsInfeasibleNode}
use Rattle.search_branch_price.proofs.PlainPrices.{plain-fit}

member-le : {A : Type 0} (f : A → ℕ) (x : A) (xs : List A) → In x xs → f x ≤ sum_n f xs
member-le f x [] h = absurd h
member-le f x (y ∷ xs) (inl e) = let k : f x ≡ f y = ap f e in omega arith
member-le f x (y ∷ xs) (inr h) = omega (arith, member-le f x xs h)

pub no-start : (i : Instance) → IsPlainlyInfeasible i → HasStart i → ⊥
no-start i (inl h) start =
    let shift = Each-at (λ (t : Team). 0 < t.least → (w : List ℕ) × IsShift i.grammar t.name w) h.0 (teams i) start.shifts h.1.team h.1.needs in
    h.1.none shift.1.0 shift.1.1.derives
no-start i (inr h) start =
    let free = Each-at IsFreeCell h.0 i.cells start.free h.1.cell in
    let none = h.1.none in
    absurd (omega (arith, free.floor))

-- ---- prices of 0
module _ (i : Instance) (infeasible : IsPlainlyInfeasible i) where
  -- any Lagrangian value is one more than the greatest cost
  same-value : (p : Prices) (cuts : List Cut) (v : ℤ) → IsLagrangian i p cuts v → v ≡ pos p.d *ℤ pos (greatest_cost i + 1)
  same-value p cuts v h = by h.value
    where
      by : (IsPlainlyInfeasible i × (v ≡ pos p.d *ℤ pos (greatest_cost i + 1))) ⊎ ((IsPlainlyInfeasible i → ⊥) × (v ≡ lagrangian_sum i p cuts h.z)) → v ≡ pos p.d *ℤ pos (greatest_cost i + 1)
      by (inl k) = k.1
      by (inr k) = absurd (k.0 infeasible)

  rival-le : (d u l e : ℕ) → d ≡ 1 → ((pos e *ℤ pos u) *ℤ pos d) ≤ℤ (((pos d *ℤ pos u) +ℤ pos l) *ℤ pos e)
  rival-le d u l e one =
      let k : e * u * d ≤ (d * u + l) * e = rw one (omega arith) in
      omega (arith, ints, k)

  pub plain-best : (p : Prices) (cuts : List Cut) → ArePlain i p → AreBest i p cuts
  plain-best p cuts h = record {
    best = λ t day rival is v w a b.
        rw (same-value p cuts v a, same-value rival cuts w b) (rival-le p.d (greatest_cost i + 1) (loss i p cuts) rival.d h.one);
  }

  pub plain-value : (p : Prices) (cuts : List Cut) (z : Option ℤ) → ArePlain i p → IsPlainLeast i z → IsPricedValue i p cuts (greatest_cost i + 1)
  plain-value p cuts z h least =
      let up = whole_up p.d (greatest_cost i + 1) (omega (arith, h.one)) in
      record {
        lagrangian = pos p.d *ℤ pos (greatest_cost i + 1);
        is_lagrangian = record { z = z; least = least p cuts h; value = inl (infeasible, refl) };
        value = rw up (omega arith);
      }

  pub plain-prices : IsSoundInstance i → (p : Prices) (v : Visit) → ArePlain i p → ArePrices i v p
  plain-prices sound p v h = record {
    best = plain-best p v.path h;
    few =
        let cells = few_cells i.grammar i.cells sound.grammar.codes sound.grammar.few_periods sound.cells in
        let none : length p.mult ≡ 0 = ap (λ (ms : List Mult). length ms) h.none in
        omega (arith, cells, none, h.each);
  }

  -- ---- no arc
  module _ (sound : IsSoundInstance i) (none : HasNoArc i) where
    no-counts : (value : ArcKey → ℕ) → AreCounts i [] value → ⊥
    no-counts value counts = by infeasible
      where
        by : IsPlainlyInfeasible i → ⊥
        by (inl h) =
            let one = member-le (λ (t : Team). t.least) h.0 (teams i) h.1.team in
            let all = (ready i sound).least in
            let some = h.1.needs in
            let enough : i.heads_min ≤ 0 = counts.enough in
            omega (arith, one, all, some, enough)
        by (inr h) =
            let within = Each-at _ h.0 i.cells counts.cells h.1.cell in
            let floor : h.0.floor ≤ 0 = within.floor in
            let less = h.1.none in
            omega (arith, floor, less)

    pub no-arcs : AreArcs i.grammar []
    no-arcs = record { sound = λ a h. absurd h; whole = λ a h. absurd (none a h); rising = tt }

    pub pinned-value : (cuts : List Cut) → IsPinnedValue i cuts (greatest_cost i + 1)
    pinned-value cuts = record { listed = []; are = no-arcs; value = inr (no-counts (lo cuts), refl) }

    pub is-pinned : (cuts : List Cut) → IsPinned i cuts
    is-pinned cuts = record { tight = λ a h. absurd (none a h) }

  -- ---- what is found
  abbrev pub found_of : Node → Found
  found_of node = record {
    cert = record { shifts = []; cost = None; bound = None; nodes = node ∷ [] };
    done = NoRoster;
    processed = 1;
    failed = 0;
  }

  pub one-node : IsSoundInstance i → (strict : Bool) (turns : ℕ) → 1 ≤ turns → (node : Node) → IsInfeasibleNode i node
      → IsFound i strict turns (found_of node)
  one-node sound strict turns some (Split a b own) is = absurd is
  one-node sound strict turns some Bare is = absurd is
  one-node sound strict turns some (Priced p) is =
      let value = plain-value p (base_cuts i) is.1.0 is.0 is.1.1 in
      record {
        sound = record {
          proof = priced p;
          nodes = record { whole = refl; few = omega arith; each = (plain-fit i p (base_cuts i) is.0, tt) };
          listed = (subst (λ (ms : List Mult). Each (λ (m : Mult). pos 1 ≤ℤ m.value) ms) (sym is.0.none) tt, tt);
          shifts = tt;
          few = omega arith;
          none = λ e. refl;
          cost = tt;
          bound = tt;
        };
        accepted = record {
          roster = tt;
          proof = priced p;
          nodes = refl;
          proved = record { on_arcs = (tt, tt); halves = (tt, tt); tight = (tt, tt); shown = greatest_cost i + 1; shows = value; enough = omega arith };
        };
        proof = priced p;
        nodes = refl;
        shows = value;
        most = tt;
        ascending = tt;
        whole = inl (record {
          each = (plain-prices sound p (record { path = base_cuts i; node = Priced p }) is.0, tt);
          sharp = (inl (λ x known. let e = one-priced i p (base_cuts i) x (greatest_cost i + 1) known value in omega (arith, e)), tt);
          within = some;
          ran_out = λ e. absurd (cc);
        });
        loose = λ busy. absurd (busy infeasible);
        infeasible = λ h. record { nodes = refl; processed = refl; done = refl };
        arcless = λ none. absurd (is.2 none);
        processed = refl;
        failed = refl;
        done = (refl, refl);
        start = λ start. absurd (no-start i infeasible start);
      }
  one-node sound strict turns some Pinned is =
      let value = pinned-value sound is (base_cuts i) in
      record {
        sound = record {
          proof = pinned;
          nodes = record { whole = refl; few = omega arith; each = (tt, tt) };
          listed = (tt, tt);
          shifts = tt;
          few = omega arith;
          none = λ e. refl;
          cost = tt;
          bound = tt;
        };
        accepted = record {
          roster = tt;
          proof = pinned;
          nodes = refl;
          proved = record { on_arcs = (tt, tt); halves = (tt, tt); tight = (is-pinned sound is (base_cuts i), tt); shown = greatest_cost i + 1; shows = value; enough = omega arith };
        };
        proof = pinned;
        nodes = refl;
        shows = value;
        most = tt;
        ascending = tt;
        whole = inl (record { each = (tt, tt); sharp = (tt, tt); within = some; ran_out = λ e. absurd (cc) });
        loose = λ busy. (tt, tt);
        infeasible = λ h. record { nodes = refl; processed = refl; done = refl };
        arcless = λ none. refl;
        processed = refl;
        failed = refl;
        done = (refl, refl);
        start = λ start. absurd (no-start i infeasible start);
      }
