-- A roster is allowed exactly where there is no cause against it.
use Rattle.std.proofs.Common.{◌≡◌, ℕ, ◌+◌, ◌<◌, ◌≤◌, arith, Bool, true, false, ltb, Option, None, Some, List, [], ◌∷◌, ◌++◌, refl}
use Rattle.std.proofs.lemmas.Bool.{le-ltb}
use Rattle.text_lines.proofs.ListLemmas.{at_least}
use Rattle.model_rosters.specs.declared.grammar.Grammar.{Grammar}
use Rattle.model_rosters.specs.declared.instance.Cell.{Cell}
use Rattle.model_rosters.specs.declared.instance.Instance.{Instance}
use Rattle.model_rosters.specs.declared.instance.Shift.{Shift}
use Rattle.model_rosters.specs.Coverage.{covered, IsWithinCell}
use Rattle.model_rosters.specs.Duties.{Duty}
use Rattle.model_rosters.specs.Folds.{Each}
use Rattle.model_rosters.specs.Rosters.{ArePrices, HasHeads, IsRoster, Costs}
use Rattle.model_rosters.specs.Teams.{Team, teams}
use Rattle.check_certificates.specs.RosterCauses.{duties, stated_prices}
use Rattle.check_values.specs.declared.cause.Cause.{Cause}
use Rattle.check_values.specs.Causes.{IsFound, AreFound, only_if, gathered, shift_cause, shift_causes, range_causes, team_causes, limit_causes, cell_causes, causes_of}
use Rattle.check_values.specs.Prices.{at_prices}
use Rattle.check_values.proofs.CauseLists.{nothing, no_parts}
use Rattle.check_values.proofs.FoundPrices.{priced-shift}

-- the test of a cause that is not there fails
if_none : (b : Bool) (c : Cause) → only_if b c ≡ [] → b ≡ false
if_none true c e = absurd cc
if_none false c e = refl

none_if : (b : Bool) (c : Cause) → b ≡ false → only_if b c ≡ []
none_if true c e = absurd cc
none_if false c e = refl

-- ---- no cause

range_holds : (number n least most : ℕ) → range_causes number n least most ≡ [] → (least ≤ n) × (n ≤ most)
range_holds number n least most e =
    let p = nothing (only_if (ltb n least) _) (only_if (ltb most n) _) e in
    (at_least n least (if_none (ltb n least) _ p.0), at_least most n (if_none (ltb most n) _ p.1))

limits_hold : (byte period n floor ceiling : ℕ) → limit_causes byte period n floor ceiling ≡ [] → (floor ≤ n) × (n ≤ ceiling)
limits_hold byte period n floor ceiling e =
    let p = nothing (only_if (ltb n floor) _) (only_if (ltb ceiling n) _) e in
    (at_least n floor (if_none (ltb n floor) _ p.0), at_least ceiling n (if_none (ltb ceiling n) _ p.1))

heads_hold : (ds : List Duty) (ts : List Team) → gathered (team_causes ds) ts ≡ [] → Each (HasHeads ds) ts
heads_hold ds [] e = tt
heads_hold ds (t ∷ ts) e =
    let p = nothing (team_causes ds t) (gathered (team_causes ds) ts) e in
    let h = range_holds t.number _ t.least t.most p.0 in
    (record { least = h.0; most = h.1 }, heads_hold ds ts p.1)

cells_hold : (g : Grammar) (ds : List Duty) (cs : List Cell) → gathered (cell_causes g ds) cs ≡ [] → Each (λ (c : Cell). IsWithinCell c (covered g c ds)) cs
cells_hold g ds [] e = tt
cells_hold g ds (c ∷ cs) e =
    let p = nothing (cell_causes g ds c) (gathered (cell_causes g ds) cs) e in
    let h = limits_hold _ c.period _ c.floor c.ceiling p.0 in
    (record { floor = h.0; ceiling = h.1 }, cells_hold g ds cs p.1)

prices_hold : (i : Instance) (k : ℕ) (ss : List Shift) (os : List (Option ℕ)) → AreFound i ss os → shift_causes k os ≡ [] → ArePrices i (duties ss) (stated_prices (at_prices ss os))
prices_hold i k [] [] h e = tt
prices_hold i k [] (o ∷ os) h e = absurd h
prices_hold i k (s ∷ ss) [] h e = absurd h
prices_hold i k (s ∷ ss) (None ∷ os) h e = absurd cc
prices_hold i k (s ∷ ss) (Some p ∷ os) h e = (h.0, prices_hold i (k + 1) ss os h.1 e)

pub allowed : (i : Instance) (ss : List Shift) (os : List (Option ℕ)) → AreFound i ss os → causes_of i (duties ss) os ≡ [] → IsRoster i (duties ss) (stated_prices (at_prices ss os))
allowed i ss os h e =
    let ds = duties ss in
    let p = nothing (shift_causes 1 os) _ e in
    let q = nothing (gathered (team_causes ds) (teams i)) (gathered (cell_causes i.grammar ds) i.cells) p.1 in
    record {
      shifts = prices_hold i 1 ss os h p.0;
      heads = heads_hold ds (teams i) q.0;
      coverage = cells_hold i.grammar ds i.cells q.1;
    }

-- ---- an allowed roster

no_range : (number n least most : ℕ) → least ≤ n → n ≤ most → range_causes number n least most ≡ []
no_range number n least most a b = no_parts _ _ (none_if (ltb n least) _ (le-ltb n least a)) (none_if (ltb most n) _ (le-ltb most n b))

no_limits : (byte period n floor ceiling : ℕ) → floor ≤ n → n ≤ ceiling → limit_causes byte period n floor ceiling ≡ []
no_limits byte period n floor ceiling a b = no_parts _ _ (none_if (ltb n floor) _ (le-ltb n floor a)) (none_if (ltb ceiling n) _ (le-ltb ceiling n b))

no_heads : (ds : List Duty) (ts : List Team) → Each (HasHeads ds) ts → gathered (team_causes ds) ts ≡ []
no_heads ds [] h = refl
no_heads ds (t ∷ ts) h = no_parts (team_causes ds t) (gathered (team_causes ds) ts) (no_range t.number _ t.least t.most h.0.least h.0.most) (no_heads ds ts h.1)

no_cells : (g : Grammar) (ds : List Duty) (cs : List Cell) → Each (λ (c : Cell). IsWithinCell c (covered g c ds)) cs → gathered (cell_causes g ds) cs ≡ []
no_cells g ds [] h = refl
no_cells g ds (c ∷ cs) h = no_parts (cell_causes g ds c) (gathered (cell_causes g ds) cs) (no_limits _ c.period _ c.floor c.ceiling h.0.floor h.0.ceiling) (no_cells g ds cs h.1)

no_shifts : (i : Instance) (k : ℕ) (ss : List Shift) (os : List (Option ℕ)) (ps : List ℕ) → AreFound i ss os → ArePrices i (duties ss) ps → shift_causes k os ≡ []
no_shifts i k [] [] ps h a = refl
no_shifts i k [] (o ∷ os) ps h a = absurd h
no_shifts i k (s ∷ ss) [] ps h a = absurd h
no_shifts i k (s ∷ ss) (o ∷ os) [] h a = absurd a
no_shifts i k (s ∷ ss) (None ∷ os) (p ∷ ps) h a = absurd (priced-shift i s p a.0 h.0)
no_shifts i k (s ∷ ss) (Some q ∷ os) (p ∷ ps) h a = no_shifts i (k + 1) ss os ps h.1 a.1

pub no-cause : (i : Instance) (ss : List Shift) (os : List (Option ℕ)) (amount : ℕ) → AreFound i ss os → Costs i (duties ss) amount → causes_of i (duties ss) os ≡ []
no-cause i ss os amount h c =
    let r = c.allowed in
    no_parts (shift_causes 1 os) _ (no_shifts i 1 ss os c.prices h r.shifts)
    (no_parts (gathered (team_causes (duties ss)) (teams i)) _ (no_heads (duties ss) (teams i) r.heads) (no_cells i.grammar (duties ss) i.cells r.coverage))
