-- Where there is no cause, a roster may have the kept shifts; where one has them, there is no cause.
use Rattle.std.proofs.Common.{◌≡◌, ℕ, ◌+◌, ◌<◌, ◌≤◌, Bool, true, false, ltb, Option, None, Some, List, [], ◌∷◌, ◌++◌, length, take, get_or, refl, sym, ap, ◌∙◌, arith, add-one}
use Rattle.std.specs.Prelude.{◌≢◌, filter, unwrap_or, All}
use Rattle.std.proofs.Math.Seq.{take-suc}
use Rattle.std.proofs.lemmas.Bool.{le-ltb}
use Rattle.std.proofs.lemmas.List.Elements.{All-nil, All-cons, filter-append}
use Rattle.std.proofs.lemmas.Nat.{mul-le}
use Rattle.text_lines.proofs.ListLemmas.{at_least}
use Rattle.model_rosters.specs.declared.grammar.Grammar.{Grammar}
use Rattle.model_rosters.specs.declared.instance.Cell.{Cell}
use Rattle.model_rosters.specs.declared.instance.Instance.{Instance}
use Rattle.model_rosters.specs.declared.instance.Shift.{Shift}
use Rattle.model_rosters.specs.Coverage.{covers_cell, covered, IsWithinCell}
use Rattle.model_rosters.specs.Duties.{Duty, duty}
use Rattle.model_rosters.specs.Folds.{count, sum_n, Each}
use Rattle.model_rosters.specs.GreatestCost.{greatest_rule_cost}
use Rattle.model_rosters.specs.Room.{most_uses}
use Rattle.model_rosters.specs.Rosters.{IsTeamPrice, ArePrices, is_in_team, HasHeads, IsRoster}
use Rattle.model_rosters.specs.SoundInstance.{IsSoundInstance}
use Rattle.model_rosters.specs.Teams.{Team, teams}
use Rattle.model_rosters.proofs.CostBounds.{rule_cost-le, uses-le}
use Rattle.model_rosters.proofs.EachLemmas.{Each-weaker}
use Rattle.model_rosters.proofs.arc_laws.FoldsLemmas.{count-append}
use Rattle.law_bounds.proofs.TreeCosts.{cost-le}
use Rattle.check_certificates.specs.RosterCauses.{duties}
use Rattle.check_values.specs.remaining_day.Answers.{MayBeKept, NoRosterHas, IsImpossible}
use Rattle.check_values.specs.remaining_day.Causes.{is_lasting, causes_of, prices_of}
use Rattle.check_values.specs.Causes.{AreFound, only_if, gathered, shift_causes, range_causes, team_causes, limit_causes, cell_causes}
use Rattle.check_values.specs.declared.cause.Cause.{Cause}
use Rattle.check_values.specs.declared.cause.Cause.TheVariants.{TooFew, TooMany, BelowFloor, AboveCeiling}
use Rattle.check_values.specs.remaining_day.Remaining.{AreWithin}
use Rattle.check_values.proofs.CauseLists.{nothing, no_parts}
use Rattle.check_values.proofs.FoundPrices.{priced-shift}
use Rattle.check_values.proofs.OrdersLemmas.{any-order}
use Rattle.check_values.proofs.PriceLists.{part_prices}

abbrev lasting : List Cause → List Cause
lasting cs = filter is_lasting cs

-- what further shifts do not mend of three lists of causes
three_parts : (a b c : List Cause) → lasting (a ++ (b ++ c)) ≡ lasting a ++ (lasting b ++ lasting c)
three_parts a b c = filter-append is_lasting a (b ++ c) ∙ ap (λ (cs : List Cause). lasting a ++ cs) (filter-append is_lasting b c)

-- one more cause
pub one_more : (cs : List Cause) (k : ℕ) (d : Cause) (old new : List Cause) → k < length cs → old ≡ lasting (take k cs) → new ≡ old ++ lasting (get_or cs k d ∷ []) → new ≡ lasting (take (k + 1) cs)
one_more cs k d old new l e h =
    h ∙ ap (λ (z : List Cause). z ++ lasting (get_or cs k d ∷ [])) e ∙ sym (filter-append is_lasting (take k cs) (get_or cs k d ∷ []))
    ∙ ap lasting (sym (take-suc cs k d l)) ∙ ap (λ (n : ℕ). lasting (take n cs)) (sym (add-one k))

-- ---- no cause

all_priced : (i : Instance) (ss : List Shift) (fs : List (Option ℕ)) (n : ℕ) → AreFound i ss fs → lasting (shift_causes n fs) ≡ [] → ArePrices i (duties ss) (prices_of fs)
all_priced i [] [] n h e = tt
all_priced i [] (f ∷ fs) n h e = absurd h
all_priced i (s ∷ ss) [] n h e = absurd h
all_priced i (s ∷ ss) (None ∷ fs) n h e = absurd cc
all_priced i (s ∷ ss) (Some p ∷ fs) n h e = (h.0, all_priced i ss fs (n + 1) h.1 e)

not_too_many : (number n least most : ℕ) → lasting (range_causes number n least most) ≡ [] → n ≤ most
not_too_many number n least most e = by (ltb n least) (ltb most n) refl e
  where
    by : (few many : Bool) → ltb most n ≡ many → lasting (only_if few (TooFew number n least) ++ only_if many (TooMany number n most)) ≡ [] → n ≤ most
    by true true s e = absurd cc
    by false true s e = absurd cc
    by true false s e = at_least most n s
    by false false s e = at_least most n s

not_above : (byte period n floor ceiling : ℕ) → lasting (limit_causes byte period n floor ceiling) ≡ [] → n ≤ ceiling
not_above byte period n floor ceiling e = by (ltb n floor) (ltb ceiling n) refl e
  where
    by : (below above : Bool) → ltb ceiling n ≡ above → lasting (only_if below (BelowFloor byte period n floor) ++ only_if above (AboveCeiling byte period n ceiling)) ≡ [] → n ≤ ceiling
    by true true s e = absurd cc
    by false true s e = absurd cc
    by true false s e = at_least ceiling n s
    by false false s e = at_least ceiling n s

heads_kept : (ds : List Duty) (ts : List Team) → lasting (gathered (team_causes ds) ts) ≡ [] → Each (λ (t : Team). count (is_in_team t) ds ≤ t.most) ts
heads_kept ds [] e = tt
heads_kept ds (t ∷ ts) e =
    let p = nothing (lasting (team_causes ds t)) (lasting (gathered (team_causes ds) ts)) (sym (filter-append is_lasting (team_causes ds t) (gathered (team_causes ds) ts)) ∙ e) in
    (not_too_many t.number _ t.least t.most p.0, heads_kept ds ts p.1)

ceilings_kept : (g : Grammar) (ds : List Duty) (cs : List Cell) → lasting (gathered (cell_causes g ds) cs) ≡ [] → Each (λ (c : Cell). covered g c ds ≤ c.ceiling) cs
ceilings_kept g ds [] e = tt
ceilings_kept g ds (c ∷ cs) e =
    let p = nothing (lasting (cell_causes g ds c)) (lasting (gathered (cell_causes g ds) cs)) (sym (filter-append is_lasting (cell_causes g ds c) (gathered (cell_causes g ds) cs)) ∙ e) in
    (not_above _ c.period _ c.floor c.ceiling p.0, ceilings_kept g ds cs p.1)

pub may_be_kept : (i : Instance) (ss : List Shift) (fs : List (Option ℕ)) → AreFound i ss fs → causes_of i (duties ss) fs ≡ [] → MayBeKept i ss (prices_of fs)
may_be_kept i ss fs h e =
    let ds : List Duty = duties ss in
    let words : List Cause = shift_causes 1 fs in
    let teams_causes : List Cause = gathered (team_causes ds) (teams i) in
    let cells_causes : List Cause = gathered (cell_causes i.grammar ds) i.cells in
    let p = nothing (lasting words) (lasting teams_causes ++ lasting cells_causes) (sym (three_parts words teams_causes cells_causes) ∙ e) in
    let q = nothing (lasting teams_causes) (lasting cells_causes) p.1 in
    record {
      priced = all_priced i ss fs 1 h p.0;
      within = record { heads = heads_kept ds (teams i) q.0; ceilings = ceilings_kept i.grammar ds i.cells q.1 };
    }

-- ---- a roster that has the kept shifts

no_words : (i : Instance) (ss : List Shift) (fs : List (Option ℕ)) (n : ℕ) (ps : List ℕ) → AreFound i ss fs → ArePrices i (duties ss) ps → lasting (shift_causes n fs) ≡ []
no_words i [] [] n ps h k = refl
no_words i [] (f ∷ fs) n ps h k = absurd h
no_words i (s ∷ ss) [] n ps h k = absurd h
no_words i (s ∷ ss) (f ∷ fs) n [] h k = absurd k
no_words i (s ∷ ss) (None ∷ fs) n (p ∷ ps) h k = absurd (priced-shift i s p k.0 h.0)
no_words i (s ∷ ss) (Some q ∷ fs) n (p ∷ ps) h k = no_words i ss fs (n + 1) ps h.1 k.1

none_too_many : (number n least most : ℕ) → n ≤ most → lasting (range_causes number n least most) ≡ []
none_too_many number n least most h = rw (le-ltb most n h) (by (ltb n least))
  where
    by : (few : Bool) → lasting (only_if few (TooFew number n least) ++ []) ≡ []
    by true = refl
    by false = refl

none_above : (byte period n floor ceiling : ℕ) → n ≤ ceiling → lasting (limit_causes byte period n floor ceiling) ≡ []
none_above byte period n floor ceiling h = rw (le-ltb ceiling n h) (by (ltb n floor))
  where
    by : (below : Bool) → lasting (only_if below (BelowFloor byte period n floor) ++ []) ≡ []
    by true = refl
    by false = refl

no_heads : (ds : List Duty) (ts : List Team) → Each (λ (t : Team). count (is_in_team t) ds ≤ t.most) ts → lasting (gathered (team_causes ds) ts) ≡ []
no_heads ds [] h = refl
no_heads ds (t ∷ ts) h =
    filter-append is_lasting (team_causes ds t) (gathered (team_causes ds) ts)
    ∙ no_parts (lasting (team_causes ds t)) (lasting (gathered (team_causes ds) ts)) (none_too_many t.number _ t.least t.most h.0) (no_heads ds ts h.1)

no_cells : (g : Grammar) (ds : List Duty) (cs : List Cell) → Each (λ (c : Cell). covered g c ds ≤ c.ceiling) cs → lasting (gathered (cell_causes g ds) cs) ≡ []
no_cells g ds [] h = refl
no_cells g ds (c ∷ cs) h =
    filter-append is_lasting (cell_causes g ds c) (gathered (cell_causes g ds) cs)
    ∙ no_parts (lasting (cell_causes g ds c)) (lasting (gathered (cell_causes g ds) cs)) (none_above _ c.period _ c.floor c.ceiling h.0) (no_cells g ds cs h.1)

pub within_none : (i : Instance) (ss : List Shift) (fs : List (Option ℕ)) (ps : List ℕ) → AreFound i ss fs → ArePrices i (duties ss) ps → AreWithin i (duties ss) → causes_of i (duties ss) fs ≡ []
within_none i ss fs ps h priced within =
    let ds : List Duty = duties ss in
    three_parts (shift_causes 1 fs) (gathered (team_causes ds) (teams i)) (gathered (cell_causes i.grammar ds) i.cells)
    ∙ no_parts (lasting (shift_causes 1 fs)) _ (no_words i ss fs 1 ps h priced)
    (no_parts (lasting (gathered (team_causes ds) (teams i))) _ (no_heads ds (teams i) within.heads) (no_cells i.grammar ds i.cells within.ceilings))

pub no_causes : (i : Instance) (ss : List Shift) (fs : List (Option ℕ)) (ds : List Duty) (ps : List ℕ) → AreFound i ss fs → IsRoster i (duties ss ++ ds) ps → causes_of i (duties ss) fs ≡ []
no_causes i ss fs ds ps h r =
    let kept : List Duty = duties ss in
    let parted = part_prices i kept ds ps r.shifts in
    within_none i ss fs parted.first h parted.of_first (record {
      heads = Each-weaker (HasHeads (kept ++ ds)) (λ (t : Team). count (is_in_team t) kept ≤ t.most) (teams i)
          (λ t k. let both = count-append (is_in_team t) kept ds in omega (arith, both, k.most)) r.heads;
      ceilings = Each-weaker (λ (c : Cell). IsWithinCell c (covered i.grammar c (kept ++ ds))) (λ (c : Cell). covered i.grammar c kept ≤ c.ceiling) i.cells
          (λ c k. let both = count-append (λ (d : Duty). covers_cell i.grammar c d.word) kept ds in omega (arith, both, k.ceiling)) r.coverage;
    })

pub never_kept : (i : Instance) (ss : List Shift) (fs : List (Option ℕ)) (cs : List Cause) → AreFound i ss fs → cs ≡ causes_of i (duties ss) fs → cs ≢ [] → NoRosterHas i (duties ss)
never_kept i ss fs cs h all some es ds amount order costs =
    let roster = any-order i es (duties ss ++ ds) amount order costs in
    some (all ∙ no_causes i ss fs ds roster.prices h roster.allowed)

pub impossible : (i : Instance) (ss : List Shift) (fs : List (Option ℕ)) (cs : List Cause) → AreFound i ss fs → cs ≡ causes_of i (duties ss) fs → cs ≢ [] → IsImpossible i ss cs
impossible i ss fs cs h all some = record { found = fs; prices = h; all = all; some = some; never = never_kept i ss fs cs h all some }

-- ---- sizes

small_price : (i : Instance) → IsSoundInstance i → (d : Duty) (p : ℕ) → IsTeamPrice i d p → p ≤ 63030000
small_price i s d p h =
    let t = h.priced.attained in
    let tree = cost-le i s.grammar.ranks.0 s.grammar.ranks.1 t.0 h.team.name t.1.derives.0 t.1.derives.1 in
    let most = mul-le (most_uses i.grammar) (greatest_rule_cost i.grammar.rules) 6303 10000 (uses-le i.grammar s.grammar) (rule_cost-le _ _ i.grammar.rules s.grammar.rules) in
    omega (arith, tree, most, t.2)

pub small_prices : (i : Instance) → IsSoundInstance i → (ss : List Shift) (fs : List (Option ℕ)) → AreFound i ss fs → All (λ (f : Option ℕ). unwrap_or f 0 ≤ 63030000) fs
small_prices i s [] [] h = All-nil _
small_prices i s [] (f ∷ fs) h = absurd h
small_prices i s (x ∷ ss) [] h = absurd h
small_prices i s (x ∷ ss) (None ∷ fs) h = All-cons (λ (f : Option ℕ). unwrap_or f 0 ≤ 63030000) None fs (omega arith) (small_prices i s ss fs h.1)
small_prices i s (x ∷ ss) (Some p ∷ fs) h = All-cons (λ (f : Option ℕ). unwrap_or f 0 ≤ 63030000) (Some p) fs (small_price i s (duty x) p h.0) (small_prices i s ss fs h.1)

pub sum_found : (fs : List (Option ℕ)) → sum_n (λ (f : Option ℕ). unwrap_or f 0) fs ≡ sum_n (λ (p : ℕ). p) (prices_of fs)
sum_found [] = refl
sum_found (None ∷ fs) = omega (arith, sum_found fs)
sum_found (Some p ∷ fs) = omega (arith, sum_found fs)
