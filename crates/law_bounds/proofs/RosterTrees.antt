-- Each allowed roster is a list of trees of the day with its cost, its coverage and its head counts.
use Rattle.std.proofs.Common.{◌≡◌, ℕ, arith, ◌+◌, ◌-◌, ◌≤◌, Bool, true, false, cond, List, [], ◌∷◌, length, sym, refl, ap, subst, ◌∙◌, ◌⊎◌, inl, inr}
use Rattle.std.specs.Prelude.{nat_eq, nat_lt, ◌≢◌}
use Rattle.std.proofs.lemmas.Bool.Decides.{eqb_tells}
use Rattle.model_rosters.specs.declared.instance.Cell.{Cell}
use Rattle.model_rosters.specs.declared.instance.Group.{Group}
use Rattle.model_rosters.specs.declared.instance.Instance.{Instance}
use Rattle.model_rosters.specs.declared.instance.Side.TheVariants.{Low, High}
use Rattle.model_rosters.specs.Trees.{Parts, word, IsTreeOf, IsDayTree}
use Rattle.model_rosters.specs.Folds.{sum_n, count, Each, In}
use Rattle.model_rosters.specs.Arcs.{letters, arcs, cost, same_arc}
use Rattle.model_rosters.specs.Teams.{Team, teams_from, teams, teams_of}
use Rattle.model_rosters.specs.Duties.{Duty}
use Rattle.model_rosters.specs.Coverage.{is_at, covers_cell, covered, IsWithinCell, penalty}
use Rattle.model_rosters.specs.Rosters.{IsTeamPrice, ArePrices, is_in_team, HasHeads, IsRoster}
use Rattle.model_rosters.proofs.arc_laws.FoldsLemmas.{count-append, count-le-length}
use Rattle.model_rosters.specs.Cuts.{arcs_of, arc_count, Meets, group_arc, group_cuts, cuts_from}
use Rattle.model_rosters.proofs.TeamNumbers.{team_apart}
use Rattle.model_rosters.proofs.EachLemmas.{Each-append, Each-at}
use Rattle.model_rosters.specs.arc_laws.TreeLists.{letters_of}
use Rattle.law_bounds.specs.Infeasible.{IsPlainlyInfeasible}
use Rattle.law_bounds.specs.TreeRosters.{tree_cover, IsCovered}
use Rattle.law_bounds.specs.DutyTrees.{own_rules, IsDutyTree, AreDutyTrees}
use Rattle.law_bounds.specs.Laws.{HasTrees, StandFor}
use Rattle.law_bounds.proofs.ReadyInstances.{IsCode, arc_of_team, IsWrap, IsReady}
use Rattle.law_bounds.proofs.TeamNumbers.{team_hits}
use Rattle.law_bounds.proofs.Words.{tree_has}

abbrev pub in_teams : List Team → List Duty → ℕ
in_teams ts ds = sum_n (λ (t : Team). count (is_in_team t) ds) ts

in_teams-more : (ts : List Team) (d : Duty) (ds : List Duty) → in_teams ts (d ∷ ds) ≡ sum_n (λ (t : Team). cond (nat_eq d.team t.number) 1 0) ts + in_teams ts ds
in_teams-more [] d ds = refl
in_teams-more (t ∷ ts) d ds = omega (arith, in_teams-more ts d ds)

in_teams-none : (ts : List Team) → in_teams ts [] ≡ 0
in_teams-none [] = refl
in_teams-none (t ∷ ts) = omega (arith, in_teams-none ts)

one_hit : (ts : List Team) (t : Team) (d : ℕ) → In t ts → t.number ≡ d → 1 ≤ sum_n (λ (t : Team). cond (nat_eq d t.number) 1 0) ts
one_hit [] t d h e = absurd h
one_hit (x ∷ ts) t d (inr h) e = omega (arith, one_hit ts t d h e)
one_hit (x ∷ ts) t d (inl h) e = pick (eqb_tells d x.number)
  where
    pick : ((nat_eq d x.number ≡ true) × (d ≡ x.number)) ⊎ ((nat_eq d x.number ≡ false) × (d ≢ x.number)) → 1 ≤ cond (nat_eq d x.number) 1 0 + sum_n (λ (t : Team). cond (nat_eq d t.number) 1 0) ts
    pick (inl a) = rw a.0 (omega arith)
    pick (inr a) = absurd (a.1 (sym e ∙ ap (λ (y : Team). y.number) h))

sum_least : (ts : List Team) (ds : List Duty) → Each (HasHeads ds) ts → (sum_n (λ (t : Team). t.least) ts ≤ in_teams ts ds) × (in_teams ts ds ≤ sum_n (λ (t : Team). t.most) ts)
sum_least [] ds h = (omega arith, omega arith)
sum_least (t ∷ ts) ds h = let k = sum_least ts ds h.1 in (omega (arith, h.0.least, k.0), omega (arith, h.0.most, k.1))

module _ (i : Instance) (ready : IsReady i) where
  pub heads : (ds : List Duty) (ps : List ℕ) → ArePrices i ds ps → in_teams (teams i) ds ≡ length ds
  heads [] [] h = in_teams-none (teams i)
  heads [] (p ∷ ps) h = absurd h
  heads (d ∷ ds) [] h = absurd h
  heads (d ∷ ds) (p ∷ ps) h =
      let a = in_teams-more (teams i) d ds in
      let b = team_hits i i.groups d.team in
      let c = one_hit (teams i) h.0.team d.team h.0.listed h.0.numbered in
      omega (arith, heads ds ps h.1)

  -- what trees of an allowed roster's pairs give
  pub record Realised (ds : List Duty) (ps : List ℕ) (ts : List Parts) : Type 0 where
    pub day : Each (IsDayTree i.grammar) ts
    pub long : length ts ≡ length ds
    pub paid : sum_n (λ p. p) ps ≤ sum_n (cost i.grammar) ts
    pub span_length : (c : Cell) → IsCode i.grammar c.code → 1 ≤ c.period → tree_cover ts c ≡ covered i.grammar c ds
    pub base : Each (λ (o : Team). arc_count (arc_of_team i o) ts ≡ count (is_in_team o) ds) (teams_from 1 i.groups)

  zip_base : (os : List Team) (u : Parts) (us : List Parts) (d : Duty) (ds : List Duty) (n : ℕ) → n ≡ d.team
      → Each (λ (o : Team). count (same_arc (arc_of_team i o)) (arcs 1 u) ≡ cond (nat_eq n o.number) 1 0) os → Each (λ (o : Team). arc_count (arc_of_team i o) us ≡ count (is_in_team o) ds) os
      → Each (λ (o : Team). arc_count (arc_of_team i o) (u ∷ us) ≡ count (is_in_team o) (d ∷ ds)) os
  zip_base [] u us d ds n e h k = tt
  zip_base (o ∷ os) u us d ds n e h k =
      let a = count-append (same_arc (arc_of_team i o)) (arcs 1 u) (arcs_of us) in
      let b : ◌≡◌ {A = ℕ} (cond (nat_eq n o.number) 1 0) (cond (nat_eq d.team o.number) 1 0) = ap (λ (m : ℕ). cond {A = ℕ} (nat_eq m o.number) 1 0) e in
      (omega (arith, h.0, k.0), zip_base os u us d ds n e h.1 k.1)

  none_base : (os : List Team) → Each (λ (o : Team). arc_count (arc_of_team i o) [] ≡ count (is_in_team o) []) os
  none_base [] = tt
  none_base (o ∷ os) = (refl, none_base os)

  -- the tree of the pair is one of its team below the team's rule
  below : (d : Duty) (p : ℕ) (u : Parts) → (h : IsTeamPrice i d p) → IsDutyTree i d u → (t : Parts) × IsTreeOf i.grammar h.team.name t × IsWrap i h.team t u
  below d p u h duty = ready.unwrap h.team h.listed u duty.day (λ some. duty.led some ∙ ap (λ (k : ℕ). own_rules i + k) (sym h.numbered))

  pub realise : (ds : List Duty) (ps : List ℕ) (ts : List Parts) → ArePrices i ds ps → AreDutyTrees i ds ts → Realised ds ps ts
  realise [] [] [] h k = record { day = tt; long = refl; paid = omega arith; span_length = λ c k l. refl; base = none_base (teams_from 1 i.groups) }
  realise [] [] (t ∷ ts) h k = absurd k
  realise [] (p ∷ ps) ts h k = absurd h
  realise (d ∷ ds) [] ts h k = absurd h
  realise (d ∷ ds) (p ∷ ps) [] h k = absurd k
  realise (d ∷ ds) (p ∷ ps) (u ∷ us) h k =
      let w = below d p u h.0 k.0 in
      let wrap = w.2 in
      let more = realise ds ps us h.1 k.1 in
      let least = h.0.priced.least w.0 (record { derives = w.1; word = sym wrap.spelled ∙ k.0.spelled }) in
      record {
        day = (k.0.day, more.day);
        long = omega (arith, more.long);
        paid = omega (arith, more.paid, wrap.cost, least);
        span_length = λ c code some.
            let a = count-append (is_at c) (letters 1 u) (letters_of us) in
            let e = tree_has i.grammar ready.has c code i.grammar.start u k.0.day.0 some in
            let f : ◌≡◌ {A = ℕ} (cond (covers_cell i.grammar c (word i.grammar u)) 1 0) (cond (covers_cell i.grammar c d.word) 1 0) = ap (λ (x : List ℕ). cond {A = ℕ} (covers_cell i.grammar c x) 1 0) k.0.spelled in
            omega (arith, more.span_length c code some);
        base = zip_base (teams_from 1 i.groups) u us d ds h.0.team.number h.0.numbered wrap.base more.base;
      }

  -- the cheapest trees of the pairs
  cheapest : (ds : List Duty) (ps : List ℕ) → ArePrices i ds ps → (ts : List Parts) × AreDutyTrees i ds ts × (sum_n (cost i.grammar) ts ≡ sum_n (λ p. p) ps)
  cheapest [] [] h = ([], tt, refl)
  cheapest [] (p ∷ ps) h = absurd h
  cheapest (d ∷ ds) [] h = absurd h
  cheapest (d ∷ ds) (p ∷ ps) h =
      let by = h.0.priced.attained.1 in
      let w = ready.wrap h.0.team h.0.listed h.0.priced.attained.0 by.derives in
      let wrap = w.1 in
      let more = cheapest ds ps h.1 in
      (w.0 ∷ more.0, (record { day = wrap.day; spelled = wrap.spelled ∙ by.word; led = λ some. wrap.led some ∙ ap (λ (k : ℕ). own_rules i + k) h.0.numbered }, more.1), omega (arith, more.2, wrap.cost, h.0.priced.attained.2))

  meets_group : (o : Team) (g : Group) (ts : List Parts) (n : ℕ) → o.least ≡ g.heads_min → o.most ≡ g.heads_max → arc_count (group_arc i.grammar.periods n) ts ≤ o.most → o.least ≤ arc_count (group_arc i.grammar.periods n) ts
      → Each (Meets ts) (group_cuts i n g)
  meets_group o g ts n e f h k = Each-append (Meets ts) (cond (nat_lt g.heads_max i.heads_max) _ []) _ (low (nat_lt g.heads_max i.heads_max)) (high (nat_lt 0 g.heads_min) refl)
    where
      low : (b : Bool) → Each (Meets ts) (cond b (record { arc = group_arc i.grammar.periods n; side = Low; b = g.heads_max } ∷ []) [])
      low true = (omega arith, tt)
      low false = tt

      high : (b : Bool) → nat_lt 0 g.heads_min ≡ b → Each (Meets ts) (cond b (record { arc = group_arc i.grammar.periods n; side = High; b = g.heads_min - 1 } ∷ []) [])
      high true s = (grind (arith, s), tt)
      high false s = tt

  meets_from : (gs : List Group) (k : ℕ) (ts : List Parts) (ds : List Duty)
      → Each (λ (o : Team). arc_count (arc_of_team i o) ts ≡ count (is_in_team o) ds) (teams_from k gs)
      → Each (HasHeads ds) (teams_from k gs)
      → Each (Meets ts) (cuts_from i (own_rules i + k) gs)
  meets_from [] k ts ds a b = tt
  meets_from (g ∷ gs) k ts ds a b =
      let e : own_rules i + (k + 1) ≡ own_rules i + k + 1 = omega arith in
      let o : Team = record { number = k; name = g.name; least = g.heads_min; most = g.heads_max } in
      Each-append (Meets ts) (group_cuts i (own_rules i + k) g) _
      (meets_group o g ts (own_rules i + k) refl refl (omega (arith, a.0, b.0.most)) (omega (arith, a.0, b.0.least)))
      (subst (λ (n : ℕ). Each (Meets ts) (cuts_from i n gs)) e (meets_from gs (k + 1) ts ds a.1 b.1))

  covered_cells : (ds : List Duty) (ts : List Parts) (cs : List Cell) → length ds ≤ i.heads_max → ((c : Cell) → IsCode i.grammar c.code → 1 ≤ c.period → tree_cover ts c ≡ covered i.grammar c ds)
      → Each (λ (c : Cell). IsCode i.grammar c.code × (1 ≤ c.period)) cs → Each (λ c. IsWithinCell c (covered i.grammar c ds)) cs → Each (IsCovered i ts) cs
  covered_cells ds ts [] l f h k = tt
  covered_cells ds ts (c ∷ cs) l f h k =
      let e = f c h.0.0 h.0.1 in
      let m = count-le-length (λ (d : Duty). covers_cell i.grammar c d.word) ds in
      let fl = k.0.floor in
      let ce = k.0.ceiling in
      (record { range = record { floor = omega arith; ceiling = omega arith }; heads = omega arith }, covered_cells ds ts cs l f h.1 k.1)

  pub same_penalties : (ds : List Duty) (ts : List Parts) (cs : List Cell) → ((c : Cell) → IsCode i.grammar c.code → 1 ≤ c.period → tree_cover ts c ≡ covered i.grammar c ds)
      → Each (λ (c : Cell). IsCode i.grammar c.code × (1 ≤ c.period)) cs → sum_n (λ c. penalty c (tree_cover ts c)) cs ≡ sum_n (λ c. penalty c (covered i.grammar c ds)) cs
  same_penalties ds ts [] f h = refl
  same_penalties ds ts (c ∷ cs) f h = let e = ap (penalty c) (f c h.0.0 h.0.1) in let r = same_penalties ds ts cs f h.1 in omega arith

  base_of : (gs : List Group) (ts : List Parts) (ds : List Duty)
      → Each (λ (o : Team). arc_count (arc_of_team i o) ts ≡ count (is_in_team o) ds) (teams_from 1 gs)
      → Each (HasHeads ds) (teams_of i gs)
      → Each (Meets ts) (cuts_from i (own_rules i + 1) gs)
  base_of [] ts ds a b = tt
  base_of (g ∷ gs) ts ds a b = meets_from (g ∷ gs) 1 ts ds a b

  heads_few : (ds : List Duty) (ps : List ℕ) → IsRoster i ds ps → (i.heads_min ≤ length ds) × (length ds ≤ i.heads_max)
  heads_few ds ps r =
      let all = heads ds ps r.shifts in
      let sums = sum_least (teams i) ds r.heads in
      (omega (arith, all, sums.0, ready.least), omega (arith, all, sums.1, ready.most))

  pub stand-for : (ds : List Duty) (ps : List ℕ) (ts : List Parts) → IsRoster i ds ps → AreDutyTrees i ds ts → StandFor i ds ps ts
  stand-for ds ps ts r k =
      let f = realise ds ps ts r.shifts k in
      let n = heads_few ds ps r in
      let pens = same_penalties ds ts i.cells f.span_length ready.cells in
      record {
        roster = record { day = f.day; enough = omega (arith, f.long, n.0); few = omega (arith, f.long, n.1); coverage = covered_cells ds ts i.cells n.1 f.span_length ready.cells r.coverage };
        meets = base_of i.groups ts ds f.base r.heads;
        cost = omega (arith, f.paid, pens);
      }

  pub has-trees : (ds : List Duty) (ps : List ℕ) → IsRoster i ds ps → HasTrees i ds ps
  has-trees ds ps r =
      let made = cheapest ds ps r.shifts in
      let f = realise ds ps made.0 r.shifts made.1 in
      let pens = same_penalties ds made.0 i.cells f.span_length ready.cells in
      record { trees = made.0; each = made.1; cost = omega (arith, made.2, pens) }

  -- a roster has a tree of each team that works
  worker : (ds : List Duty) (ps : List ℕ) (t : Team) → ArePrices i ds ps → In t (teams i) → 1 ≤ count (is_in_team t) ds → (p : Parts) × IsTreeOf i.grammar t.name p
  worker [] [] t h k l = absurd (omega arith)
  worker [] (p ∷ ps) t h k l = absurd h
  worker (d ∷ ds) [] t h k l = absurd h
  worker (d ∷ ds) (p ∷ ps) t h k l = pick (eqb_tells d.team t.number) (worker ds ps t h.1 k)
    where
      pick : ((nat_eq d.team t.number ≡ true) × (d.team ≡ t.number)) ⊎ ((nat_eq d.team t.number ≡ false) × (d.team ≢ t.number))
          → (1 ≤ count (is_in_team t) ds → (p : Parts) × IsTreeOf i.grammar t.name p) → (p : Parts) × IsTreeOf i.grammar t.name p
      pick (inl a) f =
          let same = team_apart i i.groups h.0.team t h.0.listed k (h.0.numbered ∙ a.1) in
          (h.0.priced.attained.0, subst (λ (x : Team). IsTreeOf i.grammar x.name h.0.priced.attained.0) same h.0.priced.attained.1.derives)
      pick (inr a) f = let e : ◌≡◌ {A = ℕ} (cond (nat_eq d.team t.number) 1 0) 0 = rw a.0 in f (omega arith)

  pub not-infeasible : (ds : List Duty) (ps : List ℕ) → IsRoster i ds ps → IsPlainlyInfeasible i → ⊥
  not-infeasible ds ps r (inl h) =
      let bounds = Each-at (HasHeads ds) h.0 (teams i) r.heads h.1.team in
      let needs = h.1.needs in
      let w = worker ds ps h.0 r.shifts h.1.team (omega (arith, bounds.least)) in
      h.1.none w.0 w.1
  not-infeasible ds ps r (inr h) =
      let made = has-trees ds ps r in
      let c = Each-at (IsCovered i made.trees) h.0 i.cells (stand-for ds ps made.trees r made.each).roster.coverage h.1.cell in
      let none = h.1.none in
      let f = c.range.floor in
      let g = c.range.ceiling in
      let m = c.heads in
      absurd (omega arith)
