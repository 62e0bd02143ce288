-- The roster with which a search begins, of cheapest trees of the teams.
use Rattle.std.proofs.Common.{All, ◌≡◌, ◌≢◌, ℕ, zero, suc, ◌<◌, ◌≤◌, ◌+◌, ◌⊎◌, Bool, true, false, cond, Option, None, Some, List, [], ◌∷◌, ◌++◌, arith, refl, subst, sym, ap, ◌∙◌, length, inl, inr}
use Rattle.std.specs.Prelude.{nat_eq, IfNone, IfSome, IfOk, Result, Ok, Err}
use Rattle.std.proofs.lemmas.Bool.{eq-eqb}
use Rattle.std.proofs.lemmas.Bool.Decides.{eqb_tells}
use Rattle.std.proofs.lemmas.List.Elements.{All-nil, All-cons, All-head, All-tail}
use Rattle.std.proofs.lemmas.Option.{slice_get_within, same_Some}
use Rattle.model_rosters.specs.declared.instance.Cell.{Cell}
use Rattle.model_rosters.specs.declared.instance.Group.{Group}
use Rattle.model_rosters.specs.declared.instance.Instance.{Instance}
use Rattle.model_rosters.specs.Arcs.{cost}
use Rattle.model_rosters.specs.Coverage.{covered, covers_cell, IsWithinCell}
use Rattle.model_rosters.specs.Cuts.{Meets, base_cuts}
use Rattle.model_rosters.specs.Duties.{Duty}
use Rattle.model_rosters.specs.Folds.{sum_n, count, Each, In}
use Rattle.model_rosters.specs.Rosters.{ArePrices, IsTeamPrice, IsRoster, HasHeads, is_in_team, roster_cost}
use Rattle.model_rosters.specs.Shifts.{IsPrice, IsShift}
use Rattle.model_rosters.specs.SoundInstance.{IsSoundInstance, IsGroup, HasGroups}
use Rattle.model_rosters.specs.Teams.{Team, teams, teams_of, teams_from}
use Rattle.model_rosters.specs.Trees.{Parts, IsTreeOf, word}
use Rattle.law_bounds.specs.DutyTrees.{IsDutyTree, AreDutyTrees}
use Rattle.law_bounds.specs.TreeRosters.{IsTreeRoster, trees_cost}
use Rattle.law_bounds.proofs.ReadyInstances.{IsReady}
use Rattle.law_bounds.proofs.RosterTrees.{realise, same_penalties, stand-for}
use Rattle.law_bounds.proofs.SoundReady.{ready}
use Rattle.tree_pool.specs.Pools.{PoolTree}
use Rattle.search_candidates.specs.declared.roster.Roster.{Roster}
use Rattle.search_candidates.specs.Leaders.{IsLeader, LacksTree, trees_like, numbers_like, AreLed, AreLedAt}
use Rattle.search_candidates.specs.Rosters.{AreTreesAt, CostsAtMost}
use Rattle.search_candidates.specs.Starts.{IsCheapest, copies, AreFewest, IsFreeCell, HasStart, StartsWith}

each_in : {A : Type 0} (P : A → Type 0) (xs : List A) (x : A) → Each P xs → In x xs → P x
each_in P [] x h k = absurd k
each_in P (y ∷ ys) x h (inl e) = subst P (sym e) h.0
each_in P (y ∷ ys) x h (inr k) = each_in P ys x h.1 k

-- columns of trees are in the pool
pub led-within : (i : Instance) (pool : List PoolTree) (os : List Team) (columns : List ℕ) → AreLedAt i pool os columns → All (λ c. c < length pool) columns
led-within i pool os columns h = within columns h.0 h.1
  where
    within : (cs : List ℕ) (ts : List Parts) → AreTreesAt i.grammar pool cs ts → All (λ c. c < length pool) cs
    within [] ts h = All-nil (λ c. c < length pool)
    within (c ∷ cs) [] h = absurd h
    within (c ∷ cs) (t ∷ ts) h = All-cons (λ c. c < length pool) c cs (slice_get_within pool c h.0 h.1) (within cs ts h.3)

-- counts of copies
count_yes : (p : Duty → Bool) (d : Duty) → p d ≡ true → (n : ℕ) (ds : List Duty) → count p (copies n d ++ ds) ≡ n + count p ds
count_yes p d e zero ds = omega arith
count_yes p d e (suc n) ds = rw e (let r = count_yes p d e n ds in omega (arith, r))

count_no : (p : Duty → Bool) (d : Duty) → p d ≡ false → (n : ℕ) (ds : List Duty) → count p (copies n d ++ ds) ≡ count p ds
count_no p d e zero ds = refl
count_no p d e (suc n) ds = rw e (let r = count_no p d e n ds in omega (arith, r))

length_copies : (n : ℕ) (d : Duty) (ds : List Duty) → length (copies n d ++ ds) ≡ n + length ds
length_copies zero d ds = omega arith
length_copies (suc n) d ds = let r = length_copies n d ds in omega (arith, r)

not_same : (a b : ℕ) → a < b → nat_eq a b ≡ false
not_same a b less = pick (eqb_tells a b)
  where
    pick : ((nat_eq a b ≡ true) × (a ≡ b)) ⊎ ((nat_eq a b ≡ false) × (a ≢ b)) → nat_eq a b ≡ false
    pick (inl h) = absurd (omega (arith, h.1, less))
    pick (inr h) = h.0

not_same_either : (a b : ℕ) → b < a → nat_eq a b ≡ false
not_same_either a b less = pick (eqb_tells a b)
  where
    pick : ((nat_eq a b ≡ true) × (a ≡ b)) ⊎ ((nat_eq a b ≡ false) × (a ≢ b)) → nat_eq a b ≡ false
    pick (inl h) = absurd (omega (arith, h.1, less))
    pick (inr h) = h.0

module _ (i : Instance) where
  length_fewest : (os : List Team) (ds : List Duty) → AreFewest i os ds → length ds ≡ sum_n (λ (o : Team). o.least) os
  length_fewest [] ds h = ap length h
  length_fewest (o ∷ os) ds h =
      let a = ap length h.3 in
      let b = length_copies o.least (record { team = o.number; word = h.0 }) h.1 in
      let c = length_fewest os h.1 h.4 in
      omega (arith, a, b, c)

  none_below : (k n : ℕ) (gs : List Group) (ds : List Duty) → n < k → AreFewest i (teams_from k gs) ds → count (λ (d : Duty). nat_eq d.team n) ds ≡ 0
  none_below k n [] ds l h = ap (count (λ (d : Duty). nat_eq d.team n)) h
  none_below k n (g ∷ gs) ds l h =
      ap (count (λ (d : Duty). nat_eq d.team n)) h.3 ∙ count_no (λ (d : Duty). nat_eq d.team n) (record { team = k; word = h.0 }) (not_same_either k n l) g.heads_min h.1
      ∙ none_below (k + 1) n gs h.1 (omega (arith, l)) h.4

  IsCounted : List Duty → Team → Type 0
  IsCounted ds o = count (is_in_team o) ds ≡ o.least

  past : (k m j : ℕ) (w : List ℕ) (rest : List Duty) (gs : List Group) → k < j → Each (IsCounted rest) (teams_from j gs) → Each (IsCounted (copies m (record { team = k; word = w }) ++ rest)) (teams_from j gs)
  unfolding IsCounted
  past k m j w rest [] l h = tt
  past k m j w rest (g ∷ gs) l h =
      (count_no (λ (d : Duty). nat_eq d.team j) (record { team = k; word = w }) (not_same k j l) m rest ∙ h.0, past k m (j + 1) w rest gs (omega (arith, l)) h.1)

  counted_from : (k : ℕ) (gs : List Group) (ds : List Duty) → AreFewest i (teams_from k gs) ds → Each (IsCounted ds) (teams_from k gs)
  unfolding IsCounted
  counted_from k [] ds h = tt
  counted_from k (g ∷ gs) ds h =
      let d : Duty = record { team = k; word = h.0 } in
      let rest = counted_from (k + 1) gs h.1 h.4 in
      let none = none_below (k + 1) k gs h.1 (omega arith) h.4 in
      let head : count (λ (e : Duty). nat_eq e.team k) (copies g.heads_min d ++ h.1) ≡ g.heads_min =
      count_yes (λ (e : Duty). nat_eq e.team k) d (eq-eqb k k refl) g.heads_min h.1 ∙ add_none g.heads_min _ none in
      subst (λ (q : List Duty). Each (IsCounted q) (teams_from k (g ∷ gs))) (sym h.3) (head, past k g.heads_min (k + 1) h.0 h.1 gs (omega arith) rest)
    where
      add_none : (a b : ℕ) → b ≡ 0 → a + b ≡ a
      add_none a b e = omega (arith, e)

  counted : (gs : List Group) (ds : List Duty) → AreFewest i (teams_of i gs) ds → Each (IsCounted ds) (teams_of i gs)
  unfolding IsCounted
  counted [] ds h =
      let d : Duty = record { team = 0; word = h.0 } in
      let none : count (λ (e : Duty). nat_eq e.team 0) h.1 ≡ 0 = ap (count (λ (e : Duty). nat_eq e.team 0)) h.4 in
      let head = ap (count (λ (e : Duty). nat_eq e.team 0)) h.3 ∙ count_yes (λ (e : Duty). nat_eq e.team 0) d refl i.heads_min h.1 in
      (omega (arith, head, none), tt)
  counted (g ∷ gs) ds h = counted_from 1 (g ∷ gs) ds h

  IsOrdered : Team → Type 0
  IsOrdered o = o.least ≤ o.most

  ordered_from : (k names : ℕ) (gs : List Group) → All (IsGroup names) gs → Each IsOrdered (teams_from k gs)
  unfolding IsOrdered
  ordered_from k names [] h = tt
  ordered_from k names (g ∷ gs) h = ((All-head (IsGroup names) g gs h).order, ordered_from (k + 1) names gs (All-tail (IsGroup names) g gs h))

  ordered : (gs : List Group) → gs ≡ i.groups → IsSoundInstance i → HasGroups i gs → Each IsOrdered (teams_of i gs)
  unfolding IsOrdered
  ordered [] e sound h = (sound.order, tt)
  ordered (g ∷ gs) e sound h = ordered_from 1 (length h.0.names) (g ∷ gs) (subst (λ (q : List Group). All (IsGroup (length h.0.names)) q) (sym e) h.1.groups.each)

  heads_are : (os : List Team) (ds : List Duty) → Each (IsCounted ds) os → Each IsOrdered os → Each (HasHeads ds) os
  unfolding IsCounted IsOrdered
  heads_are [] ds h k = tt
  heads_are (o ∷ os) ds h k = let e = h.0 in let l = k.0 in (record { least = omega (arith, e); most = omega (arith, e, l) }, heads_are os ds h.1 k.1)

  few_covered : (c : Cell) (ds : List Duty) → covered i.grammar c ds ≤ length ds
  few_covered c [] = omega arith
  few_covered c (d ∷ ds) = by (covers_cell i.grammar c d.word) (few_covered c ds)
    where
      by : (b : Bool) → covered i.grammar c ds ≤ length ds → cond b 1 0 + covered i.grammar c ds ≤ length (d ∷ ds)
      by true l = omega (arith, l)
      by false l = omega (arith, l)

  free_within : (ds : List Duty) → length ds ≤ 64 → (cs : List Cell) → Each IsFreeCell cs → Each (λ (c : Cell). IsWithinCell c (covered i.grammar c ds)) cs
  free_within ds few [] h = tt
  free_within ds few (c ∷ cs) h =
      let l = few_covered c ds in
      let f = h.0.floor in
      let e = h.0.ceiling in
      (record { floor = omega (arith, f); ceiling = omega (arith, l, e, few) }, free_within ds few cs h.1)

module _ (i : Instance) (sound : IsSoundInstance i) where
  r : IsReady i
  r = ready i sound

  -- a team that has a shift has a tree
  pub lacking : (o : Team) → In o (teams i) → LacksTree i o → HasStart i → ⊥
  lacking o listed lacks start =
      let w = each_in (λ (t : Team). 0 < t.least → (w : List ℕ) × IsShift i.grammar t.name w) (teams i) o start.shifts listed lacks.needs in
      let u = r.wrap o listed w.1.0 w.1.1.derives in
      lacks.none u.0 (record { day = u.1.day; led = u.1.led })

  module _ (o : Team) (listed : In o (teams i)) (t : Parts) (leads : IsLeader i o t) where
    cheaper : (u : Parts) → IsTreeOf i.grammar o.name u → cost i.grammar t ≤ cost i.grammar u
    cheaper u on =
        let w = r.wrap o listed u on in
        let l = leads.least w.0 (record { day = w.1.day; led = w.1.led }) in
        let e = w.1.cost in
        omega (arith, l, e)

    priced : IsPrice i.grammar o.name (word i.grammar t) (cost i.grammar t)
    priced =
        let w = r.unwrap o listed t leads.of.day leads.of.led in
        record {
          attained = (w.0, record { derives = w.1; word = sym w.2.spelled }, sym w.2.cost);
          least = λ u h. cheaper u h.derives;
        }

    cheapest : IsCheapest i o (word i.grammar t)
    cheapest = record {
      price = cost i.grammar t;
      priced = priced;
      least = λ v p h. let l = cheaper h.attained.0 h.attained.1.derives in let e = h.attained.2 in omega (arith, l, e);
    }

    duty_is : IsDutyTree i (record { team = o.number; word = word i.grammar t }) t
    duty_is = record { day = leads.of.day; spelled = refl; led = leads.of.led }

    price_is : IsTeamPrice i (record { team = o.number; word = word i.grammar t }) (cost i.grammar t)
    price_is = record { team = o; listed = listed; numbered = refl; priced = priced }

  -- duties, their prices and trees
  record Spelt (os : List Team) (ts : List Parts) : Type 0 where
    ds : List Duty
    ps : List ℕ
    fewest : AreFewest i os ds
    prices : ArePrices i ds ps
    trees : AreDutyTrees i ds ts
    paid : sum_n (λ p. p) ps ≡ sum_n (cost i.grammar) ts

  like_prices : (d : Duty) (p n : ℕ) → (0 < n → IsTeamPrice i d p) → (ds : List Duty) (ps : List ℕ) → ArePrices i ds ps → ArePrices i (copies n d ++ ds) (numbers_like n p ++ ps)
  like_prices d p zero h ds ps k = k
  like_prices d p (suc n) h ds ps k = (h (omega arith), like_prices d p n (λ l. h (omega arith)) ds ps k)

  like_trees : (d : Duty) (t : Parts) (n : ℕ) → (0 < n → IsDutyTree i d t) → (ds : List Duty) (ts : List Parts) → AreDutyTrees i ds ts → AreDutyTrees i (copies n d ++ ds) (trees_like n t ++ ts)
  like_trees d t zero h ds ts k = k
  like_trees d t (suc n) h ds ts k = (h (omega arith), like_trees d t n (λ l. h (omega arith)) ds ts k)

  like_paid : (t : Parts) (n : ℕ) (ps : List ℕ) (ts : List Parts) → sum_n (λ p. p) ps ≡ sum_n (cost i.grammar) ts → sum_n (λ p. p) (numbers_like n (cost i.grammar t) ++ ps) ≡ sum_n (cost i.grammar) (trees_like n t ++ ts)
  like_paid t zero ps ts e = e
  like_paid t (suc n) ps ts e = let k = like_paid t n ps ts e in omega (arith, k)

  spelt : (os : List Team) → ((o : Team) → In o os → In o (teams i)) → (ts : List Parts) → AreLed i os ts → Spelt os ts
  spelt [] inside ts led = record { ds = []; ps = []; fewest = refl; prices = tt; trees = subst (λ (q : List Parts). AreDutyTrees i [] q) (sym led) tt; paid = ap (sum_n (cost i.grammar)) (sym led) }
  spelt (o ∷ os) inside ts led =
      let t = led.0 in
      let rest = spelt os (λ q k. inside q (inr k)) led.1 led.4 in
      let here = inside o (inl refl) in
      let d : Duty = record { team = o.number; word = word i.grammar t } in
      record {
        ds = copies o.least d ++ rest.ds;
        ps = numbers_like o.least (cost i.grammar t) ++ rest.ps;
        fewest = (word i.grammar t, rest.ds, (λ k. cheapest o here t (led.2 k)), refl, rest.fewest);
        prices = like_prices d (cost i.grammar t) o.least (λ k. price_is o here t (led.2 k)) rest.ds rest.ps rest.prices;
        trees = subst (λ (q : List Parts). AreDutyTrees i (copies o.least d ++ rest.ds) q) (sym led.3) (like_trees d t o.least (λ k. duty_is o here t (led.2 k)) rest.ds led.1 rest.trees);
        paid = like_paid t o.least rest.ps led.1 rest.paid ∙ ap (sum_n (cost i.grammar)) (sym led.3);
      }

  module _ (ts : List Parts) (led : AreLed i (teams i) ts) (start : HasStart i) where
    its : Spelt (teams i) ts
    its = spelt (teams i) (λ o k. k) ts led

    few : length its.ds ≤ 64
    few =
        let e = length_fewest i (teams i) its.ds its.fewest in
        let l = r.least in
        let a = sound.order in
        let b = sound.few in
        omega (arith, e, l, a, b)

    roster : IsRoster i its.ds its.ps
    roster = record {
      shifts = its.prices;
      heads = heads_are i (teams i) its.ds (counted i i.groups its.ds its.fewest) (ordered i i.groups refl sound sound.groups);
      coverage = free_within i its.ds few i.cells start.free;
    }

    pub led-roster : IsTreeRoster i ts × Each (Meets ts) (base_cuts i)
    led-roster = let s = stand-for i r its.ds its.ps ts roster its.trees in (s.roster, s.meets)

    same_cost : roster_cost i its.ds its.ps ≡ trees_cost i ts
    same_cost =
        let f = realise i r its.ds its.ps ts its.prices its.trees in
        let pens = same_penalties i r its.ds ts i.cells f.span_length r.cells in
        let paid = its.paid in
        omega (arith, pens, paid)

    pub starts : (found : Option Roster) → CostsAtMost (trees_cost i ts) found → StartsWith i found
    starts None h = absurd h
    starts (Some q) h =
        let e = same_cost in
        (q.cost, refl, its.ds, roster_cost i its.ds its.ps, record { fewest = its.fewest }, record { prices = its.ps; allowed = roster; total = refl }, omega (arith, e, h))

pub if_none : {A : Type 0} (o : Option A) (T : Type 0) → o ≡ None → IfNone o T → T
if_none None T e h = h
if_none (Some x) T e h = cc

pub if_some : {A : Type 0} (o : Option A) (x : A) (P : A → Type 0) → o ≡ Some x → IfSome o P → P x
if_some None x P e h = cc
if_some (Some y) x P e h = subst P (same_Some y x e) h

pub if_ok : {A E : Type 0} (r : Result A E) (P Q : A → Type 0) → ((x : A) → P x → Q x) → IfOk r P → IfOk r Q
if_ok (Ok x) P Q f h = f x h
if_ok (Err e) P Q f h = h
