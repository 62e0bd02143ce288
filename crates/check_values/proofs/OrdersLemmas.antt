-- What a roster costs does not depend on the order of its shifts.
use Rattle.std.proofs.Common.{◌≡◌, ℕ, arith, ◌+◌, ◌≤◌, Bool, true, false, cond, List, [], ◌∷◌, ◌++◌, refl, sym, ap, subst, ◌∙◌, inl, inr}
use Rattle.std.specs.Prelude.{nat_eq, ◌&&◌}
use Rattle.std.specs.Str.{bytes_eq}
use Rattle.std.proofs.lemmas.Bool.{and_parts, and_from, eq-eqb}
use Rattle.std.proofs.lemmas.Bool.Decides.{eqb_tells}
use Rattle.text_lines.proofs.WordLemmas.{same_bytes, the_bytes}
use Rattle.model_rosters.specs.declared.instance.Cell.{Cell}
use Rattle.model_rosters.specs.declared.instance.Instance.{Instance}
use Rattle.model_rosters.specs.Coverage.{covers_cell, covered, penalty, IsWithinCell}
use Rattle.model_rosters.specs.Duties.{Duty}
use Rattle.model_rosters.specs.Folds.{count, sum_n}
use Rattle.model_rosters.specs.Rosters.{ArePrices, is_in_team, HasHeads, Costs}
use Rattle.model_rosters.specs.Teams.{Team, teams}
use Rattle.model_rosters.proofs.EachLemmas.{Each-weaker}
use Rattle.model_rosters.proofs.arc_laws.FoldsLemmas.{count-append, sum_n-append, sum_n-same}
use Rattle.check_values.specs.Orders.{SameDuties}
use Rattle.check_values.proofs.PriceLists.{join_prices, part_prices}

-- ---- a shift and itself

abbrev same_duty : Duty → Duty → Bool
same_duty d e = nat_eq d.team e.team && bytes_eq d.word e.word

same_itself : (d : Duty) → same_duty d d ≡ true
same_itself d = and_from (nat_eq d.team d.team) (bytes_eq d.word d.word) (eq-eqb d.team d.team refl) (same_bytes d.word)

the_duty : (d e : Duty) → same_duty d e ≡ true → d ≡ e
the_duty d e h =
    let a = and_parts (nat_eq d.team e.team) (bytes_eq d.word e.word) h in
    let word : d.word ≡ e.word = the_bytes d.word e.word a.1 in
    elim (eqb_tells d.team e.team) [
      | inl p ↦ ap (λ (n : ℕ). record d { team = n }) p.1 ∙ ap (λ (w : List ℕ). record e { word = w }) word
      | inr p ↦ (let no : ◌≡◌ {A = Bool} true false = sym a.0 ∙ p.0 in cc)
    ]

-- ---- where a shift stands

pub record StandsIn (d : Duty) (ds : List Duty) : Type 0 where
  pub front : List Duty
  pub back : List Duty
  pub whole : ds ≡ front ++ d ∷ back

stands : (d : Duty) (p : Duty → Bool) → ((e : Duty) → p e ≡ true → d ≡ e) → (ds : List Duty) → 1 ≤ count p ds → StandsIn d ds
stands d p is [] h = absurd (omega (arith, h))
stands d p is (e ∷ ds) h = by (p e) refl (λ l. stands d p is ds l)
  where
    by : (b : Bool) → p e ≡ b → (1 ≤ count p ds → StandsIn d ds) → StandsIn d (e ∷ ds)
    by true same more = record { front = []; back = ds; whole = ap (λ (x : Duty). x ∷ ds) (sym (is e same)) }
    by false same more =
        let less : 1 ≤ count p ds = omega (arith, rw same at h) in
        let at = more less in
        record { front = e ∷ at.front; back = at.back; whole = ap (λ (xs : List Duty). e ∷ xs) at.whole }

-- without it the others are the same
others_same : (d : Duty) (front back es : List Duty) → SameDuties (front ++ d ∷ back) (d ∷ es) → SameDuties (front ++ back) es
others_same d front back es h q =
    let a = count-append q front (d ∷ back) in
    let b = count-append q front back in
    omega (arith, a, b, h q)

-- ---- prices

-- prices of the shifts, and their sum
pub record HavePrices (i : Instance) (ds : List Duty) (sum : ℕ) : Type 0 where
  pub prices : List ℕ
  pub are : ArePrices i ds prices
  pub total : sum_n (λ (p : ℕ). p) prices ≡ sum

module _ (i : Instance) where
  none_priced : (ds : List Duty) (ps : List ℕ) → count (λ (d : Duty). true) ds ≡ 0 → ArePrices i ds ps → HavePrices i [] (sum_n (λ (p : ℕ). p) ps)
  none_priced [] [] e h = record { prices = []; are = tt; total = refl }
  none_priced [] (p ∷ ps) e h = absurd h
  none_priced (d ∷ ds) ps e h = let some : 1 + count (λ (d : Duty). true) ds ≡ 0 = e in absurd (omega (arith, some))

  first_priced : (d : Duty) (front back es : List Duty) (fs ss : List ℕ) → ArePrices i front fs → ArePrices i (d ∷ back) ss
      → ((qs : List ℕ) → ArePrices i (front ++ back) qs → HavePrices i es (sum_n (λ (p : ℕ). p) qs)) → HavePrices i (d ∷ es) (sum_n (λ (p : ℕ). p) (fs ++ ss))
  first_priced d front back es fs [] h k more = absurd k
  first_priced d front back es fs (s ∷ ss) h k more =
      let others = more (fs ++ ss) (join_prices i front back fs ss h k.1) in
      let a = sum_n-append (λ (p : ℕ). p) fs (s ∷ ss) in
      let b = sum_n-append (λ (p : ℕ). p) fs ss in
      record { prices = s ∷ others.prices; are = (k.0, others.are); total = omega (arith, others.total, a, b) }

  priced-again : (es ds : List Duty) (ps : List ℕ) → SameDuties ds es → ArePrices i ds ps → HavePrices i es (sum_n (λ (p : ℕ). p) ps)
  priced-again [] ds ps same h = none_priced ds ps (same (λ (d : Duty). true)) h
  priced-again (e ∷ es) ds ps same h =
      let own = same_itself e in
      let hits : ◌≡◌ {A = ℕ} (count (same_duty e) (e ∷ es)) (1 + count (same_duty e) es) = ap (λ (b : Bool). cond {A = ℕ} b 1 0 + count (same_duty e) es) own in
      let all : count (same_duty e) ds ≡ 1 + count (same_duty e) es = same (same_duty e) ∙ hits in
      let at = stands e (same_duty e) (the_duty e) ds (omega (arith, all)) in
      let there : SameDuties (at.front ++ e ∷ at.back) (e ∷ es) = subst (λ (xs : List Duty). SameDuties xs (e ∷ es)) at.whole same in
      let parted = part_prices i at.front (e ∷ at.back) ps (subst (λ (xs : List Duty). ArePrices i xs ps) at.whole h) in
      let sums = first_priced e at.front at.back es parted.first parted.second parted.of_first parted.of_second
      (λ qs k. priced-again es (at.front ++ at.back) qs (others_same e at.front at.back es there) k) in
      subst (λ (qs : List ℕ). HavePrices i (e ∷ es) (sum_n (λ (p : ℕ). p) qs)) (sym parted.whole) sums

-- ---- costs

module _ (i : Instance) (ds es : List Duty) (same : SameDuties ds es) where
  heads_same : (t : Team) → HasHeads ds t → HasHeads es t
  heads_same t h =
      let n = same (is_in_team t) in
      record { least = omega (arith, n, h.least); most = omega (arith, n, h.most) }

  cover_same : (c : Cell) → covered i.grammar c ds ≡ covered i.grammar c es
  cover_same c = same (λ (d : Duty). covers_cell i.grammar c d.word)

  penalties_same : sum_n (λ (c : Cell). penalty c (covered i.grammar c ds)) i.cells ≡ sum_n (λ (c : Cell). penalty c (covered i.grammar c es)) i.cells
  penalties_same = sum_n-same (λ (c : Cell). penalty c (covered i.grammar c ds)) (λ (c : Cell). penalty c (covered i.grammar c es)) i.cells (λ c h. ap (penalty c) (cover_same c))

pub any-order : (i : Instance) (ds es : List Duty) (amount : ℕ) → SameDuties ds es → Costs i ds amount → Costs i es amount
any-order i ds es amount same h =
    let again = priced-again i es ds h.prices same h.allowed.shifts in
    let pens = penalties_same i ds es same in
    record {
      prices = again.prices;
      allowed = record {
        shifts = again.are;
        heads = Each-weaker (HasHeads ds) (HasHeads es) (teams i) (heads_same i ds es same) h.allowed.heads;
        coverage = Each-weaker (λ (c : Cell). IsWithinCell c (covered i.grammar c ds)) (λ (c : Cell). IsWithinCell c (covered i.grammar c es)) i.cells
            (λ c k. subst (IsWithinCell c) (cover_same i ds es same c) k) h.allowed.coverage;
      };
      total = omega (arith, again.total, pens, h.total);
    }
