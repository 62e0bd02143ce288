-- What lines within the limits make is a sound instance.
use Rattle.std.proofs.Common.{◌≡◌, ◌≢◌, ℕ, zero, suc, ◌+◌, ◌≤◌, Bool, true, false, eqb, cond, List, [], ◌∷◌, length, map, Option, Some, None, Ok, refl, sym, ◌∙◌, arith, subst}
use Rattle.std.specs.Prelude.{IfSome, slice_index_or}
use Rattle.model_rosters.specs.declared.grammar.Grammar.{Grammar}
use Rattle.model_rosters.specs.declared.instance.Cell.{Cell}
use Rattle.model_rosters.specs.declared.instance.Group.{Group}
use Rattle.model_rosters.specs.Demands.{Demand, IsPeriodDemand, IsDemand, AreOnce, AreCells}
use Rattle.model_rosters.specs.Folds.{Each}
use Rattle.model_rosters.specs.Sound.{IsSound, IsPlain}
use Rattle.model_rosters.specs.SoundInstance.{AreGroups, IsSoundInstance}
use Rattle.text_demand_lines.specs.declared.draft.Bound.{Bound}
use Rattle.text_demand_lines.specs.declared.draft.Draft.{Draft}
use Rattle.text_demand_lines.specs.declared.draft.Heads.{Heads}
use Rattle.text_demand_lines.specs.declared.draft.Need.{Need}
use Rattle.text_demand_lines.specs.Teams.{most_heads}
use Rattle.text_demand.specs.Drafts.{AreHeads, AreCounts, IsNeed, AreApart, AreBounds, IsDraft}
use Rattle.text_demand.specs.InstanceOf.{bound_of, periods_from, demand_of, cells_of, least_heads, heads_of, day_grammar, made}
use Rattle.text_demand.proofs.Extension.{extension_sound}
use Rattle.text_demand.proofs.GroupSums.{in_order, some_heads}
use Rattle.text_lines.proofs.StepsLemmas.{same_ok, ok}

-- ---- cells

count_within : (counts : List ℕ) (k otherwise : ℕ) → AreCounts counts → otherwise ≤ 64 → slice_index_or counts k otherwise ≤ 64
count_within [] k otherwise h le = le
count_within (n ∷ ns) zero otherwise h le = h.0
count_within (n ∷ ns) (suc k) otherwise h le = count_within ns k otherwise h.1 le

bound_within : (bounds : List Bound) (code k otherwise : ℕ) → AreBounds bounds → otherwise ≤ 64 → bound_of bounds code k otherwise ≤ 64
bound_within [] code k otherwise h le = le
bound_within (b ∷ bs) code k otherwise h le = by (eqb b.code code) (bound_within bs code k otherwise h.1 le)
  where
    by : (t : Bool) → bound_of bs code k otherwise ≤ 64 → cond t (slice_index_or b.counts k otherwise) (bound_of bs code k otherwise) ≤ 64
    by true rest = count_within b.counts k otherwise h.0 le
    by false rest = rest

module _ (least most : List Bound) (l : AreBounds least) (m : AreBounds most) where
  periods_are : (code k : ℕ) (counts : List ℕ) → AreCounts counts → Each IsPeriodDemand (periods_from least most code k counts)
  periods_are code k [] h = tt
  periods_are code k (n ∷ ns) h = (
    record { need = h.0; floor = bound_within least code k 0 l (omega arith); ceiling = bound_within most code k 64 m (omega arith) },
    periods_are code (k + 1) ns h.1,
  )

  length-periods : (code k : ℕ) (counts : List ℕ) → length (periods_from least most code k counts) ≡ length counts
  length-periods code k [] = refl
  length-periods code k (n ∷ ns) = omega (arith, length-periods code (k + 1) ns)

  demands_are : (g : Grammar) (needs : List Need) → Each (IsNeed g) needs → Each (IsDemand g) (map (demand_of least most) needs)
  demands_are g [] h = tt
  demands_are g (n ∷ ns) h = (
    record {
      work = h.0.work;
      under = h.0.under;
      over = h.0.over;
      whole = length-periods n.code 0 n.counts ∙ h.0.whole;
      each = periods_are n.code 0 n.counts h.0.counts;
    },
    demands_are g ns h.1,
  )

  others_are : (code : ℕ) (needs : List Need) → Each (λ (n : Need). n.code ≢ code) needs → Each (λ (d : Demand). d.code ≢ code) (map (demand_of least most) needs)
  others_are code [] h = tt
  others_are code (n ∷ ns) h = (h.0, others_are code ns h.1)

  once : (needs : List Need) → AreApart needs → AreOnce (map (demand_of least most) needs)
  once [] h = tt
  once (n ∷ ns) h = (others_are n.code ns h.0, once ns h.1)

cells_are : (g : Grammar) (d : Draft) → IsDraft g d → AreCells g (made g d (record { least = 0; most = 0 })).cells
cells_are g d s = record {
  demands = map (demand_of d.least d.most) d.needs;
  each = demands_are d.least d.most s.least s.most g d.needs s.needs;
  once = once d.least d.most s.least s.most d.needs s.apart;
  made = refl;
}

-- the cells of a grammar are those of its extension
cells_extended : (g : Grammar) (groups : List Group) (d : Draft) → IsDraft g d → AreCells (day_grammar g groups) (made g d (record { least = 0; most = 0 })).cells
cells_extended g [] d s = cells_are g d s
cells_extended g (x ∷ xs) d s = let c = cells_are g d s in record {
  demands = c.demands;
  each = extended_demands c.demands c.each;
  once = c.once;
  made = c.made;
}
  where
    extended_demands : (ds : List Demand) → Each (IsDemand g) ds → Each (IsDemand (day_grammar g (x ∷ xs))) ds
    extended_demands [] h = tt
    extended_demands (e ∷ es) h = (record { work = h.0.work; under = h.0.under; over = h.0.over; whole = h.0.whole; each = h.0.each }, extended_demands es h.1)

-- ---- instances

sums_are : (heads : Option Heads) (x : Group) (xs : List Group) → heads_of heads (x ∷ xs) ≡ ok (record { least = least_heads (x ∷ xs); most = most_heads (x ∷ xs) })
sums_are None x xs = refl
sums_are (Some y) x xs = refl

module _ (g : Grammar) (sound : IsSound g) (plain : IsPlain g) where
  instance_sound : (d : Draft) (h : Heads) → IsDraft g d → heads_of d.heads d.groups ≡ Ok h → IsSoundInstance (made g d h)
  instance_sound d h s e = by d.heads d.groups (cells_extended g d.groups d s) s.heads s.groups s.few e
    where
      by : (heads : Option Heads) (groups : List Group) → AreCells (day_grammar g groups) (made g d h).cells → IfSome heads AreHeads → AreGroups (length g.names) groups → most_heads groups ≤ 64
          → heads_of heads groups ≡ Ok h
          → IsSoundInstance (record { grammar = day_grammar g groups; heads_min = h.least; heads_max = h.most; groups = groups; cells = (made g d h).cells })
      by (Some x) [] cells are groups few q =
          let P : Heads → Type 0 = λ (y : Heads). IsSoundInstance (record { grammar = g; heads_min = y.least; heads_max = y.most; groups = []; cells = (made g d h).cells }) in
          subst P (same_ok x h q) (record { grammar = sound; order = are.order; some = are.some; few = are.few; groups = plain; cells = cells })
      by None [] cells are groups few q = absurd cc
      by heads (x ∷ xs) cells are groups few q =
          let sums : Heads = record { least = least_heads (x ∷ xs); most = most_heads (x ∷ xs) } in
          let P : Heads → Type 0 = λ (y : Heads). IsSoundInstance (record { grammar = day_grammar g (x ∷ xs); heads_min = y.least; heads_max = y.most; groups = x ∷ xs; cells = (made g d h).cells }) in
          subst P (same_ok sums h (sym (sums_are heads x xs) ∙ q)) (record {
            grammar = extension_sound g (x ∷ xs) sound plain groups (omega arith);
            order = in_order (length g.names) (x ∷ xs) groups.each;
            some = some_heads (length g.names) x xs groups.each;
            few = few;
            groups = (g, record { sound = sound; plain = plain; groups = groups; grammar = refl; least = refl; most = refl });
            cells = cells;
          })

  -- an instance of parts that lines within the limits make
  pub parts_sound : (d : Draft) (h : Heads) (day : Grammar) (cells : List Cell) → IsDraft g d → heads_of d.heads d.groups ≡ ok h → day ≡ day_grammar g d.groups → cells ≡ cells_of d
      → IsSoundInstance (record { grammar = day; heads_min = h.least; heads_max = h.most; groups = d.groups; cells = cells })
  parts_sound d h day cells s e same made_of = rw (same, made_of) (instance_sound d h s e)
