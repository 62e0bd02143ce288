-- Trees with given counts are rosters at the counts' cost, and meet the cuts that leave the counts.
use Rattle.std.proofs.Common.{◌≡◌, ℕ, arith, ◌+◌, ◌≤◌, ◌<◌, Bool, true, false, cond, List, [], ◌∷◌, length, refl, sym, ap, subst, ◌⊎◌, inl, inr}
use Rattle.model_rosters.specs.declared.grammar.ArcKey.{ArcKey}
use Rattle.model_rosters.specs.declared.grammar.Grammar.{Grammar}
use Rattle.model_rosters.specs.declared.instance.Cell.{Cell}
use Rattle.model_rosters.specs.declared.instance.Cut.{Cut}
use Rattle.model_rosters.specs.declared.instance.Instance.{Instance}
use Rattle.model_rosters.specs.declared.instance.Side.{Side}
use Rattle.model_rosters.specs.declared.instance.Side.TheVariants.{Low, High}
use Rattle.model_rosters.specs.Trees.{Parts, IsDayTree}
use Rattle.model_rosters.specs.Folds.{count, Each, In}
use Rattle.model_rosters.specs.Arcs.{arcs, same_arc, IsArc}
use Rattle.model_rosters.specs.Coverage.{penalty, IsWithinCell}
use Rattle.model_rosters.specs.Cuts.{arcs_of, arc_count, KeepsTo, Meets}
use Rattle.model_rosters.specs.SoundInstance.{IsSoundInstance}
use Rattle.model_rosters.proofs.EachLemmas.{Each-weaker, Each-at, Each-in}
use Rattle.model_rosters.specs.arc_laws.Counts.{letter_count, AreCounts}
use Rattle.model_rosters.specs.arc_laws.Lists.{HoldsArcsOnce}
use Rattle.model_rosters.proofs.arc_laws.FoldsLemmas.{sum_n-same, count-append}
use Rattle.model_rosters.proofs.arc_laws.PathBounds.{bounds-keep}
use Rattle.model_rosters.proofs.arc_laws.SameArc.{same_arc-refl, same_arc-true}
use Rattle.model_rosters.proofs.arc_laws.Totals.{listed-roots, listed-leaves, listed-costs}
use Rattle.law_bounds.specs.Counted.{HaveCounts, IsRosterOf, IsLeft, AsksForArc}
use Rattle.law_bounds.specs.TreeRosters.{tree_cover, IsCovered}
use Rattle.law_bounds.proofs.LetterOnce.{cover-le}

module _ (i : Instance) (listed : List ArcKey) (value : ArcKey → ℕ) (ts : List Parts) (sound : IsSoundInstance i) (once : HoldsArcsOnce i.grammar listed)
    (are : AreCounts i listed value) (have : HaveCounts i listed value ts) where
  same : (a : ArcKey) → In a listed → value a ≡ arc_count a ts
  same a h = sym (have.counts a h)

  letters_are : (c : Cell) → letter_count i.grammar listed value c ≡ tree_cover ts c
  letters_are c = listed-leaves i.grammar ts listed value have.day once same (record { code = c.code; period = c.period })

  root : length ts ≤ i.heads_max
  root = let e = listed-roots i.grammar ts listed value have.day once same sound.grammar in omega (arith, e, are.few)

  pub makes-roster : IsRosterOf i listed value ts
  makes-roster =
      let e = listed-roots i.grammar ts listed value have.day once same sound.grammar in
      let a = listed-costs i.grammar ts listed value have.day once same in
      let b = sum_n-same (λ (c : Cell). penalty c (letter_count i.grammar listed value c)) (λ (c : Cell). penalty c (tree_cover ts c)) i.cells (λ c h. ap (penalty c) (letters_are c)) in
      record {
        roster = record {
          day = have.day;
          enough = omega (arith, e, are.enough);
          few = omega (arith, e, are.few);
          coverage = Each-weaker (λ (c : Cell). IsWithinCell c (letter_count i.grammar listed value c)) (IsCovered i ts) i.cells
              (λ c h. let l = letters_are c in record {
                range = record { floor = omega (arith, l, h.floor); ceiling = omega (arith, l, h.ceiling) };
                heads = omega (arith, cover-le i.grammar ts c have.day, root);
              }) are.cells;
        };
        cost = omega (arith, a, b);
      }

-- an arc that stands among the trees is one of the instance
has-arc : (g : Grammar) (a : ArcKey) (ts : List Parts) → Each (IsDayTree g) ts → (IsArc g a → ⊥) → arc_count a ts ≡ 0
has-arc g a [] day lacks = refl
has-arc g a (t ∷ ts) day lacks =
    let s = count-append (same_arc a) (arcs 1 t) (arcs_of ts) in
    let z = none (arcs 1 t) (λ h. lacks (t, day.0, h)) in
    let r = has-arc g a ts day.1 lacks in
    omega (arith, s, z, r)
  where
    none : (xs : List ArcKey) → (In a xs → ⊥) → count (same_arc a) xs ≡ 0
    none [] n = refl
    none (x ∷ xs) n = by (same_arc a x) refl (none xs (λ h. n (inr h)))
      where
        by : (b : Bool) → same_arc a x ≡ b → count (same_arc a) xs ≡ 0 → cond (same_arc a x) 1 0 + count (same_arc a) xs ≡ 0
        by true s ih = absurd (n (inl (same_arc-true a x s)))
        by false s ih = rw s (omega (arith, ih))

module _ (i : Instance) (cuts : List Cut) (listed : List ArcKey) (value : ArcKey → ℕ) (ts : List Parts) (once : HoldsArcsOnce i.grammar listed)
    (have : HaveCounts i listed value ts) (left : (a : ArcKey) → In a listed → IsLeft i cuts a (value a)) where
  -- a count that the cuts leave keeps to each cut on the arc
  keeps : (c : Cut) → In c cuts → IsArc i.grammar c.arc → Meets ts c
  keeps c h arc =
      let l = left c.arc (once.whole c.arc arc) in
      let k = bounds-keep i.heads_max (value c.arc) cuts c.arc (l.low, l.high) in
      let own = Each-at (λ (x : Cut). same_arc x.arc c.arc ≡ true → KeepsTo x.side x.b (value c.arc)) c cuts k h in
      subst (λ (n : ℕ). KeepsTo c.side c.b n) (sym (have.counts c.arc (once.whole c.arc arc))) (own (same_arc-refl c.arc))

  meets-one : (c : Cut) → In c cuts → AsksForArc i c → Meets ts c
  meets-one c h asks = by c.side refl
    where
      none : (IsArc i.grammar c.arc → ⊥) → arc_count c.arc ts ≡ 0
      none lacks = has-arc i.grammar c.arc ts have.day lacks

      either : (a b : ℕ) → (a ≤ b) ⊎ (b < a)
      either a b = grind arith

      over : c.side ≡ Low → c.b < arc_count c.arc ts → Meets ts c → ⊥
      over e l k = let m : arc_count c.arc ts ≤ c.b = subst (λ (s : Side). KeepsTo s c.b (arc_count c.arc ts)) e k in omega (arith, m, l)

      under : c.side ≡ High → arc_count c.arc ts < c.b + 1 → Meets ts c → ⊥
      under e l k = let m : c.b + 1 ≤ arc_count c.arc ts = subst (λ (s : Side). KeepsTo s c.b (arc_count c.arc ts)) e k in omega (arith, m, l)

      low : c.side ≡ Low → c.b < arc_count c.arc ts → ⊥
      low e l =
          let lacks : IsArc i.grammar c.arc → ⊥ = λ arc. over e l (keeps c h arc) in
          omega (arith, none lacks, l)

      by : (s : Side) → c.side ≡ s → KeepsTo c.side c.b (arc_count c.arc ts)
      by Low e = elim (either (arc_count c.arc ts) c.b) [
        | inl l ↦ rw e l
        | inr l ↦ absurd (low e l)
      ]
      by High e = elim (either (c.b + 1) (arc_count c.arc ts)) [
        | inl l ↦ rw e l
        | inr l ↦ absurd (asks e (λ arc. under e l (keeps c h arc)))
      ]

  pub meets-cuts : Each (AsksForArc i) cuts → Each (Meets ts) cuts
  meets-cuts asks = Each-in (Meets ts) cuts (λ c h. meets-one c h (Each-at (AsksForArc i) c cuts asks h))
