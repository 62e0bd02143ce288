use Rattle.std.proofs.Common.{ℕ, ◌≡◌, pos, Some, slice_get, length, arith, rules, refl, to_z, of_z, Option, None, sym, true≢false, ℤ, ◌⊎◌, inl, inr}
use Rattle.std.specs.Prelude.{◌≤ℤ◌, ◌<ℤ◌, IfNone, IsSome}
use Rattle.std.proofs.lemmas.Int.{ints}
use Rattle.std.proofs.lemmas.Option.{slice_get_read, slice_get_within}
use mir.Syntax.{w128}
use Rattle.search_node_columns.specs.declared.workspace.Held.{Held as Listed}
use Rattle.search_node_columns.specs.Priced.{listed_reduced}
use Rattle.search_node_columns.proofs.ReducedCosts.{least_next}
use Rattle.search_node_columns.proofs.listed.find_cheaper.Goals as goal
use Rattle.search_node_columns.proofs.listed.find_cheaper.Goals.{then-reduced-least, else-reduced-least}

pub reduced_cost-reduced-requires-clause-plain : goal.reduced_cost-reduced-requires-clause-plain
reduced_cost-reduced-requires-clause-plain c =
    c.requires.plain c.loop-column.column c.index-held-column.result
    (slice_get_read c.args.held.now (length c.args.held.now) c.loop-column.column c.index-held-column.result refl c.loop-column-test.true c.index-held-column.is)

pub loop-column-preserved : goal.loop-column-preserved
loop-column-preserved c =
    let i = c.loop-column.invariant in
    let n = c.loop-column.column in
    let one = c.index-held-column.result in
    let held = c.args.held.now in
    let y = c.args.y.now in
    let k : to_z w128 (of_z w128 c.args.kappa) ≡ c.args.kappa = search rules in
    let at = slice_get_read held (length held) n one refl c.loop-column-test.true c.index-held-column.is in
    let r = rw k at c.reduced_cost-reduced.ensures in
    let before = rw k at i.least in
    let found = rw k at i.found in
    elim c.if-reduced-least.branch [
      | then-reduced-least w ↦
          let l = w.if-reduced-least.true in
          let e = w.least-is in
          let f = w.found-is in
          rw (k, f, e) record {
            below = omega (arith, ints);
            found = (one, at, omega (arith, ints));
            least = least_next y c.args.kappa held n one _ _ at before (omega (arith, ints)) (omega (arith, ints));
            none = λ h. refl;
          }
      | else-reduced-least w ↦
          let l = w.if-reduced-least.false in
          let e = w.least-is in
          let f = w.found-is in
          rw (k, f, e) record {
            below = i.below;
            found = found;
            least = least_next y c.args.kappa held n one _ _ at before (omega (arith, ints)) (omega (arith, ints));
            none = i.none;
          }
    ]

plain : (l r : ℤ) → (l <ℤ pos 0 → ⊥) → l ≤ℤ r → pos 0 ≤ℤ r
plain l r n h = of (split l)
  where
    split : (l : ℤ) → (l <ℤ pos 0) ⊎ (pos 0 ≤ℤ l)
    split l = grind (arith, ints)

    of : (l <ℤ pos 0) ⊎ (pos 0 ≤ℤ l) → pos 0 ≤ℤ r
    of (inl x) = absurd (n x)
    of (inr x) = omega (arith, ints)

pub returns-clause-none : goal.returns-clause-none
returns-clause-none c =
    let i = c.loop-column.invariant in
    let k : to_z w128 (of_z w128 c.args.kappa) ≡ c.args.kappa = search rules in
    let before = rw k at i.least in
    by c.loop-column.found i.below i.none (λ j h e. let l = slice_get_within c.args.held.now j h e in before j h (omega (arith, c.loop-column-test.false)) e)
  where
    by : (o : Option ℕ) → to_z w128 c.loop-column.least-bits ≤ℤ pos 0 → (to_z w128 c.loop-column.least-bits <ℤ pos 0 → IsSome o)
        → ((j : ℕ) (h : Listed) → slice_get c.args.held.now j ≡ Some h → to_z w128 c.loop-column.least-bits ≤ℤ listed_reduced c.args.y.now c.args.kappa h)
        → IfNone o ((j : ℕ) (h : Listed) → slice_get c.args.held.now j ≡ Some h → pos 0 ≤ℤ listed_reduced c.args.y.now c.args.kappa h)
    by (Some n) a b f = tt
    by None a b f = λ j h e. plain (to_z w128 c.loop-column.least-bits) (listed_reduced c.args.y.now c.args.kappa h) (λ l. absurd (true≢false (sym (b l)))) (f j h e)
