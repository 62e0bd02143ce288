use Rattle.std.proofs.Common.{arith, ◌≡◌, ◌+◌, ◌<◌, ◌∷◌, [], ◌++◌, length, ◌∙◌}
use Rattle.tree_span_cells.specs.declared.slot.Slot.TheVariants.{OfName}
use Rattle.tree_span_cells.proofs.NameSlotsLemmas.{rank-taken, rank-passed}
use Rattle.tree_span_cells.proofs.build.add_rank.Goals as goal
use Rattle.tree_span_cells.proofs.build.add_rank.Goals.{then-ranks-name+in_ok-push, else-ranks-name}

pub loop-name-preserved : goal.loop-name-preserved
loop-name-preserved c =
    elim c.if-ranks-name.branch [
      | then-ranks-name+in_ok-push w ↦ (λ base m h.
          let lt : c.loop-name.name < length c.loop-name.names = omega arith in
          let now : c.if-ranks-name.slots ≡ c.loop-name.slots ++ OfName c.loop-name.name ∷ [] = w.slots-is ∙ w.in_ok-push.ensures.ok in
          let one : m + (c.loop-name.name + 1) ≡ (m + c.loop-name.name) + 1 = omega arith in
          rw (now, w.names-is, w.len.ensures, one)
          (rank-taken c.args.ranks.now c.args.rank c.loop-name.name base c.loop-name.slots c.loop-name.names (m + c.loop-name.name) lt w.if-ranks-name.true (c.loop-name.invariant base m h)))
      | else-ranks-name w ↦ (λ base m h.
          let one : m + (c.loop-name.name + 1) ≡ (m + c.loop-name.name) + 1 = omega arith in
          rw (w.slots-is, w.names-is, one)
          (rank-passed c.args.ranks.now c.args.rank c.loop-name.name base c.loop-name.slots c.loop-name.names (m + c.loop-name.name) w.if-ranks-name.false (c.loop-name.invariant base m h)))
    ]

pub returns : goal.returns
returns c =
    let same : c.loop-name.name ≡ length c.args.names.now = omega arith in
    rw (← same) c.loop-name.invariant
