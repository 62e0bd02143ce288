use Rattle.std.proofs.Common.{subst, arith, ℕ, ◌≡◌, ◌*◌, length, sym, ◌∙◌, drop}
use Rattle.std.specs.Prelude.{slice_index}
use Rattle.std.proofs.lemmas.List.{take_at}
use Rattle.model_rosters.proofs.StepRules.{no_cycle}
use Rattle.tree_span_cells.specs.Building.{NameSlots}
use Rattle.model_rosters.proofs.tree_laws.Ranks.{rank-below}
use Rattle.model_rosters.specs.tree_laws.RankOrder.{IsDone}
use Rattle.tree_span_cells.proofs.NameSlotsLemmas.{names-init, all-named}
use Rattle.tree_span_cells.proofs.build.add_names.Goals as goal

pub unreachable-requires : goal.unreachable-requires
unreachable-requires c =
    let r = c.requires.sound.ranks in
    no_cycle c.args.grammar.now r.0 (length c.args.grammar.now.names) r.1 c.in_default.field-0 c.in_default.ensures.cycle.within

pub returns : goal.returns
returns c =
    let own : length c.as_mut_slice.result.now ≡ length c.args.grammar.now.names = omega (arith, c.in_ok-names.ensures.len) in
    let now : length c.add_ranks.new.names ≡ length c.args.grammar.now.names = omega (arith, c.in_ok-names.ensures.len) in
    let room : length c.add_ranks.new.names ≡ c.in_ok-names.names.len = omega arith in
    let same : length c.as_mut_slice.result.now ≡ length c.add_ranks.new.names = own ∙ sym now in
    let e = take_at c.add_ranks.new.names (drop (length c.add_ranks.new.names) c.in_ok-names.names.items) c.in_ok-names.names.len room in
    let h = c.in_ok-add_ranks.ensures c.args.slots.now
    (names-init c.in-Ok.ranks c.args.slots.now c.as_mut_slice.result.now (IsDone c.in-Ok.ranks (length c.as_mut_slice.result.now) 0) c.requires.unnamed
    (λ x lt d. let b = rank-below c.args.grammar.now c.requires.sound (slice_index c.in-Ok.ranks) c.in-Ok.ensures.ranked x (omega (arith, lt, own)) in omega (arith, b, d, own))) in
    rw e
    (all-named c.args.grammar.now c.in-Ok.ranks c.args.slots.now c.add_ranks.new.slots c.add_ranks.new.names c.in-Ok.ensures.ranked now
    (subst (λ (w : ℕ). NameSlots c.in-Ok.ranks c.args.slots.now c.add_ranks.new.slots c.add_ranks.new.names (IsDone c.in-Ok.ranks w w) (w * w)) same h))
