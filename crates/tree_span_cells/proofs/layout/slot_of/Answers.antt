use Rattle.std.proofs.Common.{arith, ◌≡◌, ◌<◌, ◌-◌, length, get_or}
use Rattle.std.proofs.lemmas.List.{get_or_read}
use Rattle.std.proofs.Common.{refl}
use Rattle.model_rosters.proofs.tree_laws.Rules.{rule_at-within}
use Rattle.tree_span_cells.specs.Cells.{suffix_slot}
use Rattle.tree_span_cells.proofs.Slots.{suffix_slot-within}
use Rattle.tree_span_cells.proofs.layout.slot_of.Goals as goal

pub overflow_add-result : goal.overflow_add-result
overflow_add-result c =
    let w = rule_at-within c.args.grammar.now c.args.suffix.rule c.args.rule.now c.requires.rule in
    let read : c.index.result.now ≡ get_or c.args.layout.now.suffixes.items (c.args.suffix.rule - 1) 0 = get_or_read c.args.layout.now.suffixes.items _ _ (omega (arith, w, c.requires.layout.all_rules)) c.index.ensures 0 in
    let within : suffix_slot c.args.layout.now c.args.suffix.rule c.args.suffix.from < length c.args.layout.now.slots.items =
    suffix_slot-within c.args.grammar.now c.args.layout.now c.requires.layout c.args.suffix.rule c.args.suffix.from c.args.rule.now c.requires.rule c.requires.inner c.requires.two in
    omega (arith, c.requires.layout.few, within, read)

pub returns-clause-slot : goal.returns-clause-slot
returns-clause-slot c =
    let w = rule_at-within c.args.grammar.now c.args.suffix.rule c.args.rule.now c.requires.rule in
    let read : c.index.result.now ≡ get_or c.args.layout.now.suffixes.items (c.args.suffix.rule - 1) 0 = get_or_read c.args.layout.now.suffixes.items _ _ (omega (arith, w, c.requires.layout.all_rules)) c.index.ensures 0 in
    rw read refl

pub returns-clause-within : goal.returns-clause-within
returns-clause-within c =
    let w = rule_at-within c.args.grammar.now c.args.suffix.rule c.args.rule.now c.requires.rule in
    let read : c.index.result.now ≡ get_or c.args.layout.now.suffixes.items (c.args.suffix.rule - 1) 0 = get_or_read c.args.layout.now.suffixes.items _ _ (omega (arith, w, c.requires.layout.all_rules)) c.index.ensures 0 in
    rw read (suffix_slot-within c.args.grammar.now c.args.layout.now c.requires.layout c.args.suffix.rule c.args.suffix.from c.args.rule.now c.requires.rule c.requires.inner c.requires.two)
