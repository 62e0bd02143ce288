use Rattle.std.proofs.Common.{rules, length}
use Rattle.tree_span_cells.specs.Cells.{place, name_slot}
use Rattle.tree_span_arcs.proofs.MarksLemmas.{root-true}
use Rattle.tree_span_arcs.proofs.marks.mark_all.Goals as goal

pub mark_spans-requires-clause-truth : goal.mark_spans-requires-clause-truth
mark_spans-requires-clause-truth c =
    root-true c.args.grammar.now c.args.layout.now c.requires.ready.layout c.requires.sound _ _ (length c.args.marks.now) (c.fill.ensures.after (λ y e. search rules)) c.mark_symbol.ensures.adds

pub returns : goal.returns
returns c = record {
  marked = record {
    truth = c.mark_spans.ensures.adds.truth
        (root-true c.args.grammar.now c.args.layout.now c.requires.ready.layout c.requires.sound _ _ (length c.args.marks.now) (c.fill.ensures.after (λ y e. search rules)) c.mark_symbol.ensures.adds);
    closed = c.mark_spans.ensures.closed;
    root = c.mark_spans.ensures.adds.kept (place c.args.layout.now (name_slot c.args.layout.now c.args.grammar.now.start) 1 c.args.grammar.now.periods) c.mark_symbol.ensures.marked;
  };
}
