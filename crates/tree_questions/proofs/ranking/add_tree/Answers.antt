use Rattle.tree_questions.proofs.RankedLemmas.{tree-said}
use Rattle.tree_questions.proofs.ranking.add_tree.Goals as goal

pub returns : goal.returns
returns c =
    tree-said c.args.grammar.now c.requires.sound c.args.ranked.now c.requires.tree c.args.number c.as_slice.result.now c.args.out.now c.put.new.out c.field.new.out c.signed_field.new.out c.push.new.self
    c.add_word.new.out c.push-2.new.self c.as_slice.ensures c.in_ok-put.ensures.ok c.in_ok-field.ensures c.in_ok-signed_field.ensures c.in_ok-push.ensures.ok c.in_ok-add_word.ensures c.in_ok-push-2.ensures.ok
