use Rattle.model_rosters.specs.declared.grammar.Sym.TheVariants.{Code}
use Rattle.text_rules.specs.Written.{symbol_word}
use Rattle.text_lines.proofs.WrittenLemmas.{one_more}
use Rattle.text_rules.proofs.write.symbols.Goals as goal

pub loop-item-preserved : goal.loop-item-preserved
loop-item-preserved c = one_more (symbol_word c.args.codes.now c.args.names.now) c.args.right.now c.loop-item.item-index (Code 0) c.args.out.now c.loop-item.out c.symbol.new.out c.loop-item-test.true c.loop-item.invariant c.in_ok-symbol.ensures
