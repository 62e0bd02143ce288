use Rattle.std.proofs.Common.{◌≡◌, ◌/◌, ◌++◌, ◌+◌, length}
use Rattle.text_lines.specs.Written.{written}
use Rattle.text_certificates.specs.Written.{price_lines}
use Rattle.text_certificates.proofs.WrittenLemmas.{PricesLeft}
use Rattle.text_certificates.proofs.write.price_lines.Given as goal

abbrev pub invariant-loop-rest : goal.invariant-loop-rest
invariant-loop-rest l = record {
  left : PricesLeft l.instance l.place l.rest l.out (l.fn.out ++ written (price_lines l.instance 0 (length l.prices / l.instance.grammar.periods) l.prices));
  passed : l.place + length l.rest ≡ length l.prices;
}

abbrev pub decreases-loop-rest : goal.decreases-loop-rest
decreases-loop-rest l = length l.rest
