use Rattle.std.proofs.Common.{◌≤◌, length, refl, rules, arith}
use Rattle.text_certificates.proofs.WrittenLemmas.{prices_left, prices_next, prices_parted, prices_done}
use Rattle.text_certificates.proofs.write.price_lines.Goals as goal

pub loop-rest-init : goal.loop-rest-init
loop-rest-init c = record {
  left = prices_left c.args.instance.now c.args.prices.now c.args.out.now c.args.out.now c.requires.sound c.requires.whole refl;
  passed = omega arith;
}

pub loop-rest-preserved : goal.loop-rest-preserved
loop-rest-preserved c =
    let some : 1 ≤ length c.loop-rest.rest.now = search rules in
    record {
      left = prices_next c.args.instance.now c.loop-rest.place c.due_byte.result c.loop-rest.rest.now c.split_at.result.0.now c.split_at.result.1.now c.loop-rest.out c.price_line.new.out _ some c.split_at.ensures.front c.split_at.ensures.back
          c.due_byte.ensures c.in_ok-price_line.ensures c.loop-rest.invariant.left;
      passed = prices_parted c.args.instance.now c.loop-rest.place _ c.loop-rest.rest.now c.split_at.result.0.now c.split_at.result.1.now c.split_at.ensures.front c.split_at.ensures.back c.loop-rest.invariant.passed;
    }

pub returns : goal.returns
returns c = prices_done c.args.instance.now c.loop-rest.place c.loop-rest.rest.now c.loop-rest.out _ (search rules) c.requires.sound.grammar.some_period c.loop-rest.invariant.left
