use Rattle.std.proofs.Common.{◌≤◌, length, refl, rules, arith}
use Rattle.text_reports.proofs.Lines.{covers_left, covers_next, covers_parted, covers_done}
use Rattle.text_reports.proofs.cover_text.cover_lines.Goals as goal

pub loop-rest-init : goal.loop-rest-init
loop-rest-init c = record {
  left = covers_left c.args.instance.now c.args.covers.now c.args.out.now c.args.out.now c.requires.sound c.requires.whole refl;
  passed = omega arith;
}

pub loop-rest-preserved : goal.loop-rest-preserved
loop-rest-preserved c =
    let some : 1 ≤ length c.loop-rest.rest.now = search rules in
    record {
      left = covers_next c.args.instance.now c.loop-rest.place c.due_byte.result c.loop-rest.rest.now c.split_at.result.0.now c.split_at.result.1.now c.loop-rest.out c.code_lines.new.out _ some c.split_at.ensures.front c.split_at.ensures.back
          c.due_byte.ensures c.in_ok-code_lines.ensures c.loop-rest.invariant.left;
      passed = covers_parted c.args.instance.now c.loop-rest.place _ c.loop-rest.rest.now c.split_at.result.0.now c.split_at.result.1.now c.split_at.ensures.front c.split_at.ensures.back c.loop-rest.invariant.passed;
    }

pub returns : goal.returns
returns c = covers_done c.args.instance.now c.loop-rest.place c.loop-rest.rest.now c.loop-rest.out _ (search rules) c.requires.sound.grammar.some_period c.loop-rest.invariant.left
