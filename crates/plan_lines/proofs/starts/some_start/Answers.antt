use Rattle.std.proofs.Common.{◌≡◌, ℕ, ◌+◌, ◌*◌, ◌<◌, ◌/◌, ap, ◌∙◌, arith}
use Rattle.plan_meaning.specs.Times.{begin_minute}
use Rattle.plan_lines.proofs.StartLemmas.{start_on}
use Rattle.plan_lines.proofs.starts.some_start.Goals as goal

pub loop-passed-preserved : goal.loop-passed-preserved
loop-passed-preserved c =
    let d = c.args.day.now in
    let passed = c.loop-passed.passed in
    let same : c.minutes.result ≡ d.minutes = c.minutes.ensures.value in
    let end : c.args.starts / c.minutes.result ≡ c.args.starts / d.minutes = ap (λ (m : ℕ). c.args.starts / m) same in
    let lt : passed < c.args.starts / d.minutes = omega (arith, c.loop-passed-test.true, c.loop-passed.auto.passed-end, end) in
    let own : passed * c.minutes-in-loop-passed.result ≡ passed * d.minutes = ap (λ (m : ℕ). passed * m) c.minutes-in-loop-passed.ensures.value in
    let moment : c.begin.result + passed * c.minutes-in-loop-passed.result ≡ begin_minute d + passed * d.minutes = omega (arith, c.begin.ensures.value, own) in
    c.loop-passed.invariant ∙ start_on d c.args.starts passed (c.args.starts / d.minutes) _ lt moment c.if-moment-starts-eq0.false
