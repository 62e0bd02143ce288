use Rattle.std.proofs.Common.{◌≡◌, suc, ◌+◌, ◌-◌, length, ◌∙◌, ap, arith}
use Rattle.std.proofs.lemmas.Result.{err_from_is_err_and}
use Rattle.text_rules.specs.RuleLine.{symbol_at}
use Rattle.text_lines.proofs.StepsLemmas.{each_step, each_fails, drop_step}
use Rattle.text_rules.proofs.rule.symbols.Goals as goal
use Rattle.text_rules.proofs.rule.symbols.Goals.{in-Some+in_ok-symbol, in_default}

pub returns-in_err-symbol-clause-value : goal.returns-in_err-symbol-clause-value
returns-in_err-symbol-clause-value c =
    let p = err_from_is_err_and c.from_residual.result c.from_residual.ensures.1 in
    rw (p.1, p.2) (λ ne. c.loop.invariant.0 ∙ each_fails (symbol_at c.args.line c.args.codes.now) _ _ _ _ _ (c.args.count - (c.loop.counter + 1)) _ c.in-Some.ensures (omega arith) (c.in_err-symbol.ensures.value ne))

pub loop-preserved : goal.loop-preserved
loop-preserved c = elim c.match-next.branch [
  | in-Some+in_ok-symbol w ↦
      let n : c.args.count - c.loop.counter ≡ suc (c.args.count - (c.loop.counter + 1)) = omega arith in
      rw (w.names-is, w.right-is) (
        c.loop.invariant.0 ∙ each_step (symbol_at c.args.line c.args.codes.now) _ _ _ _ _ _ _ w.in-Some.ensures n w.in_ok-symbol.ensures.value,
        c.loop.invariant.1 ∙ drop_step _ _ _ _ _ w.in-Some.ensures n,
        omega (arith, c.loop.invariant.2, ap length w.in-Some.ensures),
      )
  | in_default w ↦ absurd (omega (arith, c.loop.invariant.2, c.requires.there, ap length w.in_default.ensures.0))
]
