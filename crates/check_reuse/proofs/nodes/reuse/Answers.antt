use Rattle.std.proofs.Common.{sym, subst}
use Rattle.check_certificates.specs.declared.cert.Cert.{Cert}
use Rattle.check_proofs.specs.Verdicts.{IsVerdict}
use Rattle.check_reuse.specs.declared.nodes.Reused.{Reused}
use Rattle.check_reuse.specs.Reuse.{IsReuse}
use Rattle.check_reuse.proofs.NodesAlone.{told-is}
use Rattle.check_reuse.proofs.nodes.reuse.Goals as goal

pub returns : goal.returns
returns c =
    let day = c.args.instance.now in
    let verdict = subst (λ (n : Cert). IsVerdict day n c.in_ok-verdict.field-0) c.without_roster-nodes.ensures c.in_ok-verdict.ensures in
    subst (λ (r : Reused). IsReuse day c.args.cert r) (sym c.told.ensures) (told-is day c.args.cert c.requires.sound c.requires.cert c.in_ok-verdict.field-0 verdict)
