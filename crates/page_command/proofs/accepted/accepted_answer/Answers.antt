use Rattle.std.proofs.Common.{◌≡◌, subst}
use Rattle.std.specs.Option.{option_copied}
use Rattle.check_certificates.specs.certificate_laws.Accepted.{Accepts}
use Rattle.check_certificates.specs.declared.cert.Cert.{Cert}
use Rattle.page_command.proofs.ShownRosters.{accepted-shown, sound-certified}
use Rattle.page_command.proofs.accepted.accepted_answer.Goals as goal

pub shown_answer-requires-clause-roster : goal.shown_answer-requires-clause-roster
shown_answer-requires-clause-roster c =
    let told = c.requires.accepted in
    let same : told.0 ≡ c.in_ok-cert.cert = cc (told.1, c.in_ok-cert.ensures.reading) in
    let accepts = subst (λ (x : Cert). Accepts c.args.instance.now x) same told.2 in
    rw c.certified-roster.ensures (sound-certified c.args.instance.now c.in_ok-cert.cert c.in_ok-cert.ensures.sound accepts.roster)

pub returns : goal.returns
returns c =
    accepted-shown c.args.kind c.args.labels.now (option_copied c.args.old) c.args.instance.now c.args.text.now c.in_ok-cert.cert c.shown_answer.result c.in_ok-cert.ensures.reading
    (rw c.certified-roster.ensures at c.shown_answer.ensures)
