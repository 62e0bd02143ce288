use Rattle.text_certificates.proofs.Sizes.{cert_size}
use Rattle.text_certificates.proofs.write.write_cert.Goals as goal

pub returns-clause-short : goal.returns-clause-short
returns-clause-short c = rw c.in_ok-text.ensures (cert_size c.args.instance.now c.args.cert.now c.requires.sound c.requires.cert)
