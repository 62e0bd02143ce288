use Rattle.text_certificates.proofs.CertAgain.{cert_again}
use Rattle.text_certificates.proofs.laws.written_again.Goals as goal

pub returns : goal.returns
returns c = cert_again
