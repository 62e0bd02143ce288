use Rattle.std.proofs.Common.{refl}
use Rattle.check_certificates.proofs.certificate_laws.RightLemmas.{yes-is-sound}
use Rattle.search_days.proofs.NodeValues.{found-few}
use Rattle.search_days.proofs.solve.with_text.Goals as goal

pub cert_text-requires-clause-few : goal.cert_text-requires-clause-few
cert_text-requires-clause-few c =
    let f = c.requires.found in
    found-few c.args.day.now.instance.now f.0 f.1 c.args.found f.2 f.3

pub returns : goal.returns
returns c = record {
  solution = λ strict turns is. record {
    found = is;
    text = c.in_ok-proof.ensures.written;
    denotes = c.in_ok-proof.ensures.denotes;
    right = yes-is-sound c.args.day.now.instance.now c.requires.day.sound c.args.found.cert is.sound is.accepted;
    arcs = c.arc_count.ensures c.args.day.now.instance.now.grammar c.requires.day.graph;
  };
  same = refl;
}
