use Rattle.std.proofs.Common.{refl}
use Rattle.check_certificates.proofs.certificate_laws.laws.worked_nodes.Goals as goal

pub returns : goal.returns
returns c = record {
  halves = λ i cuts a b x y p q h k. (x, y, h, k, refl);
  own = λ i cuts a b x y z p q r h k l. (x, y, h, k, (z, l, refl));
  paths = refl;
  greatest = refl;
  none = refl;
  stated_none = refl;
  stated_some = refl;
}
