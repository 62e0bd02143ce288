-- The laws of certificates that the crates above cite.
use Rattle.std.specs.Prelude.{ℕ, ◌≡◌, List}
use Rattle.model_rosters.specs.declared.instance.Cut.{Cut}
use Rattle.model_rosters.specs.declared.instance.Instance.{Instance}
use Rattle.model_rosters.specs.SoundInstance.{IsSoundInstance}
use Rattle.check_certificates.specs.declared.cert.Cert.{Cert}
use Rattle.check_certificates.specs.declared.why.Why.{Why}
use Rattle.check_certificates.specs.Nodes.{Proof}
use Rattle.check_certificates.specs.Sound.{IsSoundCert}
use Rattle.check_certificates.specs.certificate_laws.Shown.{Shows}
use Rattle.check_certificates.specs.certificate_laws.Accepted.{Accepts}
use Rattle.check_certificates.specs.certificate_laws.Right.{YesIsRight}
use Rattle.check_certificates.specs.certificate_laws.Causes.{Cause, IsFirstCause}

-- what an accepted certificate states is true
abbrev pub YesIsSound : Type 0
YesIsSound = (i : Instance) (c : Cert) → IsSoundInstance i → IsSoundCert i c → Accepts i c → YesIsRight i c

-- a tree shows one value
abbrev pub OneShownValue : Type 0
OneShownValue = (i : Instance) (cuts : List Cut) (t : Proof) (v w : ℕ) → Shows i cuts t v → Shows i cuts t w
    → v ≡ w

-- no cause holds of an accepted certificate
abbrev pub CausesRefuse : Type 0
CausesRefuse = (i : Instance) (c : Cert) (why : Why) → Cause i c why → Accepts i c → ⊥

-- a certificate has one first cause to be refused
abbrev pub OneFirstCause : Type 0
OneFirstCause = (i : Instance) (c : Cert) (v w : Why) → IsFirstCause i c v → IsFirstCause i c w → v ≡ w
