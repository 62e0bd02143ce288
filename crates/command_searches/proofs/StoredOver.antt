-- What this program stores it may store over later: a certificate's text begins with a proof text's first line.
use Rattle.std.proofs.Common.{◌≡◌, ℕ, Bool, true, false, List, [], ◌∷◌, ◌++◌, length, refl}
use Rattle.std.specs.Prelude.{◌||◌, ◌==◌}
use Rattle.model_rosters.specs.declared.instance.Group.{Group}
use Rattle.model_rosters.specs.declared.instance.Instance.{Instance}
use Rattle.text_lines.specs.Written.{spaced}
use Rattle.check_certificates.specs.declared.cert.Cert.{Cert}
use Rattle.text_certificates.specs.Written.{header_words, cert_text}
use Rattle.command_shelf.specs.Stores.{is_replaceable}

-- the four first lines are asked for behind whether the text is empty
plain : (empty : Bool) → (empty || true || false || false || false) ≡ true
plain true = refl
plain false = refl

grouped : (empty : Bool) → (empty || false || false || true || false) ≡ true
grouped true = refl
grouped false = refl

first_line : (groups : List Group) (rest : List ℕ) → is_replaceable (spaced (header_words groups) ++ 10 ∷ rest) ≡ true
first_line [] rest = plain (length (spaced (header_words []) ++ 10 ∷ rest) == 0)
first_line (g ∷ gs) rest = grouped (length (spaced (header_words (g ∷ gs)) ++ 10 ∷ rest) == 0)

-- a certificate that was stored may be stored over
pub cert_text-replaceable : (i : Instance) (c : Cert) → is_replaceable (cert_text i c) ≡ true
cert_text-replaceable i c = first_line i.groups _
