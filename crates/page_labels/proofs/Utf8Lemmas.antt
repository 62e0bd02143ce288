-- Bytes that are UTF-8 pass the test, and others do not.
use Rattle.std.proofs.Common.{◌≡◌, ℕ, Bool, true, false, ◌&&◌, List, refl, sym, ap, ◌∙◌}
use Rattle.std.specs.List.{list_all}
use Rattle.std.specs.Str.{IsUtf8, chars, is_utf8}
use Rattle.std.proofs.lemmas.Str.{IsUtf8-from_is_utf8, is_utf8-from_IsUtf8}
use Rattle.page_labels.specs.TextLines.{is_body, may_stand}

pub body_of : (bytes text : List ℕ) (r : Bool) → text ≡ bytes → IsUtf8 bytes → r ≡ list_all may_stand (chars text) → r ≡ is_body bytes
body_of bytes text r same good e =
    e ∙ ap (λ (t : List ℕ). list_all may_stand (chars t)) same
    ∙ sym (ap (λ (t : Bool). t && list_all may_stand (chars bytes)) (is_utf8-from_IsUtf8 bytes good))

pub no_body : (bytes : List ℕ) → ¬ (IsUtf8 bytes) → false ≡ is_body bytes
no_body bytes bad = by (is_utf8 bytes) refl
  where
    by : (t : Bool) → is_utf8 bytes ≡ t → false ≡ (t && list_all may_stand (chars bytes))
    by true e = absurd (bad (IsUtf8-from_is_utf8 bytes e))
    by false e = refl
