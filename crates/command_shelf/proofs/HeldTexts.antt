-- What a map of the program with `String` keys says of the texts that it stands for.
use Rattle.std.proofs.Common.{◌≡◌, ℕ, Bool, true, false, cond, List, [], ◌∷◌, map, Some, Option, String, Vec, BTreeMap, string_bytes, sym, refl, ap, ◌∙◌}
use Rattle.std.specs.Global.{Global}
use Rattle.std.specs.Option.{option_map}
use Rattle.std.specs.Ordering.{nat_cmp, eq_by_cmp}
use Rattle.std.specs.Cmp.Lexicographic.{slice_cmp, nat_list_cmp_total, nat_list_eq_equiv, bytes_decides}
use Rattle.std.specs.BTreeMap.{get_by_text, UpdatesBy, is_at}
use Rattle.std.specs.Map.{lookup}
use Rattle.std.specs.Str.{bytes_eq}
use Rattle.std.specs.String.{string_cmp}
use Rattle.std.specs.FinMap.{get, insert, find, get-insert, get-from_entries, same_map, slice_cmp-IsAntisymmetric, nat_cmp-IsAntisymmetric}
use Rattle.std.proofs.lemmas.Bool.{false_from_ne_true}
use Rattle.std.proofs.lemmas.Map.Text.{is_eq-slice_cmp, btree_map_updates_text}
use Rattle.command_shelf.specs.Shelf.{Texts, AgreesElsewhere, texts_of, entry_of}

abbrev Entry : Type 0
Entry = String Global × Vec ℕ Global

abbrev pub bytes_of : Vec ℕ Global → List ℕ
bytes_of v = v.items

-- a look-up among the entries' bytes is the look-up among the entries
find-entries : (q : List ℕ) (es : List Entry) → find (slice_cmp nat_cmp) q (map entry_of es) ≡ option_map bytes_of (lookup (is_at (λ k. slice_cmp nat_cmp q (string_bytes k))) es)
find-entries q [] = refl
find-entries q (e ∷ es) =
    ap (cond (is_at (λ k. slice_cmp nat_cmp q (string_bytes k)) e.0) (Some e.1.items)) (find-entries q es)
    ∙ inside (is_at (λ k. slice_cmp nat_cmp q (string_bytes k)) e.0) e.1 _
  where
    inside : (b : Bool) (v : Vec ℕ Global) (o : Option (Vec ℕ Global)) → cond b (Some v.items) (option_map bytes_of o) ≡ option_map bytes_of (cond b (Some v) o)
    inside true v o = refl
    inside false v o = refl

-- the text at a name is what the map has there
pub get-texts_of : (m : BTreeMap (String Global) (Vec ℕ Global)) (q : List ℕ) → get (texts_of m) q ≡ option_map bytes_of (get_by_text m q)
get-texts_of m q = get-from_entries nat_list_cmp_total (map entry_of m.entries) q ∙ find-entries q m.entries

updated : (b : Bool) (v : Vec ℕ Global) (o : Option (Vec ℕ Global)) → option_map bytes_of (cond b (Some v) o) ≡ cond b (Some v.items) (option_map bytes_of o)
updated true v o = refl
updated false v o = refl

-- to insert an entry into the map is to insert its text
pub texts_of-insert : (m n : BTreeMap (String Global) (Vec ℕ Global)) (key : String Global) (v : Vec ℕ Global)
    → UpdatesBy string_cmp (string_cmp key) m n (Some v) → texts_of n ≡ insert (texts_of m) (string_bytes key) v.items
texts_of-insert m n key v set =
    same_map nat_list_cmp_total (slice_cmp-IsAntisymmetric nat_cmp-IsAntisymmetric) _ _
    (λ q. get-texts_of n q
    ∙ ap (option_map bytes_of) (btree_map_updates_text (string_bytes key) m n _ set q)
    ∙ updated (bytes_eq (string_bytes key) q) v (get_by_text m q)
    ∙ ap (λ b. cond b (Some v.items) (option_map bytes_of (get_by_text m q))) (nat_list_eq_equiv.symm (string_bytes key) q ∙ sym (is_eq-slice_cmp q (string_bytes key)))
    ∙ ap (cond (eq_by_cmp (slice_cmp nat_cmp) q (string_bytes key)) (Some v.items)) (sym (get-texts_of m q))
    ∙ sym (get-insert nat_list_cmp_total (texts_of m) (string_bytes key) v.items q))

-- to insert at a name leaves each other name as it was
pub AgreesElsewhere-insert : (m : Texts) (name bytes : List ℕ) → AgreesElsewhere name m (insert m name bytes)
AgreesElsewhere-insert m name bytes other differs =
    get-insert nat_list_cmp_total m name bytes other
    ∙ ap (λ b. cond b (Some bytes) (get m other)) (is_eq-slice_cmp other name ∙ false_from_ne_true _ (λ same. differs ((bytes_decides other name).0 same)))
