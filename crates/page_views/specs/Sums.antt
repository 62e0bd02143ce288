-- The sums of the texts from which a page is made.
use Rattle.std.specs.Prelude.{ℕ, Bool, Option, None, Some, List, [], ◌∷◌, ◌++◌, option_map, codes, if◌then◌else◌}
use Rattle.hex.specs.Hex.{encode_lower}
use Rattle.sha2.specs.Sha256.{sha256}
use Rattle.page_text.specs.declared.content.ReadText.{ReadText}
use Rattle.page_views.specs.declared.sums.Sums.{Sums}

-- the sums of a rules text, a demand text, a proof text or a report, and of a labels text and an old text
-- where there is one
abbrev pub sums_of : List ℕ → List ℕ → List ℕ → Option (List ℕ) → Option (List ℕ) → Sums
sums_of rules demand proof labels old = record {
  rules = sha256 rules;
  demand = sha256 demand;
  proof = sha256 proof;
  labels = option_map sha256 labels;
  old = option_map sha256 old;
}

-- what a text is, and its sum in hexadecimal digits
abbrev pub read_text : List ℕ → List ℕ → ReadText
read_text name sum = record { name = name; sum = encode_lower sum }

-- the same, where there is such a text
unfoldable pub read_if : List ℕ → Option (List ℕ) → List ReadText
read_if name None = []
read_if name (Some sum) = read_text name sum ∷ []

-- what the text is that tells the roster
unfoldable pub roster_name : Bool → List ℕ
roster_name stated = if stated then codes "REPORT" else codes "PROOF"

-- the texts from which a page is made, as its words name them
unfoldable pub read_texts : Bool → Sums → List ReadText
read_texts stated s =
    (read_text (codes "RULES") s.rules ∷ read_text (codes "DEMAND") s.demand
    ∷ read_text (roster_name stated) s.proof ∷ read_if (codes "LABELS") s.labels)
    ++ read_if (codes "OLD") s.old
