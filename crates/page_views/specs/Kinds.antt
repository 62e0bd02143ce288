-- As what a roster is shown.
use Rattle.std.specs.Prelude.{ℕ, Option, None, Some, List, codes, if◌then◌else◌}
use Rattle.std.specs.Str.{bytes_eq}
use Rattle.page_views.specs.declared.kind.FirstWord.{FirstWord}
use Rattle.page_views.specs.declared.kind.FirstWord.TheVariants.{Page, Table, Coverage}
use Rattle.page_views.specs.declared.kind.Kind.{Kind}
use Rattle.page_views.specs.declared.kind.Kind.TheVariants as kinds
use Rattle.page_views.specs.declared.sums.Sums.{Sums}

-- what a first word asks for, where texts with these sums were read
abbrev pub kind_for : FirstWord → Sums → Kind
kind_for Page s = kinds.Page s
kind_for Table s = kinds.Table
kind_for Coverage s = kinds.Coverage

-- what the first word asks for
unfoldable pub first_word : List ℕ → Option FirstWord
first_word w =
    if bytes_eq w (codes "page") then Some Page
    else (if bytes_eq w (codes "table") then Some Table
    else (if bytes_eq w (codes "coverage") then Some Coverage else None))
