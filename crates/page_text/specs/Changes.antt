-- How much differs from an old roster.
use Rattle.std.specs.Prelude.{ℕ, Option, None, Some, List, [], ◌∷◌, nat_eq, codes, if◌then◌else◌}
use Rattle.page_parts.specs.Elements.{Element, marks, number}
use Rattle.page_text.specs.declared.changes.Changes.{Changes}

-- what stands behind a word for so many
abbrev pub plural : ℕ → List ℕ
plural n = if nat_eq n 1 then [] else codes "s"

-- the sentence of how many shifts and periods differ
unfoldable pub some_differ : Changes → List Element
some_differ c =
    marks (codes "<p>") ∷ number c.shifts ∷ marks (codes " shift") ∷ marks (plural c.shifts)
    ∷ marks (codes " and ") ∷ number c.periods ∷ marks (codes " period") ∷ marks (plural c.periods)
    ∷ marks (codes " differ from the old roster. Letters that differ are underlined.</p>\n") ∷ []

-- the sentence where no shift differs
unfoldable pub none_differ : List Element
none_differ = marks (codes "<p>Nothing differs from the old roster.</p>\n") ∷ []

unfoldable pub differ : Changes → List Element
differ c = if nat_eq c.shifts 0 then none_differ else some_differ c

-- the same, where there is an old roster
unfoldable pub changes_part : Option Changes → List Element
changes_part None = []
changes_part (Some c) = differ c
