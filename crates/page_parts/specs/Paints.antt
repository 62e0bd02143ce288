-- The colours of codes.
use Rattle.std.specs.Prelude.{ℕ, ◌+◌, Bool, false, nat_eq, min, List, [], ◌∷◌, if◌then◌else◌}
use Rattle.model_rosters.specs.declared.grammar.CodeDef.{CodeDef}

-- the colour of work, or that of what is no work, by its number
abbrev pub paint : Bool → ℕ → ℕ → List ℕ
paint work works idles = if work then (119 ∷ (48 + works) ∷ []) else (105 ∷ (48 + idles) ∷ [])

-- the colour of a byte among codes, before which there were so many of work and so many of no work
abbrev pub paint_from : List CodeDef → ℕ → ℕ → ℕ → List ℕ
paint_from [] byte works idles = paint false works idles
paint_from (c ∷ cs) byte works idles =
    if nat_eq c.byte byte then paint c.work works idles
    else (if c.work then paint_from cs byte (min (works + 1) 7) idles
    else paint_from cs byte works (min (idles + 1) 4))

-- Codes of work have eight colours in the order of the codes, `w0` to `w7`, and others five, `i0` to `i4`,
-- of which the last may stand for several.
abbrev pub paint_of : List CodeDef → ℕ → List ℕ
paint_of cs byte = paint_from cs byte 0 0
