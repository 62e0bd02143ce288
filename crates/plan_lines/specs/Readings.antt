-- What the lines of a plan so far say.
use Rattle.std.specs.Prelude.{[], None}
use Rattle.plan_fields.specs.Drafts.{no_draft}
use Rattle.plan_lines.specs.declared.reading.Reading.{Reading}

-- what no line says
abbrev pub nothing : Reading
nothing = record { title = []; day = None; draft = no_draft }
