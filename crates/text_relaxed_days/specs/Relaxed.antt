-- A day on which a roster costs what it lacks of the floors, or what it has beyond the ceilings.
use Rattle.std.specs.Prelude.{map}
use Rattle.model_rosters.specs.declared.instance.Cell.{Cell}
use Rattle.model_rosters.specs.declared.instance.Instance.{Instance}
use Rattle.text_relaxed_days.specs.declared.kind.Kind.{Kind}
use Rattle.text_relaxed_days.specs.declared.kind.Kind.TheVariants.{Floors, Ceilings}
use Rattle.text_relaxed_days.specs.FreeRules.{free_rules}

-- the floor, or the ceiling, is the need, of which each missing or each further employee costs 1; the other bound
-- stays
abbrev pub relaxed_cell : Kind → Cell → Cell
relaxed_cell Floors c = record c { need = c.floor; under = 1; over = 0; floor = 0 }
relaxed_cell Ceilings c = record c { need = c.ceiling; under = 0; over = 1; ceiling = 64 }

-- the day with such cells in place of its own
abbrev pub relaxed_demand : Kind → Instance → Instance
relaxed_demand kind i = record i { cells = map (relaxed_cell kind) i.cells }

-- the same by rules that cost nothing
abbrev pub relaxed : Kind → Instance → Instance
relaxed kind i = record i { grammar = free_rules i.grammar; cells = map (relaxed_cell kind) i.cells }
