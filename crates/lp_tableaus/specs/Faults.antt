-- Faults of columns as those of a program.
use Rattle.lp_tableaus.specs.declared.columns.ColumnsFault.{ColumnsFault}
use Rattle.lp_tableaus.specs.declared.columns.ColumnsFault.TheVariants.{Wide, Memory}
use Rattle.lp_tableaus.specs.declared.simplex.LpFault.{LpFault}
use Rattle.lp_tableaus.specs.declared.simplex.LpFault.TheVariants.{Wide as LpWide, Memory as LpMemory}

abbrev pub fault_of : ColumnsFault → LpFault
fault_of (Wide fault) = LpWide fault
fault_of Memory = LpMemory
