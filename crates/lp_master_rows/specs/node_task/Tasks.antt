-- Nodes whose masters are solved.
use Rattle.std.specs.Prelude.{ℕ, length}
use Rattle.law_bounds.specs.master_laws.Rows.{rows_of}
use Rattle.lp_master_rows.specs.NodeRows.{AreRows}
use Rattle.lp_master_rows.specs.search_day.Days.{IsDay}
use Rattle.lp_master_rows.specs.declared.node_task.task.NodeTask.{NodeTask}

-- the day is sound, and the rows are the node's
pub record IsTask (t : NodeTask) : Type 0 where
  pub day : IsDay t.day
  pub rows : AreRows t.day.instance.now t.cuts.now t.rows.now

-- how many rows the master has
abbrev pub row_count : NodeTask → ℕ
row_count t = length (rows_of t.day.instance.now t.cuts.now)
