use Rattle.std.proofs.Common.{◌≡◌, drop}
use Rattle.page_text.specs.Charts.{top_count}
use Rattle.page_text.proofs.chart.top_count.Given as goal

abbrev pub invariant-loop-column : goal.invariant-loop-column
invariant-loop-column l = top_count l.code l.columns 1 ≡ top_count l.code (drop l.column-index l.columns) l.most
