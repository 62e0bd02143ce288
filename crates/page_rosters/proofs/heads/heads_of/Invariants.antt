use Rattle.std.proofs.Common.{◌≡◌, ◌+◌, ◌++◌, drop}
use Rattle.page_rosters.specs.HeadLines.{group_lines, heads_of}
use Rattle.page_rosters.proofs.heads.heads_of.Given as goal

abbrev pub invariant-loop-group : goal.invariant-loop-group
invariant-loop-group l = record {
  lines : heads_of l.instance l.labels l.shifts ≡ l.lines ++ group_lines l.instance l.labels l.shifts l.number (drop l.group-index l.instance.groups);
  number : l.number ≡ 1 + l.group-index;
}
