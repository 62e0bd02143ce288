use Rattle.search_node_columns.specs.volume.Workspaces.{IsVolumeWorkspace}
use Rattle.search_node_columns.proofs.volume.passes.take_passes.Given as goal

abbrev pub invariant-loop-pass : goal.invariant-loop-pass
invariant-loop-pass g l = IsVolumeWorkspace l.task l.pricer l.workspace
