use Rattle.search_primal.specs.Workspaces.{HasFound}
use Rattle.search_primal.proofs.ToolsLemmas.{same-find, find-later, more-found}
use Rattle.search_primal.proofs.completed.offer_kept.Goals as goal
use Rattle.search_primal.proofs.completed.offer_kept.Goals.{else-not-is_over-via-then-not-is_over+then-dives_at+in_ok-offer_due+else-branch, else-not-is_over-via-then-not-is_over+else-dives_at, else-not-is_over-via-else-not-is_over}

pub offer_completed-requires-clause-find : goal.offer_completed-requires-clause-find
offer_completed-requires-clause-find g c =
    let d = c.args.node.now.searched.day in
    let old = c.args.pool.now in
    let best = c.args.best.now in
    let same = same-find d old c.args.workspace.now best c.requires.find in
    let now = c.else-not-is_over in
    let dived : HasFound d old now.pool now.workspace best now.best = elim c.else-not-is_over.branch [
      | else-not-is_over-via-then-not-is_over+then-dives_at+in_ok-offer_due+else-branch w ↦ rw (w.workspace-is, w.pool-is, w.best-is) w.offer_due.ensures
      | else-not-is_over-via-then-not-is_over+else-dives_at w ↦ rw (w.workspace-is, w.pool-is, w.best-is) same
      | else-not-is_over-via-else-not-is_over w ↦ rw (w.workspace-is, w.pool-is, w.best-is) same
    ] in
    find-later d old now.pool now.workspace best now.best dived

pub returns : goal.returns
returns g c =
    let d = c.args.node.now.searched.day in
    let old = c.args.pool.now in
    let best = c.args.best.now in
    let same = same-find d old c.args.workspace.now best c.requires.find in
    let now = c.else-not-is_over in
    let dived : HasFound d old now.pool now.workspace best now.best = elim c.else-not-is_over.branch [
      | else-not-is_over-via-then-not-is_over+then-dives_at+in_ok-offer_due+else-branch w ↦ rw (w.workspace-is, w.pool-is, w.best-is) w.offer_due.ensures
      | else-not-is_over-via-then-not-is_over+else-dives_at w ↦ rw (w.workspace-is, w.pool-is, w.best-is) same
      | else-not-is_over-via-else-not-is_over w ↦ rw (w.workspace-is, w.pool-is, w.best-is) same
    ] in
    more-found d old now.pool c.offer_completed.new.pool now.workspace c.offer_completed.new.workspace best now.best c.offer_completed.new.best dived c.offer_completed.ensures
