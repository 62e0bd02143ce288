use Rattle.std.proofs.Common.{◌≡◌, ◌≤◌, Option, Some, arith, ◌∙◌, refl, sym, subst}
use Rattle.search_candidates.proofs.PoolNumbers.{grown-more}
use Rattle.search_primal.specs.OldRosters.{ReachesOld}
use Rattle.search_primal.proofs.ToolsLemmas.{tools-later}
use Rattle.search_branch_price.specs.Ends.{AsksEnd, IsFoundAtEnd, IsFoundHalted}
use Rattle.search_branch_price.specs.Turns.{TakesTurn}
use Rattle.search_candidates.specs.declared.roster.Roster.{Roster}
use Rattle.search_candidates.specs.Offers.{cost_of}
use Rattle.model_rosters.specs.declared.instance.Done.TheVariants.{TurnsOut}
use Rattle.search_branch_price.specs.declared.turn_end.TurnEnd.{TurnEnd}
use Rattle.search_branch_price.specs.Found.{IsFound}
use Rattle.search_branch_price.specs.Tasks.{IsJobDone}
use Rattle.search_branch_price.specs.Roots.{IsFoundHaltedAtRoot}
use Rattle.search_branch_price.proofs.JobsLemmas.{both-ok}
use Rattle.search_branch_price.proofs.LoopsLemmas.{begun-loops, asks-turn, turn-loops, turn-nears, turn-reaches, turn-halts, turn-halts-at-root, stopped-end, closed-end}
use Rattle.search_branch_price.proofs.NoDearer.{no-dearer}
use Rattle.search_watch.proofs.WithinLemmas.{within-all}
use Rattle.search_branch_price.proofs.branching.search_along.Goals as goal

pub loop-leaf-init : goal.loop-leaf-init
loop-leaf-init g c = (
  begun-loops c.args.job.now.searched.day.instance.now c.args.job.now.searched.day.graph.now (g.M.Master.strict c.args.master.now) (g.M.Master.refused c.args.master.now) c.args.job.now.turns c.in_ok-progress.progress c.in_ok-progress.ensures.begun,
  refl,
  record { tools = tools-later c.args.job.now.searched.day c.args.pool.now c.begin.new.pool c.begin.new.workspace c.begin.ensures.tools; path = c.requires.bench.path },
  c.begin.ensures.tools.pool.grown,
  (λ h. h),
  c.in_ok-progress.ensures.reaches,
)

pub found-requires-clause-end : goal.found-requires-clause-end
found-requires-clause-end g c = (
  record { graph = c.args.job.now.searched.day.graph.now; strict = g.M.Master.strict c.args.master.now; before = g.M.Master.refused c.args.master.now; now = g.M.Master.refused c.loop-leaf.master; turns = c.next.new.self.tree.processed },
  (stopped-end c.args.job.now.searched.day.instance.now c.args.job.now.searched.day.graph.now (g.M.Master.strict c.args.master.now) (g.M.Master.refused c.args.master.now) (g.M.Master.refused c.loop-leaf.master) c.args.job.now.turns c.requires.job.few
      c.loop-leaf.progress c.next.new.self c.in-Some.leaf c.loop-leaf.invariant.0 c.in-Some.ensures c.requires.job.searched.is.day.sound c.requires.job.searched.is.busy c.requires.arcs).1,
)

pub returns-then-stops_at-clause-rises : goal.returns-then-stops_at-clause-rises
returns-then-stops_at-clause-rises g c = c.loop-leaf.invariant.0.rises

pub returns-then-stops_at-clause-strict_stays :
    goal.returns-then-stops_at-clause-strict_stays
returns-then-stops_at-clause-strict_stays g c = c.loop-leaf.invariant.1

pub turn-requires-clause-leaf : goal.turn-requires-clause-leaf
turn-requires-clause-leaf g c =
    asks-turn c.args.job.now.searched.day.instance.now c.args.job.now.searched.day.graph.now (g.M.Master.strict c.args.master.now) (g.M.Master.refused c.args.master.now) (g.M.Master.refused c.loop-leaf.master) c.args.job.now.turns c.requires.job.few
    c.loop-leaf.progress c.next.new.self c.in-Some.leaf c.loop-leaf.invariant.0 c.in-Some.ensures (g.M.Master.strict c.loop-leaf.master) c.loop-leaf.invariant.1
    (c.stops_at.ensures.goes_on c.if-stops_at.false)

pub loop-leaf-smaller : goal.loop-leaf-smaller
loop-leaf-smaller g c =
    let j = c.args.job.now in
    let d = j.searched.day in
    let strict = g.M.Master.strict c.args.master.now in
    let same = g.M.Master.strict c.loop-leaf.master in
    let patient = g.W.Watch.patient c.stops_at.new.watch in
    let before = g.M.Master.refused c.args.master.now in
    let now = g.M.Master.refused c.loop-leaf.master in
    let later = g.M.Master.refused c.turn.new.master in
    let turned = subst (λ (e : TurnEnd). TakesTurn d same now later patient c.next.new.self c.in-Some.leaf c.turn.new.progress e) c.in-Done.is c.in_ok-end.ensures.turned in
    let near = turn-nears d.instance.now d.graph.now strict before now j.turns c.requires.job.few c.loop-leaf.progress c.next.new.self c.in-Some.leaf c.loop-leaf.invariant.0 c.in-Some.ensures same c.loop-leaf.invariant.1
    (c.stops_at.ensures.goes_on c.if-stops_at.false) later c.turn.new.progress turned in
    let less = near.0 in
    let one = near.1 in
    omega (arith, less, one)

pub loop-leaf-preserved : goal.loop-leaf-preserved
loop-leaf-preserved g c =
    let j = c.args.job.now in
    let d = j.searched.day in
    let strict = g.M.Master.strict c.args.master.now in
    let same = g.M.Master.strict c.loop-leaf.master in
    let patient = g.W.Watch.patient c.stops_at.new.watch in
    let before = g.M.Master.refused c.args.master.now in
    let now = g.M.Master.refused c.loop-leaf.master in
    let later = g.M.Master.refused c.turn.new.master in
    let turned = subst (λ (e : TurnEnd). TakesTurn d same now later patient c.next.new.self c.in-Some.leaf c.turn.new.progress e) c.in-Done.is c.in_ok-end.ensures.turned in (
      turn-loops d.instance.now d.graph.now strict before now j.turns c.requires.job.few c.loop-leaf.progress c.next.new.self c.in-Some.leaf c.loop-leaf.invariant.0 c.in-Some.ensures same c.loop-leaf.invariant.1
          (c.stops_at.ensures.goes_on c.if-stops_at.false) later c.turn.ensures.rises c.turn.new.progress turned,
      c.turn.ensures.strict_stays ∙ c.loop-leaf.invariant.1,
      record { tools = tools-later d c.loop-leaf.pool c.turn.new.pool c.turn.new.bench.workspace c.turn.ensures.tools; path = c.in_ok-end.ensures.path },
      grown-more c.args.pool.now c.loop-leaf.pool c.turn.new.pool c.loop-leaf.invariant.3 c.turn.ensures.tools.pool.grown,
      (λ h. c.stops_at.ensures.stays_patient (c.loop-leaf.invariant.4 h)),
      turn-reaches d.instance.now d.graph.now strict before now j.turns c.requires.job.few c.loop-leaf.progress c.next.new.self c.in-Some.leaf c.loop-leaf.invariant.0 c.in-Some.ensures same c.loop-leaf.invariant.1
          (c.stops_at.ensures.goes_on c.if-stops_at.false) later c.turn.new.progress turned
          j.start.shifts.now c.loop-leaf.invariant.5,
    )

pub returns-in_err-end-clause-rises : goal.returns-in_err-end-clause-rises
returns-in_err-end-clause-rises g c = let a = c.loop-leaf.invariant.0.rises in let b = c.turn.ensures.rises in omega (arith, a, b)

pub returns-in_err-end-clause-strict_stays : goal.returns-in_err-end-clause-strict_stays
returns-in_err-end-clause-strict_stays g c = c.turn.ensures.strict_stays ∙ c.loop-leaf.invariant.1

pub found-requires-2-clause-end : goal.found-requires-2-clause-end
found-requires-2-clause-end g c = (
  record {
    graph = c.args.job.now.searched.day.graph.now;
    strict = g.M.Master.strict c.args.master.now;
    before = g.M.Master.refused c.args.master.now;
    now = g.M.Master.refused c.loop-leaf.master;
    turns = c.args.job.now.turns;
  },
  closed-end c.args.job.now.searched.day.instance.now c.requires.job.searched.is.day.sound c.requires.job.searched.is.busy c.requires.arcs c.args.job.now.searched.day.graph.now c.requires.job.searched.is.day.graph (g.M.Master.strict c.args.master.now) (g.M.Master.refused c.args.master.now) (g.M.Master.refused c.loop-leaf.master) c.args.job.now.turns c.requires.job.few
      c.loop-leaf.progress c.next.new.self.tree c.next.new.self.best c.loop-leaf.invariant.0 c.in_default.ensures c.closed_end-bound.result c.closed_end-bound.ensures,
)

pub returns-clause-rises : goal.returns-clause-rises
returns-clause-rises g c = c.loop-leaf.invariant.0.rises

pub returns-clause-strict_stays : goal.returns-clause-strict_stays
returns-clause-strict_stays g c = c.loop-leaf.invariant.1

pub returns-then-stops_at-clause-found : goal.returns-then-stops_at-clause-found
returns-then-stops_at-clause-found g c =
    let j = c.args.job.now in
    let i = j.searched.day.instance.now in
    let v = j.searched.day.graph.now in
    let is = c.requires.job in
    let patient = g.W.Watch.patient c.args.watch.now in
    let strict = g.M.Master.strict c.args.master.now in
    let before = g.M.Master.refused c.args.master.now in
    let now = g.M.Master.refused c.loop-leaf.master in
    let end = stopped-end i v strict before now j.turns is.few c.loop-leaf.progress c.next.new.self c.in-Some.leaf c.loop-leaf.invariant.0 c.in-Some.ensures is.searched.is.day.sound is.searched.is.busy c.requires.arcs in
    let asks : AsksEnd i = record { graph = v; strict = strict; before = before; now = now; turns = c.next.new.self.tree.processed } in
    let reach = subst (λ (best : Option Roster). ReachesOld i j.start.shifts.now best) (sym c.in-Some.ensures.best) c.loop-leaf.invariant.5 in
    let may = c.stops_at.ensures.stops c.if-stops_at.true in
    both-ok c.found.result (IsFoundAtEnd i c.next.new.self (Some c.in-Some.leaf.bound) TurnsOut) (λ f. f.cert.cost ≡ cost_of c.next.new.self.best) (IsJobDone j patient strict before now)
    (λ f h cost. record {
      found = record { used = c.next.new.self.tree.processed; few = end.0; whole = λ patience. may (c.loop-leaf.invariant.4 patience); holds = (h asks end.1).0 };
      falls = no-dearer i is.searched.is.day.sound j.start.shifts.now c.next.new.self.best reach f.cert.cost cost;
      counted = (h asks end.1).1;
    }) c.found.ensures.found c.found.ensures.cost

pub returns-clause-found : goal.returns-clause-found
returns-clause-found g c =
    let j = c.args.job.now in
    let i = j.searched.day.instance.now in
    let v = j.searched.day.graph.now in
    let is = c.requires.job in
    let patient = g.W.Watch.patient c.args.watch.now in
    let strict = g.M.Master.strict c.args.master.now in
    let before = g.M.Master.refused c.args.master.now in
    let now = g.M.Master.refused c.loop-leaf.master in
    let end = closed-end i is.searched.is.day.sound is.searched.is.busy c.requires.arcs v is.searched.is.day.graph strict before now j.turns is.few c.loop-leaf.progress c.next.new.self.tree c.next.new.self.best c.loop-leaf.invariant.0 c.in_default.ensures c.closed_end-bound.result c.closed_end-bound.ensures in
    let asks : AsksEnd i = record { graph = v; strict = strict; before = before; now = now; turns = j.turns } in
    let reach = subst (λ (best : Option Roster). ReachesOld i j.start.shifts.now best) (sym c.in_default.ensures.best) c.loop-leaf.invariant.5 in
    both-ok c.found-2.result (IsFoundAtEnd i c.next.new.self c.closed_end-bound.result.0 c.closed_end-bound.result.1) (λ f. f.cert.cost ≡ cost_of c.next.new.self.best) (IsJobDone j patient strict before now)
    (λ f h cost. record {
      found = within-all patient j.turns (λ k. IsFound i strict k f) (h asks end).0;
      falls = no-dearer i is.searched.is.day.sound j.start.shifts.now c.next.new.self.best reach f.cert.cost cost;
      counted = (h asks end).1;
    }) c.found-2.ensures.found c.found-2.ensures.cost

pub returns-then-stops_at-clause-pool : goal.returns-then-stops_at-clause-pool
returns-then-stops_at-clause-pool g c = record { are = c.loop-leaf.invariant.2.tools.pool; grown = c.loop-leaf.invariant.3 }

pub returns-clause-pool : goal.returns-clause-pool
returns-clause-pool g c = record { are = c.loop-leaf.invariant.2.tools.pool; grown = c.loop-leaf.invariant.3 }

pub returns-in_err-end-clause-pool : goal.returns-in_err-end-clause-pool
returns-in_err-end-clause-pool g c = record { are = c.turn.ensures.tools.pool.are; grown = grown-more c.args.pool.now c.loop-leaf.pool c.turn.new.pool c.loop-leaf.invariant.3 c.turn.ensures.tools.pool.grown }

pub turn-requires-clause-bench : goal.turn-requires-clause-bench
turn-requires-clause-bench g c = c.loop-leaf.invariant.2

pub begin-requires-clause-tools : goal.begin-requires-clause-tools
begin-requires-clause-tools g c = c.requires.bench.tools

pub returns-in_err-progress-clause-pool : goal.returns-in_err-progress-clause-pool
returns-in_err-progress-clause-pool g c = c.begin.ensures.tools.pool

pub halted-requires-clause-halted : goal.halted-requires-clause-halted
halted-requires-clause-halted g c =
    let j = c.args.job.now in
    let d = j.searched.day in
    let strict = g.M.Master.strict c.args.master.now in
    let same = g.M.Master.strict c.loop-leaf.master in
    let patient = g.W.Watch.patient c.stops_at.new.watch in
    let before = g.M.Master.refused c.args.master.now in
    let now = g.M.Master.refused c.loop-leaf.master in
    let later = g.M.Master.refused c.turn.new.master in
    let stopped = subst (λ (e : TurnEnd). TakesTurn d same now later patient c.next.new.self c.in-Some.leaf c.turn.new.progress e) c.in-Stopped.is c.in_ok-end.ensures.turned in
    let halts = turn-halts d.instance.now d.graph.now strict before now j.turns c.requires.job.few c.loop-leaf.progress c.next.new.self c.in-Some.leaf c.loop-leaf.invariant.0 c.in-Some.ensures same c.loop-leaf.invariant.1
    (c.stops_at.ensures.goes_on c.if-stops_at.false) later patient c.turn.new.progress c.in-Stopped.leaf stopped c.requires.job.searched.is.day.graph c.requires.job.searched.is.busy c.requires.arcs in
    let asks : AsksEnd d.instance.now = record { graph = d.graph.now; strict = strict; before = before; now = later; turns = c.turn.new.progress.tree.processed } in
    (asks, halts.halted)

pub returns-in-Stopped-clause-found : goal.returns-in-Stopped-clause-found
returns-in-Stopped-clause-found g c =
    let j = c.args.job.now in
    let d = j.searched.day in
    let strict = g.M.Master.strict c.args.master.now in
    let same = g.M.Master.strict c.loop-leaf.master in
    let patient = g.W.Watch.patient c.stops_at.new.watch in
    let before = g.M.Master.refused c.args.master.now in
    let now = g.M.Master.refused c.loop-leaf.master in
    let later = g.M.Master.refused c.turn.new.master in
    let stopped = subst (λ (e : TurnEnd). TakesTurn d same now later patient c.next.new.self c.in-Some.leaf c.turn.new.progress e) c.in-Stopped.is c.in_ok-end.ensures.turned in
    let halts = turn-halts d.instance.now d.graph.now strict before now j.turns c.requires.job.few c.loop-leaf.progress c.next.new.self c.in-Some.leaf c.loop-leaf.invariant.0 c.in-Some.ensures same c.loop-leaf.invariant.1
    (c.stops_at.ensures.goes_on c.if-stops_at.false) later patient c.turn.new.progress c.in-Stopped.leaf stopped c.requires.job.searched.is.day.graph c.requires.job.searched.is.busy c.requires.arcs in
    let asks : AsksEnd d.instance.now = record { graph = d.graph.now; strict = strict; before = before; now = later; turns = c.turn.new.progress.tree.processed } in
    let i = d.instance.now in
    let calm = g.W.Watch.patient c.args.watch.now in
    let best = c.turn.new.progress.best in
    let reach : ReachesOld i j.start.shifts.now best = λ x costs. let f = halts.falls in let r = c.loop-leaf.invariant.5 x costs in omega (arith, f, r) in
    both-ok c.halted.result (IsFoundHalted i c.turn.new.progress c.in-Stopped.leaf) (λ f. f.cert.cost ≡ cost_of best) (IsJobDone j calm strict before later)
    (λ f h cost. record {
      found = record { used = c.turn.new.progress.tree.processed; few = halts.few; whole = λ patience. absurd (halts.restless (c.stops_at.ensures.stays_patient (c.loop-leaf.invariant.4 patience))); holds = (h asks halts.halted).0 };
      falls = no-dearer i c.requires.job.searched.is.day.sound j.start.shifts.now best reach f.cert.cost cost;
      counted = (h asks halts.halted).1;
    }) c.halted.ensures.found c.halted.ensures.cost

pub returns-in-Stopped-clause-pool : goal.returns-in-Stopped-clause-pool
returns-in-Stopped-clause-pool g c = record { are = c.turn.ensures.tools.pool.are; grown = grown-more c.args.pool.now c.loop-leaf.pool c.turn.new.pool c.loop-leaf.invariant.3 c.turn.ensures.tools.pool.grown }

pub returns-in-Stopped-clause-rises : goal.returns-in-Stopped-clause-rises
returns-in-Stopped-clause-rises g c = let a = c.loop-leaf.invariant.0.rises in let b = c.turn.ensures.rises in omega (arith, a, b)

pub returns-in-Stopped-clause-strict_stays : goal.returns-in-Stopped-clause-strict_stays
returns-in-Stopped-clause-strict_stays g c = c.turn.ensures.strict_stays ∙ c.loop-leaf.invariant.1

pub halted_at_root-requires-clause-halted : goal.halted_at_root-requires-clause-halted
halted_at_root-requires-clause-halted g c =
    let j = c.args.job.now in
    let d = j.searched.day in
    let strict = g.M.Master.strict c.args.master.now in
    let same = g.M.Master.strict c.loop-leaf.master in
    let patient = g.W.Watch.patient c.stops_at.new.watch in
    let before = g.M.Master.refused c.args.master.now in
    let now = g.M.Master.refused c.loop-leaf.master in
    let later = g.M.Master.refused c.turn.new.master in
    let stopped = subst (λ (e : TurnEnd). TakesTurn d same now later patient c.next.new.self c.in-Some.leaf c.turn.new.progress e) c.in-StoppedAtRoot.is c.in_ok-end.ensures.turned in
    (turn-halts-at-root d.instance.now d.graph.now strict before now j.turns c.requires.job.few c.loop-leaf.progress c.next.new.self c.in-Some.leaf c.loop-leaf.invariant.0 c.in-Some.ensures same c.loop-leaf.invariant.1
    (c.stops_at.ensures.goes_on c.if-stops_at.false) later patient c.turn.new.progress c.in-StoppedAtRoot.root stopped).halted

pub returns-in-StoppedAtRoot-clause-found : goal.returns-in-StoppedAtRoot-clause-found
returns-in-StoppedAtRoot-clause-found g c =
    let j = c.args.job.now in
    let d = j.searched.day in
    let i = d.instance.now in
    let strict = g.M.Master.strict c.args.master.now in
    let same = g.M.Master.strict c.loop-leaf.master in
    let patient = g.W.Watch.patient c.stops_at.new.watch in
    let before = g.M.Master.refused c.args.master.now in
    let now = g.M.Master.refused c.loop-leaf.master in
    let later = g.M.Master.refused c.turn.new.master in
    let calm = g.W.Watch.patient c.args.watch.now in
    let best = c.turn.new.progress.best in
    let stopped = subst (λ (e : TurnEnd). TakesTurn d same now later patient c.next.new.self c.in-Some.leaf c.turn.new.progress e) c.in-StoppedAtRoot.is c.in_ok-end.ensures.turned in
    let halts = turn-halts-at-root i d.graph.now strict before now j.turns c.requires.job.few c.loop-leaf.progress c.next.new.self c.in-Some.leaf c.loop-leaf.invariant.0 c.in-Some.ensures same c.loop-leaf.invariant.1
    (c.stops_at.ensures.goes_on c.if-stops_at.false) later patient c.turn.new.progress c.in-StoppedAtRoot.root stopped in
    let reach : ReachesOld i j.start.shifts.now best = λ x costs. let f = halts.falls in let r = c.loop-leaf.invariant.5 x costs in omega (arith, f, r) in
    let rises : before ≤ later = let a = c.loop-leaf.invariant.0.rises in let b = c.turn.ensures.rises in omega (arith, a, b) in
    both-ok c.halted_at_root.result (IsFoundHaltedAtRoot i) (λ f. f.cert.cost ≡ cost_of best) (IsJobDone j calm strict before later)
    (λ f h cost. record {
      found = record { used = 0; few = omega arith; whole = λ patience. absurd (halts.restless (c.stops_at.ensures.stays_patient (c.loop-leaf.invariant.4 patience))); holds = h.found strict };
      falls = no-dearer i c.requires.job.searched.is.day.sound j.start.shifts.now best reach f.cert.cost cost;
      counted = h.counted before later rises;
    }) c.halted_at_root.ensures.found c.halted_at_root.ensures.cost

pub returns-in-StoppedAtRoot-clause-pool : goal.returns-in-StoppedAtRoot-clause-pool
returns-in-StoppedAtRoot-clause-pool g c = record { are = c.turn.ensures.tools.pool.are; grown = grown-more c.args.pool.now c.loop-leaf.pool c.turn.new.pool c.loop-leaf.invariant.3 c.turn.ensures.tools.pool.grown }

pub returns-in-StoppedAtRoot-clause-rises : goal.returns-in-StoppedAtRoot-clause-rises
returns-in-StoppedAtRoot-clause-rises g c = let a = c.loop-leaf.invariant.0.rises in let b = c.turn.ensures.rises in omega (arith, a, b)

pub returns-in-StoppedAtRoot-clause-strict_stays : goal.returns-in-StoppedAtRoot-clause-strict_stays
returns-in-StoppedAtRoot-clause-strict_stays g c = c.turn.ensures.strict_stays ∙ c.loop-leaf.invariant.1
