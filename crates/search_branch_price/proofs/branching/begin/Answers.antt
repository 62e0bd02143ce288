use Rattle.std.proofs.Common.{◌∙◌, arith}
use Rattle.search_primal.proofs.BetterRosters.{better-more}
use Rattle.search_primal.proofs.ToolsLemmas.{grows-more}
use Rattle.search_branch_price.proofs.EndsLemmas.{begun-is}
use Rattle.search_branch_price.proofs.branching.begin.Goals as goal

pub offer_start-requires-clause-find : goal.offer_start-requires-clause-find
offer_start-requires-clause-find g c =
    let t = c.least_roster.ensures.tools in
    let p = c.least_roster.ensures.pricing in
    record {
      tools = record { pool = t.pool.are; workspace = record { pricing = p.are; most = p.most ∙ c.requires.tools.workspace.most; rosters = t.workspace; moves = c.requires.tools.workspace.moves } };
      good = c.in_ok-best.ensures.roster.good;
    }

pub offer_early-requires-clause-workspace : goal.offer_early-requires-clause-workspace
offer_early-requires-clause-workspace g c = c.offer_start.ensures.found.tools.workspace

pub offer_early-requires-clause-good : goal.offer_early-requires-clause-good
offer_early-requires-clause-good g c = c.offer_start.ensures.found.better.good

pub returns-clause-begun : goal.returns-clause-begun
returns-clause-begun g c =
    let i = c.args.job.now.searched.day.instance.now in
    let better = better-more i c.in_ok-best.best c.offer_start.new.best c.offer_early.new.best c.offer_start.ensures.found.better c.offer_early.ensures.better in
    begun-is i c.args.job.now.searched.day.graph.now c.in_ok-new.field-0 c.offer_early.new.best c.in_ok-new.ensures.tree c.in_ok-new.ensures.none better.good
    (λ has. better.start (c.in_ok-best.ensures.roster.start has))

pub returns-clause-reaches : goal.returns-clause-reaches
returns-clause-reaches g c = λ x costs. let r = c.in_ok-has_old.ensures.reaches x costs in let f = c.offer_early.ensures.better.falls in omega (arith, f, r)

pub returns-in_err-best-clause-tools : goal.returns-in_err-best-clause-tools
returns-in_err-best-clause-tools g c =
    let t = c.least_roster.ensures.tools in
    let p = c.least_roster.ensures.pricing in
    record { pool = t.pool; workspace = record { pricing = p.are; most = p.most ∙ c.requires.tools.workspace.most; rosters = t.workspace; moves = c.requires.tools.workspace.moves } }

pub returns-in_err-has_old-clause-tools : goal.returns-in_err-has_old-clause-tools
returns-in_err-has_old-clause-tools g c = record {
  pool = grows-more c.args.job.now.searched.day c.args.pool.now c.least_roster.new.pool c.offer_start.new.pool c.least_roster.ensures.tools.pool c.offer_start.ensures.found.tools.pool;
  workspace = c.offer_start.ensures.found.tools.workspace;
}

pub returns-in_err-offer_early-clause-tools : goal.returns-in_err-offer_early-clause-tools
returns-in_err-offer_early-clause-tools g c = record {
  pool = grows-more c.args.job.now.searched.day c.args.pool.now c.least_roster.new.pool c.offer_start.new.pool c.least_roster.ensures.tools.pool c.offer_start.ensures.found.tools.pool;
  workspace = c.offer_early.ensures.workspace;
}

pub returns-in_err-new-clause-tools : goal.returns-in_err-new-clause-tools
returns-in_err-new-clause-tools g c = record {
  pool = grows-more c.args.job.now.searched.day c.args.pool.now c.least_roster.new.pool c.offer_start.new.pool c.least_roster.ensures.tools.pool c.offer_start.ensures.found.tools.pool;
  workspace = c.offer_early.ensures.workspace;
}

pub returns-clause-tools : goal.returns-clause-tools
returns-clause-tools g c = record {
  pool = grows-more c.args.job.now.searched.day c.args.pool.now c.least_roster.new.pool c.offer_start.new.pool c.least_roster.ensures.tools.pool c.offer_start.ensures.found.tools.pool;
  workspace = c.offer_early.ensures.workspace;
}
