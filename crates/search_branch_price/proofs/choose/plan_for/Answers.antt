use Rattle.std.proofs.Common.{◌≡◌, ℕ, All, ◌<◌, List, [], arith, length, sym, subst}
use Rattle.std.proofs.lemmas.List.{append-nil}
use Rattle.model_rosters.specs.declared.instance.Cut.{Cut}
use Rattle.model_rosters.specs.Limits.{IsSmallCut}
use Rattle.model_rosters.proofs.EachLemmas.{Each-weaker}
use Rattle.law_bounds.specs.master_laws.Laws.{IsBelowHeads}
use Rattle.search_node_columns.specs.declared.weights.Weight.{Weight}
use Rattle.search_masters.specs.Ends.{AreSolved}
use Rattle.search_arc_weights.specs.Weighed.{IsWeighed}
use Rattle.search_arc_weights.specs.declared.weighed.Weighed.{Weighed}
use Rattle.search_arc_weights.specs.declared.weighed.Weighed.TheVariants.{Whole, Between, Other}
use Rattle.search_candidates.specs.Offers.{limit_of}
use Rattle.search_branch_price.proofs.StepsLemmas.{loose-within}
use Rattle.search_branch_price.proofs.PlansLemmas.{Reaches, weights-of, between-plan, other-anywhere, whole-each, whole-anywhere, left-plan, least-plan}
use Rattle.search_branch_price.proofs.choose.plan_for.Goals as goal

pub preferred_arc-requires-clause-small : goal.preferred_arc-requires-clause-small
preferred_arc-requires-clause-small g c =
    let few = c.requires.node.searched.is.day.sound.few in
    record {
      each = Each-weaker (IsBelowHeads c.args.node.now.searched.day.instance.now) IsSmallCut c.args.node.now.cuts.now (λ (k : Cut) h. omega (arith, h, few)) c.requires.shown.below;
      few = c.requires.shown.solved.few;
    }

pub weigh-requires : goal.weigh-requires
weigh-requires g c =
    let s = c.args.solved.now in
    let i = c.args.node.now.searched.day.instance.now in
    record {
      day = c.requires.node.searched.is.day;
      left = c.requires.node.left;
      pool = c.requires.find.tools.pool;
      weights = subst (λ (ws : List Weight). AreSolved s.solution i c.args.node.now.cuts.now c.args.pool.now ws) (sym c.as_slice-weights.ensures)
          (weights-of s.solution i c.args.node.now.cuts.now c.args.pool.now s.prices s.weights c.requires.shown.solved.how);
    }

pub plan_by_weights-requires-clause-node : goal.plan_by_weights-requires-clause-node
plan_by_weights-requires-clause-node g c =
    let s = c.args.solved.now in
    let i = c.args.node.now.searched.day.instance.now in
    record {
      day = c.requires.node.searched.is.day;
      left = c.requires.node.left;
      pool = c.requires.find.tools.pool;
      weights = subst (λ (ws : List Weight). AreSolved s.solution i c.args.node.now.cuts.now c.args.pool.now ws) (sym c.as_slice-weights.ensures)
          (weights-of s.solution i c.args.node.now.cuts.now c.args.pool.now s.prices s.weights c.requires.shown.solved.how);
    }

pub offer_rounded-requires-clause-weights : goal.offer_rounded-requires-clause-weights
offer_rounded-requires-clause-weights g c =
    subst (λ (ws : List Weight). All (λ (w : Weight). w.column < length c.args.pool.now) ws) (sym c.as_slice-weights.ensures) c.requires.shown.solved.within

pub returns-in-Between-clause-plan : goal.returns-in-Between-clause-plan
returns-in-Between-clause-plan g c =
    let i = c.args.node.now.searched.day.instance.now in
    let v = c.args.node.now.searched.day.graph.now in
    let cuts = c.args.node.now.cuts.now in
    let pool = c.args.pool.now in
    let s = c.args.solved.now in
    let told = subst (λ (ws : List Weight). IsWeighed i v cuts pool ws s.solution (Between c.in-Between.arc c.in-Between.b)) c.as_slice-weights.ensures
    (subst (λ (x : Weighed). IsWeighed i v cuts pool c.as_slice-weights.result.now s.solution x) c.in-Between.is c.in_ok-arc.ensures) in
    between-plan s.solution i v cuts pool s.prices s.weights c.in-Between.arc c.in-Between.b c.requires.node.searched.is.day.graph c.requires.shown.solved.how told

pub offer_counts-requires-clause-counts : goal.offer_counts-requires-clause-counts
offer_counts-requires-clause-counts g c =
    let i = c.args.node.now.searched.day.instance.now in
    let v = c.args.node.now.searched.day.graph.now in
    let cuts = c.args.node.now.cuts.now in
    let pool = c.args.pool.now in
    let s = c.args.solved.now in
    let told = subst (λ (ws : List Weight). IsWeighed i v cuts pool ws s.solution (Whole c.in-Whole.counts)) c.as_slice-weights.ensures
    (subst (λ (x : Weighed). IsWeighed i v cuts pool c.as_slice-weights.result.now s.solution x) c.in-Whole.is c.in_ok-arc.ensures) in
    subst (λ (xs : List ℕ). length xs ≡ length v.arcs) (sym c.as_slice.ensures) (whole-each s.solution i v cuts pool s.weights c.in-Whole.counts told)

pub returns-in-Whole-clause-plan : goal.returns-in-Whole-clause-plan
returns-in-Whole-clause-plan g c =
    let i = c.args.node.now.searched.day.instance.now in
    let v = c.args.node.now.searched.day.graph.now in
    let cuts = c.args.node.now.cuts.now in
    let pool = c.args.pool.now in
    let s = c.args.solved.now in
    let told = subst (λ (ws : List Weight). IsWeighed i v cuts pool ws s.solution (Whole c.in-Whole.counts)) c.as_slice-weights.ensures
    (subst (λ (x : Weighed). IsWeighed i v cuts pool c.as_slice-weights.result.now s.solution x) c.in-Whole.is c.in_ok-arc.ensures) in
    let limit = limit_of i c.offer_counts.new.best in
    let reaches : Reaches i v c.in-Whole.counts limit = subst (λ (xs : List ℕ). Reaches i v xs limit) c.as_slice.ensures c.in_ok-offer_counts-in-Whole.ensures.reached in
    left-plan i v cuts s.prices c.args.node.now.arc_box.now c.in_ok-plan-in-Whole.plan c.requires.node.searched.is.day.graph c.requires.node.left c.in_ok-plan-in-Whole.ensures
    (whole-anywhere i v cuts pool s c.args.value limit c.in-Whole.counts c.requires.node.searched.is.day.sound c.requires.node.searched.is.busy c.requires.node.searched.is.day.graph c.requires.shown told reaches (rw c.limit-in-Whole.ensures at c.if-limit-value-2.false))

pub at_least-requires : goal.at_least-requires
at_least-requires g c =
    let lt = loose-within c.args.node.now.searched.day.instance.now c.args.node.now.searched.day.graph.now c.args.node.now.cuts.now c.args.node.now.arc_box.now c.requires.node.left c.args.node.now.loose c.requires.node.loose in
    subst (λ (n : ℕ). c.args.node.now.loose < n) (sym c.requires.node.left.made.arcs) lt

pub returns-clause-plan : goal.returns-clause-plan
returns-clause-plan g c =
    let i = c.args.node.now.searched.day.instance.now in
    let v = c.args.node.now.searched.day.graph.now in
    let cuts = c.args.node.now.cuts.now in
    let pool = c.args.pool.now in
    let s = c.args.solved.now in
    let told = subst (λ (ws : List Weight). IsWeighed i v cuts pool ws s.solution (Other)) c.as_slice-weights.ensures
    (subst (λ (x : Weighed). IsWeighed i v cuts pool c.as_slice-weights.result.now s.solution x) c.in-Other.is c.in_ok-arc.ensures) in
    least-plan i v cuts s.prices c.args.node.now.loose c.args.node.now.arc_box.now c.at_least.result c.requires.node.searched.is.day.graph c.requires.node.left c.requires.node.loose c.at_least.ensures
    (other-anywhere s.solution i v cuts pool s.prices s.weights c.requires.shown.solved.how told)

pub offer_rounded-requires-clause-offer : goal.offer_rounded-requires-clause-offer
offer_rounded-requires-clause-offer g c = record { rosters = c.requires.find.tools.workspace.rosters; good = c.requires.find.good }

pub offer_counts-requires-clause-tools : goal.offer_counts-requires-clause-tools
offer_counts-requires-clause-tools g c = record { pool = c.requires.find.tools.pool; workspace = c.requires.find.tools.workspace.rosters }

pub returns-in-Between-clause-found : goal.returns-in-Between-clause-found
returns-in-Between-clause-found g c =
    let k = c.requires.find.tools.workspace in
    let t = c.requires.find.tools in
    record {
      tools = record { pool = record { are = t.pool; grown = ([], sym (append-nil c.args.pool.now)) }; workspace = record { pricing = k.pricing; most = k.most; rosters = c.offer_rounded.ensures.rosters; moves = k.moves } };
      better = c.offer_rounded.ensures.better;
    }

pub returns-in-Whole-clause-found : goal.returns-in-Whole-clause-found
returns-in-Whole-clause-found g c =
    let k = c.requires.find.tools.workspace in
    let t = c.offer_counts.ensures.tools in
    record { tools = record { pool = t.pool; workspace = record { pricing = k.pricing; most = k.most; rosters = t.workspace; moves = k.moves } }; better = c.offer_counts.ensures.better }
