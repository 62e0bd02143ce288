use Rattle.std.proofs.Common.{arith, pos, ◌∙◌}
use Rattle.std.specs.Prelude.{◌≤ℤ◌, ◌<ℤ◌}
use Rattle.std.proofs.lemmas.Int.{ints}
use Rattle.model_rosters.specs.declared.instance.Mult.{Mult}
use Rattle.model_rosters.proofs.Mults.{nonzero-all}
use Rattle.model_rosters.proofs.EachLemmas.{Each-weaker}
use Rattle.search_primal.proofs.shortening.shorten.Goals as goal

pub set_parts-requires-clause-few : goal.set_parts-requires-clause-few
set_parts-requires-clause-few c =
    let listed = Each-weaker (λ (m : Mult). pos 0 <ℤ m.value) (λ (m : Mult). pos 1 ≤ℤ m.value) c.args.prices.now.mult (λ m h. omega (arith, ints, h)) c.requires.prices.positive in
    let all = nonzero-all c.args.prices.now.mult listed in
    rw c.as_slice-mult.ensures (omega (arith, all, c.requires.prices.fit.few, c.requires.workspace.most))

pub returns-in_default : goal.returns-in_default
returns-in_default c =
    let k = c.requires.workspace in
    record { workspace = record { pricing = k.pricing; most = k.most; rosters = k.rosters; moves = record { short = c.keep_all.ensures.made; room = k.moves.room } } }

pub returns : goal.returns
returns c =
    let k = c.requires.workspace in
    record {
      workspace = record {
        pricing = record { pricer = k.pricing.pricer; room = c.set_parts.ensures.room };
        most = c.set_parts.ensures.most ∙ k.most;
        rosters = k.rosters;
        moves = record { short = c.keep.ensures.made; room = k.moves.room };
      };
    }
