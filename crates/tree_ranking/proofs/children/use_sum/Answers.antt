use Rattle.std.proofs.Common.{ℤ, ◌≡◌, ◌+ℤ◌, Some, None, sym, ap, subst, arith}
use Rattle.std.proofs.lemmas.Int.{ints}
use mir.Val.{to_z, of_z}
use mir.Syntax.{w128}
use Rattle.model_rosters.specs.declared.grammar.Sym.TheVariants.{Name}
use Rattle.model_rosters.specs.Grammar.{Stands}
use Rattle.tree_ranking.specs.declared.frame.Frame.{Frame}
use Rattle.tree_ranking.specs.Frames.{IsFrame, right_of, FrameLeast}
use Rattle.tree_ranking.proofs.FrameLemmas.{symbol-here}
use Rattle.tree_ranking.proofs.UseLemmas.{frame-inside, no-others, no-inner}
use Rattle.tree_ranking.proofs.children.use_sum.Goals as goal

pub returns-in_default-clause-value : goal.returns-in_default-clause-value
returns-in_default-clause-value g c =
    let f = c.args.frame in
    let p = g.P.LetterPrice.view c.args.prices.now in
    let name = symbol-here (right_of c.args.grammar.now f.suffix.rule) f.suffix.from (Name c.args.name) c.requires.symbol in
    no-others c.args.grammar.now p f c.args.name name c.args.number c.args.len
    (subst (λ (q : Frame). FrameLeast c.args.grammar.now (g.P.LetterPrice.view c.args.prices.now) q None) c.after.ensures c.in_default.ensures.least)

pub frame_least-requires-2-clause-frame : goal.frame_least-requires-2-clause-frame
frame_least-requires-2-clause-frame g c =
    let stands : Stands c.args.grammar.now.periods c.rule_of-rule.result.now c.args.frame.span.start c.args.len = c.may_stand.ensures.0 c.if-not-may_stand.false in
    subst (λ (q : Frame). IsFrame c.args.grammar.now q) (sym c.inside.ensures)
    (frame-inside c.args.grammar.now c.args.frame c.args.number c.args.len c.rule_of-rule.result.now c.requires.sums.sound c.requires.frame c.rule_of-rule.ensures stands)

pub returns-in_default-frame_least-clause-value : goal.returns-in_default-frame_least-clause-value
returns-in_default-frame_least-clause-value g c =
    let f = c.args.frame in
    let p = g.P.LetterPrice.view c.args.prices.now in
    let name = symbol-here (right_of c.args.grammar.now f.suffix.rule) f.suffix.from (Name c.args.name) c.requires.symbol in
    no-inner c.args.grammar.now p f c.args.name name c.args.number c.args.len
    (subst (λ (q : Frame). FrameLeast c.args.grammar.now (g.P.LetterPrice.view c.args.prices.now) q None) c.inside.ensures c.in_default-frame_least.ensures.least)

pub returns-clause-value : goal.returns-clause-value
returns-clause-value g c =
    let p = g.P.LetterPrice.view c.args.prices.now in
    let stands : Stands c.args.grammar.now.periods c.rule_of-rule.result.now c.args.frame.span.start c.args.len = c.may_stand.ensures.0 c.if-not-may_stand.false in
    let same : to_z w128 (of_z w128 (to_z w128 (of_z w128 (to_z w128 (of_z w128 c.rule.result) +ℤ to_z w128 (of_z w128 c.in-Some-frame_least.inner))) +ℤ to_z w128 (of_z w128 (to_z w128 (of_z w128 c.part_price-arc.result) +ℤ to_z w128 (of_z w128 c.in-Some.others)))))
    ≡ (c.rule.result +ℤ c.in-Some-frame_least.inner) +ℤ (c.part_price-arc.result +ℤ c.in-Some.others) = omega (arith, ints, c.rule.ensures.within, c.part_price-arc.ensures.within, c.in-Some.ensures.within, c.in-Some-frame_least.ensures.within) in
    rw same (record {
      rule = c.rule_of-rule.result.now;
      at = c.rule_of-rule.ensures;
      stands = stands;
      inner = c.in-Some-frame_least.inner;
      others = c.in-Some.others;
      arc = c.part_price-arc.result;
      inner_least = subst (λ (q : Frame). FrameLeast c.args.grammar.now (g.P.LetterPrice.view c.args.prices.now) q (Some c.in-Some-frame_least.inner)) c.inside.ensures c.in-Some-frame_least.ensures.least;
      others_least = subst (λ (q : Frame). FrameLeast c.args.grammar.now (g.P.LetterPrice.view c.args.prices.now) q (Some c.in-Some.others)) c.after.ensures c.in-Some.ensures.least;
      arcs = c.part_price-arc.ensures.value;
      sum = ap (λ (z : ℤ). (z +ℤ c.in-Some-frame_least.inner) +ℤ (c.part_price-arc.result +ℤ c.in-Some.others)) c.rule.ensures.value;
    })
