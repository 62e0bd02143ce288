use Rattle.std.proofs.Common.{arith, ◌≢◌, ◌<◌, ◌+◌, ◌-◌, List, length, get_or, refl, ap, sym, subst, ◌∙◌, inl, inr}
use Rattle.std.proofs.lemmas.Option.{same_Some}
use Rattle.model_rosters.specs.declared.grammar.Rule.{Rule}
use Rattle.model_rosters.specs.declared.grammar.Sym.TheVariants.{Code}
use Rattle.model_rosters.specs.Folds.{In}
use Rattle.model_rosters.specs.arc_laws.OrNodes.{OrNode, suffix}
use Rattle.tree_graph.proofs.ArcUsesLemmas.{used-more}
use Rattle.tree_graph.proofs.links.kids_of.Goals as goal

pub node_kid-rest-requires-clause-listed : goal.node_kid-rest-requires-clause-listed
node_kid-rest-requires-clause-listed c =
    let a = c.args.arc.now in
    let xs = c.as_slice-right.result.now in
    let same = same_Some c.requires.shaped.rule c.rule_of.result.now (sym c.requires.shaped.at ∙ c.rule_of.ensures) in
    let within : c.args.arc.now.suffix < length c.rule_of.result.now.right = subst (λ (r : Rule). c.args.arc.now.suffix < length r.right) same c.requires.shaped.symbol in
    let long = ap length c.as_slice-right.ensures in
    let one : c.args.arc.now.suffix + 1 ≢ length c.as_slice-right.result.now = c.if-from-right.false in
    let two : c.args.arc.now.suffix + 2 ≢ length c.as_slice-right.result.now = c.if-from-right-2.false in
    let e = used-more c.args.grammar.now a c.rule_of.result.now c.rule_of.ensures xs c.as_slice-right.ensures (Code 0) (get_or xs a.suffix (Code 0)) refl (omega (arith, within, long, one, two)) in
    let o = suffix a.rule (a.suffix + 1) (a.start + a.part) (a.len - a.part) in
    c.requires.uses o (subst (λ (os : List OrNode). In o os) (sym e) (inr (inl refl)))

pub returns : goal.returns
returns c =
    let a = c.args.arc.now in
    let xs = c.as_slice-right.result.now in
    let same = same_Some c.requires.shaped.rule c.rule_of.result.now (sym c.requires.shaped.at ∙ c.rule_of.ensures) in
    let within : c.args.arc.now.suffix < length c.rule_of.result.now.right = subst (λ (r : Rule). c.args.arc.now.suffix < length r.right) same c.requires.shaped.symbol in
    let long = ap length c.as_slice-right.ensures in
    let one : c.args.arc.now.suffix + 1 ≢ length c.as_slice-right.result.now = c.if-from-right.false in
    let two : c.args.arc.now.suffix + 2 ≢ length c.as_slice-right.result.now = c.if-from-right-2.false in
    let e = used-more c.args.grammar.now a c.rule_of.result.now c.rule_of.ensures xs c.as_slice-right.ensures (Code 0) (get_or xs a.suffix (Code 0)) refl (omega (arith, within, long, one, two)) in
    rw e (c.symbol_kid-first.ensures, c.node_kid-rest.ensures)
