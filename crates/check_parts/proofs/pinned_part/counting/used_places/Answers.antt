use Rattle.std.proofs.Common.{arith, ◌≡◌, ◌≢◌, ◌<◌, ◌+◌, length, refl, ap, sym, ◌∙◌, subst}
use Rattle.std.specs.Prelude.{drop}
use Rattle.std.proofs.lemmas.Option.{same_Some}
use Rattle.model_rosters.specs.declared.grammar.Rule.{Rule}
use Rattle.model_rosters.specs.declared.grammar.Sym.TheVariants.{Code}
use Rattle.model_rosters.specs.arc_laws.OrNodes.{right_of, used_by}
use Rattle.model_rosters.proofs.arc_laws.BalanceLemmas.{right_of-is}
use Rattle.check_parts.proofs.pinned_part.PlacesLemmas.{used-more}
use Rattle.check_parts.proofs.pinned_part.counting.used_places.Goals as goal

pub returns-else-from-right-2-clause-places : goal.returns-else-from-right-2-clause-places
returns-else-from-right-2-clause-places c =
    let a = c.args.arc.now in
    let xs = c.as_slice-right.result.now in
    let e : right_of c.args.grammar.now c.args.arc.now.rule ≡ c.as_slice-right.result.now = right_of-is c.args.grammar.now a.rule c.rule_of.result.now c.rule_of.ensures ∙ sym c.as_slice-right.ensures in
    let same = same_Some c.requires.shaped.rule c.rule_of.result.now (sym c.requires.shaped.at ∙ c.rule_of.ensures) in
    let within : c.args.arc.now.suffix < length c.rule_of.result.now.right = subst (λ (r : Rule). c.args.arc.now.suffix < length r.right) same c.requires.shaped.symbol in
    let long = ap length c.as_slice-right.ensures in
    let one : c.args.arc.now.suffix + 1 ≢ length c.as_slice-right.result.now = c.if-from-right.false in
    let two : c.args.arc.now.suffix + 2 ≢ length c.as_slice-right.result.now = c.if-from-right-2.false in
    let u = ap (λ ss. used_by (drop a.suffix ss) a) e ∙ used-more xs a (Code 0) _ (omega (arith, within, long, one, two)) refl in
    rw (u, c.symbol_place-first.ensures.place, c.suffix_place-rest.ensures.place) refl
