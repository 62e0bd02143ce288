use Rattle.std.proofs.Common.{◌<◌, ◌+◌, ◌-◌, arith, length, get_or, refl, sym, ap, subst, ◌∙◌}
use Rattle.std.proofs.lemmas.Option.{same_Some}
use Rattle.model_rosters.specs.declared.grammar.Rule.{Rule}
use Rattle.model_rosters.specs.declared.grammar.Sym.TheVariants.{Code}
use Rattle.model_rosters.specs.arc_laws.OrNodes.{symbol_node}
use Rattle.tree_findings.specs.Marks.{IsMarkOf, IsCodeOf}
use Rattle.tree_findings.proofs.MarksLemmas.{first-sets, two-used, used-both, sets-then}
use Rattle.tree_findings.proofs.letters.mark_letters.Goals as goal

pub returns-then-from-right-clause-letters : goal.returns-then-from-right-clause-letters
returns-then-from-right-clause-letters c =
    let g = c.args.grammar.now in
    let a = c.args.arc.now in
    let xs = c.as_slice-right.result.now in
    let same = same_Some c.requires.shaped.rule c.rule_of.result.now (sym c.requires.shaped.at ∙ c.rule_of.ensures) in
    let within : c.args.arc.now.suffix < length c.rule_of.result.now.right = subst (λ (r : Rule). c.args.arc.now.suffix < length r.right) same c.requires.shaped.symbol in
    let long = ap length c.as_slice-right.ensures in
    first-sets g a c.rule_of.result.now c.rule_of.ensures xs c.as_slice-right.ensures (Code 0) (get_or xs a.suffix (Code 0)) refl IsMarkOf c.args.letters.now c.mark_symbol.new.letters
    (λ r k i l q m. m) (omega (arith, within, long)) c.if-from-right.true (c.mark_symbol.ensures.letters a.part)

pub returns-then-from-right-clause-codes : goal.returns-then-from-right-clause-codes
returns-then-from-right-clause-codes c =
    let g = c.args.grammar.now in
    let a = c.args.arc.now in
    let xs = c.as_slice-right.result.now in
    let same = same_Some c.requires.shaped.rule c.rule_of.result.now (sym c.requires.shaped.at ∙ c.rule_of.ensures) in
    let within : c.args.arc.now.suffix < length c.rule_of.result.now.right = subst (λ (r : Rule). c.args.arc.now.suffix < length r.right) same c.requires.shaped.symbol in
    let long = ap length c.as_slice-right.ensures in
    first-sets g a c.rule_of.result.now c.rule_of.ensures xs c.as_slice-right.ensures (Code 0) (get_or xs a.suffix (Code 0)) refl IsCodeOf c.args.codes.now c.mark_symbol.new.codes
    (λ r k i l q m. m) (omega (arith, within, long)) c.if-from-right.true (c.mark_symbol.ensures.codes a.part)

pub returns-clause-letters : goal.returns-clause-letters
returns-clause-letters c =
    let g = c.args.grammar.now in
    let a = c.args.arc.now in
    let xs = c.as_slice-right.result.now in
    let s = get_or xs a.suffix (Code 0) in
    let x = get_or xs (a.suffix + 1) (Code 0) in
    let o = symbol_node s a.start a.part in
    let p = symbol_node x (a.start + a.part) (a.len - a.part) in
    let e = two-used g a c.rule_of.result.now c.rule_of.ensures xs c.as_slice-right.ensures (Code 0) s refl x c.if-from-right.false refl in
    used-both g a IsMarkOf c.args.letters.now c.mark_symbol-2.new.letters o p e
    (sets-then (IsMarkOf o) (IsMarkOf p) c.args.letters.now c.mark_symbol.new.letters c.mark_symbol-2.new.letters (c.mark_symbol.ensures.letters a.part) (c.mark_symbol-2.ensures.letters (a.len - a.part)))

pub returns-clause-codes : goal.returns-clause-codes
returns-clause-codes c =
    let g = c.args.grammar.now in
    let a = c.args.arc.now in
    let xs = c.as_slice-right.result.now in
    let s = get_or xs a.suffix (Code 0) in
    let x = get_or xs (a.suffix + 1) (Code 0) in
    let o = symbol_node s a.start a.part in
    let p = symbol_node x (a.start + a.part) (a.len - a.part) in
    let e = two-used g a c.rule_of.result.now c.rule_of.ensures xs c.as_slice-right.ensures (Code 0) s refl x c.if-from-right.false refl in
    used-both g a IsCodeOf c.args.codes.now c.mark_symbol-2.new.codes o p e
    (sets-then (IsCodeOf o) (IsCodeOf p) c.args.codes.now c.mark_symbol.new.codes c.mark_symbol-2.new.codes (c.mark_symbol.ensures.codes a.part) (c.mark_symbol-2.ensures.codes (a.len - a.part)))
