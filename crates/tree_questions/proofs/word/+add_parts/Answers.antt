use Rattle.std.proofs.Common.{arith, ◌≡◌, ◌∷◌, ◌++◌, ◌∙◌, ℕ, ◌+◌, ◌*◌, ◌<◌, ◌≤◌, length, List, ap, sym, subst}
use Rattle.std.proofs.lemmas.Result.{IfOk-weaker}
use Rattle.model_rosters.specs.declared.grammar.Step.{Step}
use Rattle.model_rosters.specs.declared.grammar.Sym.{Sym}
use Rattle.model_rosters.specs.declared.grammar.Sym.TheVariants.{Name}
use Rattle.model_rosters.specs.Trees.{Parts, Derive, steps}
use Rattle.model_rosters.proofs.tree_laws.Rules.{sound-rule}
use Rattle.model_rosters.specs.tree_laws.DaySteps.{AsksParts}
use Rattle.model_rosters.proofs.tree_laws.DayStepsLemmas.{name-inner, name-others, name-fewer}
use Rattle.tree_questions.specs.Spelled.{GivesWord}
use Rattle.tree_questions.proofs.SpelledLemmas.{name-gives}
use Rattle.tree_questions.proofs.word.+add_parts.Goals as goal

pub add_parts-requires-in-Name : goal.add_parts-requires-in-Name
add_parts-requires-in-Name t c =
    let g = c.args.grammar.now in
    let x = c.in-Name.field-0 in
    let named : c.args.symbols.now ≡ Name x ∷ c.in-Some.others.now = c.in-Some.ensures ∙ ap (λ (s : Sym). s ∷ c.in-Some.others.now) c.in-Name.is in
    let asks = subst (λ (ss : List Sym). AsksParts g ss c.args.steps.now) named c.requires.parts in
    let eight : length c.as_slice.result.now ≤ 8 = omega (arith, ap length c.as_slice.ensures, (sound-rule g c.requires.sound c.in-Some-first_and_rest.step.rule c.rule_of-rule.result.now c.rule_of-rule.ensures).eight) in
    let some = ap length named in
    let count = ap length c.in-Some-first_and_rest.ensures in
    let inner = name-inner g x c.in-Some.others.now c.in-Some-first_and_rest.step c.args.steps.now c.in-Some-first_and_rest.below.now c.in-Some-first_and_rest.ensures c.rule_of-rule.result.now c.rule_of-rule.ensures asks in (
      subst (λ (n : ℕ). length c.in-Some-first_and_rest.below.now * 9 + length c.as_slice.result.now < n) c.decreases (omega (arith, eight, some, count)),
      (c.requires.sound, rw c.as_slice.ensures inner),
    )

pub add_parts-requires-in-Name-2 : goal.add_parts-requires-in-Name-2
add_parts-requires-in-Name-2 t c =
    let g = c.args.grammar.now in
    let x = c.in-Name.field-0 in
    let step = c.in-Some-first_and_rest.step in
    let below = c.in-Some-first_and_rest.below.now in
    let left = c.in_ok-left-in-Name.left.now in
    let named : c.args.symbols.now ≡ Name x ∷ c.in-Some.others.now = c.in-Some.ensures ∙ ap (λ (s : Sym). s ∷ c.in-Some.others.now) c.in-Name.is in
    let asks = subst (λ (ss : List Sym). AsksParts g ss c.args.steps.now) named c.requires.parts in
    let gives = subst (λ (ss : List Sym). GivesWord g ss below c.args.out.now left c.add_parts-in-Name.new.out) c.as_slice.ensures c.in_ok-left-in-Name.ensures in
    let taken = λ (i : ℕ) (t : Parts) (rest : List Step) (h : Derive g c.rule_of-rule.result.now.right i t) (e : below ≡ steps i t ++ rest). (gives i t rest h e).0 in
    let some = ap length named in
    let count = ap length c.in-Some-first_and_rest.ensures in
    let fewer = name-fewer g x c.in-Some.others.now step c.args.steps.now below c.in-Some-first_and_rest.ensures c.rule_of-rule.result.now c.rule_of-rule.ensures left taken asks in
    let others = name-others g x c.in-Some.others.now step c.args.steps.now below c.in-Some-first_and_rest.ensures c.rule_of-rule.result.now c.rule_of-rule.ensures left taken asks in (
      subst (λ (n : ℕ). length c.in_ok-left-in-Name.left.now * 9 + length c.in-Some.others.now < n) c.decreases (omega (arith, fewer, some, count)),
      (c.requires.sound, others),
    )

pub returns-in_ok-left-in-Name : goal.returns-in_ok-left-in-Name
returns-in_ok-left-in-Name t c =
    let g = c.args.grammar.now in
    let x = c.in-Name.field-0 in
    let xs = c.args.steps.now in
    let below = c.in-Some-first_and_rest.below.now in
    let left = c.in_ok-left-in-Name.left.now in
    let others = c.in-Some.others.now in
    let old = c.args.out.now in
    let mid = c.add_parts-in-Name.new.out in
    let new = c.add_parts-in-Name-2.new.out in
    let named : c.args.symbols.now ≡ Name x ∷ others = c.in-Some.ensures ∙ ap (λ (s : Sym). s ∷ others) c.in-Name.is in
    let gives = subst (λ (ss : List Sym). GivesWord g ss below old left mid) c.as_slice.ensures c.in_ok-left-in-Name.ensures in
    IfOk-weaker c.add_parts-in-Name-2.result (λ r. GivesWord g others left mid r.now new) (λ r. GivesWord g c.args.symbols.now xs old r.now new)
    (λ r more. subst (λ (ss : List Sym). GivesWord g ss xs old r.now new) (sym named)
    (name-gives g x others c.in-Some-first_and_rest.step xs below c.in-Some-first_and_rest.ensures c.rule_of-rule.result.now c.rule_of-rule.ensures old mid new left r.now gives more))
    c.add_parts-in-Name-2.ensures
