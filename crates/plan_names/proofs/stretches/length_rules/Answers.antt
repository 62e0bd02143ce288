use Rattle.std.proofs.Common.{◌≡◌, ◌++◌, ◌+◌, ◌*◌, ◌-◌, ◌&&◌, ℕ, List, [], ◌∷◌, Bool, true, false, suc, cond, nat_eq, nat_le, map, arith, sym, ap, ◌∙◌, subst}
use Rattle.std.proofs.lemmas.List.{map-append}
use Rattle.plan_laws.specs.Named.{NamedRule}
use Rattle.plan_laws.specs.Names.{Kind, length_rule, numbers_from}
use Rattle.plan_names.specs.Views.{rule_of}
use Rattle.plan_names.proofs.Items.{numbers_more}
use Rattle.plan_names.proofs.stretches.length_rules.Goals as goal

pub loop-more-preserved : goal.loop-more-preserved
loop-more-preserved c =
    let f = length_rule c.args.plus c.args.pause c.args.times in
    let least = c.args.pause.least in
    let n = c.loop-more.more in
    c.in_ok-add_rule.ensures ∙ ap (λ (r : NamedRule Kind). map rule_of c.loop-more.rules ++ r ∷ []) c.in_ok-rule.ensures
    ∙ ap (λ (rs : List (NamedRule Kind)). rs ++ f (least + n) ∷ []) c.loop-more.invariant
    ∙ sym (map-append f (numbers_from least n) ((least + n) ∷ [])) ∙ ap (map f) (sym (numbers_more least n))

pub returns : goal.returns
returns c =
    let all : c.loop-more.more ≡ suc (c.args.pause.greatest - c.args.pause.least) =
    omega (arith, c.loop-more-test.false, c.loop-more.auto.more-end, c.saturating_sub-lengths.ensures) in
    c.loop-more.invariant
    ∙ ap (λ (n : ℕ). map (length_rule c.args.plus c.args.pause c.args.times) (numbers_from c.args.pause.least n)) all
