use Rattle.std.proofs.Common.{ℕ, List, sym, subst, ap, ◌∙◌, length, arith}
use Rattle.model_rosters.specs.Rosters.{IsTeamPrice}
use Rattle.search_candidates.specs.Spelled.{IsTeamShift}
use Rattle.search_candidates.proofs.SpelledLemmas.{uses-are, codes-fit, group-fits, short, team-shift, shift-is}
use Rattle.search_candidates.proofs.shift.shift_of.Goals as goal

pub group_of-group-requires-clause-uses : goal.group_of-group-requires-clause-uses
group_of-group-requires-clause-uses c = uses-are c.args.instance.now c.requires.workspace.sound c.args.pool.now c.requires.pool c.args.column c.requires.column c.as_slice.result.now (λ x at. c.as_slice.ensures ∙ c.tree.ensures x at)

pub word_of-requires : goal.word_of-requires
word_of-requires c = codes-fit c.args.instance.now c.requires.workspace.sound c.args.pool.now c.requires.pool c.args.column c.requires.column c.codes.result.now c.codes.ensures

pub price_of-price-requires-clause-word : goal.price_of-price-requires-clause-word
price_of-price-requires-clause-word c =
    let l = short c.args.instance.now c.requires.workspace.sound c.args.pool.now c.requires.pool c.args.column c.requires.column c.as_slice.result.now c.codes.result.now (λ x at. c.as_slice.ensures ∙ c.tree.ensures x at) c.codes.ensures c.group_of-group.result c.group_of-group.ensures c.in_ok-word.word c.in_ok-word.ensures in
    let e = ap length c.as_slice-2.ensures in
    record {
      group = group-fits c.args.instance.now c.requires.workspace.sound c.args.pool.now c.requires.pool c.args.column c.requires.column c.as_slice.result.now c.codes.result.now (λ x at. c.as_slice.ensures ∙ c.tree.ensures x at) c.codes.ensures c.group_of-group.result c.group_of-group.ensures c.in_ok-word.word c.in_ok-word.ensures;
      short = omega (arith, l, e);
    }

pub price_of-price-requires-clause-shift : goal.price_of-price-requires-clause-shift
price_of-price-requires-clause-shift c =
    subst (λ (w : List ℕ). IsTeamShift c.args.instance.now c.group_of-group.result w) (sym c.as_slice-2.ensures) (team-shift c.args.instance.now c.requires.workspace.sound c.args.pool.now c.requires.pool c.args.column c.requires.column c.as_slice.result.now c.codes.result.now (λ x at. c.as_slice.ensures ∙ c.tree.ensures x at) c.codes.ensures c.group_of-group.result c.group_of-group.ensures c.in_ok-word.word c.in_ok-word.ensures)

pub returns-clause-shift : goal.returns-clause-shift
returns-clause-shift c = shift-is c.args.instance.now c.requires.workspace.sound c.args.pool.now c.requires.pool c.args.column c.requires.column c.as_slice.result.now c.codes.result.now (λ x at. c.as_slice.ensures ∙ c.tree.ensures x at) c.codes.ensures c.group_of-group.result c.group_of-group.ensures c.in_ok-word.word c.in_ok-word.ensures c.price_of-price.result
    (subst (λ (w : List ℕ). IsTeamPrice c.args.instance.now (record { team = c.group_of-group.result; word = w }) c.price_of-price.result) c.as_slice-2.ensures c.price_of-price.ensures.price)
