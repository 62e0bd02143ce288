use Rattle.std.proofs.Common.{◌∙◌, ap, sym, subst, List, ℕ, length}
use Rattle.model_rosters.specs.declared.grammar.Grammar.{Grammar}
use Rattle.model_rosters.specs.Sums.{IsLeast, tree_sum}
use Rattle.model_rosters.specs.Trees.{IsTreeOf}
use Rattle.model_rosters.proofs.word_prices.Costs.{shift-length}
use Rattle.model_rosters.specs.word_prices.Prices.{word_view}
use Rattle.check_parts.proofs.roster_part.WordPrices.{told}
use Rattle.check_parts.proofs.roster_part.prices.least_price.Goals as goal

pub returns-then-word-grammar-clause-value : goal.returns-then-word-grammar-clause-value
returns-then-word-grammar-clause-value c =
    let i = c.args.instance.now in λ t at e shift. c.if-word-grammar.true (ap (λ (w : List ℕ). length w) c.word.ensures ∙ shift-length i.grammar t.name c.args.shift.now.word c.requires.sound.grammar shift)

pub returns-clause-value : goal.returns-clause-value
returns-clause-value c =
    let priced = rw (c.new-prices.ensures.grammar, c.new-prices.ensures.word, c.word-2.ensures) at c.price.ensures in
    told c.args.instance.now c.args.shift.now c.team_name-name.result c.price.result (rw c.group.ensures at c.team_name-name.ensures.value) priced

pub price-requires-clause-least : goal.price-requires-clause-least
price-requires-clause-least c =
    subst (λ (r : Grammar). IsLeast (IsTreeOf r c.team_name-name.result) (tree_sum (word_view c.new-prices.result.grammar.now c.new-prices.result.word.now) 1) c.value.result)
    (sym c.new-prices.ensures.grammar) (c.value.ensures _ c.least.ensures.filled)
