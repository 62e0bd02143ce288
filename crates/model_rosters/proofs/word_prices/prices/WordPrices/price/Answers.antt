use Rattle.std.proofs.Common.{◌≡◌, pos, to_z, of_z}
use Rattle.std.specs.Int.{w128}
use Rattle.model_rosters.proofs.word_prices.Costs.{least-price, least-none, kept-price, IsWordPrice}
use Rattle.model_rosters.proofs.word_prices.prices.WordPrices.price.Goals as goal

word_price : (c : goal.In-Some) → IsWordPrice c.args.self.now.grammar.now c.args.name c.args.self.now.word.now c.in-Some.sum
word_price c = least-price c.args.self.now.grammar.now c.args.self.now.word.now c.requires.sound c.requires.length c.args.name c.in-Some.sum (rw c.in-Some.is at c.requires.least)

-- the sum as it is kept in 128 bits
kept : (c : goal.In-Some) → to_z w128 (of_z w128 c.in-Some.sum) ≡ pos (word_price c).price
kept c = let p = word_price c in kept-price c.in-Some.sum p.price p.same p.small

pub overflow_cast-result : goal.overflow_cast-result
overflow_cast-result c = let p = word_price c in rw (kept c) (tt, record { fits = p.small })

pub returns-in-Some : goal.returns-in-Some
returns-in-Some c = let p = word_price c in rw (kept c) p.is_price

pub returns-in-None : goal.returns-in-None
returns-in-None c = least-none c.args.self.now.grammar.now c.args.self.now.word.now c.requires.sound c.requires.length c.args.name (rw c.in-None.is at c.requires.least)
