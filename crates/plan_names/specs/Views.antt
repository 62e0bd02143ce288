-- What the names, symbols and rules of the code are in the law's words.
use Rattle.std.specs.Prelude.{ℕ, List, map}
use Rattle.plan_laws.specs.Named.{Symbol, NamedRule, coded, named}
use Rattle.plan_laws.specs.Names.{Kind, at, run, block, free_one, any_list, open_list, from, other, work, rest, off, step, steps, lead, duty, day, start}
use Rattle.plan_names.specs.declared.names.RuleName.{RuleName}
use Rattle.plan_names.specs.declared.names.RuleName.TheVariants as names
use Rattle.plan_names.specs.declared.rule.NameRule.{NameRule}
use Rattle.plan_names.specs.declared.rule.RuleSymbol.{RuleSymbol}
use Rattle.plan_names.specs.declared.rule.RuleSymbol.TheVariants as symbols

-- the name
abbrev pub kind_of : RuleName → Kind
kind_of (names.Letter r a) = at r a
kind_of (names.Run r a) = run r a
kind_of (names.Block r a) = block r a
kind_of (names.FreeBlock r s) = free_one r s.now
kind_of (names.AnyList r s) = any_list r s.now
kind_of (names.OpenList r s) = open_list r s.now
kind_of (names.ListFrom r s a) = from r s.now a
kind_of (names.OtherList r s a) = other r s.now a
kind_of (names.Stretch r s long) = work r s.now long
kind_of (names.Rest r a begin) = rest r a begin
kind_of names.Off = off
kind_of names.Step = step
kind_of names.Steps = steps
kind_of names.Lead = lead
kind_of (names.Duty x) = duty x.now.name x.now.lines
kind_of (names.Day x) = day x.now.name x.now.lines
kind_of (names.AnyDay xs) = start xs.now

-- the symbol
abbrev pub symbol_of : RuleSymbol → Symbol Kind
symbol_of (symbols.Coded c) = coded c
symbol_of (symbols.Named k) = named (kind_of k)

-- the rule
abbrev pub rule_of : NameRule → NamedRule Kind
rule_of r = record {
  cost = r.cost;
  right = map symbol_of r.right;
  span = r.span;
  first = r.first;
  last = r.last;
}
