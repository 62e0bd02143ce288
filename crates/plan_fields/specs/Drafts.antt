-- What the lines of a plan so far say.
use Rattle.std.specs.Prelude.{ℕ, [], None, Option, Some}
use Rattle.plan_meaning.specs.declared.plan.Money.{Money}
use Rattle.plan_fields.specs.declared.draft.Draft.{Draft}

-- nothing was said
abbrev pub no_draft : Draft
no_draft =
    record {
      money = None;
      codes = [];
      extras = [];
      change = None;
      stretch = None;
      starts = None;
      duties = [];
      staff = [];
      needs = [];
    }

abbrev pub decimals_in : Option Money → ℕ
decimals_in None = 0
decimals_in (Some m) = m.decimals

-- how many decimals amounts have
abbrev pub decimals_of : Draft → ℕ
decimals_of d = decimals_in d.money
