-- What the code takes for a name's shape.
use Rattle.std.specs.Borrow.{Bor}
use Rattle.std.specs.Prelude.{Option, None, Some}
use Rattle.plan_laws.specs.declared.period_plan.NamedLines.{NamedLines}
use Rattle.plan_names.specs.Same.{Shape}
use Rattle.plan_names.specs.declared.shape.NameShape.{NameShape}

-- the duty lines, where the shape has some
abbrev pub own_line : Option (Bor NamedLines) → Option NamedLines
own_line None = None
own_line (Some y) = Some y.now

-- the shape
abbrev pub own_shape : NameShape → Shape
own_shape x = record {
  form = x.form;
  plus = x.plus;
  set = x.set.now;
  one = x.one;
  window = x.window;
  line = own_line x.line;
  lines = x.lines.now;
}
