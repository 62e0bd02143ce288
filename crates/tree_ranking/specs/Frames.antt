-- What is still to be derived.
use Rattle.std.specs.Prelude.{ℕ, ℤ, ◌≡◌, ◌+◌, ◌-◌, ◌≤◌, List, [], ◌∷◌, Option, None, Some, length, drop, slice_get, zero, suc}
use Rattle.model_rosters.specs.declared.grammar.Grammar.{Grammar}
use Rattle.model_rosters.specs.declared.grammar.Rule.{Rule}
use Rattle.model_rosters.specs.declared.grammar.Step.{Step}
use Rattle.model_rosters.specs.declared.grammar.Sym.{Sym}
use Rattle.model_rosters.specs.declared.grammar.Sym.TheVariants.{Name}
use Rattle.model_rosters.specs.Trees.{Parts, On}
use Rattle.model_rosters.specs.Sums.{PriceView, PartsLeast, parts_sum}
use Rattle.model_rosters.specs.Sound.{IsSound}
use Rattle.tree_span_cells.specs.Cells.{IsReady, AreFilled}
use Rattle.tree_ranking.specs.declared.frame.Frame.{Frame}
use Rattle.tree_ranking.specs.declared.sums.Sums.{Sums}

abbrev pub right_at : Option Rule → List Sym
right_at None = []
right_at (Some rule) = rule.right

-- the right side of a rule; the number 0 stands for two start names
abbrev pub right_of : Grammar → ℕ → List Sym
right_of g zero = Name g.start ∷ Name g.start ∷ []
right_of g (suc r) = right_at (slice_get g.rules r)

-- the symbols of a frame
abbrev pub symbols : Grammar → Frame → List Sym
symbols g f = drop f.suffix.from (right_of g f.suffix.rule)

-- the symbols and the span of a frame are there
pub record IsFrame (g : Grammar) (f : Frame) : Type 0 where
  pub known : f.suffix.rule ≤ length g.rules
  pub inner : f.suffix.rule ≡ 0 → 1 ≤ f.suffix.from
  pub within : f.suffix.from ≤ length (right_of g f.suffix.rule)
  pub eight : length (right_of g f.suffix.rule) ≤ 8
  pub begins : 1 ≤ f.span.start
  pub fits : f.span.start + f.span.len ≤ g.periods + 1
  pub few : g.periods ≤ 96

-- what is left of a frame after a first part of m periods
abbrev pub after_part : Frame → ℕ → Frame
after_part f m = record {
  suffix = record { rule = f.suffix.rule; from = suc f.suffix.from };
  span = record { start = f.span.start + m; len = f.span.len - m };
}

-- a rule use at the start of a frame
abbrev pub use_of : Frame → ℕ → ℕ → Step
use_of f q m = record { rule = q; start = f.span.start; len = m }

-- the whole right side of a rule use
abbrev pub inside_of : Step → Frame
inside_of s = record {
  suffix = record { rule = s.rule; from = 0 };
  span = record { start = s.start; len = s.len };
}

-- the parts derive the frame
abbrev pub OnFrame : Grammar → Frame → Parts → Type 0
OnFrame g f t = On g (symbols g f) f.span.start f.span.len t

-- the sum of parts that derive a frame
abbrev pub frame_sum : PriceView → Frame → Parts → Option ℤ
frame_sum p f t = parts_sum p f.suffix.rule f.suffix.from f.span.start t

-- v is the least sum of what the frame derives
abbrev pub FrameLeast : Grammar → PriceView → Frame → Option ℤ → Type 0
FrameLeast g p f v = PartsLeast g p f.suffix.rule f.suffix.from (symbols g f) f.span.start f.span.len v

-- the sums are those of the grammar under the prices
pub record IsSums (g : Grammar) (p : PriceView) (s : Sums) : Type 0 where
  pub sound : IsSound g
  pub ready : IsReady g s.layout s.cells
  pub filled : AreFilled g p s.layout s.cells
