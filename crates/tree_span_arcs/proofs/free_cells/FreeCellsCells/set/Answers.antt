use Rattle.std.proofs.Common.{List, ℤ, Option, ap, ◌∙◌, set}
use Rattle.std.specs.Prelude.{map}
use Rattle.std.proofs.lemmas.List.{map-set}
use Rattle.tree_span_cells.specs.Cells.{Held}
use Rattle.tree_span_arcs.specs.Flags.{free_sum}
use Rattle.tree_span_arcs.proofs.FlagsLemmas.{flag-free}
use Rattle.tree_span_arcs.proofs.free_cells.FreeCellsCells.set.Goals as goal

pub returns : goal.returns
returns c =
    ap (λ (xs : List (Option ℤ)). record { sums = xs; present = c.self.inside.present })
    (map-set free_sum c.self.inside.there.items c.args.place c.is_some.result
    ∙ ap (λ (v : Option ℤ). set (map free_sum c.self.inside.there.items) c.args.place v) (ap free_sum c.is_some.ensures ∙ flag-free c.args.sum c.requires.sum))
    ∙ ap (λ (h : Held). record h { sums = set h.sums c.args.place c.args.sum }) c.self.view_is
