-- The arcs of one suffix on one span, one after another.
use Rattle.std.proofs.Common.{◌≡◌, ℕ, ◌<◌, arith, refl, subst, sym, ◌∙◌, inl, inr, Bool, List, Some, drop}
use Rattle.std.proofs.lemmas.Option.{same_Some}
use Rattle.model_rosters.specs.declared.grammar.ArcKey.{ArcKey}
use Rattle.model_rosters.specs.declared.grammar.Grammar.{Grammar}
use Rattle.model_rosters.specs.declared.grammar.Rule.{Rule}
use Rattle.model_rosters.specs.Arcs.{IsArc}
use Rattle.model_rosters.specs.Grammar.{rule_at}
use Rattle.model_rosters.specs.Sound.{IsSound}
use Rattle.tree_span_cells.specs.declared.slot.Layout.{Layout}
use Rattle.tree_span_cells.specs.Cells.{IsLayoutOf}
use Rattle.tree_span_arcs.specs.Marks.{HasSplit, SuffixMarked, AreMarked}
use Rattle.tree_span_arcs.specs.Order.{IsLongerPart, IsNextArc}
use Rattle.tree_span_arcs.proofs.ArcsLemmas.{arc-told, told-arc}
use Rattle.tree_span_arcs.proofs.OrderLemmas.{arc-shape, shape-small, part-step, step-part, sought-found}

with_part : (first last : ArcKey) → last.rule ≡ first.rule → last.suffix ≡ first.suffix → last.start ≡ first.start → last.len ≡ first.len → last ≡ record first { part = last.part }
with_part first last e f d c = rw (sym e, sym f, sym d, sym c) refl

module _ (g : Grammar) (lay : Layout) (ms : List Bool) (sound : IsSound g) (fits : IsLayoutOf g lay) (marked : AreMarked g lay ms) where
  -- the next longer part with which there are parts makes the next arc
  part-next : (a : ArcKey) (rule : Rule) (m : ℕ) → IsArc g a → rule_at g a.rule ≡ Some rule → IsLongerPart g (drop a.suffix rule.right) a.start a.len a.part (Some m)
      → HasSplit g (drop a.suffix rule.right) a.start a.len m → IsNextArc g (Some a) (Some (record a { part = m }))
  part-next a rule m is at longer split =
      let shape = arc-shape g lay ms sound fits marked in
      let small = shape-small g sound a (shape a is) in
      let told = arc-told g lay ms sound fits marked a is in
      let same : told.rule ≡ rule = same_Some told.rule rule (sym told.at ∙ at) in
      let here : SuffixMarked g lay ms rule a.rule a.suffix a.start a.len = subst (λ (r : Rule). SuffixMarked g lay ms r a.rule a.suffix a.start a.len) same told.marked in
      let arc = told-arc g lay ms sound fits marked a.rule a.suffix a.start a.len m rule at told.day here split in
      let part = part-step g lay ms sound fits marked a rule at (Some m) longer in
      let few : m < 256 = omega (arith, part.1, small.len) in
      sought-found g sound shape (Some a) (record a { part = m }) (
        λ x there before. step-part a x m small few (part.2 x there) before,
        inr (refl, inr (refl, inr (refl, inr (refl, inl part.0)))),
        record { rule = small.rule; suffix = small.suffix; start = small.start; len = small.len; part = few },
      )
      arc

  -- so it does where the arc before it is told by its part
  pub run-next : (first last : ArcKey) (rule : Rule) (m : ℕ) → last.rule ≡ first.rule → last.suffix ≡ first.suffix → last.start ≡ first.start → last.len ≡ first.len → IsArc g last → rule_at g first.rule ≡ Some rule
      → IsLongerPart g (drop first.suffix rule.right) first.start first.len last.part (Some m) → HasSplit g (drop first.suffix rule.right) first.start first.len m
      → IsNextArc g (Some last) (Some (record first { part = m }))
  run-next first last rule m e f d c is at longer split =
      let same = with_part first last e f d c in
      let next = part-next (record first { part = last.part }) rule m (subst (λ (x : ArcKey). IsArc g x) same is) at longer split in
      subst (λ (x : ArcKey). IsNextArc g (Some x) (Some (record first { part = m }))) (sym same) next
