-- What a frame derives by a use of a rule for its first symbol.
use Rattle.std.proofs.Common.{◌≡◌, ℕ, suc, ℤ, ◌+◌, ◌-◌, ◌∷◌, Option, None, Some, arith, refl, subst, sym, ap, ◌∙◌}
use Rattle.model_rosters.specs.declared.grammar.Grammar.{Grammar}
use Rattle.model_rosters.specs.declared.grammar.Rule.{Rule}
use Rattle.model_rosters.specs.declared.grammar.Sym.TheVariants.{Name}
use Rattle.model_rosters.specs.Grammar.{rule_at, Stands}
use Rattle.model_rosters.specs.Sound.{IsSound}
use Rattle.model_rosters.specs.Trees.{Derive, On}
use Rattle.model_rosters.specs.Sums.{PriceView, parts_sum, arc_sum, plus, AtMost}
use Rattle.model_rosters.specs.tree_laws.Parts.{first, root}
use Rattle.model_rosters.proofs.tree_laws.Rules.{sound-rule, rule_at-within}
use Rattle.tree_ranking.specs.declared.frame.Frame.{Frame}
use Rattle.tree_ranking.specs.Frames.{IsFrame, frame_sum, FrameLeast, symbols, right_of, after_part, use_of, inside_of}
use Rattle.tree_ranking.specs.Children.{HasNoSum}
use Rattle.tree_ranking.proofs.FrameLemmas.{use-on, right-is}

plus-no_right : (u : Option ℤ) → plus u None ≡ None
plus-no_right None = refl
plus-no_right (Some z) = refl

at_most-none : (v : Option ℤ) → AtMost None v → v ≡ None
at_most-none None h = refl
at_most-none (Some z) h = absurd h

-- the whole right side of a rule that stands
pub frame-inside : (g : Grammar) (f : Frame) (q m : ℕ) (rule : Rule) → IsSound g → IsFrame g f → rule_at g q ≡ Some rule → Stands g.periods rule f.span.start m → IsFrame g (inside_of (use_of f q m))
frame-inside g f q m rule sound is at stands =
    let own = sound-rule g sound q rule at in
    let number = rule_at-within g q rule at in
    let right = right-is g q rule at in
    record {
      known = number.1;
      inner = λ e. omega (arith, e, number.0);
      within = omega arith;
      eight = rw right own.eight;
      begins = is.begins;
      fits = stands.within;
      few = is.few;
    }

module _ (g : Grammar) (p : PriceView) (f : Frame) (x : ℕ) (name : symbols g f ≡ Name x ∷ symbols g (after_part f 1)) (q m : ℕ) where
  -- where nothing that follows has a sum
  pub no-others : FrameLeast g p (after_part f m) None → HasNoSum g p f q m
  no-others least t h r l =
      let u = use-on g p f.suffix.rule f.suffix.from f.span.start f.span.len x (symbols g (after_part f 1)) t (subst (λ s. On g s f.span.start f.span.len t) name h) in
      let len : u.len ≡ m = sym (ap first u.is) ∙ l in
      let on : On g (symbols g (after_part f 1)) (f.span.start + u.len) (f.span.len - u.len) u.rest = (u.on.0.7, omega (arith, u.on.1)) in
      let on_m = subst (λ n. On g (symbols g (after_part f 1)) (f.span.start + n) (f.span.len - n) u.rest) len on in
      let none : frame_sum p (after_part f m) u.rest ≡ None = at_most-none _ (least.least u.rest on_m) in
      let none_here : parts_sum p f.suffix.rule (suc f.suffix.from) (f.span.start + u.len) u.rest ≡ None = ap (λ n. parts_sum p f.suffix.rule (suc f.suffix.from) (f.span.start + n) u.rest) len ∙ none in
      ap (λ w. frame_sum p f w) u.is
      ∙ ap (λ v. plus (plus (Some (p.rule_of u.rule_number)) (parts_sum p u.rule_number 0 f.span.start u.inner)) (plus (Some (arc_sum p f.suffix.rule f.suffix.from f.span.start u.len u.rest)) v)) none_here
      ∙ plus-no_right (plus (Some (p.rule_of u.rule_number)) (parts_sum p u.rule_number 0 f.span.start u.inner))

  -- or nothing inside the rule use
  pub no-inner : FrameLeast g p (inside_of (use_of f q m)) None → HasNoSum g p f q m
  no-inner least t h r l =
      let u = use-on g p f.suffix.rule f.suffix.from f.span.start f.span.len x (symbols g (after_part f 1)) t (subst (λ s. On g s f.span.start f.span.len t) name h) in
      let len : u.len ≡ m = sym (ap first u.is) ∙ l in
      let rule : u.rule_number ≡ q = sym (ap root u.is) ∙ r in
      let inside : On g (right_of g u.rule_number) f.span.start u.len u.inner =
      (subst (λ s. Derive g s f.span.start u.inner) (sym (right-is g u.rule_number u.on.0.0 u.on.0.1)) u.on.0.6, u.on.0.5) in
      let at_q = subst (λ n. On g (right_of g n) f.span.start u.len u.inner) rule inside in
      let at_m = subst (λ n. On g (right_of g q) f.span.start n u.inner) len at_q in
      let none : parts_sum p q 0 f.span.start u.inner ≡ None = at_most-none _ (least.least u.inner at_m) in
      let none_here : parts_sum p u.rule_number 0 f.span.start u.inner ≡ None = ap (λ n. parts_sum p n 0 f.span.start u.inner) rule ∙ none in
      ap (λ w. frame_sum p f w) u.is
      ∙ ap (λ v. plus (plus (Some (p.rule_of u.rule_number)) v) (plus (Some (arc_sum p f.suffix.rule f.suffix.from f.span.start u.len u.rest)) (parts_sum p f.suffix.rule (suc f.suffix.from) (f.span.start + u.len) u.rest))) none_here
