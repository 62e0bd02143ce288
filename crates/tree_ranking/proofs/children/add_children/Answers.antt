use Rattle.std.proofs.Common.{◌≡◌, ◌+ℤ◌, ◌+◌, [], ◌∷◌, ◌++◌, List, sym, subst, arith, refl}
use Rattle.std.proofs.lemmas.Int.{ints}
use mir.Val.{to_z, of_z}
use mir.Syntax.{w128}
use Rattle.model_rosters.specs.declared.grammar.Sym.TheVariants.{Name}
use Rattle.tree_ranking.specs.declared.candidate.Child.{Child}
use Rattle.tree_ranking.specs.Frames.{right_of}
use Rattle.tree_ranking.specs.Children.{AreChildrenTo}
use Rattle.tree_ranking.proofs.FrameLemmas.{symbol-here}
use Rattle.tree_ranking.proofs.ChildListLemmas.{children-more, children-skip}
use Rattle.tree_ranking.proofs.children.add_children.Goals.{in-Some+in_ok-push, in_default}
use Rattle.tree_ranking.proofs.children.add_children.Goals as goal

pub loop-len-preserved : goal.loop-len-preserved
loop-len-preserved g c =
    let f = c.args.frame in
    let p = g.P.LetterPrice.view c.args.prices.now in
    let name = symbol-here (right_of c.args.grammar.now f.suffix.rule) f.suffix.from (Name c.args.name) c.requires.symbol in
    elim c.match-use_sum.branch [
      | in-Some+in_ok-push w ↦
          (let ch : Child = record { sum = to_z w128 (of_z w128 (to_z w128 (of_z w128 c.args.base) +ℤ to_z w128 (of_z w128 w.in-Some.sum))); rule = c.args.number; len = c.loop-len.len } in
          let pushed : w.push.new.self.items ≡ c.loop-len.children.items ++ ch ∷ [] = w.in_ok-push.ensures.items in
          let all : c.match-use_sum.children.items ≡ c.loop-len.children.items ++ ch ∷ [] = rw w.children-is pushed in
          let sum : ch.sum ≡ to_z w128 (of_z w128 c.args.base) +ℤ w.in-Some.sum = omega (arith, ints, c.requires.base, w.in-Some.ensures.within) in
          subst (λ (q : List Child). AreChildrenTo c.args.grammar.now (g.P.LetterPrice.view c.args.prices.now) c.args.frame c.args.name (to_z w128 (of_z w128 c.args.base)) c.args.number (c.loop-len.len + 1) q) (sym all)
          (children-more c.args.grammar.now p f c.args.name name (to_z w128 (of_z w128 c.args.base)) c.args.number c.loop-len.len c.loop-len.children.items ch c.loop-len.invariant
          (record {
            some = omega (arith, c.loop-len.auto.len);
            high = omega (arith, c.loop-len-test.true);
            value = w.in-Some.sum;
            use_sum = w.in-Some.ensures.value;
            left = c.requires.left w.in-Some.ensures.value.rule w.in-Some.ensures.value.at;
            sum = sum;
          }) refl refl))
      | in_default w ↦
          (rw w.children-is (children-skip c.args.grammar.now p f c.args.name name (to_z w128 (of_z w128 c.args.base)) c.args.number c.loop-len.len c.loop-len.children.items c.loop-len.invariant w.in_default.ensures.value))
    ]
