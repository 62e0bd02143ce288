use Rattle.std.proofs.Common.{◌≡◌, ◌+◌, ◌-◌, ◌+ℤ◌, List, ◌∷◌, Some, arith, refl, sym, ap, ◌∙◌, length}
use Rattle.std.specs.Prelude.{slice_get}
use Rattle.std.proofs.lemmas.Int.{ints}
use mir.Val.{to_z, of_z}
use mir.Syntax.{w128}
use Rattle.model_rosters.specs.declared.grammar.Sym.TheVariants.{Name, Code}
use Rattle.tree_ranking.specs.declared.frame.Frame.{Frame}
use Rattle.tree_ranking.specs.Frames.{right_of}
use Rattle.tree_ranking.specs.Progresses.{Branches}
use Rattle.tree_ranking.proofs.AdvanceLemmas.{past-end, past-letter, letter-some, its-small, children-some, children-short, children-take, past-name, left-name, left-letter, with_pending, on_ok}
use Rattle.tree_ranking.proofs.branch.advance.Goals as goal

pub after-requires-clause-part : goal.after-requires-clause-part
after-requires-clause-part g c =
    let at : slice_get (right_of c.args.grammar.now c.args.frame.suffix.rule) c.args.frame.suffix.from ≡ Some (Code c.in-Some-Code.field-0-0) = sym c.in-Some-Code.ensures ∙ ap Some c.in-Some-Code.field-0-is in
    letter-some c.args.grammar.now (g.P.LetterPrice.view c.args.prices.now) c.args.most c.args.given.now c.args.current.now.sum c.args.current.now.steps c.args.frame c.args.current.now.pending c.args.waiting.now.items c.requires.progress c.in-Some-Code.field-0-0 at

pub above-base-requires-clause-sum : goal.above-base-requires-clause-sum
above-base-requires-clause-sum g c =
    let small = its-small c.args.grammar.now (g.P.LetterPrice.view c.args.prices.now) c.args.most c.args.given.now c.args.current.now.sum c.args.current.now.steps c.args.frame c.args.current.now.pending c.args.waiting.now.items c.requires.progress c.requires.sums.sound (g.met.P.LetterPrice.all_within c.args.prices.now) in
    let same : to_z w128 (of_z w128 c.args.current.now.sum) ≡ c.args.current.now.sum = omega (arith, ints, small) in
    rw same small

pub branch-alloc-requires-clause-some : goal.branch-alloc-requires-clause-some
branch-alloc-requires-clause-some g c =
    let at : slice_get (right_of c.args.grammar.now c.args.frame.suffix.rule) c.args.frame.suffix.from ≡ Some (Name c.in-Some-Name.name) = sym c.in-Some-Name.ensures ∙ ap Some c.in-Some-Name.field-0-is in
    let above : to_z w128 (of_z w128 c.above-base.result) +ℤ c.in-Some.least ≡ c.args.current.now.sum = omega (arith, ints, c.above-base.ensures.value, c.above-base.ensures.within, c.in-Some.ensures.within, its-small c.args.grammar.now (g.P.LetterPrice.view c.args.prices.now) c.args.most c.args.given.now c.args.current.now.sum c.args.current.now.steps c.args.frame c.args.current.now.pending c.args.waiting.now.items c.requires.progress c.requires.sums.sound (g.met.P.LetterPrice.all_within c.args.prices.now)) in
    children-some c.args.grammar.now (g.P.LetterPrice.view c.args.prices.now) c.args.most c.args.given.now c.args.current.now.sum c.args.current.now.steps c.args.frame c.args.current.now.pending c.args.waiting.now.items c.requires.progress
    c.requires.sums.sound c.in-Some-Name.name at (to_z w128 (of_z w128 c.above-base.result)) c.in-Some.least c.in-Some.ensures.least above c.in_ok-children-in-Some-Name.children.items c.in_ok-children-in-Some-Name.ensures

pub branch-alloc-requires-clause-short : goal.branch-alloc-requires-clause-short
branch-alloc-requires-clause-short g c =
    let at : slice_get (right_of c.args.grammar.now c.args.frame.suffix.rule) c.args.frame.suffix.from ≡ Some (Name c.in-Some-Name.name) = sym c.in-Some-Name.ensures ∙ ap Some c.in-Some-Name.field-0-is in
    let above : to_z w128 (of_z w128 c.above-base.result) +ℤ c.in-Some.least ≡ c.args.current.now.sum = omega (arith, ints, c.above-base.ensures.value, c.above-base.ensures.within, c.in-Some.ensures.within, its-small c.args.grammar.now (g.P.LetterPrice.view c.args.prices.now) c.args.most c.args.given.now c.args.current.now.sum c.args.current.now.steps c.args.frame c.args.current.now.pending c.args.waiting.now.items c.requires.progress c.requires.sums.sound (g.met.P.LetterPrice.all_within c.args.prices.now)) in
    children-short c.args.grammar.now (g.P.LetterPrice.view c.args.prices.now) c.args.most c.args.given.now c.args.current.now.sum c.args.current.now.steps c.args.frame c.args.current.now.pending c.args.waiting.now.items c.requires.progress
    c.requires.sums.sound c.in-Some-Name.name at (to_z w128 (of_z w128 c.above-base.result)) c.in-Some.least c.in-Some.ensures.least above c.in_ok-children-in-Some-Name.children.items c.in_ok-children-in-Some-Name.ensures

pub branch-alloc-requires-clause-waiting : goal.branch-alloc-requires-clause-waiting
branch-alloc-requires-clause-waiting g c =
    let at : slice_get (right_of c.args.grammar.now c.args.frame.suffix.rule) c.args.frame.suffix.from ≡ Some (Name c.in-Some-Name.name) = sym c.in-Some-Name.ensures ∙ ap Some c.in-Some-Name.field-0-is in
    let above : to_z w128 (of_z w128 c.above-base.result) +ℤ c.in-Some.least ≡ c.args.current.now.sum = omega (arith, ints, c.above-base.ensures.value, c.above-base.ensures.within, c.in-Some.ensures.within, its-small c.args.grammar.now (g.P.LetterPrice.view c.args.prices.now) c.args.most c.args.given.now c.args.current.now.sum c.args.current.now.steps c.args.frame c.args.current.now.pending c.args.waiting.now.items c.requires.progress c.requires.sums.sound (g.met.P.LetterPrice.all_within c.args.prices.now)) in
    let size : length c.args.given.now + ((c.args.most - length c.args.given.now - 1) + 1) ≡ c.args.most = omega (arith, c.requires.progress.few) in
    children-take c.args.grammar.now (g.P.LetterPrice.view c.args.prices.now) c.args.most c.args.given.now c.args.current.now.sum c.args.current.now.steps c.args.frame c.args.current.now.pending c.args.waiting.now.items c.requires.progress
    c.requires.sums.sound c.in-Some-Name.name at (to_z w128 (of_z w128 c.above-base.result)) c.in-Some.least c.in-Some.ensures.least above c.in_ok-children-in-Some-Name.children.items c.in_ok-children-in-Some-Name.ensures
    (c.args.most - length c.args.given.now - 1) size

pub returns-in-None-clause-progress : goal.returns-in-None-clause-progress
returns-in-None-clause-progress g c =
    past-end c.args.grammar.now (g.P.LetterPrice.view c.args.prices.now) c.args.most c.args.given.now c.args.current.now.sum c.args.current.now.steps c.args.frame c.args.current.now.pending c.args.waiting.now.items c.requires.progress
    (sym c.in-None.ensures) c.args.current.now refl

pub returns-in-Some-Code-clause-progress : goal.returns-in-Some-Code-clause-progress
returns-in-Some-Code-clause-progress g c =
    let at : slice_get (right_of c.args.grammar.now c.args.frame.suffix.rule) c.args.frame.suffix.from ≡ Some (Code c.in-Some-Code.field-0-0) = sym c.in-Some-Code.ensures ∙ ap Some c.in-Some-Code.field-0-is in
    on_ok c.push.result (c.push.new.self ≡ c.after.result ∷ c.args.current.now.pending) _
    (λ pushed. past-letter c.args.grammar.now (g.P.LetterPrice.view c.args.prices.now) c.args.most c.args.given.now c.args.current.now.sum c.args.current.now.steps c.args.frame c.args.current.now.pending c.args.waiting.now.items c.requires.progress
    c.in-Some-Code.field-0-0 at (record { sum = c.args.current.now.sum; steps = c.args.current.now.steps; pending = c.push.new.self })
    (ap (λ (q : List Frame). with_pending c.args.current.now.sum c.args.current.now.steps q) (pushed ∙ ap (λ (q : Frame). q ∷ c.args.current.now.pending) c.after.ensures))
    (letter-some c.args.grammar.now (g.P.LetterPrice.view c.args.prices.now) c.args.most c.args.given.now c.args.current.now.sum c.args.current.now.steps c.args.frame c.args.current.now.pending c.args.waiting.now.items c.requires.progress c.in-Some-Code.field-0-0 at)) c.push.ensures

pub returns-in-Some-Code-clause-left : goal.returns-in-Some-Code-clause-left
returns-in-Some-Code-clause-left g c =
    let at : slice_get (right_of c.args.grammar.now c.args.frame.suffix.rule) c.args.frame.suffix.from ≡ Some (Code c.in-Some-Code.field-0-0) = sym c.in-Some-Code.ensures ∙ ap Some c.in-Some-Code.field-0-is in
    let some = letter-some c.args.grammar.now (g.P.LetterPrice.view c.args.prices.now) c.args.most c.args.given.now c.args.current.now.sum c.args.current.now.steps c.args.frame c.args.current.now.pending c.args.waiting.now.items c.requires.progress c.in-Some-Code.field-0-0 at in
    on_ok c.push.result (c.push.new.self ≡ c.after.result ∷ c.args.current.now.pending) _
    (λ pushed. left-letter c.args.grammar.now c.args.current.now.sum c.args.current.now.steps c.args.frame c.args.current.now.pending c.push.new.self
    (pushed ∙ ap (λ (q : Frame). q ∷ c.args.current.now.pending) c.after.ensures) some) c.push.ensures

pub returns-in_ok-children-in-Some-Name-clause-progress : goal.returns-in_ok-children-in-Some-Name-clause-progress
returns-in_ok-children-in-Some-Name-clause-progress g c =
    let at : slice_get (right_of c.args.grammar.now c.args.frame.suffix.rule) c.args.frame.suffix.from ≡ Some (Name c.in-Some-Name.name) = sym c.in-Some-Name.ensures ∙ ap Some c.in-Some-Name.field-0-is in
    let above : to_z w128 (of_z w128 c.above-base.result) +ℤ c.in-Some.least ≡ c.args.current.now.sum = omega (arith, ints, c.above-base.ensures.value, c.above-base.ensures.within, c.in-Some.ensures.within, its-small c.args.grammar.now (g.P.LetterPrice.view c.args.prices.now) c.args.most c.args.given.now c.args.current.now.sum c.args.current.now.steps c.args.frame c.args.current.now.pending c.args.waiting.now.items c.requires.progress c.requires.sums.sound (g.met.P.LetterPrice.all_within c.args.prices.now)) in
    let size : length c.args.given.now + ((c.args.most - length c.args.given.now - 1) + 1) ≡ c.args.most = omega (arith, c.requires.progress.few) in
    on_ok c.branch-alloc.result (Branches (c.args.most - length c.args.given.now - 1) c.args.frame c.in_ok-children-in-Some-Name.children.items c.args.current.now c.args.waiting.now.items c.branch-alloc.new.current c.branch-alloc.new.waiting.items) _
    (λ br. past-name c.args.grammar.now (g.P.LetterPrice.view c.args.prices.now) c.args.most c.args.given.now c.args.current.now.sum c.args.current.now.steps c.args.frame c.args.current.now.pending c.args.waiting.now.items c.requires.progress
    c.requires.sums.sound c.in-Some-Name.name at (to_z w128 (of_z w128 c.above-base.result)) c.in-Some.least c.in-Some.ensures.least above c.in_ok-children-in-Some-Name.children.items c.in_ok-children-in-Some-Name.ensures
    (c.args.most - length c.args.given.now - 1) size c.args.current.now c.branch-alloc.new.current c.branch-alloc.new.waiting.items refl refl br) c.branch-alloc.ensures

pub returns-in_ok-children-in-Some-Name-clause-left : goal.returns-in_ok-children-in-Some-Name-clause-left
returns-in_ok-children-in-Some-Name-clause-left g c =
    let at : slice_get (right_of c.args.grammar.now c.args.frame.suffix.rule) c.args.frame.suffix.from ≡ Some (Name c.in-Some-Name.name) = sym c.in-Some-Name.ensures ∙ ap Some c.in-Some-Name.field-0-is in
    let above : to_z w128 (of_z w128 c.above-base.result) +ℤ c.in-Some.least ≡ c.args.current.now.sum = omega (arith, ints, c.above-base.ensures.value, c.above-base.ensures.within, c.in-Some.ensures.within, its-small c.args.grammar.now (g.P.LetterPrice.view c.args.prices.now) c.args.most c.args.given.now c.args.current.now.sum c.args.current.now.steps c.args.frame c.args.current.now.pending c.args.waiting.now.items c.requires.progress c.requires.sums.sound (g.met.P.LetterPrice.all_within c.args.prices.now)) in
    let size : length c.args.given.now + ((c.args.most - length c.args.given.now - 1) + 1) ≡ c.args.most = omega (arith, c.requires.progress.few) in
    on_ok c.branch-alloc.result (Branches (c.args.most - length c.args.given.now - 1) c.args.frame c.in_ok-children-in-Some-Name.children.items c.args.current.now c.args.waiting.now.items c.branch-alloc.new.current c.branch-alloc.new.waiting.items) _
    (λ br. left-name c.args.grammar.now (g.P.LetterPrice.view c.args.prices.now) c.args.most c.args.given.now c.args.current.now.sum c.args.current.now.steps c.args.frame c.args.current.now.pending c.args.waiting.now.items c.requires.progress
    c.requires.sums.sound c.in-Some-Name.name at (to_z w128 (of_z w128 c.above-base.result)) c.in-Some.least c.in-Some.ensures.least above c.in_ok-children-in-Some-Name.children.items c.in_ok-children-in-Some-Name.ensures
    (c.args.most - length c.args.given.now - 1) size c.args.current.now c.branch-alloc.new.current c.branch-alloc.new.waiting.items refl refl br) c.branch-alloc.ensures
