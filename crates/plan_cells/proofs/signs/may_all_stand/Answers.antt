use Rattle.std.proofs.Common.{◌≡◌, ℕ, ◌+◌, ◌<◌, Bool, ◌&&◌, List, length, get_or, drop, sym, ap, ◌∙◌, arith}
use Rattle.std.proofs.lemmas.Iterator.{YieldsList-from_chars}
use Rattle.std.proofs.lemmas.List.{at_drop_more, at_drop_all, length_push}
use Rattle.std.proofs.lemmas.Iterator.Consumers.{YieldsList-turn, YieldsList-end}
use Rattle.std.specs.List.{list_all}
use Rattle.std.specs.Str.{chars}
use Rattle.plan_cells.specs.Signs.{may_stand}
use Rattle.plan_cells.proofs.signs.may_all_stand.Goals as goal

stand_drop : (cs : List ℕ) (n m c : ℕ) → n ≡ m → (m < length cs) × (c ≡ get_or cs m c)
    → list_all may_stand (drop n cs) ≡ (may_stand c && list_all may_stand (drop (n + 1) cs))
stand_drop cs n m c e h =
    let lt : n < length cs = omega (arith, e, h.0) in
    let at : c ≡ get_or cs n c = h.1 ∙ ap (λ (k : ℕ). get_or cs k c) (sym e) in
    at_drop_more (list_all may_stand) cs n c lt ∙ ap (λ (x : ℕ). may_stand x && list_all may_stand (drop (n + 1) cs)) (sym at)

pub returns-then-not-may_stand : goal.returns-then-not-may_stand
returns-then-not-may_stand c =
    let t = YieldsList-turn (YieldsList-from_chars c.args.text.now c.utf8.text cc) c.loop-c.yielded _ c.loop-c.yielded_by _ _ c.in-Some.c c.in-Some.is c.next.ensures.steps in
    let e = stand_drop (chars c.args.text.now) c.loop-c.passed _ c.in-Some.c c.loop-c.invariant.0 t in
    sym (sym c.loop-c.invariant.1 ∙ e ∙ ap (λ (b : Bool). b && list_all may_stand (drop (c.loop-c.passed + 1) (chars c.args.text.now))) (sym c.if-not-may_stand.ensures))

pub loop-c-preserved : goal.loop-c-preserved
loop-c-preserved c =
    let t = YieldsList-turn (YieldsList-from_chars c.args.text.now c.utf8.text cc) c.loop-c.yielded _ c.loop-c.yielded_by _ _ c.in-Some.c c.in-Some.is c.next.ensures.steps in
    let e = stand_drop (chars c.args.text.now) c.loop-c.passed _ c.in-Some.c c.loop-c.invariant.0 t in
    let rest = ap (λ (b : Bool). b && list_all may_stand (drop (c.loop-c.passed + 1) (chars c.args.text.now))) (sym c.if-not-may_stand.ensures) in
    (omega (arith, c.loop-c.invariant.0, length_push c.loop-c.yielded c.in-Some.c), sym rest ∙ sym e ∙ c.loop-c.invariant.1)

pub returns : goal.returns
returns c =
    let t = YieldsList-end (YieldsList-from_chars c.args.text.now c.utf8.text cc) c.loop-c.yielded _ c.loop-c.yielded_by _ _ c.in-None.is c.next.ensures.steps in
    sym (sym c.loop-c.invariant.1 ∙ at_drop_all (list_all may_stand) (chars c.args.text.now) c.loop-c.passed (omega (arith, t.1, c.loop-c.invariant.0)))
