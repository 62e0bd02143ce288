-- The keys after a key, in their order.
use Rattle.std.proofs.Common.{◌≡◌, ℕ, ◌<◌, ◌≤◌, ◌+◌, ◌-◌, Bool, List, [], ◌∷◌, Option, None, Some, arith, refl, subst, sym, ap, ◌∙◌, ◌⊎◌, inl, inr, length, drop}
use Rattle.model_rosters.specs.declared.grammar.ArcKey.{ArcKey}
use Rattle.model_rosters.specs.declared.grammar.Grammar.{Grammar}
use Rattle.model_rosters.specs.declared.grammar.Rule.{Rule}
use Rattle.model_rosters.specs.declared.grammar.Sym.{Sym}
use Rattle.model_rosters.specs.Arcs.{IsArc, ArcBefore, arc_numbers}
use Rattle.model_rosters.specs.Grammar.{rule_at}
use Rattle.model_rosters.specs.Sound.{IsSound}
use Rattle.model_rosters.proofs.ComesFirstLemmas.{first_through}
use Rattle.std.proofs.lemmas.Option.{same_Some}
use Rattle.model_rosters.proofs.tree_laws.Rules.{sound-rule, rule_at-within}
use Rattle.tree_span_cells.specs.declared.slot.Layout.{Layout}
use Rattle.tree_span_cells.specs.Cells.{IsLayoutOf}
use Rattle.tree_span_arcs.specs.Marks.{HasSplit, AreMarked}
use Rattle.tree_span_arcs.specs.Order.{IsAfter, IsNextArc, key_number, IsStep, IsSplitAfter, IsPartStep, IsLongerPart, HasShape, IsLaterSuffix, IsSuffixStep, IsSought, IsSmall}
use Rattle.tree_span_arcs.proofs.ArcsLemmas.{arc-told, marked-within}

split_inside : (g : Grammar) (ss : List Sym) (i l m : ℕ) → 1 ≤ l → HasSplit g ss i l m → (1 ≤ m) × (m ≤ l)
split_inside g [] i l m some h = absurd h
split_inside g (s ∷ []) i l m some h = (omega (arith, h.0, some), omega (arith, h.0))
split_inside g (s ∷ x ∷ ss) i l m some h = (h.0, omega (arith, h.1))

-- an arc of the instance has the shape of one
pub arc-shape : (g : Grammar) (lay : Layout) (ms : List Bool) → IsSound g → IsLayoutOf g lay → AreMarked g lay ms → (x : ArcKey) → IsArc g x → HasShape g x
arc-shape g lay ms sound fits marked x is =
    let t = arc-told g lay ms sound fits marked x is in
    let w = rule_at-within g x.rule t.rule t.at in
    let r = sound-rule g sound x.rule t.rule t.at in
    let k = marked-within g lay ms t.rule x.rule x.suffix x.start x.len r.some t.marked in
    let p = split_inside g (drop x.suffix t.rule.right) x.start x.len x.part t.day.some t.split in
    record {
      low = w.0;
      high = w.1;
      suffix = λ rule at. subst (λ (q : Rule). x.suffix < length q.right) (same_Some t.rule rule (sym t.at ∙ at)) k;
      few = omega (arith, k, r.eight);
      day = t.day;
      some = p.0;
      inside = p.1;
    }

-- so its numbers are small
pub shape-small : (g : Grammar) → IsSound g → (x : ArcKey) → HasShape g x → IsSmall x
shape-small g sound x h = record {
  rule = omega (arith, h.high, sound.few_rules);
  suffix = omega (arith, h.few);
  start = omega (arith, h.day.within, h.day.some, sound.few_periods);
  len = omega (arith, h.day.within, h.day.begins, sound.few_periods);
  part = omega (arith, h.inside, h.day.within, h.day.begins, sound.few_periods);
}

-- a key that comes before another has a lower number
pub before-lower : (a x : ArcKey) → IsSmall a → IsSmall x → ArcBefore a x → key_number a < key_number x
before-lower a x s t (inl h) = omega (arith, h, s.suffix, s.start, s.len, s.part)
before-lower a x s t (inr (e, inl h)) = omega (arith, e, h, s.start, s.len, s.part)
before-lower a x s t (inr (e, inr (f, inl h))) = omega (arith, e, f, h, s.len, s.part)
before-lower a x s t (inr (e, inr (f, inr (d, inl h)))) = omega (arith, e, f, d, h, s.part)
before-lower a x s t (inr (e, inr (f, inr (d, inr (c, inl h))))) = omega (arith, e, f, d, c, h)
before-lower a x s t (inr (e, inr (f, inr (d, inr (c, inr (b, h)))))) = absurd h

three : (a b : ℕ) → (a < b) ⊎ ((a ≡ b) ⊎ (b < a))
three a b = grind arith

same_key : (a x : ArcKey) → a.rule ≡ x.rule → a.suffix ≡ x.suffix → a.start ≡ x.start → a.len ≡ x.len → a.part ≡ x.part → x ≡ a
same_key a x e f d c b = rw (e, f, d, c, b) refl

-- a key with no lower number is the same or comes later
pub lower-before : (a x : ArcKey) → IsSmall a → IsSmall x → key_number a ≤ key_number x → (x ≡ a) ⊎ ArcBefore a x
lower-before a x s t le = go (three a.rule x.rule)
  where
    go5 : a.rule ≡ x.rule → a.suffix ≡ x.suffix → a.start ≡ x.start → a.len ≡ x.len → (a.part < x.part) ⊎ ((a.part ≡ x.part) ⊎ (x.part < a.part)) → (x ≡ a) ⊎ ArcBefore a x
    go5 e f d c (inl h) = inr (inr (e, inr (f, inr (d, inr (c, inl h)))))
    go5 e f d c (inr (inl h)) = inl (same_key a x e f d c h)
    go5 e f d c (inr (inr h)) = absurd (omega (arith, le, e, f, d, c, h))

    go4 : a.rule ≡ x.rule → a.suffix ≡ x.suffix → a.start ≡ x.start → (a.len < x.len) ⊎ ((a.len ≡ x.len) ⊎ (x.len < a.len)) → (x ≡ a) ⊎ ArcBefore a x
    go4 e f d (inl h) = inr (inr (e, inr (f, inr (d, inl h))))
    go4 e f d (inr (inl h)) = go5 e f d h (three a.part x.part)
    go4 e f d (inr (inr h)) = absurd (omega (arith, le, e, f, d, h, t.part))

    go3 : a.rule ≡ x.rule → a.suffix ≡ x.suffix → (a.start < x.start) ⊎ ((a.start ≡ x.start) ⊎ (x.start < a.start)) → (x ≡ a) ⊎ ArcBefore a x
    go3 e f (inl h) = inr (inr (e, inr (f, inl h)))
    go3 e f (inr (inl h)) = go4 e f h (three a.len x.len)
    go3 e f (inr (inr h)) = absurd (omega (arith, le, e, f, h, t.part, t.len))

    go2 : a.rule ≡ x.rule → (a.suffix < x.suffix) ⊎ ((a.suffix ≡ x.suffix) ⊎ (x.suffix < a.suffix)) → (x ≡ a) ⊎ ArcBefore a x
    go2 e (inl h) = inr (inr (e, inl h))
    go2 e (inr (inl h)) = go3 e h (three a.start x.start)
    go2 e (inr (inr h)) = absurd (omega (arith, le, e, h, t.part, t.len, t.start))

    go : (a.rule < x.rule) ⊎ ((a.rule ≡ x.rule) ⊎ (x.rule < a.rule)) → (x ≡ a) ⊎ ArcBefore a x
    go (inl h) = inr (inl h)
    go (inr (inl h)) = go2 h (three a.suffix x.suffix)
    go (inr (inr h)) = absurd (omega (arith, le, h, t.part, t.len, t.start, t.suffix))

-- the next longer first part
pub step-part : (a x : ArcKey) (m : ℕ) → IsSmall a → m < 256 → (IsSplitAfter a x → m ≤ x.part) → ArcBefore a x → key_number (record a { part = m }) ≤ key_number x
step-part a x m s few next (inl h) = omega (arith, h, s.suffix, s.start, s.len, few)
step-part a x m s few next (inr (e, inl h)) = omega (arith, e, h, s.start, s.len, few)
step-part a x m s few next (inr (e, inr (f, inl h))) = omega (arith, e, f, h, s.len, few)
step-part a x m s few next (inr (e, inr (f, inr (d, inl h)))) = omega (arith, e, f, d, h, few)
step-part a x m s few next (inr (e, inr (f, inr (d, inr (c, inl h))))) = let n = next (e, f, d, c, h) in omega (arith, e, f, d, c, n)
step-part a x m s few next (inr (e, inr (f, inr (d, inr (c, inr (p, h)))))) = absurd h

-- one period more for the span, where no longer part makes an arc
pub step-len : (g : Grammar) (a x b : ArcKey) → IsSmall a → HasShape g x → (IsSplitAfter a x → ⊥) → ArcBefore a x
    → b ≡ record a { len = a.len + 1; part = 1 } → key_number b ≤ key_number x
step-len g a x b s t none (inl h) is = rw is (omega (arith, h, s.suffix, s.start, s.len, t.some))
step-len g a x b s t none (inr (e, inl h)) is = rw is (omega (arith, e, h, s.start, s.len, t.some))
step-len g a x b s t none (inr (e, inr (f, inl h))) is = rw is (omega (arith, e, f, h, s.len, t.some))
step-len g a x b s t none (inr (e, inr (f, inr (d, inl h)))) is = rw is (omega (arith, e, f, d, h, t.some))
step-len g a x b s t none (inr (e, inr (f, inr (d, inr (c, inl h))))) is = absurd (none (e, f, d, c, h))
step-len g a x b s t none (inr (e, inr (f, inr (d, inr (c, inr (p, h)))))) is = absurd h

-- the next start, where no longer span fits the day
pub step-start : (g : Grammar) (a x b : ArcKey) → IsSmall a → HasShape g x → (IsSplitAfter a x → ⊥) → g.periods < a.start + a.len → ArcBefore a x
    → b ≡ record a { start = a.start + 1; len = 1; part = 1 } → key_number b ≤ key_number x
step-start g a x b s t none full (inl h) is = rw is (omega (arith, h, s.suffix, s.start, t.some, t.day.some))
step-start g a x b s t none full (inr (e, inl h)) is = rw is (omega (arith, e, h, s.start, t.some, t.day.some))
step-start g a x b s t none full (inr (e, inr (f, inl h))) is = rw is (omega (arith, e, f, h, t.some, t.day.some))
step-start g a x b s t none full (inr (e, inr (f, inr (d, inl h)))) is = absurd (omega (arith, d, h, full, t.day.within))
step-start g a x b s t none full (inr (e, inr (f, inr (d, inr (c, inl h))))) is = absurd (none (e, f, d, c, h))
step-start g a x b s t none full (inr (e, inr (f, inr (d, inr (c, inr (p, h)))))) is = absurd h

-- a later suffix, where there is no later start
pub step-suffix : (g : Grammar) (a x : ArcKey) → HasShape g x → (IsSplitAfter a x → ⊥) → g.periods < a.start + a.len → g.periods ≤ a.start → ArcBefore a x → IsLaterSuffix a x
step-suffix g a x t none full last (inl h) = inl h
step-suffix g a x t none full last (inr (e, inl h)) = inr (e, h)
step-suffix g a x t none full last (inr (e, inr (f, inl h))) = absurd (omega (arith, h, last, t.day.within, t.day.some))
step-suffix g a x t none full last (inr (e, inr (f, inr (d, inl h)))) = absurd (omega (arith, d, h, full, t.day.within))
step-suffix g a x t none full last (inr (e, inr (f, inr (d, inr (c, inl h))))) = absurd (none (e, f, d, c, h))
step-suffix g a x t none full last (inr (e, inr (f, inr (d, inr (c, inr (p, h)))))) = absurd h

after-later : (after : Option ArcKey) (a b : ArcKey) → IsAfter after a → ArcBefore a b → IsAfter after b
after-later None a b h k = tt
after-later (Some c) a b h k = first_through (arc_numbers c) (arc_numbers a) (arc_numbers b) h k

-- a later suffix is a later key
later-before : (a b : ArcKey) → IsLaterSuffix a b → ArcBefore a b
later-before a b (inl h) = inl h
later-before a b (inr (e, h)) = inr (e, inl h)

-- a step to a later suffix is a step where nothing else is left
pub suffix-step : (g : Grammar) (a : ArcKey) (r : Option ArcKey) → ((x : ArcKey) → IsArc g x → HasShape g x) → ((x : ArcKey) → IsArc g x → ArcBefore a x → IsLaterSuffix a x)
    → IsSuffixStep g a r → IsStep g a r
suffix-step g a None shape later h = λ x is before. h x (shape x is) (later x is before)
suffix-step g a (Some b) shape later h = (h.0, later-before a b h.1, λ x is before. h.2 x (shape x is) (later x is before))

-- the search begins at the step after the given arc
pub step-sought : (g : Grammar) (a : ArcKey) (r : Option ArcKey) → IsStep g a r → IsSought g (Some a) r
step-sought g a None h = h
step-sought g a (Some b) h = (h.2, h.1, h.0)

-- and goes on by a step where the key is no arc
pub sought-next : (g : Grammar) → IsSound g → ((x : ArcKey) → IsArc g x → HasShape g x) → (after : Option ArcKey) (a : ArcKey) (r : Option ArcKey)
    → IsSought g after (Some a) → (IsArc g a → ⊥) → IsStep g a r → IsSought g after r
sought-next g sound shape after a r h none step = go r step
  where
    beyond : (x : ArcKey) → IsArc g x → IsAfter after x → ArcBefore a x
    beyond x is aft = elim (lower-before a x h.2 (shape-small g sound x (shape x is)) (h.0 x is aft)) [
      | inl e ↦ absurd (none (subst (λ (q : ArcKey). IsArc g q) e is))
      | inr b ↦ b
    ]

    go : (r : Option ArcKey) → IsStep g a r → IsSought g after r
    go None s = λ x is aft. s x is (beyond x is aft)
    go (Some b) s = (λ x is aft. s.2 x is (beyond x is aft), after-later after a b h.1 s.1, s.0)

-- an arc that is found is the next one
pub sought-found : (g : Grammar) → IsSound g → ((x : ArcKey) → IsArc g x → HasShape g x) → (after : Option ArcKey) (a : ArcKey) → IsSought g after (Some a) → IsArc g a → IsNextArc g after (Some a)
sought-found g sound shape after a h is = (is, h.1, λ x there aft. lower-before a x h.2 (shape-small g sound x (shape x there)) (h.0 x there aft))

-- a key of bytes has a number below the end
small-number : (a : ArcKey) → IsSmall a → key_number a < 1099511627776
small-number a s = omega (arith, s.rule, s.suffix, s.start, s.len, s.part)

-- how many keys there are from one on
abbrev pub keys_left : Option ArcKey → ℕ
keys_left None = 0
keys_left (Some a) = 1099511627776 - key_number a

-- a step leaves fewer
pub step-fewer : (g : Grammar) (a : ArcKey) (r : Option ArcKey) → IsSmall a → IsStep g a r → keys_left r < keys_left (Some a)
step-fewer g a None s h = let n = small-number a s in omega (arith, n)
step-fewer g a (Some b) s h = let n = small-number a s in let m = small-number b h.0 in let k = before-lower a b s h.0 h.1 in omega (arith, n, m, k)

-- the first of all keys has the lowest number
pub first-sought : (g : Grammar) → ((x : ArcKey) → IsArc g x → HasShape g x) → IsSought g None (Some (record { rule = 1; suffix = 0; start = 1; len = 1; part = 1 }))
first-sought g shape =
    (λ x is aft. let h = shape x is in omega (arith, h.low, h.day.begins, h.day.some, h.some), tt, record { rule = omega arith; suffix = omega arith; start = omega arith; len = omega arith; part = omega arith })

-- the next longer part with which a marked suffix may have parts is the next with which it may make an arc
pub part-step : (g : Grammar) (lay : Layout) (ms : List Bool) → IsSound g → IsLayoutOf g lay → AreMarked g lay ms → (a : ArcKey) (rule : Rule) → rule_at g a.rule ≡ Some rule
    → (next : Option ℕ) → IsLongerPart g (drop a.suffix rule.right) a.start a.len a.part next → IsPartStep g a next
part-step g lay ms sound fits marked a rule at next h = by next h
  where
    split : (x : ArcKey) → IsArc g x → IsSplitAfter a x → HasSplit g (drop a.suffix rule.right) a.start a.len x.part
    split x is after =
        let told = arc-told g lay ms sound fits marked x is in
        let same : told.rule ≡ rule = same_Some told.rule rule (sym told.at ∙ ap (λ (r : ℕ). rule_at g r) (sym after.0) ∙ at) in
        rw (after.1, after.2, after.3) (subst (λ (q : Rule). HasSplit g (drop x.suffix q.right) x.start x.len x.part) same told.split)

    by : (next : Option ℕ) → IsLongerPart g (drop a.suffix rule.right) a.start a.len a.part next → IsPartStep g a next
    by None h = λ x is after. h x.part after.4 (split x is after)
    by (Some m) h = (h.0, h.1, λ x is after. h.2 x.part after.4 (split x is after))
