-- The arcs that a walk has passed, and those ahead of it.
use Rattle.std.proofs.Common.{ℕ, ◌≡◌, ◌+◌, arith, ◌<◌, ◌≤◌, List, [], ◌∷◌, ◌++◌, Option, None, Some, length, sym, subst, ◌⊎◌, inl, inr}
use Rattle.std.specs.Prelude.{IfSome}
use Rattle.std.proofs.lemmas.List.{length-append}
use Rattle.std.proofs.lemmas.Option.{same_Some}
use Rattle.model_rosters.specs.declared.grammar.ArcKey.{ArcKey}
use Rattle.model_rosters.specs.declared.grammar.Grammar.{Grammar}
use Rattle.model_rosters.specs.Arcs.{IsArc, ArcBefore, arc_numbers}
use Rattle.model_rosters.specs.Folds.{Each, In}
use Rattle.model_rosters.proofs.ComesFirstLemmas.{first_one_way, first_through}
use Rattle.model_rosters.proofs.EachLemmas.{Each-weaker, Each-append}
use Rattle.model_rosters.specs.arc_laws.Lists.{IsRising, AreArcs}
use Rattle.model_rosters.proofs.arc_laws.FoldsLemmas.{In-append}
use Rattle.tree_span_arcs.specs.Ahead.{HasPassed, IsAhead, IsPassed}
use Rattle.tree_span_arcs.specs.Order.{IsNextArc, IsSmall}
use Rattle.tree_span_arcs.proofs.OrderLemmas.{before-lower, keys_left}
use Rattle.tree_span_arcs.proofs.StandLemmas.{In-left, In-right}

-- what is ahead of an arc does not come before it
pub not-behind : (a x : ArcKey) → IsAhead (Some a) x → ArcBefore x a → ⊥
not-behind a x (inl e) h = let k = subst (λ (y : ArcKey). ArcBefore y a) e h in first_one_way (arc_numbers a) (arc_numbers a) k k
not-behind a x (inr b) h = first_one_way (arc_numbers x) (arc_numbers a) h b

-- at the first arc all are ahead
pub first-ahead : (g : Grammar) (r : Option ArcKey) → IsNextArc g None r → (x : ArcKey) → IsArc g x → IsAhead r x
first-ahead g None h x is = h x is tt
first-ahead g (Some a) h x is = h.2 x is tt

-- what comes after an arc is ahead of the next
pub next-ahead : (g : Grammar) (a : ArcKey) (r : Option ArcKey) → IsNextArc g (Some a) r → (x : ArcKey) → IsArc g x → ArcBefore a x → IsAhead r x
next-ahead g a None h x is b = h x is b
next-ahead g a (Some c) h x is b = h.2 x is b

-- it is an arc of the instance
pub next-some : (g : Grammar) (after r : Option ArcKey) → IsNextArc g after r → IfSome r (IsArc g)
next-some g after None h = tt
next-some g after (Some a) h = h.0

-- where all that is not ahead of an arc has a property, and the arc too, all that is not ahead of the next has it
pub try-next : (g : Grammar) (P : ArcKey → Type 0) (a : ArcKey) (r : Option ArcKey) → ((x : ArcKey) → IsArc g x → P x ⊎ IsAhead (Some a) x) → P a → IsNextArc g (Some a) r
    → (x : ArcKey) → IsArc g x → P x ⊎ IsAhead r x
try-next g P a r all here n x is = by (all x is)
  where
    by : P x ⊎ IsAhead (Some a) x → P x ⊎ IsAhead r x
    by (inl p) = inl p
    by (inr (inl e)) = inl (subst P (sym e) here)
    by (inr (inr b)) = inr (next-ahead g a r n x is b)

-- so that the first arcs of a walk are arcs of the instance
pub next-is-arc : (g : Grammar) (after r : Option ArcKey) (a : ArcKey) → IsNextArc g after r → r ≡ Some a → IsArc g a
next-is-arc g after None a h e = cc
next-is-arc g after (Some b) a h e = subst (λ (x : ArcKey). IsArc g x) (same_Some b a e) h.0

-- each step leaves fewer keys
pub next-fewer : (g : Grammar) (a : ArcKey) (r : Option ArcKey) → ((x : ArcKey) → IsArc g x → IsSmall x) → IsArc g a → IsNextArc g (Some a) r → keys_left r < keys_left (Some a)
next-fewer g a None small is h = let s = small a is in omega (arith, s.rule, s.suffix, s.start, s.len, s.part)
next-fewer g a (Some b) small is h =
    let s = small a is in
    let t = small b h.0 in
    omega (arith, before-lower a b s t h.1, t.rule, t.suffix, t.start, t.len, t.part)

rising-push : (xs : List ArcKey) (a : ArcKey) → IsRising xs → Each (λ x. ArcBefore x a) xs → IsRising (xs ++ a ∷ [])
rising-push [] a h k = (tt, tt)
rising-push (x ∷ xs) a h k = (Each-append (ArcBefore x) xs (a ∷ []) h.0 (k.0, tt), rising-push xs a h.1 k.1)

-- before the first arc none has been passed
pub passed-first : (g : Grammar) (r : Option ArcKey) → IsNextArc g None r → IsPassed g [] r
passed-first g None h = record { sound = λ a i. absurd i; whole = λ a is. absurd (h a is tt); rising = tt; before = tt; next_arc = tt; few = omega arith }
passed-first g (Some b) h = record { sound = λ a i. absurd i; whole = λ a is. inr (h.2 a is tt); rising = tt; before = tt; next_arc = h.0; few = omega arith }

module _ (g : Grammar) (small : (x : ArcKey) → IsArc g x → IsSmall x) (listed : List ArcKey) (a : ArcKey) (h : IsPassed g listed (Some a)) where
  sound_more : (x : ArcKey) → In x (listed ++ a ∷ []) → IsArc g x
  sound_more x i = by (In-append x listed (a ∷ []) i)
    where
      by : In x listed ⊎ In x (a ∷ []) → IsArc g x
      by (inl k) = h.sound x k
      by (inr (inl e)) = subst (λ (y : ArcKey). IsArc g y) (sym e) h.next_arc
      by (inr (inr k)) = absurd k

  whole_more : (r : Option ArcKey) → IsNextArc g (Some a) r → (x : ArcKey) → IsArc g x → In x (listed ++ a ∷ []) ⊎ IsAhead r x
  whole_more r n x is = by (h.whole x is)
    where
      by : In x listed ⊎ IsAhead (Some a) x → In x (listed ++ a ∷ []) ⊎ IsAhead r x
      by (inl k) = inl (In-left x listed (a ∷ []) k)
      by (inr (inl e)) = inl (In-right x listed (a ∷ []) (inl e))
      by (inr (inr b)) = inr (next-ahead g a r n x is b)

  -- one arc more
  pub passed-step : (r : Option ArcKey) → IsNextArc g (Some a) r → IsPassed g (listed ++ a ∷ []) r
  passed-step None n =
      let s = small a h.next_arc in
      let l = length-append listed (a ∷ []) in
      record {
        sound = sound_more;
        whole = whole_more None n;
        rising = rising-push listed a h.rising h.before;
        before = tt;
        next_arc = tt;
        few = omega (arith, l, h.few, s.rule, s.suffix, s.start, s.len, s.part);
      }
  passed-step (Some b) n =
      let l = length-append listed (a ∷ []) in
      let k = before-lower a b (small a h.next_arc) (small b n.0) n.1 in
      record {
        sound = sound_more;
        whole = whole_more (Some b) n;
        rising = rising-push listed a h.rising h.before;
        before = Each-append (λ x. ArcBefore x b) listed (a ∷ []) (Each-weaker (λ x. ArcBefore x a) (λ x. ArcBefore x b) listed (λ x e. first_through (arc_numbers x) (arc_numbers a) (arc_numbers b) e n.1) h.before) (n.1, tt);
        next_arc = n.0;
        few = omega (arith, l, h.few, k);
      }

-- with one more step one more has been passed
pub has-passed-step : (g : Grammar) → ((x : ArcKey) → IsArc g x → IsSmall x) → (n : ℕ) (a : ArcKey) → HasPassed g n (Some a) → (r : Option ArcKey) → IsNextArc g (Some a) r → HasPassed g (n + 1) r
has-passed-step g small n a h r next = (h.0 ++ a ∷ [], passed-step g small h.0 a h.1 r next, omega (arith, h.2, length-append h.0 (a ∷ [])))

-- there are few of them
pub passed-few : (g : Grammar) → ((x : ArcKey) → IsArc g x → IsSmall x) → (listed : List ArcKey) (r : Option ArcKey) → IsPassed g listed r → length listed ≤ 1099511627776
passed-few g small listed None h = h.few
passed-few g small listed (Some a) h = let s = small a h.next_arc in omega (arith, h.few, s.rule, s.suffix, s.start, s.len, s.part)

-- at the end all have been passed
pub passed-end : (g : Grammar) (listed : List ArcKey) → IsPassed g listed None → AreArcs g listed
passed-end g listed h = record { sound = h.sound; whole = λ a is. by a (h.whole a is); rising = h.rising }
  where
    by : (a : ArcKey) → In a listed ⊎ ⊥ → In a listed
    by a (inl k) = k
    by a (inr none) = absurd none
