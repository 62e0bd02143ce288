-- The children of a candidate, one after another.
use Rattle.std.proofs.Common.{◌≡◌, ◌≢◌, ℕ, ℤ, ◌<◌, ◌≤◌, ◌+◌, List, [], ◌∷◌, ◌++◌, Some, arith, subst, sym, ap, ◌∙◌, ◌⊎◌, inl, inr, length}
use Rattle.std.proofs.lemmas.Option.{same_Some}
use Rattle.model_rosters.specs.declared.grammar.Grammar.{Grammar}
use Rattle.model_rosters.specs.declared.grammar.Rule.{Rule}
use Rattle.model_rosters.specs.declared.grammar.Sym.TheVariants.{Name}
use Rattle.model_rosters.specs.Folds.{Each}
use Rattle.model_rosters.specs.Grammar.{rule_at}
use Rattle.model_rosters.specs.Trees.{Parts, On}
use Rattle.model_rosters.specs.Sums.{PriceView}
use Rattle.model_rosters.proofs.EachLemmas.{Each-append, Each-weaker}
use Rattle.model_rosters.specs.tree_laws.Parts.{first, root}
use Rattle.model_rosters.proofs.tree_laws.Rules.{rule_at-within}
use Rattle.tree_ranking.specs.declared.candidate.Child.{Child}
use Rattle.tree_ranking.specs.declared.frame.Frame.{Frame}
use Rattle.tree_ranking.specs.Frames.{OnFrame, frame_sum, symbols, after_part}
use Rattle.tree_ranking.specs.Children.{IsChild, HasNoSum, HasChild, IsEarlier, ChildBefore, AreInOrder, AreChildrenTo, AreChildren}
use Rattle.tree_ranking.proofs.FrameLemmas.{use-on, IsUse}

child-left : (chs : List Child) (a : Child) (q m : ℕ) → HasChild chs q m → HasChild (chs ++ a ∷ []) q m
child-left [] a q m h = absurd h
child-left (b ∷ chs) a q m (inl h) = inl h
child-left (b ∷ chs) a q m (inr h) = inr (child-left chs a q m h)

child-last : (chs : List Child) (a : Child) (q m : ℕ) → a.rule ≡ q → a.len ≡ m → HasChild (chs ++ a ∷ []) q m
child-last [] a q m e f = inl (e, f)
child-last (b ∷ chs) a q m e f = inr (child-last chs a q m e f)

order-push : (chs : List Child) (a : Child) → AreInOrder chs → Each (λ (b : Child). ChildBefore b a) chs → AreInOrder (chs ++ a ∷ [])
order-push [] a h k = (tt, tt)
order-push (b ∷ chs) a h k = (Each-append (ChildBefore b) chs (a ∷ []) h.0 (k.0, tt), order-push chs a h.1 k.1)

earlier-more : (q m r n : ℕ) → IsEarlier q m r n → IsEarlier q m r (n + 1)
earlier-more q m r n (inl h) = inl h
earlier-more q m r n (inr h) = inr (h.0, omega (arith, h.1))

earlier-next : (q m r n : ℕ) → IsEarlier q m r n → IsEarlier q m (r + 1) 1
earlier-next q m r n (inl h) = inl (omega (arith, h))
earlier-next q m r n (inr h) = inl (omega (arith, h.0))

earlier_or : (q m r n : ℕ) → IsEarlier q m r (n + 1) → IsEarlier q m r n ⊎ ((q ≡ r) × (m ≡ n))
earlier_or q m r n (inl h) = inl (inl h)
earlier_or q m r n (inr h) = by (less_or m n h.1)
  where
    less_or : (m n : ℕ) → m < n + 1 → (m < n) ⊎ (m ≡ n)
    less_or m n l = grind arith

    by : (m < n) ⊎ (m ≡ n) → IsEarlier q m r n ⊎ ((q ≡ r) × (m ≡ n))
    by (inl l) = inl (inr (h.0, l))
    by (inr e) = inr (h.0, e)

less_or_at : (q r : ℕ) → q < r + 1 → (q < r) ⊎ (q ≡ r)
less_or_at q r h = grind arith

module _ (g : Grammar) (p : PriceView) (f : Frame) (x : ℕ) (name : symbols g f ≡ Name x ∷ symbols g (after_part f 1)) (base : ℤ) where
  used : (t : Parts) → OnFrame g f t → IsUse g p f.suffix.rule f.suffix.from f.span.start f.span.len x (symbols g (after_part f 1)) t
  used t h = use-on g p f.suffix.rule f.suffix.from f.span.start f.span.len x (symbols g (after_part f 1)) t (subst (λ s. On g s f.span.start f.span.len t) name h)

  -- a rule use has a rule of the name, and a length from 1 to that of the frame
  record IsSome (t : Parts) : Type 0 where
    rule : Rule
    at : rule_at g (root t) ≡ Some rule
    left : rule.left ≡ x
    low : 1 ≤ first t
    high : first t ≤ f.span.len

  is-some : (t : Parts) → OnFrame g f t → IsSome t
  is-some t h =
      let u = used t h in
      let r : root t ≡ u.rule_number = ap root u.is in
      let l : first t ≡ u.len = ap first u.is in
      record {
        rule = u.on.0.0;
        at = ap (λ n. rule_at g n) r ∙ u.on.0.1;
        left = u.on.0.2;
        low = omega (arith, l, u.on.0.4);
        high = omega (arith, l, u.on.1);
      }

  -- one child more
  pub children-more : (q m : ℕ) (chs : List Child) (a : Child) → AreChildrenTo g p f x base q m chs → IsChild g p f x base a → a.rule ≡ q → a.len ≡ m
      → AreChildrenTo g p f x base q (m + 1) (chs ++ a ∷ [])
  children-more q m chs a are is e l = record {
    each = Each-append (IsChild g p f x base) chs (a ∷ []) are.each (is, tt);
    ordered = order-push chs a are.ordered (Each-weaker (λ (b : Child). IsEarlier b.rule b.len q m) (λ (b : Child). ChildBefore b a) chs
        (λ b h. subst (λ r. IsEarlier b.rule b.len r a.len) (sym e) (subst (λ n. IsEarlier b.rule b.len q n) (sym l) h)) are.earlier);
    earlier = Each-append (λ (b : Child). IsEarlier b.rule b.len q (m + 1)) chs (a ∷ [])
        (Each-weaker (λ (b : Child). IsEarlier b.rule b.len q m) (λ (b : Child). IsEarlier b.rule b.len q (m + 1)) chs (λ b h. earlier-more b.rule b.len q m h) are.earlier)
        (inr (e, omega (arith, l)), tt);
    complete = λ t z on sum h. by t z on sum (earlier_or (root t) (first t) q m h);
  }
    where
      by : (t : Parts) (z : ℤ) → OnFrame g f t → frame_sum p f t ≡ Some z → IsEarlier (root t) (first t) q m ⊎ ((root t ≡ q) × (first t ≡ m)) → HasChild (chs ++ a ∷ []) (root t) (first t)
      by t z on sum (inl h) = child-left chs a (root t) (first t) (are.complete t z on sum h)
      by t z on sum (inr h) = child-last chs a (root t) (first t) (e ∙ sym h.0) (l ∙ sym h.1)

  -- no child of this length
  pub children-skip : (q m : ℕ) (chs : List Child) → AreChildrenTo g p f x base q m chs → HasNoSum g p f q m → AreChildrenTo g p f x base q (m + 1) chs
  children-skip q m chs are none = record {
    each = are.each;
    ordered = are.ordered;
    earlier = Each-weaker (λ (b : Child). IsEarlier b.rule b.len q m) (λ (b : Child). IsEarlier b.rule b.len q (m + 1)) chs (λ b h. earlier-more b.rule b.len q m h) are.earlier;
    complete = λ t z on sum h. by t z on sum (earlier_or (root t) (first t) q m h);
  }
    where
      by : (t : Parts) (z : ℤ) → OnFrame g f t → frame_sum p f t ≡ Some z → IsEarlier (root t) (first t) q m ⊎ ((root t ≡ q) × (first t ≡ m)) → HasChild chs (root t) (first t)
      by t z on sum (inl h) = are.complete t z on sum h
      by t z on sum (inr h) = let no = none t on h.0 h.1 in cc

  -- all lengths of a rule
  pub children-next : (q m : ℕ) (chs : List Child) → f.span.len < m → AreChildrenTo g p f x base q m chs → AreChildrenTo g p f x base (q + 1) 1 chs
  children-next q m chs long are = record {
    each = are.each;
    ordered = are.ordered;
    earlier = Each-weaker (λ (b : Child). IsEarlier b.rule b.len q m) (λ (b : Child). IsEarlier b.rule b.len (q + 1) 1) chs (λ b h. earlier-next b.rule b.len q m h) are.earlier;
    complete = λ t z on sum h. by t z on sum h;
  }
    where
      by : (t : Parts) (z : ℤ) → OnFrame g f t → frame_sum p f t ≡ Some z → IsEarlier (root t) (first t) (q + 1) 1 → HasChild chs (root t) (first t)
      by t z on sum (inr h) = absurd (omega (arith, h.1, (is-some t on).low))
      by t z on sum (inl h) = at (less_or_at (root t) q h)
        where
          at : (root t < q) ⊎ (root t ≡ q) → HasChild chs (root t) (first t)
          at (inl l) = are.complete t z on sum (inl l)
          at (inr e) = are.complete t z on sum (inr (e, omega (arith, long, (is-some t on).high)))

  -- a rule of another name
  pub children-pass : (q : ℕ) (rule : Rule) (chs : List Child) → rule_at g q ≡ Some rule → rule.left ≢ x → AreChildrenTo g p f x base q 1 chs → AreChildrenTo g p f x base (q + 1) 1 chs
  children-pass q rule chs here other are = record {
    each = are.each;
    ordered = are.ordered;
    earlier = Each-weaker (λ (b : Child). IsEarlier b.rule b.len q 1) (λ (b : Child). IsEarlier b.rule b.len (q + 1) 1) chs (λ b h. earlier-next b.rule b.len q 1 h) are.earlier;
    complete = λ t z on sum h. by t z on sum h;
  }
    where
      by : (t : Parts) (z : ℤ) → OnFrame g f t → frame_sum p f t ≡ Some z → IsEarlier (root t) (first t) (q + 1) 1 → HasChild chs (root t) (first t)
      by t z on sum (inr h) = absurd (omega (arith, h.1, (is-some t on).low))
      by t z on sum (inl h) = at (less_or_at (root t) q h)
        where
          at : (root t < q) ⊎ (root t ≡ q) → HasChild chs (root t) (first t)
          at (inl l) = are.complete t z on sum (inl l)
          at (inr e) =
              let s = is-some t on in
              let same : s.rule ≡ rule = same_Some s.rule rule (sym s.at ∙ ap (λ n. rule_at g n) e ∙ here) in
              absurd (other (ap (λ (r : Rule). r.left) (sym same) ∙ s.left))

  pub children-begin : AreChildrenTo g p f x base 1 1 []
  children-begin = record { each = tt; ordered = tt; earlier = tt; complete = λ t z on sum h. absurd (by t on h) }
    where
      by : (t : Parts) → OnFrame g f t → IsEarlier (root t) (first t) 1 1 → ⊥
      by t on (inl h) = let s = is-some t on in omega (arith, h, (rule_at-within g (root t) s.rule s.at).0)
      by t on (inr h) = omega (arith, h.1, (is-some t on).low)

  -- all rules
  pub children-end : (q : ℕ) (chs : List Child) → length g.rules < q → AreChildrenTo g p f x base q 1 chs → AreChildren g p f x base chs
  children-end q chs all are = record {
    each = are.each;
    ordered = are.ordered;
    complete = λ t z on sum. let s = is-some t on in are.complete t z on sum (inl (omega (arith, all, (rule_at-within g (root t) s.rule s.at).1)));
  }
