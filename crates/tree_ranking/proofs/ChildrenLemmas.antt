-- The children of a candidate share its trees, and the first of least sum has its least tree.
use Rattle.std.proofs.Common.{◌≡◌, ℕ, ℤ, ◌+ℤ◌, ◌≤ℤ◌, ◌<ℤ◌, ◌≤◌, List, [], ◌∷◌, ◌++◌, arith, refl, subst, sym, ap, ◌∙◌, ◌⊎◌, inl, inr, map}
use Rattle.std.proofs.lemmas.Int.{ints}
use Rattle.model_rosters.specs.declared.grammar.Grammar.{Grammar}
use Rattle.model_rosters.specs.declared.grammar.Step.{Step}
use Rattle.model_rosters.specs.declared.grammar.Sym.TheVariants.{Name}
use Rattle.model_rosters.specs.Folds.{Each}
use Rattle.model_rosters.specs.Trees.{Parts, uses, On}
use Rattle.model_rosters.specs.Sums.{PriceView}
use Rattle.model_rosters.specs.Sound.{IsSound}
use Rattle.model_rosters.proofs.EachLemmas.{Each-append, Each-left, Each-right, Each-weaker}
use Rattle.model_rosters.proofs.tree_laws.Rules.{sound-rule, rule_at-within}
use Rattle.model_rosters.specs.tree_laws.Parts.{first, root}
use Rattle.tree_ranking.specs.declared.candidate.Candidate.{Candidate}
use Rattle.tree_ranking.specs.declared.candidate.Child.{Child}
use Rattle.tree_ranking.specs.declared.frame.Frame.{Frame}
use Rattle.tree_ranking.specs.declared.ranking.Ranked.{Ranked}
use Rattle.tree_ranking.specs.Frames.{IsFrame, symbols, after_part, use_of, inside_of}
use Rattle.tree_ranking.specs.Ranking.{UsesBefore}
use Rattle.tree_ranking.specs.Candidates.{Has, IsCandidate, OneHas, IsApart, Comes, IsAside, AreAside, child_of}
use Rattle.tree_ranking.specs.Children.{IsChild, HasChild, ChildBefore, AreInOrder, AreChildren, TakesLeast}
use Rattle.tree_ranking.specs.Progresses.{GoesOn, IsSplit}
use Rattle.tree_ranking.specs.Walks.{first_with}
use Rattle.tree_ranking.proofs.UsesLemmas.{uses-under}
use Rattle.tree_ranking.proofs.CandidatesLemmas.{has-least, has-first, less_or_same}
use Rattle.tree_ranking.proofs.FrameLemmas.{use-on, right-is}
use Rattle.tree_ranking.proofs.GoesLemmas.{goes-child, has-use}

uses-child : (ss : List Step) (f : Frame) (a b : Child) → ChildBefore a b → UsesBefore (ss ++ use_of f a.rule a.len ∷ []) (ss ++ use_of f b.rule b.len ∷ [])
uses-child ss f a b (inl h) = uses-under ss (use_of f a.rule a.len ∷ []) (use_of f b.rule b.len ∷ []) (inl h)
uses-child ss f a b (inr h) = uses-under ss (use_of f a.rule a.len ∷ []) (use_of f b.rule b.len ∷ []) (inr (h.0, inr (refl, inl h.1)))

in_order-middle : (front back : List Child) (b : Child) → AreInOrder (front ++ b ∷ back) → Each (λ (a : Child). ChildBefore a b) front × Each (ChildBefore b) back × AreInOrder (front ++ back)
in_order-middle [] back b h = (tt, h.0, h.1)
in_order-middle (a ∷ front) back b h =
    let more = in_order-middle front back b h.1 in
    let others = Each-right (ChildBefore a) front (b ∷ back) h.0 in
    ((others.0, more.0), more.1, (Each-append (ChildBefore a) front back (Each-left (ChildBefore a) front (b ∷ back) h.0) others.1, more.2))

each-child : (P : Candidate → Type 0) (made : Child → Candidate) (chs : List Child) → Each (λ (a : Child). P (made a)) chs → Each P (map made chs)
each-child P made [] h = tt
each-child P made (a ∷ chs) h = (h.0, each-child P made chs h.1)

aside-children : (ss : List Step) (f : Frame) (fs : List Frame) (b : Child) (os : List Child) → AreInOrder os
    → Each (λ (a : Child). IsApart (ss ++ use_of f a.rule a.len ∷ []) (ss ++ use_of f b.rule b.len ∷ [])) os
    → AreAside (map (child_of ss f fs) os) (child_of ss f fs b ∷ [])
aside-children ss f fs b [] h k = tt
aside-children ss f fs b (a ∷ os) h k = (
  (k.0, tt),
  each-child (λ (d : Candidate). IsApart (ss ++ use_of f a.rule a.len ∷ []) d.steps) (child_of ss f fs) os
      (Each-weaker (ChildBefore a) (λ (d : Child). IsApart (ss ++ use_of f a.rule a.len ∷ []) (ss ++ use_of f d.rule d.len ∷ [])) os (λ d q. inl (uses-child ss f a d q)) h.0),
  aside-children ss f fs b os h.1 k.1,
)

-- children in their order are apart from each other, and from what their parent is apart from
pub aside-others : (ss : List Step) (f : Frame) (fs : List Frame) (cs : List Candidate) (os : List Child) → AreInOrder os
    → ((a : Child) → IsAside (ss ++ use_of f a.rule a.len ∷ []) cs) → AreAside (map (child_of ss f fs) os) cs
aside-others ss f fs cs [] h k = tt
aside-others ss f fs cs (a ∷ os) h k = (
  k a,
  each-child (λ (d : Candidate). IsApart (ss ++ use_of f a.rule a.len ∷ []) d.steps) (child_of ss f fs) os
      (Each-weaker (ChildBefore a) (λ (d : Child). IsApart (ss ++ use_of f a.rule a.len ∷ []) (ss ++ use_of f d.rule d.len ∷ [])) os (λ d q. inl (uses-child ss f a d q)) h.0),
  aside-others ss f fs cs os h.1 k,
)

has-moved : (g : Grammar) (p : PriceView) (made : Child → Candidate) (front back : List Child) (b : Child) (r : Ranked) → OneHas g p (map made (front ++ b ∷ back)) r → OneHas g p (made b ∷ map made (front ++ back)) r
has-moved g p made [] back b r h = h
has-moved g p made (a ∷ front) back b r (inl h) = inr (inl h)
has-moved g p made (a ∷ front) back b r (inr h) = move (has-moved g p made front back b r h)
  where
    move : OneHas g p (made b ∷ map made (front ++ back)) r → OneHas g p (made b ∷ made a ∷ map made (front ++ back)) r
    move (inl k) = inl k
    move (inr k) = inr (inr k)

module _ (g : Grammar) (p : PriceView) (sound : IsSound g) (sum : ℤ) (ss : List Step) (f : Frame) (fs : List Frame) (is : IsCandidate g p (first_with sum ss f fs))
    (x : ℕ) (name : symbols g f ≡ Name x ∷ symbols g (after_part f 1)) (inside : (m : ℕ) → m ≤ f.span.len → IsFrame g (after_part f m)) (base : ℤ) (above : base +ℤ is.leasts.0 ≡ sum) where
  -- the whole right side of a child's rule use
  frame_inside : (ch : Child) → IsChild g p f x base ch → IsFrame g (inside_of (use_of f ch.rule ch.len))
  frame_inside ch h =
      let rule = sound-rule g sound ch.rule h.use_sum.rule h.use_sum.at in
      let number = rule_at-within g ch.rule h.use_sum.rule h.use_sum.at in
      let right = right-is g ch.rule h.use_sum.rule h.use_sum.at in
      record {
        known = number.1;
        inner = λ e. omega (arith, e, number.0);
        within = omega arith;
        eight = rw right rule.eight;
        begins = is.frames.0.begins;
        fits = h.use_sum.stands.within;
        few = is.frames.0.few;
      }

  goes : (ch : Child) → IsChild g p f x base ch → GoesOn g p (first_with sum ss f fs) (child_of ss f fs ch)
  goes ch h = goes-child g p sum ss f fs is x name ch base above h (frame_inside ch h) (inside ch.len h.high)

  all-goes : (chs : List Child) → Each (IsChild g p f x base) chs → Each (GoesOn g p (first_with sum ss f fs)) (map (child_of ss f fs) chs)
  all-goes chs h = each-child (GoesOn g p (first_with sum ss f fs)) (child_of ss f fs) chs (Each-weaker (IsChild g p f x base) _ chs goes h)

  module _ (r : Ranked) (h : Has g p (first_with sum ss f fs) r) (q m : ℕ) (t u : Parts) (e : h.completes.0 ≡ uses q m t u) (on : On g (Name x ∷ symbols g (after_part f 1)) f.span.start f.span.len (uses q m t u)) where
    one-has : (chs : List Child) → Each (IsChild g p f x base) chs → HasChild chs q m → OneHas g p (map (child_of ss f fs) chs) r
    one-has [] k has = absurd has
    one-has (ch ∷ chs) k (inr has) = inr (one-has chs k.1 has)
    one-has (ch ∷ chs) k (inl has) = inl (has-use g p sum ss f fs is x name ch base above k.0 r h t u
        (e ∙ ap (λ n. uses n m t u) (sym has.0) ∙ ap (λ n. uses ch.rule n t u) (sym has.1))
        (subst (λ n. On g (Name x ∷ symbols g (after_part f 1)) f.span.start f.span.len (uses ch.rule n t u)) (sym has.1)
        (subst (λ n. On g (Name x ∷ symbols g (after_part f 1)) f.span.start f.span.len (uses n m t u)) (sym has.0) on)))

  -- the children have all trees of their parent
  children-have : (chs : List Child) → AreChildren g p f x base chs → (r : Ranked) → Has g p (first_with sum ss f fs) r → OneHas g p (map (child_of ss f fs) chs) r
  children-have chs are r h =
      let used = use-on g p f.suffix.rule f.suffix.from f.span.start f.span.len x (symbols g (after_part f 1)) h.completes.0 (subst (λ q. On g q f.span.start f.span.len h.completes.0) name h.completes.4) in
      let has : HasChild chs used.rule_number used.len = subst (λ t. HasChild chs (root t) (first t)) used.is (are.complete h.completes.0 h.completes.1 h.completes.4 h.completes.5) in
      one-has r h used.rule_number used.len used.inner used.rest used.is used.on chs are.each has

  module _ (chs others : List Child) (b : Child) (are : AreChildren g p f x base chs) (takes : TakesLeast chs b others) where
    each-at : Each (IsChild g p f x base) (takes.front ++ b ∷ takes.back)
    each-at = subst (Each (IsChild g p f x base)) takes.from are.each

    b-is : IsChild g p f x base b
    b-is = (Each-right (IsChild g p f x base) takes.front (b ∷ takes.back) each-at).0

    others-are : Each (IsChild g p f x base) others
    others-are = subst (Each (IsChild g p f x base)) (sym takes.to)
        (Each-append (IsChild g p f x base) takes.front takes.back (Each-left (IsChild g p f x base) takes.front (b ∷ takes.back) each-at) (Each-right (IsChild g p f x base) takes.front (b ∷ takes.back) each-at).1)

    middle : Each (λ (a : Child). ChildBefore a b) takes.front × Each (ChildBefore b) takes.back × AreInOrder (takes.front ++ takes.back)
    middle = in_order-middle takes.front takes.back b (subst AreInOrder takes.from are.ordered)

    no-less : Each (λ (a : Child). b.sum ≤ℤ a.sum) others
    no-less = subst (Each (λ (a : Child). b.sum ≤ℤ a.sum)) (sym takes.to)
        (Each-append (λ (a : Child). b.sum ≤ℤ a.sum) takes.front takes.back (Each-weaker (λ (a : Child). b.sum <ℤ a.sum) (λ (a : Child). b.sum ≤ℤ a.sum) takes.front (λ a h. omega (arith, ints, h)) takes.least.before) takes.least.after)

    has-b : (r : Ranked) → Has g p (first_with sum ss f fs) r → OneHas g p (child_of ss f fs b ∷ map (child_of ss f fs) others) r
    has-b r h = subst (λ q. OneHas g p (child_of ss f fs b ∷ map (child_of ss f fs) q) r) (sym takes.to)
        (has-moved g p (child_of ss f fs) takes.front takes.back b r (subst (λ q. OneHas g p (map (child_of ss f fs) q) r) takes.from (children-have chs are r h)))

    at_most : (os : List Child) (r : Ranked) → Each (λ (a : Child). b.sum ≤ℤ a.sum) os → OneHas g p (map (child_of ss f fs) os) r → b.sum ≤ℤ r.sum
    at_most [] r h k = absurd k
    at_most (a ∷ os) r h (inl k) = omega (arith, ints, h.0, has-least g p (child_of ss f fs a) r k)
    at_most (a ∷ os) r h (inr k) = at_most os r h.1 k

    same_sum : b.sum ≡ sum
    same_sum =
        let first = has-first g p (first_with sum ss f fs) is in
        let b_first = has-first g p (child_of ss f fs b) (goes b b-is).is in
        let low : b.sum ≤ℤ first.0.sum = low-at first.0 (has-b first.0 first.1) in
        let high : sum ≤ℤ b_first.0.sum = has-least g p (first_with sum ss f fs) b_first.0 ((goes b b-is).has b_first.0 b_first.1) in
        omega (arith, ints, low, high, first.2, b_first.2)
      where
        low-at : (r : Ranked) → OneHas g p (child_of ss f fs b ∷ map (child_of ss f fs) others) r → b.sum ≤ℤ r.sum
        low-at r (inl k) = has-least g p (child_of ss f fs b) r k
        low-at r (inr k) = at_most others r no-less k

    apart-b : Each (λ (a : Child). IsApart (ss ++ use_of f a.rule a.len ∷ []) (ss ++ use_of f b.rule b.len ∷ [])) others
    apart-b = subst (Each (λ (a : Child). IsApart (ss ++ use_of f a.rule a.len ∷ []) (ss ++ use_of f b.rule b.len ∷ []))) (sym takes.to)
        (Each-append _ takes.front takes.back
        (Each-weaker (λ (a : Child). ChildBefore a b) _ takes.front (λ a h. inl (uses-child ss f a b h)) middle.0)
        (Each-weaker (ChildBefore b) _ takes.back (λ a h. inr (uses-child ss f b a h)) middle.1))

    -- a candidate is split into its children
    pub split-children : IsSplit g p (first_with sum ss f fs) (child_of ss f fs b) (map (child_of ss f fs) others)
    split-children = record {
      first = goes b b-is;
      others = all-goes others others-are;
      sum = same_sum;
      aside = aside-children ss f fs b others (subst AreInOrder (sym takes.to) middle.2) apart-b;
      all = has-b;
    }

    -- and the first of least sum comes before the others
    pub first-comes : Each (Comes (child_of ss f fs b)) (map (child_of ss f fs) others)
    first-comes = subst (λ q. Each (Comes (child_of ss f fs b)) (map (child_of ss f fs) q)) (sym takes.to)
        (each-child (Comes (child_of ss f fs b)) (child_of ss f fs) (takes.front ++ takes.back) (Each-append _ takes.front takes.back
        (both takes.front middle.0 takes.least.before) (later takes.back middle.1 takes.least.after)))
      where
        both : (os : List Child) → Each (λ (a : Child). ChildBefore a b) os → Each (λ (a : Child). b.sum <ℤ a.sum) os → Each (λ (a : Child). Comes (child_of ss f fs b) (child_of ss f fs a)) os
        both [] h k = tt
        both (a ∷ os) h k = (record { apart = inr (uses-child ss f a b h.0); before = inl k.0 }, both os h.1 k.1)

        later : (os : List Child) → Each (ChildBefore b) os → Each (λ (a : Child). b.sum ≤ℤ a.sum) os → Each (λ (a : Child). Comes (child_of ss f fs b) (child_of ss f fs a)) os
        later [] h k = tt
        later (a ∷ os) h k = (record { apart = inl (uses-child ss f b a h.0); before = by (less_or_same b.sum a.sum k.0) }, later os h.1 k.1)
          where
            by : (b.sum <ℤ a.sum) ⊎ (b.sum ≡ a.sum) → (b.sum <ℤ a.sum) ⊎ ((b.sum ≡ a.sum) × UsesBefore (ss ++ use_of f b.rule b.len ∷ []) (ss ++ use_of f a.rule a.len ∷ []))
            by (inl q) = inl q
            by (inr q) = inr (q, uses-child ss f b a h.0)
