-- A candidate goes on past its first symbol.
use Rattle.std.proofs.Common.{◌≡◌, ℕ, ℤ, ◌+ℤ◌, ◌<◌, ◌≤◌, ◌+◌, ◌-◌, ◌*◌, ◌^◌, List, [], ◌∷◌, ◌++◌, None, Some, arith, subst, sym, ap, ◌∙◌, length, length-append, map}
use Rattle.std.specs.Prelude.{slice_get, Result, Ok, Err, OnOk}
use Rattle.std.proofs.lemmas.Option.{slice_get_within, same_Some}
use Rattle.model_rosters.specs.declared.grammar.Grammar.{Grammar}
use Rattle.model_rosters.specs.declared.grammar.Step.{Step}
use Rattle.model_rosters.specs.declared.grammar.Sym.TheVariants.{Code, Name}
use Rattle.model_rosters.specs.Folds.{Each}
use Rattle.model_rosters.specs.Room.{most_uses}
use Rattle.model_rosters.specs.Trees.{On, steps}
use Rattle.model_rosters.specs.Sums.{PriceView, AllWithin, Within, parts_sum}
use Rattle.model_rosters.specs.Sound.{IsSound}
use Rattle.model_rosters.proofs.EachLemmas.{Each-weaker}
use Rattle.model_rosters.specs.tree_laws.Parts.{first, root}
use Rattle.model_rosters.proofs.tree_laws.LeastValues.{IsLeast-one}
use Rattle.model_rosters.proofs.tree_laws.Bounds.{few-steps, sum-small}
use Rattle.model_rosters.proofs.tree_laws.Ends.{last_sum}
use Rattle.tree_ranking.specs.declared.candidate.Candidate.{Candidate}
use Rattle.tree_ranking.specs.declared.candidate.Child.{Child}
use Rattle.tree_ranking.specs.declared.frame.Frame.{Frame}
use Rattle.tree_ranking.specs.declared.ranking.Ranked.{Ranked}
use Rattle.tree_ranking.specs.Frames.{IsFrame, OnFrame, frame_sum, FrameLeast, right_of, symbols, after_part, use_of}
use Rattle.tree_ranking.specs.Candidates.{IsCandidate, IsApart, Comes, child_of}
use Rattle.tree_ranking.specs.Children.{IsChild, HasChild, AreChildren}
use Rattle.tree_ranking.specs.Progresses.{IsProgress, CanTake, AreOffered, Branches, frames_left, steps_left}
use Rattle.tree_ranking.specs.Walks.{first_with}
use Rattle.tree_ranking.proofs.UsesLemmas.{apart-extend_left}
use Rattle.tree_ranking.proofs.CandidatesLemmas.{has-first}
use Rattle.tree_ranking.proofs.FrameLemmas.{symbol-here, symbol-none, letter-on}
use Rattle.tree_ranking.proofs.OfferListLemmas.{all-offered}
use Rattle.tree_ranking.proofs.ProgressLemmas.{is-split}
use Rattle.tree_ranking.proofs.GoesLemmas.{split-end, split-letter}
use Rattle.tree_ranking.proofs.ChildrenLemmas.{split-children, first-comes, aside-others}
use Rattle.tree_ranking.proofs.BranchLemmas.{each-taken}

-- what is left of a frame after a part is a frame
pub frame-after : (g : Grammar) (f : Frame) (m : ℕ) → IsFrame g f → f.suffix.from < length (right_of g f.suffix.rule) → m ≤ f.span.len → IsFrame g (after_part f m)
frame-after g f m is some high = record {
  known = is.known;
  inner = λ e. omega arith;
  within = omega (arith, some);
  eight = is.eight;
  begins = omega (arith, is.begins);
  fits = omega (arith, is.fits, high);
  few = is.few;
}

length-left : (xs ys : List Step) → length xs ≤ length (xs ++ ys)
length-left xs ys = omega (arith, length-append xs ys)

-- a candidate has no more rule uses than a tree of the day may have
pub few-uses : (g : Grammar) (p : PriceView) (c : Candidate) → IsSound g → IsCandidate g p c → length c.steps ≤ most_uses g
few-uses g p c sound is =
    let first = has-first g p c is in
    let tree = is.of_day first.0 first.1 in
    let most = few-steps g sound tree.tree g.start 1 g.periods sound.some_period tree.of_day in
    let size : length first.0.tree ≡ length (steps 1 tree.tree) = ap length tree.uses in
    let more : length first.0.tree ≡ length (c.steps ++ first.1.more) = ap length first.1.uses in
    let low = length-left c.steps first.1.more in
    omega (arith, most, size, more, low)

-- its sum is small
pub small-sum : (g : Grammar) (p : PriceView) (c : Candidate) → IsSound g → AllWithin (2 ^ 96) p → IsCandidate g p c → Within (2 ^ 110) c.sum
small-sum g p c sound all is =
    let first = has-first g p c is in
    let tree = is.of_day first.0 first.1 in
    let sum : parts_sum p 0 1 1 tree.tree ≡ Some first.0.sum = sym (last_sum g p 1 g.periods 0 0 (Name g.start) tree.tree tree.of_day) ∙ tree.sum in
    subst (Within (2 ^ 110)) first.2 (sum-small g sound p all 0 1 1 g.periods (Name g.start ∷ []) tree.tree first.0.sum sound.few_periods tree.of_day sum)

module _ (g : Grammar) (p : PriceView) (most : ℕ) (rs : List Ranked) (sum : ℤ) (ss : List Step) (f : Frame) (fs : List Frame) (ws : List Candidate)
    (is : IsProgress g p most rs (first_with sum ss f fs ∷ ws) []) where
  its : IsCandidate g p (first_with sum ss f fs)
  its = is.kept.0.is

  pub its-frame : IsFrame g f
  its-frame = its.frames.0

  -- the frame is at its end
  pub past-end : slice_get (right_of g f.suffix.rule) f.suffix.from ≡ None → (c : Candidate) → c ≡ record { sum = sum; steps = ss; pending = fs }
      → IsProgress g p most rs (c ∷ ws) []
  past-end none c e = subst (λ d. IsProgress g p most rs (d ∷ ws) []) (sym e)
      (is-split g p most rs (first_with sum ss f fs) (record { sum = sum; steps = ss; pending = fs }) ws []
      (split-end g p sum ss f fs its (symbol-none (right_of g f.suffix.rule) f.suffix.from none)) is)

  -- a letter comes first
  pub past-letter : (x : ℕ) → slice_get (right_of g f.suffix.rule) f.suffix.from ≡ Some (Code x) → (c : Candidate) → c ≡ first_with sum ss (after_part f 1) fs
      → 1 ≤ f.span.len → IsProgress g p most rs (c ∷ ws) []
  past-letter x at c e some = subst (λ d. IsProgress g p most rs (d ∷ ws) []) (sym e)
      (is-split g p most rs (first_with sum ss f fs) (first_with sum ss (after_part f 1) fs) ws []
      (split-letter g p sum ss f fs its x (symbol-here (right_of g f.suffix.rule) f.suffix.from (Code x) at)
      (frame-after g f 1 its.frames.0 (slice_get_within (right_of g f.suffix.rule) f.suffix.from (Code x) at) some)) is)

  its-least : (least : ℤ) → FrameLeast g p f (Some least) → least ≡ its.leasts.0
  its-least least h = same_Some least its.leasts.0 (IsLeast-one (OnFrame g f) (frame_sum p f) (Some least) (Some its.leasts.0) h its.leasts.2)

  pub letter-some : (x : ℕ) → slice_get (right_of g f.suffix.rule) f.suffix.from ≡ Some (Code x) → 1 ≤ f.span.len
  letter-some x at = (letter-on g p f.suffix.rule f.suffix.from f.span.start f.span.len x (symbols g (after_part f 1)) its.leasts.2.attained.0
      (subst (λ q. On g q f.span.start f.span.len its.leasts.2.attained.0) (symbol-here (right_of g f.suffix.rule) f.suffix.from (Code x) at) its.leasts.2.attained.1)).3

  pub its-small : IsSound g → AllWithin (2 ^ 96) p → Within (2 ^ 110) sum
  its-small sound all = small-sum g p (first_with sum ss f fs) sound all its

  module _ (sound : IsSound g) (x : ℕ) (at : slice_get (right_of g f.suffix.rule) f.suffix.from ≡ Some (Name x)) (base least : ℤ) (is_least : FrameLeast g p f (Some least)) (above : base +ℤ least ≡ sum)
      (chs : List Child) (are : AreChildren g p f x base chs) where
    some-children : 0 < length chs
    some-children = by chs (are.complete its.leasts.2.attained.0 its.leasts.0 its.leasts.2.attained.1 its.leasts.2.attained.2)
      where
        by : (os : List Child) → HasChild os (root its.leasts.2.attained.0) (first its.leasts.2.attained.0) → 0 < length os
        by [] h = absurd h
        by (o ∷ os) h = omega arith

    pub children-some : 0 < length chs
    children-some = some-children

    pub children-short : Each (λ (ch : Child). ch.len ≤ f.span.len) chs
    children-short = Each-weaker (IsChild g p f x base) (λ (ch : Child). ch.len ≤ f.span.len) chs (λ ch h. h.high) are.each

    pub children-take : (room : ℕ) → length rs + (room + 1) ≡ most → CanTake room ws (map (child_of ss f fs) chs)
    children-take room size = record {
      ordered = is.ordered.1;
      aside = aside-others ss f fs ws chs are.ordered (λ a. Each-weaker (Comes (first_with sum ss f fs)) (λ (d : Candidate). IsApart (ss ++ use_of f a.rule a.len ∷ []) d.steps) ws
          (λ d k. apart-extend_left ss d.steps (use_of f a.rule a.len ∷ []) k.apart) is.ordered.0);
      few = omega (arith, is.few, size);
    }

    inside : (m : ℕ) → m ≤ f.span.len → IsFrame g (after_part f m)
    inside m high = frame-after g f m its.frames.0 (slice_get_within (right_of g f.suffix.rule) f.suffix.from (Name x) at) high

    name : symbols g f ≡ Name x ∷ symbols g (after_part f 1)
    name = symbol-here (right_of g f.suffix.rule) f.suffix.from (Name x) at

    above-own : base +ℤ its.leasts.0 ≡ sum
    above-own = subst (λ (z : ℤ). base +ℤ z ≡ sum) (its-least least is_least) above

    module _ (room : ℕ) (size : length rs + (room + 1) ≡ most) (old c : Candidate) (vs : List Candidate) (same_steps : old.steps ≡ ss) (same_pending : old.pending ≡ fs) (br : Branches room f chs old ws c vs) where
      made : child_of old.steps f old.pending ≡ child_of ss f fs
      made = ap (λ (q : List Step). child_of q f old.pending) same_steps ∙ ap (λ (q : List Frame). child_of ss f q) same_pending

      pub past-name : IsProgress g p most rs (c ∷ vs) []
      past-name =
          let split = split-children g p sound sum ss f fs its x name inside base above-own chs br.others br.taken are br.takes in
          let comes = first-comes g p sound sum ss f fs its x name inside base above-own chs br.others br.taken are br.takes in
          let offered = subst (λ (q : Child → Candidate). AreOffered room (map q br.others) ws vs) made br.offered in
          let e : c ≡ child_of ss f fs br.taken = br.goes_on ∙ ap (λ (q : Child → Candidate). q br.taken) made in
          subst (λ d. IsProgress g p most rs (d ∷ vs) []) (sym e)
          (all-offered g p most rs room (child_of ss f fs br.taken) (map (child_of ss f fs) br.others) ws vs size comes offered
          (is-split g p most rs (first_with sum ss f fs) (child_of ss f fs br.taken) ws (map (child_of ss f fs) br.others) split is))

      pub left-name : steps_left g c < steps_left g (first_with sum ss f fs)
      left-name =
          let e : c ≡ child_of ss f fs br.taken = br.goes_on ∙ ap (λ (q : Child → Candidate). q br.taken) made in
          let few : length c.steps ≤ most_uses g = few-uses g p c sound past-name.kept.0.is in
          let few_child = subst (λ (d : Candidate). length d.steps ≤ most_uses g) e few in
          let size_child : length (ss ++ use_of f br.taken.rule br.taken.len ∷ []) ≡ length ss + 1 = length-append ss (use_of f br.taken.rule br.taken.len ∷ []) in
          let high : br.taken.len ≤ f.span.len = each-taken (λ (ch : Child). ch.len ≤ f.span.len) chs br.others br.taken br.takes children-short in
          subst (λ (d : Candidate). steps_left g d < steps_left g (first_with sum ss f fs)) (sym e) (less (most_uses g) few_child size_child high)
        where
          less : (uses : ℕ) → length (ss ++ use_of f br.taken.rule br.taken.len ∷ []) ≤ uses → length (ss ++ use_of f br.taken.rule br.taken.len ∷ []) ≡ length ss + 1 → br.taken.len ≤ f.span.len
              → 2 * (uses - length (ss ++ use_of f br.taken.rule br.taken.len ∷ [])) + (1 + br.taken.len + (1 + (f.span.len - br.taken.len) + frames_left fs)) < 2 * (uses - length ss) + (1 + f.span.len + frames_left fs)
          less uses a b h = omega arith

pub on_ok : {A E : Type 0} (r : Result A E) (P Q : Type 0) → (P → Q) → OnOk r P → OnOk r Q
on_ok (Ok a) P Q f h = f h
on_ok (Err e) P Q f h = tt

abbrev pub with_pending : ℤ → List Step → List Frame → Candidate
with_pending sum ss fs = record { sum = sum; steps = ss; pending = fs }

-- less is left after a letter
pub left-letter : (g : Grammar) (sum : ℤ) (ss : List Step) (f : Frame) (fs new : List Frame) → new ≡ after_part f 1 ∷ fs → 1 ≤ f.span.len
    → steps_left g (record { sum = sum; steps = ss; pending = new }) < steps_left g (first_with sum ss f fs)
left-letter g sum ss f fs new e some = subst (λ (q : List Frame). steps_left g (with_pending sum ss q) < steps_left g (first_with sum ss f fs)) (sym e) (less (most_uses g - length ss))
  where
    less : (n : ℕ) → 2 * n + (1 + (f.span.len - 1) + frames_left fs) < 2 * n + (1 + f.span.len + frames_left fs)
    less n = omega arith
