-- How a candidate goes on: past the end of a frame, past a letter, and with a rule use.
use Rattle.std.proofs.Common.{◌≡◌, ℕ, ℤ, pos, ◌+ℤ◌, ◌+◌, List, [], ◌∷◌, ◌++◌, Some, arith, refl, subst, sym, ap, ◌∙◌, inl, append_assoc}
use Rattle.std.proofs.lemmas.Int.{ints}
use Rattle.std.proofs.lemmas.List.{append-nil}
use Rattle.std.proofs.lemmas.Option.{same_Some}
use Rattle.model_rosters.specs.declared.grammar.Grammar.{Grammar}
use Rattle.model_rosters.specs.declared.grammar.Step.{Step}
use Rattle.model_rosters.specs.declared.grammar.Sym.TheVariants.{Code, Name}
use Rattle.model_rosters.specs.Folds.{Each}
use Rattle.model_rosters.specs.Trees.{Parts, done, letter, uses, Derive, On, steps}
use Rattle.model_rosters.specs.Sums.{PriceView, parts_sum, arc_sum, plus, PartsLeast}
use Rattle.tree_ranking.specs.declared.candidate.Candidate.{Candidate}
use Rattle.tree_ranking.specs.declared.candidate.Child.{Child}
use Rattle.tree_ranking.specs.declared.frame.Frame.{Frame}
use Rattle.tree_ranking.specs.declared.ranking.Ranked.{Ranked}
use Rattle.tree_ranking.specs.Frames.{IsFrame, OnFrame, frame_sum, symbols, right_of, after_part, use_of, inside_of}
use Rattle.tree_ranking.specs.Candidates.{Completes, Leasts, Has, IsCandidate, child_of}
use Rattle.tree_ranking.specs.Children.{IsChild}
use Rattle.tree_ranking.specs.Progresses.{GoesOn, IsSplit}
use Rattle.tree_ranking.specs.Walks.{first_with}
use Rattle.tree_ranking.proofs.CandidatesLemmas.{leasts-one}
use Rattle.tree_ranking.proofs.FrameLemmas.{right-is, plus-parts, plus-both, nothing-on, nothing-least, letter-on, on-letter, IsLetter, letter-least}

module _ (g : Grammar) (p : PriceView) (c d : Candidate) (zc zd e : ℤ) (us : List Step) (is : IsCandidate g p c) (lc : Leasts g p c.pending zc) (ld : Leasts g p d.pending zd)
    (at : d.steps ≡ c.steps ++ us) (sums : d.sum +ℤ zc ≡ (c.sum +ℤ zd) +ℤ e)
    (from : (more : List Step) (w : ℤ) → Completes g p d.pending more w → Completes g p c.pending (us ++ more) (e +ℤ w)) where
  back : (r : Ranked) → Has g p d r → Has g p c r
  back r h =
      let z : h.least ≡ zd = leasts-one g p d.pending h.least zd h.leasts ld in
      record {
        more = us ++ h.more;
        sum = e +ℤ h.sum;
        least = zc;
        completes = from h.more h.sum h.completes;
        leasts = lc;
        uses = h.uses ∙ ap (λ (q : List Step). q ++ h.more) at ∙ append_assoc c.steps us h.more;
        above = omega (arith, ints, h.above, z, sums);
      }

  goes-on : Each (IsFrame g) d.pending → GoesOn g p c d
  goes-on frames = record {
    is = record { least = zd; leasts = ld; frames = frames; of_day = λ r h. is.of_day r (back r h) };
    further = us;
    steps = at;
    has = back;
  }

  forth : (r : Ranked) (h : Has g p c r) (more : List Step) (w : ℤ) → h.more ≡ us ++ more → h.sum ≡ e +ℤ w → Completes g p d.pending more w → Has g p d r
  forth r h more w em ew all =
      let z : h.least ≡ zc = leasts-one g p c.pending h.least zc h.leasts lc in
      record {
        more = more;
        sum = w;
        least = zd;
        completes = all;
        leasts = ld;
        uses = h.uses ∙ ap (λ (q : List Step). c.steps ++ q) em ∙ sym (append_assoc c.steps us more) ∙ ap (λ (q : List Step). q ++ more) (sym at);
        above = omega (arith, ints, h.above, z, sums, ew);
      }

module _ (g : Grammar) (p : PriceView) (sum : ℤ) (ss : List Step) (f : Frame) (fs : List Frame) (is : IsCandidate g p (first_with sum ss f fs)) where
  module _ (ends : symbols g f ≡ []) where
    zero_least : is.leasts.0 ≡ pos 0
    zero_least = nothing-least g p f.suffix.rule f.suffix.from f.span.start f.span.len is.leasts.0
        (subst (λ q. PartsLeast g p f.suffix.rule f.suffix.from q f.span.start f.span.len (Some is.leasts.0)) ends is.leasts.2)

    on_nothing : (t : Parts) → OnFrame g f t → t ≡ done
    on_nothing t h = nothing-on g p f.suffix.rule f.suffix.from f.span.start f.span.len t (subst (λ q. On g q f.span.start f.span.len t) ends h)

    nothing_on : OnFrame g f done
    nothing_on = subst (λ t. OnFrame g f t) (on_nothing is.leasts.2.attained.0 is.leasts.2.attained.1) is.leasts.2.attained.1

    from_empty : (more : List Step) (w : ℤ) → Completes g p fs more w → Completes g p (f ∷ fs) ([] ++ more) (pos 0 +ℤ w)
    from_empty more w h = (done, pos 0, more, w, nothing_on, refl, h, refl, refl)

    sums_same : sum +ℤ is.least ≡ (sum +ℤ is.leasts.1) +ℤ pos 0
    sums_same = omega (arith, ints, zero_least, is.leasts.4)

    -- a frame that is at its end falls away
    pub split-end : IsSplit g p (first_with sum ss f fs) (record { sum = sum; steps = ss; pending = fs }) []
    split-end = record {
      first = goes-on g p (first_with sum ss f fs) (record { sum = sum; steps = ss; pending = fs }) is.least is.leasts.1 (pos 0) [] is is.leasts is.leasts.3 (sym (append-nil ss)) sums_same from_empty is.frames.1;
      others = tt;
      sum = refl;
      aside = tt;
      all = λ r h. inl (
          let t = on_nothing h.completes.0 h.completes.4 in
          let none : h.completes.1 ≡ pos 0 = same_Some _ _ (sym h.completes.5 ∙ ap (λ q. frame_sum p f q) t) in
          let em : h.more ≡ [] ++ h.completes.2 = h.completes.7 ∙ ap (λ q. steps f.span.start q ++ h.completes.2) t in
          let ew : h.sum ≡ pos 0 +ℤ h.completes.3 = h.completes.8 ∙ ap (λ q. q +ℤ h.completes.3) none in
          forth g p (first_with sum ss f fs) (record { sum = sum; steps = ss; pending = fs }) is.least is.leasts.1 (pos 0) [] is is.leasts is.leasts.3 (sym (append-nil ss)) sums_same from_empty
          r h h.completes.2 h.completes.3 em ew h.completes.6);
    }

  module _ (x : ℕ) (code : symbols g f ≡ Code x ∷ symbols g (after_part f 1)) where
    own : IsLetter g p f.suffix.rule f.suffix.from f.span.start f.span.len x (symbols g (after_part f 1)) is.leasts.0
    own = letter-least g p f.suffix.rule f.suffix.from f.span.start f.span.len x (symbols g (after_part f 1)) is.leasts.0
        (subst (λ q. PartsLeast g p f.suffix.rule f.suffix.from q f.span.start f.span.len (Some is.leasts.0)) code is.leasts.2)

    next_least : Leasts g p (after_part f 1 ∷ fs) (own.rest +ℤ is.leasts.1)
    next_least = (own.rest, is.leasts.1, own.rest_least, is.leasts.3, refl)

    from_letter : (more : List Step) (w : ℤ) → Completes g p (after_part f 1 ∷ fs) more w → Completes g p (f ∷ fs) ([] ++ more) (own.price +ℤ w)
    from_letter more w h = (
      letter x h.0,
      own.price +ℤ h.1,
      h.2,
      h.3,
      subst (λ q. On g q f.span.start f.span.len (letter x h.0)) (sym code) (on-letter g p f.suffix.rule f.suffix.from f.span.start f.span.len x (symbols g (after_part f 1)) h.0 own.some h.4),
      own.each h.0 h.4 ∙ ap (λ q. plus (Some own.price) q) h.5,
      h.6,
      h.7,
      omega (arith, ints, h.8),
    )

    sums_letter : sum +ℤ is.least ≡ (sum +ℤ (own.rest +ℤ is.leasts.1)) +ℤ own.price
    sums_letter = omega (arith, ints, own.sum, is.leasts.4)

    -- a letter is passed
    pub split-letter : IsFrame g (after_part f 1) → IsSplit g p (first_with sum ss f fs) (first_with sum ss (after_part f 1) fs) []
    split-letter frame = record {
      first = goes-on g p (first_with sum ss f fs) (first_with sum ss (after_part f 1) fs) is.least (own.rest +ℤ is.leasts.1) own.price [] is is.leasts next_least (sym (append-nil ss)) sums_letter from_letter (frame, is.frames.1);
      others = tt;
      sum = refl;
      aside = tt;
      all = λ r h. inl (
          let t = letter-on g p f.suffix.rule f.suffix.from f.span.start f.span.len x (symbols g (after_part f 1)) h.completes.0 (subst (λ q. On g q f.span.start f.span.len h.completes.0) code h.completes.4) in
          let total : plus (Some own.price) (frame_sum p (after_part f 1) t.0) ≡ Some h.completes.1 = sym (own.each t.0 t.2) ∙ ap (λ q. frame_sum p f q) (sym t.1) ∙ h.completes.5 in
          let parts = plus-parts (Some own.price) (frame_sum p (after_part f 1) t.0) h.completes.1 total in
          let same : own.price ≡ parts.0 = same_Some own.price parts.0 parts.2 in
          let em : h.more ≡ [] ++ (steps (f.span.start + 1) t.0 ++ h.completes.2) = h.completes.7 ∙ ap (λ q. steps f.span.start q ++ h.completes.2) t.1 in
          let ew : h.sum ≡ own.price +ℤ (parts.1 +ℤ h.completes.3) = omega (arith, ints, h.completes.8, parts.4, same) in
          forth g p (first_with sum ss f fs) (first_with sum ss (after_part f 1) fs) is.least (own.rest +ℤ is.leasts.1) own.price [] is is.leasts next_least (sym (append-nil ss)) sums_letter from_letter
          r h (steps (f.span.start + 1) t.0 ++ h.completes.2) (parts.1 +ℤ h.completes.3) em ew (t.0, parts.1, h.completes.2, h.completes.3, t.2, parts.3, h.completes.6, refl, refl));
    }

  module _ (x : ℕ) (name : symbols g f ≡ Name x ∷ symbols g (after_part f 1)) (ch : Child) (base : ℤ) (above : base +ℤ is.leasts.0 ≡ sum) (child : IsChild g p f x base ch) where
    child_least : Leasts g p (inside_of (use_of f ch.rule ch.len) ∷ after_part f ch.len ∷ fs) (child.use_sum.inner +ℤ (child.use_sum.others +ℤ is.leasts.1))
    child_least = (
      child.use_sum.inner,
      child.use_sum.others +ℤ is.leasts.1,
      child.use_sum.inner_least,
      (child.use_sum.others, is.leasts.1, child.use_sum.others_least, is.leasts.3, refl),
      refl,
    )

    from_use : (more : List Step) (w : ℤ) → Completes g p (inside_of (use_of f ch.rule ch.len) ∷ after_part f ch.len ∷ fs) more w
        → Completes g p (f ∷ fs) (use_of f ch.rule ch.len ∷ [] ++ more) ((p.rule_of ch.rule +ℤ child.use_sum.arc) +ℤ w)
    from_use more w h =
        let o = h.6 in
        let inside : On g child.use_sum.rule.right f.span.start ch.len h.0 = subst (λ q. On g q f.span.start ch.len h.0) (right-is g ch.rule child.use_sum.rule child.use_sum.at) h.4 in
        let on : On g (Name x ∷ symbols g (after_part f 1)) f.span.start f.span.len (uses ch.rule ch.len h.0 o.0) =
        ((child.use_sum.rule, child.use_sum.at, child.left, child.use_sum.stands, child.some, inside.1, inside.0, o.4.0), omega (arith, o.4.1, child.high)) in (
          uses ch.rule ch.len h.0 o.0,
          (p.rule_of ch.rule +ℤ h.1) +ℤ (child.use_sum.arc +ℤ o.1),
          o.2,
          o.3,
          subst (λ q. On g q f.span.start f.span.len (uses ch.rule ch.len h.0 o.0)) (sym name) on,
          plus-both (plus (Some (p.rule_of ch.rule)) (parts_sum p ch.rule 0 f.span.start h.0))
              (plus (Some (arc_sum p f.suffix.rule f.suffix.from f.span.start ch.len o.0)) (frame_sum p (after_part f ch.len) o.0))
              (p.rule_of ch.rule +ℤ h.1) (child.use_sum.arc +ℤ o.1)
              (plus-both (Some (p.rule_of ch.rule)) (parts_sum p ch.rule 0 f.span.start h.0) (p.rule_of ch.rule) h.1 refl h.5)
              (plus-both (Some (arc_sum p f.suffix.rule f.suffix.from f.span.start ch.len o.0)) (frame_sum p (after_part f ch.len) o.0) child.use_sum.arc o.1 (ap Some (child.use_sum.arcs o.0 o.4)) o.5),
          o.6,
          ap (λ q. use_of f ch.rule ch.len ∷ q) (h.7 ∙ ap (λ q. steps f.span.start h.0 ++ q) o.7 ∙ sym (append_assoc (steps f.span.start h.0) (steps (f.span.start + ch.len) o.0) o.2)),
          omega (arith, ints, h.8, o.8),
        )

    sums_use : ch.sum +ℤ is.least ≡ (sum +ℤ (child.use_sum.inner +ℤ (child.use_sum.others +ℤ is.leasts.1))) +ℤ (p.rule_of ch.rule +ℤ child.use_sum.arc)
    sums_use = omega (arith, ints, above, child.sum, child.use_sum.sum, is.leasts.4)

    -- a candidate goes on with a child
    pub goes-child : IsFrame g (inside_of (use_of f ch.rule ch.len)) → IsFrame g (after_part f ch.len) → GoesOn g p (first_with sum ss f fs) (child_of ss f fs ch)
    goes-child a b = goes-on g p (first_with sum ss f fs) (child_of ss f fs ch) is.least (child.use_sum.inner +ℤ (child.use_sum.others +ℤ is.leasts.1)) (p.rule_of ch.rule +ℤ child.use_sum.arc)
        (use_of f ch.rule ch.len ∷ []) is is.leasts child_least refl sums_use from_use (a, (b, is.frames.1))

    -- a tree with this rule use next is one of the child's
    pub has-use : (r : Ranked) (h : Has g p (first_with sum ss f fs) r) (t u : Parts) → h.completes.0 ≡ uses ch.rule ch.len t u
        → On g (Name x ∷ symbols g (after_part f 1)) f.span.start f.span.len (uses ch.rule ch.len t u) → Has g p (child_of ss f fs ch) r
    has-use r h t u e on =
        let inside : On g (right_of g ch.rule) f.span.start ch.len t = (subst (λ q. Derive g q f.span.start t) (sym (right-is g ch.rule on.0.0 on.0.1)) on.0.6, on.0.5) in
        let after : OnFrame g (after_part f ch.len) u = (on.0.7, omega (arith, on.1)) in
        let total : frame_sum p f (uses ch.rule ch.len t u) ≡ Some h.completes.1 = ap (λ q. frame_sum p f q) (sym e) ∙ h.completes.5 in
        let parts = plus-parts (plus (Some (p.rule_of ch.rule)) (parts_sum p ch.rule 0 f.span.start t))
        (plus (Some (arc_sum p f.suffix.rule f.suffix.from f.span.start ch.len u)) (frame_sum p (after_part f ch.len) u)) h.completes.1 total in
        let left = plus-parts (Some (p.rule_of ch.rule)) (parts_sum p ch.rule 0 f.span.start t) parts.0 parts.2 in
        let right = plus-parts (Some (arc_sum p f.suffix.rule f.suffix.from f.span.start ch.len u)) (frame_sum p (after_part f ch.len) u) parts.1 parts.3 in
        let rule : p.rule_of ch.rule ≡ left.0 = same_Some (p.rule_of ch.rule) left.0 left.2 in
        let arc : child.use_sum.arc ≡ right.0 = sym (child.use_sum.arcs u after) ∙ same_Some (arc_sum p f.suffix.rule f.suffix.from f.span.start ch.len u) right.0 right.2 in
        let em : h.more ≡ use_of f ch.rule ch.len ∷ [] ++ (steps f.span.start t ++ (steps (f.span.start + ch.len) u ++ h.completes.2)) =
        h.completes.7 ∙ ap (λ q. steps f.span.start q ++ h.completes.2) e
        ∙ ap (λ q. use_of f ch.rule ch.len ∷ q) (append_assoc (steps f.span.start t) (steps (f.span.start + ch.len) u) h.completes.2) in
        let ew : h.sum ≡ (p.rule_of ch.rule +ℤ child.use_sum.arc) +ℤ (left.1 +ℤ (right.1 +ℤ h.completes.3)) = omega (arith, ints, h.completes.8, parts.4, left.4, right.4, rule, arc) in
        forth g p (first_with sum ss f fs) (child_of ss f fs ch) is.least (child.use_sum.inner +ℤ (child.use_sum.others +ℤ is.leasts.1)) (p.rule_of ch.rule +ℤ child.use_sum.arc)
        (use_of f ch.rule ch.len ∷ []) is is.leasts child_least refl sums_use from_use r h
        (steps f.span.start t ++ (steps (f.span.start + ch.len) u ++ h.completes.2)) (left.1 +ℤ (right.1 +ℤ h.completes.3)) em ew (
          t,
          left.1,
          steps (f.span.start + ch.len) u ++ h.completes.2,
          right.1 +ℤ h.completes.3,
          inside,
          left.3,
          (u, right.1, h.completes.2, h.completes.3, after, right.3, h.completes.6, refl, refl),
          refl,
          refl,
        )
