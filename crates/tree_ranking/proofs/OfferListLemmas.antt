-- Candidates are put among others, one after another.
use Rattle.std.proofs.Common.{◌≡◌, ℕ, ◌<◌, ◌≤◌, ◌+◌, List, [], ◌∷◌, ◌++◌, arith, refl, subst, sym, ap, inl, inr, ◌∙◌, take, drop, length, length-append, append_assoc}
use Rattle.std.proofs.lemmas.List.{take-append-drop, take-append-le, drop-append-le}
use Rattle.model_rosters.specs.declared.grammar.Grammar.{Grammar}
use Rattle.model_rosters.specs.Folds.{Each}
use Rattle.model_rosters.specs.Sums.{PriceView}
use Rattle.model_rosters.proofs.EachLemmas.{Each-left}
use Rattle.tree_ranking.specs.declared.candidate.Candidate.{Candidate}
use Rattle.tree_ranking.specs.declared.ranking.Ranked.{Ranked}
use Rattle.tree_ranking.specs.Candidates.{Comes, AreOrdered, AreAside}
use Rattle.tree_ranking.specs.Progresses.{IsRoomMade, IsOffered, AreOffered, CanTake, IsProgress}
use Rattle.tree_ranking.proofs.OfferLemmas.{ordered-put, ordered-left, aside-put, aside-but_last, offered}

-- what takes one takes the next
pub offered-takes : (room : ℕ) (e : Candidate) (es old new : List Candidate) → IsOffered room e old new → CanTake room old (e ∷ es) → CanTake room new es
offered-takes room e es old new (inl h) k =
    let ordered = subst AreOrdered h.from k.ordered in
    let aside = subst (AreAside es) h.from k.aside.2 in
    let size : length old ≡ length (h.front ++ h.back) = ap length h.from in
    let space : length old < room = h.space in
    subst (λ cs. CanTake room cs es) (sym h.to) (record {
      ordered = ordered-put h.front h.back e ordered h.before h.after;
      aside = aside-put es h.front h.back e k.aside.1 aside;
      few = omega (arith, size, space, length-append h.front h.back, length-append h.front (e ∷ h.back));
    })
offered-takes room e es old new (inr (inl h)) k =
    let ordered = subst AreOrdered (sym (append_assoc h.front h.back (h.last ∷ []))) (subst AreOrdered h.from k.ordered) in
    let aside = subst (AreAside es) h.from k.aside.2 in
    let size : length old ≡ length (h.front ++ (h.back ++ h.last ∷ [])) = ap length h.from in
    let full : length old ≡ room = h.full in
    subst (λ cs. CanTake room cs es) (sym h.to) (record {
      ordered = ordered-put h.front h.back e (ordered-left (h.front ++ h.back) (h.last ∷ []) ordered) h.before (Each-left (Comes e) h.back (h.last ∷ []) h.after);
      aside = aside-put es h.front h.back e k.aside.1 (aside-but_last es h.front h.back h.last aside);
      few = omega (arith, size, full, length-append h.front (h.back ++ h.last ∷ []), length-append h.back (h.last ∷ []), length-append h.front (e ∷ h.back));
    })
offered-takes room e es old new (inr (inr h)) k =
    subst (λ cs. CanTake room cs es) (sym h.same) (record { ordered = k.ordered; aside = k.aside.2; few = k.few })

-- behind a candidate that comes first
offered-behind : (room : ℕ) (b e : Candidate) (old new : List Candidate) → Comes b e → IsOffered room e old new → IsOffered (room + 1) e (b ∷ old) (b ∷ new)
offered-behind room b e old new c (inl h) = inl (record {
  front = b ∷ h.front;
  back = h.back;
  from = ap (λ cs. b ∷ cs) h.from;
  to = ap (λ cs. b ∷ cs) h.to;
  before = (c, h.before);
  after = h.after;
  space = let q : length old < room = h.space in omega (arith, q);
})
offered-behind room b e old new c (inr (inl h)) = inr (inl (record {
  front = b ∷ h.front;
  back = h.back;
  last = h.last;
  from = ap (λ cs. b ∷ cs) h.from;
  to = ap (λ cs. b ∷ cs) h.to;
  before = (c, h.before);
  after = h.after;
  full = let q : length old ≡ room = h.full in omega (arith, q);
}))
offered-behind room b e old new c (inr (inr h)) = inr (inr (record {
  same = ap (λ cs. b ∷ cs) h.same;
  before = (c, h.before);
  full = let q : length old ≡ room = h.full in omega (arith, q);
}))

-- all were put among them
pub all-offered : (g : Grammar) (p : PriceView) (most : ℕ) (rs : List Ranked) (room : ℕ) (b : Candidate) (es old new : List Candidate) → length rs + (room + 1) ≡ most
    → Each (Comes b) es → AreOffered room es old new → IsProgress g p most rs (b ∷ old) es → IsProgress g p most rs (b ∷ new) []
all-offered g p most rs room b [] old new size c h is = subst (λ cs. IsProgress g p most rs (b ∷ cs) []) (sym h) is
all-offered g p most rs room b (e ∷ es) old new size c h is =
    all-offered g p most rs room b es h.0 new size c.1 h.2
    (offered g p most rs e es (room + 1) size (b ∷ old) (b ∷ h.0) (offered-behind room b e old h.0 c.0 h.1) is)

-- one more was put among them
pub offered-more : (room : ℕ) (es : List Candidate) (e : Candidate) (old mid new : List Candidate) → AreOffered room es old mid → IsOffered room e mid new → AreOffered room (es ++ e ∷ []) old new
offered-more room [] e old mid new h k = (new, subst (λ cs. IsOffered room e cs new) h k, refl)
offered-more room (d ∷ es) e old mid new h k = (h.0, h.1, offered-more room es e h.0 mid new h.2 k)

-- a place that is not behind all can be taken where room was made
pub room-place : (room n : ℕ) (old mid : List Candidate) → IsRoomMade room old mid → n ≤ length old → (n ≡ room → ⊥) → n ≤ length mid
room-place room n old mid (inl h) l other =
    let same : length mid ≡ length old = ap length h.1 in
    omega (arith, same, l)
room-place room n old mid (inr h) l other =
    let size : length old ≡ length (mid ++ h.0 ∷ []) = ap length h.2 in
    omega (arith, size, length-append mid (h.0 ∷ []), h.1, l, other)

-- one that is put there was offered
pub offered-put : (room n : ℕ) (e : Candidate) (old mid new : List Candidate) → IsRoomMade room old mid → n ≤ length old → (n ≡ room → ⊥) → Each (λ (d : Candidate). Comes d e) (take n old)
    → Each (Comes e) (drop n old) → new ≡ take n mid ++ e ∷ drop n mid → IsOffered room e old new
offered-put room n e old mid new (inl h) l other before after is = inl (record {
  front = take n old;
  back = drop n old;
  from = sym (take-append-drop n old);
  to = is ∙ ap (λ q. take n q ++ e ∷ drop n q) h.1;
  before = before;
  after = after;
  space = h.0;
})
offered-put room n e old mid new (inr h) l other before after is =
    let within = room-place room n old mid (inr h) l other in
    inr (inl (record {
      front = take n mid;
      back = drop n mid;
      last = h.0;
      from = h.2 ∙ ap (λ q. q ++ h.0 ∷ []) (sym (take-append-drop n mid)) ∙ append_assoc (take n mid) (drop n mid) (h.0 ∷ []);
      to = is;
      before = subst (Each (λ (d : Candidate). Comes d e)) (ap (λ q. take n q) h.2 ∙ take-append-le n mid (h.0 ∷ []) within) before;
      after = subst (Each (Comes e)) (ap (λ q. drop n q) h.2 ∙ drop-append-le n mid (h.0 ∷ []) within) after;
      full = h.1;
    }))
