-- A candidate goes on with its first child, and the others are put among those that wait.
use Rattle.std.proofs.Common.{◌≡◌, ℕ, zero, suc, ◌<◌, ◌+◌, List, [], ◌∷◌, ◌++◌, arith, subst, sym, ap, ◌∙◌, length, map, take, drop, get_or}
use Rattle.std.proofs.lemmas.List.{take_more, drop_more, map-append}
use Rattle.model_rosters.specs.Folds.{Each}
use Rattle.model_rosters.proofs.EachLemmas.{Each-append, Each-left, Each-right}
use Rattle.tree_ranking.specs.declared.candidate.Candidate.{Candidate}
use Rattle.tree_ranking.specs.declared.candidate.Child.{Child}
use Rattle.tree_ranking.specs.Candidates.{IsApart, AreAside}
use Rattle.tree_ranking.specs.Children.{TakesLeast}
use Rattle.tree_ranking.specs.Progresses.{IsOffered, AreOffered, CanTake}
use Rattle.tree_ranking.proofs.OfferListLemmas.{offered-takes, offered-more}

each-without : (P : Candidate → Type 0) (made : Child → Candidate) (front back : List Child) (b : Child) → Each P (map made (front ++ b ∷ back)) → Each P (map made (front ++ back))
each-without P made [] back b h = h.1
each-without P made (a ∷ front) back b h = (h.0, each-without P made front back b h.1)

aside-without : (made : Child → Candidate) (front back : List Child) (b : Child) (cs : List Candidate) → AreAside (map made (front ++ b ∷ back)) cs → AreAside (map made (front ++ back)) cs
aside-without made [] back b cs h = h.2
aside-without made (a ∷ front) back b cs h = (h.0, each-without (λ (d : Candidate). IsApart (made a).steps d.steps) made front back b h.1, aside-without made front back b cs h.2)

pub others-take : (room : ℕ) (made : Child → Candidate) (chs others : List Child) (b : Child) (cs : List Candidate) → TakesLeast chs b others → CanTake room cs (map made chs) → CanTake room cs (map made others)
others-take room made chs others b cs t h = record {
  ordered = h.ordered;
  aside = subst (λ q. AreAside (map made q) cs) (sym t.to) (aside-without made t.front t.back b cs (subst (λ q. AreAside (map made q) cs) t.from h.aside));
  few = h.few;
}

pub each-others : (P : Child → Type 0) (chs others : List Child) (b : Child) → TakesLeast chs b others → Each P chs → Each P others
each-others P chs others b t h =
    let at = subst (Each P) t.from h in
    subst (Each P) (sym t.to) (Each-append P t.front t.back (Each-left P t.front (b ∷ t.back) at) (Each-right P t.front (b ∷ t.back) at).1)

pub each-taken : (P : Child → Type 0) (chs others : List Child) (b : Child) → TakesLeast chs b others → Each P chs → P b
each-taken P chs others b t h = (Each-right P t.front (b ∷ t.back) (subst (Each P) t.from h)).0

pub each-at : (P : Child → Type 0) (chs : List Child) (n : ℕ) (d : Child) → n < length chs → Each P chs → P (get_or chs n d)
each-at P [] n d l h = absurd (omega (arith, l))
each-at P (a ∷ chs) zero d l h = h.0
each-at P (a ∷ chs) (suc n) d l h = each-at P chs n d (omega (arith, l)) h.1

module _ (room : ℕ) (made : Child → Candidate) (os : List Child) (n : ℕ) (d : Child) (old mid new : List Candidate) (e : Candidate) (l : n < length os) (is : e ≡ made (get_or os n d))
    (h : AreOffered room (map made (take n os)) old mid) (k : CanTake room mid (map made (drop n os))) where
  next : CanTake room mid (e ∷ map made (drop (n + 1) os))
  next = subst (λ q. CanTake room mid (q ∷ map made (drop (n + 1) os))) (sym is) (subst (λ q. CanTake room mid (map made q)) (drop_more os n d l) k)

  -- one that is apart from all can be put among them
  pub takes-one : CanTake room mid (e ∷ [])
  takes-one = record { ordered = k.ordered; aside = (next.aside.0, tt, tt); few = k.few }

  pub step-offered : IsOffered room e mid new → AreOffered room (map made (take (n + 1) os)) old new
  step-offered o =
      let all = offered-more room (map made (take n os)) e old mid new h o in
      let split : map made (take (n + 1) os) ≡ map made (take n os) ++ e ∷ [] = ap (λ q. map made q) (take_more os n d l) ∙ map-append made (take n os) (get_or os n d ∷ []) ∙ ap (λ q. map made (take n os) ++ q ∷ []) (sym is) in
      subst (λ q. AreOffered room q old new) (sym split) all

  pub step-takes : IsOffered room e mid new → CanTake room new (map made (drop (n + 1) os))
  step-takes o = offered-takes room e (map made (drop (n + 1) os)) mid new o next
