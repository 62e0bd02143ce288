-- Lemmas on trying each choice.
use Rattle.std.proofs.Common.{ℕ, ◌≡◌, ◌≢◌, ◌+◌, ◌<◌, ◌≤◌, ◌⊎◌, inl, inr, Option, None, Some, List, [], ◌∷◌, ◌++◌, length, refl, sym, subst, ◌∙◌, arith, ap, length-append}
use Rattle.std.proofs.lemmas.Bool.{cases_eq, cases_lt}
use Rattle.std.proofs.lemmas.List.{get_or_append_left, get_or_push}
use Rattle.model_rosters.specs.declared.instance.Shift.{Shift}
use Rattle.model_shift_figures.specs.roster_changes.Matchings.{choice}
use Rattle.model_shift_figures.specs.roster_changes.Scores.{row_score, score}
use Rattle.model_shift_figures.specs.roster_changes.Stages.{MayFollow, Fits, Extends, IsCandidate, IsBelow, IsBest, IsBestBelow, IsFirst, IsNext, IsFixing}
use Rattle.model_shift_figures.specs.roster_changes.Changes.{IsLeastMatching}
use Rattle.model_shift_figures.proofs.roster_changes.TotalLemmas.{total-same}
use Rattle.model_shift_figures.proofs.roster_changes.PriceLemmas.{fits-pair}
use Rattle.model_shift_figures.proofs.roster_changes.StageLemmas.{next_first, last_first}
use Rattle.model_shift_figures.proofs.roster_changes.LeastLemmas.{first-least}

pub length-longer : (fixed more : List (Option ℕ)) (c : Option ℕ) → more ≡ fixed ++ c ∷ [] → length more ≡ length fixed + 1
length-longer fixed more c e = ap length e ∙ length-append fixed (c ∷ [])

pub choice-before : (fixed more : List (Option ℕ)) (c : Option ℕ) → more ≡ fixed ++ c ∷ [] → (at : ℕ) → at < length fixed
    → choice more at ≡ choice fixed at
choice-before fixed more c e at below = ap (λ (m : List (Option ℕ)). choice m at) e ∙ get_or_append_left fixed (c ∷ []) None at below

pub choice-last : (fixed more : List (Option ℕ)) (c : Option ℕ) → more ≡ fixed ++ c ∷ [] → choice more (length fixed) ≡ c
choice-last fixed more c e = ap (λ (m : List (Option ℕ)). choice m (length fixed)) e ∙ get_or_push fixed c None (length fixed) refl

-- whether a choice may follow depends on those before it alone
pub may-same : (old new : List Shift) (x y : ℕ → Option ℕ) (at : ℕ) → ((t : ℕ) → t < at → y t ≡ x t) → (c : Option ℕ)
    → MayFollow old new x at c → MayFollow old new y at c
may-same old new x y at same None may = tt
may-same old new x y at same (Some place) may =
    (may.0, λ (t : ℕ) (below : t < at) (h : y t ≡ Some place). may.1 t below (sym (same t below) ∙ h))

pub fits-longer : (old new : List Shift) (fixed more : List (Option ℕ)) (c : Option ℕ) → more ≡ fixed ++ c ∷ []
    → Fits old new (length fixed) (choice fixed) → MayFollow old new (choice fixed) (length fixed) c
    → Fits old new (length more) (choice more)
fits-longer old new fixed more c e fits may at below = pick (cases_lt at (length fixed)) where
  pick : ((at < length fixed) ⊎ (length fixed ≤ at)) → MayFollow old new (choice more) at (choice more at)
  pick (inl under) = subst (MayFollow old new (choice more) at) (sym (choice-before fixed more c e at under))
      (may-same old new (choice fixed) (choice more) at (λ t first. choice-before fixed more c e t (omega arith)) (choice fixed at) (fits at under))
  pick (inr over) =
      let here : at ≡ length fixed = omega (arith, length-longer fixed more c e) in
      subst (λ (t : ℕ). MayFollow old new (choice more) t (choice more t)) (sym here)
      (subst (MayFollow old new (choice more) (length fixed)) (sym (choice-last fixed more c e))
      (may-same old new (choice fixed) (choice more) (length fixed) (λ t first. choice-before fixed more c e t first) c may))

-- candidates for longer fixed choices are candidates for the shorter ones
pub candidate-shorter : (old new : List Shift) (fixed more : List (Option ℕ)) (c : Option ℕ) → more ≡ fixed ++ c ∷ []
    → (x : ℕ → Option ℕ) → IsCandidate old new (length more) (choice more) x → IsCandidate old new (length fixed) (choice fixed) x
candidate-shorter old new fixed more c e x k = record {
  fits = k.fits;
  extends = λ (at : ℕ) (below : at < length fixed). k.extends at (omega (arith, length-longer fixed more c e)) ∙ choice-before fixed more c e at below;
}

-- and those for the shorter ones that go on so are candidates for the longer ones
pub candidate-longer : (old new : List Shift) (fixed more : List (Option ℕ)) (c : Option ℕ) → more ≡ fixed ++ c ∷ []
    → (x : ℕ → Option ℕ) → IsCandidate old new (length fixed) (choice fixed) x → x (length fixed) ≡ c
    → IsCandidate old new (length more) (choice more) x
candidate-longer old new fixed more c e x k here = record { fits = k.fits; extends = both } where
  both : Extends (length more) (choice more) x
  both at below = pick (cases_lt at (length fixed)) where
    pick : ((at < length fixed) ⊎ (length fixed ≤ at)) → x at ≡ choice more at
    pick (inl under) = k.extends at under ∙ sym (choice-before fixed more c e at under)
    pick (inr over) =
        let last : at ≡ length fixed = omega (arith, length-longer fixed more c e) in
        subst (λ (t : ℕ). x t ≡ choice more t) (sym last) (here ∙ sym (choice-last fixed more c e))

-- the best without an old shift is the best before any is tried
pub none-tried : (periods : ℕ) (old new : List Shift) (row : ℕ) (fixed m : List (Option ℕ))
    → IsBest periods old new row (fixed ++ None ∷ []) m → IsBestBelow periods old new row fixed 0 m
none-tried periods old new row fixed m best = record {
  len = best.len;
  candidate = candidate-shorter old new fixed (fixed ++ None ∷ []) None refl (choice m) best.candidate;
  most = λ (x : ℕ → Option ℕ) (k : IsCandidate old new (length fixed) (choice fixed) x) (below : IsBelow 0 (x (length fixed))).
      pick x k (x (length fixed)) refl below;
} where
  pick : (x : ℕ → Option ℕ) → IsCandidate old new (length fixed) (choice fixed) x → (c : Option ℕ) → x (length fixed) ≡ c → IsBelow 0 c
      → score periods old new row x ≤ score periods old new row (choice m)
  pick x k None e below = best.most x (candidate-longer old new fixed (fixed ++ None ∷ []) None refl x k e)
  pick x k (Some place) e below = absurd (omega arith)

-- an old shift that may not follow need not be tried
pub not-tried : (periods : ℕ) (old new : List Shift) (row : ℕ) (fixed : List (Option ℕ)) (place : ℕ) (m : List (Option ℕ))
    → length fixed < length new → (MayFollow old new (choice fixed) (length fixed) (Some place) → ⊥)
    → IsBestBelow periods old new row fixed place m → IsBestBelow periods old new row fixed (place + 1) m
not-tried periods old new row fixed place m turn not best = record {
  len = best.len;
  candidate = best.candidate;
  most = λ (x : ℕ → Option ℕ) (k : IsCandidate old new (length fixed) (choice fixed) x) (below : IsBelow (place + 1) (x (length fixed))).
      best.most x k (pick x k (x (length fixed)) refl below);
} where
  pick : (x : ℕ → Option ℕ) → IsCandidate old new (length fixed) (choice fixed) x → (c : Option ℕ) → x (length fixed) ≡ c → IsBelow (place + 1) c
      → IsBelow place c
  pick x k None e below = tt
  pick x k (Some i) e below = here (cases_eq i place) where
    here : ((i ≡ place) ⊎ (i ≢ place)) → i < place
    here (inr apart) = omega (arith, apart)
    here (inl same) =
        let may : MayFollow old new x (length fixed) (Some i) = fits-pair old new (length new) x k.fits (length fixed) i turn e in
        absurd (not (may-same old new x (choice fixed) (length fixed) (λ t first. sym (k.extends t first)) (Some place)
        (subst (λ (j : ℕ). MayFollow old new x (length fixed) (Some j)) same may)))

-- the better of the best so far and of the best with an old shift is the best of both
pub one-tried : (periods : ℕ) (old new : List Shift) (row : ℕ) (fixed : List (Option ℕ)) (place : ℕ) (best other m : List (Option ℕ))
    → IsBestBelow periods old new row fixed place best → IsBest periods old new row (fixed ++ Some place ∷ []) other
    → ((m ≡ best) ⊎ (m ≡ other)) → score periods old new row (choice best) ≤ score periods old new row (choice m)
    → score periods old new row (choice other) ≤ score periods old new row (choice m)
    → IsBestBelow periods old new row fixed (place + 1) m
one-tried periods old new row fixed place best other m b o which more_best more_other = record {
  len = len_of which;
  candidate = candidate_of which;
  most = λ (x : ℕ → Option ℕ) (k : IsCandidate old new (length fixed) (choice fixed) x) (below : IsBelow (place + 1) (x (length fixed))).
      pick x k (x (length fixed)) refl below;
} where
  len_of : ((m ≡ best) ⊎ (m ≡ other)) → length m ≡ length new
  len_of (inl same) = ap length same ∙ b.len
  len_of (inr same) = ap length same ∙ o.len

  candidate_of : ((m ≡ best) ⊎ (m ≡ other)) → IsCandidate old new (length fixed) (choice fixed) (choice m)
  candidate_of (inl same) = subst (λ (n : List (Option ℕ)). IsCandidate old new (length fixed) (choice fixed) (choice n)) (sym same) b.candidate
  candidate_of (inr same) = subst (λ (n : List (Option ℕ)). IsCandidate old new (length fixed) (choice fixed) (choice n)) (sym same)
      (candidate-shorter old new fixed (fixed ++ Some place ∷ []) (Some place) refl (choice other) o.candidate)

  pick : (x : ℕ → Option ℕ) → IsCandidate old new (length fixed) (choice fixed) x → (c : Option ℕ) → x (length fixed) ≡ c → IsBelow (place + 1) c
      → score periods old new row x ≤ score periods old new row (choice m)
  pick x k None e below =
      let least = b.most x k (subst (IsBelow place) (sym e) tt) in omega (arith, least, more_best)
  pick x k (Some i) e below = here (cases_eq i place) where
    here : ((i ≡ place) ⊎ (i ≢ place)) → score periods old new row x ≤ score periods old new row (choice m)
    here (inl same) =
        let least = o.most x (candidate-longer old new fixed (fixed ++ Some place ∷ []) (Some place) refl x k (e ∙ ap Some same)) in omega (arith, least, more_other)
    here (inr apart) =
        let under : i < place = omega (arith, apart) in
        let least = b.most x k (subst (IsBelow place) (sym e) under) in omega (arith, least, more_best)

-- all old shifts are tried
pub all-tried : (periods : ℕ) (old new : List Shift) (row : ℕ) (fixed m : List (Option ℕ)) → length fixed < length new
    → IsBestBelow periods old new row fixed (length old) m → IsBest periods old new row fixed m
all-tried periods old new row fixed m turn best = record {
  len = best.len;
  candidate = best.candidate;
  most = λ (x : ℕ → Option ℕ) (k : IsCandidate old new (length fixed) (choice fixed) x). best.most x k (pick x k (x (length fixed)) refl);
} where
  pick : (x : ℕ → Option ℕ) → IsCandidate old new (length fixed) (choice fixed) x → (c : Option ℕ) → x (length fixed) ≡ c → IsBelow (length old) c
  pick x k None e = tt
  pick x k (Some i) e = (fits-pair old new (length new) x k.fits (length fixed) i turn e).0.there

-- choices for all new shifts are the best that begin with them
pub alone-best : (periods : ℕ) (old new : List Shift) (row : ℕ) (fixed : List (Option ℕ)) → length fixed ≡ length new
    → Fits old new (length fixed) (choice fixed) → IsBest periods old new row fixed fixed
unfolding score
alone-best periods old new row fixed len fits = record {
  len = len;
  candidate = record { fits = subst (λ (n : ℕ). Fits old new n (choice fixed)) len fits; extends = λ at below. refl };
  most = λ (x : ℕ → Option ℕ) (k : IsCandidate old new (length fixed) (choice fixed) x).
      let same = total-same (length new) (λ (at : ℕ). row_score periods old new row at (x at)) (λ (at : ℕ). row_score periods old new row at (choice fixed at))
      (λ (at : ℕ) (below : at < length new). ap (row_score periods old new row at) (k.extends at (omega (arith, len)))) in
      omega (arith, same);
}

-- at first nothing is fixed
pub none-fixed : (periods : ℕ) (old new : List Shift) (fixed : List (Option ℕ)) → fixed ≡ [] → IsFixing periods old new fixed
none-fixed periods old new fixed e = subst (IsFixing periods old new) (sym e) (record {
  within = omega arith;
  fits = λ at below. absurd (omega arith);
  leads = λ chosen first. first;
})

-- a further choice is fixed
pub one-fixed : (periods : ℕ) (old new : List Shift) (fixed more : List (Option ℕ)) (c : Option ℕ) → length old ≤ 64
    → length fixed < length new → IsFixing periods old new fixed → IsNext periods old new fixed c
    → more ≡ fixed ++ c ∷ [] → IsFixing periods old new more
one-fixed periods old new fixed more c few turn state next e = record {
  within = omega (arith, len);
  fits = fits-longer old new fixed more c e state.fits may;
  leads = λ (y : ℕ → Option ℕ) (first : IsFirst periods old new (length more) (choice more) y).
      state.leads y (next_first periods old new fixed more m few turn best longer y (subst (λ (n : ℕ). IsFirst periods old new n (choice more) y) len first));
} where
  m : List (Option ℕ)
  m = next.0

  best : IsBest periods old new (length fixed) fixed m
  best = next.1

  len : length more ≡ length fixed + 1
  len = length-longer fixed more c e

  longer : Extends (length fixed + 1) (choice more) (choice m)
  longer at below = pick (cases_lt at (length fixed)) where
    pick : ((at < length fixed) ⊎ (length fixed ≤ at)) → choice m at ≡ choice more at
    pick (inl under) = best.candidate.extends at under ∙ sym (choice-before fixed more c e at under)
    pick (inr over) =
        let here : at ≡ length fixed = omega arith in
        subst (λ (t : ℕ). choice m t ≡ choice more t) (sym here) (next.2 ∙ sym (choice-last fixed more c e))

  may : MayFollow old new (choice fixed) (length fixed) c
  may = may-same old new (choice m) (choice fixed) (length fixed) (λ t below. sym (best.candidate.extends t below)) c
      (subst (MayFollow old new (choice m) (length fixed)) next.2 (best.candidate.fits (length fixed) turn))

-- at last all choices are the least matching
pub all-fixed : (periods : ℕ) (old new : List Shift) (fixed : List (Option ℕ)) → length old ≤ 64 → length new ≤ 64
    → length new ≤ length fixed → IsFixing periods old new fixed → IsLeastMatching periods old new fixed
all-fixed periods old new fixed few_old few_new end state =
    let len : length fixed ≡ length new = omega (arith, state.within) in
    let fits = subst (λ (n : ℕ). Fits old new n (choice fixed)) len state.fits in
    let last = last_first periods old new (choice fixed) fits in
    first-least periods old new fixed few_old few_new len (state.leads (choice fixed) (subst (λ (n : ℕ). IsFirst periods old new n (choice fixed) (choice fixed)) (sym len) last))
