-- A walk over the nodes of a tree, one node after another.
use Rattle.std.proofs.Common.{◌≡◌, ℕ, zero, suc, arith, ◌+◌, ◌≤◌, ◌<◌, Bool, true, Option, None, Some, List, [], ◌∷◌, ◌++◌, length, take, drop, get_or, add-one, drop-cons, sym, refl, ap, subst, ◌∙◌}
use Rattle.std.specs.Prelude.{IsSome, cond, nat_lt, false}
use Rattle.check_certificates.specs.certificate_laws.Causes.{cause_number}
use Rattle.std.proofs.lemmas.List.{length-append, length-take-le, drop_all, take_all}
use Rattle.model_rosters.specs.declared.instance.Cut.{Cut}
use Rattle.model_rosters.specs.declared.instance.Instance.{Instance}
use Rattle.model_rosters.specs.Cuts.{base_cuts}
use Rattle.model_rosters.specs.Folds.{Each}
use Rattle.check_certificates.specs.declared.cert.Node.{Node}
use Rattle.check_certificates.specs.declared.cert.Node.TheVariants.{Split, Priced, Pinned, Bare}
use Rattle.check_certificates.specs.declared.why.Why.{Why}
use Rattle.check_certificates.specs.Nodes.{Proof, split, priced, pinned, bare, preorder, Visit, visits, low_cut, high_cut}
use Rattle.check_certificates.specs.Sound.{IsSoundVisit, IsSoundProof, NoneIsZero}
use Rattle.check_proofs.specs.declared.frame.Frame.{Frame}
use Rattle.check_certificates.specs.certificate_laws.Shown.{Shows}
use Rattle.check_proofs.specs.OpenSplits.{path, LeadsTo, MakeVisits, ValueNext, VisitsNext}
use Rattle.check_proofs.proofs.OpenSplitsLemmas.{visits-split, visits-leaf, visits-start, not-yet, at-end, whole-shows}
use Rattle.check_certificates.proofs.certificate_laws.OneProof.{same-proof}
use Rattle.check_proofs.specs.declared.walk.Walk.{Walk}
use Rattle.check_proofs.specs.Stacks.{StackView, AreSmall}
use Rattle.check_proofs.specs.Steps.{next_visit, MayFollow, IsStep, IsWalking}
use Rattle.check_proofs.specs.Verdicts.{IsWalked}
use Rattle.check_proofs.specs.Walked.{IsVisitsCause, lesser_cause}
use Rattle.check_proofs.proofs.VisitCauses.{one-more}

-- as many visits as nodes
length-visits : (cuts : List Cut) (p : Proof) → length (visits cuts p) ≡ length (preorder p)
length-visits cuts (priced p) = refl
length-visits cuts pinned = refl
length-visits cuts bare = refl
length-visits cuts (split a b own low high) =
    let x = length-visits (cuts ++ low_cut a b ∷ []) low in
    let y = length-visits (cuts ++ high_cut a b ∷ []) high in
    omega (arith, length-append (visits (cuts ++ low_cut a b ∷ []) low) (visits (cuts ++ high_cut a b ∷ []) high), length-append (preorder low) (preorder high))

module _ {A : Type 0} where
  Each-drop : (P : A → Type 0) (k : ℕ) (xs : List A) → Each P xs → Each P (drop k xs)
  Each-drop P zero xs h = h
  Each-drop P (suc k) [] h = tt
  Each-drop P (suc k) (x ∷ xs) h = Each-drop P k xs h.1

  drop-next : (k : ℕ) (xs : List A) (y : A) (ys : List A) → drop k xs ≡ y ∷ ys → (drop (suc k) xs ≡ ys) × (take (suc k) xs ≡ take k xs ++ y ∷ []) × (k < length xs)
  drop-next zero [] y ys e = cc
  drop-next (suc k) [] y ys e = cc
  drop-next zero (x ∷ xs) y ys e = (cc, cc, omega arith)
  drop-next (suc k) (x ∷ xs) y ys e = let r = drop-next k xs y ys e in let t = r.1 in (r.0, cc, omega (arith, r.2))

-- the first visit that nodes make is that of the first
first-visit : (base : List Cut) (st : List Frame) (n : Node) (rest : List Node) (vs : List Visit) → MakeVisits base st (n ∷ rest) vs → (us : List Visit) × (vs ≡ record { path = path base st; node = n } ∷ us)
first-visit base st (Split a b own) rest vs m = let s = visits-split base st rest vs a b own None 0 m in (s.0, s.1)
first-visit base st (Priced p) rest vs m = let s = visits-leaf base st rest vs (Priced p) tt m in (s.0, s.1)
first-visit base st Pinned rest vs m = let s = visits-leaf base st rest vs Pinned tt m in (s.0, s.1)
first-visit base st Bare rest vs m = let s = visits-leaf base st rest vs Bare tt m in (s.0, s.1)

-- no value is there before the last node
still : (i : Instance) (base : List Cut) (shown : Option ℕ) (st : List Frame) (n : Node) (rest : List Node) (vs : List Visit) (v : ℕ) → VisitsNext base shown st (n ∷ rest) vs → LeadsTo i base st (n ∷ rest) v
    → ValueNext i base shown st (n ∷ rest) v
still i base None st n rest vs v h l = l
still i base (Some x) st n rest vs v h l = let e = h.0 in cc

no-causes : (a b : Option Why) → lesser_cause a b ≡ None → a ≡ None
no-causes None b e = refl
no-causes (Some a) None e = cc
no-causes (Some a) (Some b) e = by (nat_lt (cause_number b) (cause_number a)) e
  where
    by : (t : Bool) → cond t (Some b) (Some a) ≡ None → Some a ≡ None
    by true e = cc
    by false e = cc

listed-at : (ns : List Node) (k : ℕ) (d : Node) → Each NoneIsZero ns → k < length ns → NoneIsZero (get_or ns k d)
listed-at [] k d all l = absurd (omega (arith, l))
listed-at (n ∷ ns) zero d all l = all.0
listed-at (n ∷ ns) (suc k) d all l = listed-at ns k d all.1 (omega (arith, l))

-- what comes next starts the visits that are left
module _ (i : Instance) (p : Proof) (nodes : List Node) (sound : IsSoundProof i nodes p) (k : ℕ) (stack : StackView) (walk : Walk) (w : IsWalking i p k stack walk) (d : Node) (here : k < length nodes) where
  left : drop k (preorder p) ≡ get_or nodes k d ∷ drop (suc k) (preorder p)
  left = ap (λ (xs : List Node). drop k xs) sound.whole ∙ drop-cons nodes k d here ∙ ap (λ (xs : List Node). get_or nodes k d ∷ drop (suc k) xs) (sym sound.whole)

  coming : VisitsNext (base_cuts i) walk.shown stack.splits (get_or nodes k d ∷ drop (suc k) (preorder p)) (drop k (visits (base_cuts i) p))
  coming = subst (λ (xs : List Node). VisitsNext (base_cuts i) walk.shown stack.splits xs (drop k (visits (base_cuts i) p))) left w.visits

  made : MakeVisits stack.base stack.splits (get_or nodes k d ∷ drop (suc k) (preorder p)) (drop k (visits (base_cuts i) p))
  made = subst (λ (cs : List Cut). MakeVisits cs stack.splits (get_or nodes k d ∷ drop (suc k) (preorder p)) (drop k (visits (base_cuts i) p))) (sym w.base)
      (not-yet (base_cuts i) walk.shown stack.splits (get_or nodes k d) (drop (suc k) (preorder p)) (drop k (visits (base_cuts i) p)) coming)

  -- the next node may follow
  pub may-follow : Each NoneIsZero nodes → length nodes ≤ stack.most → MayFollow i stack (get_or nodes k d)
  may-follow all few =
      let f = first-visit stack.base stack.splits (get_or nodes k d) (drop (suc k) (preorder p)) (drop k (visits (base_cuts i) p)) made in
      let each = subst (λ (vs : List Visit). Each (IsSoundVisit i) vs) f.1 (Each-drop (IsSoundVisit i) k (visits (base_cuts i) p) sound.each) in
      record { room = omega (arith, w.deep); small = w.small; sound = each.0; listed = listed-at nodes k d all here }

  module _ (new : StackView) (after : Walk) (s : IsStep i stack walk (get_or nodes k d) new after) where
    taken : (us : List Visit) × (drop k (visits (base_cuts i) p) ≡ next_visit stack (get_or nodes k d) ∷ us) × VisitsNext stack.base after.shown new.splits (drop (suc k) (preorder p)) us
    taken = s.shows.visits (drop (suc k) (preorder p)) (drop k (visits (base_cuts i) p)) made

    next-why : IsVisitsCause i (take (suc k) (visits (base_cuts i) p)) after.why
    next-why =
        let t = taken in
        let n = drop-next k (visits (base_cuts i) p) (next_visit stack (get_or nodes k d)) t.0 t.1 in
        let long = length-take-le k (visits (base_cuts i) p) (omega (arith, n.2)) in
        let more = one-more i (take k (visits (base_cuts i) p)) (next_visit stack (get_or nodes k d)) (walk.nodes + 1) (omega (arith, w.nodes)) walk.why s.why.0 w.why s.why.1 in
        subst (λ (o : Option Why). IsVisitsCause i (take (suc k) (visits (base_cuts i) p)) o) (sym s.why.2)
        (subst (λ (vs : List Visit). IsVisitsCause i vs (lesser_cause walk.why s.why.0)) (sym n.1) more)

    next-visits : VisitsNext (base_cuts i) after.shown new.splits (drop (suc k) (preorder p)) (drop (suc k) (visits (base_cuts i) p))
    next-visits =
        let t = taken in
        let n = drop-next k (visits (base_cuts i) p) (next_visit stack (get_or nodes k d)) t.0 t.1 in
        subst (λ (vs : List Visit). VisitsNext (base_cuts i) after.shown new.splits (drop (suc k) (preorder p)) vs) (sym n.0)
        (subst (λ (cs : List Cut). VisitsNext cs after.shown new.splits (drop (suc k) (preorder p)) t.0) w.base t.2)

    next-values : after.why ≡ None → (v : ℕ) → ValueNext i (base_cuts i) after.shown new.splits (drop (suc k) (preorder p)) v → LeadsTo i (base_cuts i) [] (preorder p) v
    next-values none v n =
        let before = no-causes walk.why s.why.0 (sym s.why.2 ∙ none) in
        let leads = s.shows.values (s.none none) (drop (suc k) (preorder p)) v (subst (λ (cs : List Cut). ValueNext i cs after.shown new.splits (drop (suc k) (preorder p)) v) (sym w.base) n) in
        let mine = subst (λ (cs : List Cut). LeadsTo i cs stack.splits (get_or nodes k d ∷ drop (suc k) (preorder p)) v) w.base leads in
        w.values before v (subst (λ (xs : List Node). ValueNext i (base_cuts i) walk.shown stack.splits xs v) (sym left)
        (still i (base_cuts i) walk.shown stack.splits (get_or nodes k d) (drop (suc k) (preorder p)) (drop k (visits (base_cuts i) p)) v coming mine))

    pub next-node : IsWalking i p (k + 1) new after
    next-node = rw (add-one k) (record {
      base = s.shows.base ∙ w.base;
      deep = omega (arith, s.shows.deeper, w.deep);
      small = s.shows.small;
      nodes = omega (arith, s.nodes, w.nodes);
      why = next-why;
      values = next-values;
      visits = next-visits;
    })

-- before the first node
pub start-walk : (i : Instance) (p : Proof) (stack : StackView) (walk : Walk) → stack.base ≡ base_cuts i → stack.splits ≡ [] → AreSmall (base_cuts i) → walk ≡ record { nodes = 0; shown = None; why = None } → IsWalking i p 0 stack walk
start-walk i p stack walk base none small new =
    let start : IsWalking i p 0 (record { base = base_cuts i; splits = []; most = stack.most }) (record { nodes = 0; shown = None; why = None }) = record {
      base = refl;
      deep = omega arith;
      small = small;
      nodes = refl;
      why = (tt, tt, tt);
      values = λ e v h. h;
      visits = visits-start (base_cuts i) p;
    } in
    let same = ap (λ (b : List Cut). record stack { base = b }) base ∙ ap (λ (x : List Frame). record stack { base = base_cuts i; splits = x }) none in
    subst (λ (x : Walk). IsWalking i p 0 stack x) (sym new) (subst (λ (x : StackView). IsWalking i p 0 x (record { nodes = 0; shown = None; why = None })) (sym same) start)

-- after the last
pub end-walk : (i : Instance) (p : Proof) (nodes : List Node) (k : ℕ) (stack : StackView) (walk : Walk) → IsSoundProof i nodes p → length nodes ≤ k → IsWalking i p k stack walk → IsWalked i nodes walk
end-walk i p nodes k stack walk sound past w =
    let long = length-visits (base_cuts i) p in
    let count = ap (λ (xs : List Node). length xs) sound.whole in
    let none : drop k (preorder p) ≡ [] = drop_all k (preorder p) (omega arith) in
    let all : take k (visits (base_cuts i) p) ≡ visits (base_cuts i) p = take_all k (visits (base_cuts i) p) (omega arith) in
    let done = at-end (base_cuts i) walk.shown stack.splits (drop k (visits (base_cuts i) p)) (subst (λ (xs : List Node). VisitsNext (base_cuts i) walk.shown stack.splits xs (drop k (visits (base_cuts i) p))) none w.visits) in
    record {
      proof = p;
      whole = sound.whole;
      why = subst (λ (vs : List Visit). IsVisitsCause i vs walk.why) all w.why;
      shown = λ e. value walk.shown refl done.0 (λ v n. w.values e v (subst (λ (xs : List Node). ValueNext i (base_cuts i) walk.shown stack.splits xs v) (sym none) n));
    }
  where
    value : (shown : Option ℕ) → walk.shown ≡ shown → IsSome shown → ((v : ℕ) → ValueNext i (base_cuts i) walk.shown stack.splits [] v → LeadsTo i (base_cuts i) [] (preorder p) v) → (v : ℕ) × (walk.shown ≡ Some v) × Shows i (base_cuts i) p v
    value None e h f = cc
    value (Some v) e h f =
        let t = whole-shows i (base_cuts i) (preorder p) v (f v (subst (λ (o : Option ℕ). ValueNext i (base_cuts i) o stack.splits [] v) (sym e) (refl, refl))) in
        (v, e, subst (λ (q : Proof). Shows i (base_cuts i) q v) (same-proof t.0 p (preorder p) t.1 refl) t.2)
