-- The lines of all duty names are those of the plan.
use Rattle.std.proofs.Common.{◌≡◌, ℕ, ◌⊎◌, inl, inr, Bool, true, false, cond, List, [], ◌∷◌, ◌++◌, Option, None, Some, map, refl, sym, ap, ◌∙◌, subst}
use Rattle.std.specs.Str.{bytes_eq}
use Rattle.std.proofs.lemmas.Slice.Eq.{bytes_eq-Decides}
use Rattle.model_rosters.specs.Folds.{Each, In}
use Rattle.plan_meaning.specs.declared.plan.Duty.{Duty}
use Rattle.plan_meaning.specs.declared.plan.Plan.{Plan}
use Rattle.plan_meaning.specs.declared.plan.Staff.{Staff}
use Rattle.plan_laws.specs.declared.period_plan.NamedLines.{NamedLines}
use Rattle.plan_laws.specs.declared.period_plan.PeriodDuty.{PeriodDuty}
use Rattle.plan_laws.specs.Laws.{all_lines}
use Rattle.plan_laws.specs.PlanRules.{AreSame}
use Rattle.plan_laws.specs.Turned.{is_named, named_lines, turned_duty, turned_lines}
use Rattle.plan_laws.proofs.Words.{in_either, in_first, in_second}
use Rattle.plan_laws.proofs.Turning.{from_map, to_map}
use Rattle.plan_by_names.specs.ByNames.{AreStaffed, HasStaff, NamesLaw, all_of, by_names, by_staff, lines_of, of_staff, or_all}

module _ (p : Plan) where
  abbrev own : List Duty → List PeriodDuty
  own ds = map (turned_duty p) ds

  -- a line of a name is one of all
  of_all : (name : Option (List ℕ)) (ds : List Duty) (y : PeriodDuty) → In y (own (named_lines name ds)) → In y (own ds)
  of_all name [] y at = absurd at
  of_all name (x ∷ ds) y at = go (is_named name x) at (of_all name ds y)
    where
      go : (t : Bool) → In y (own (cond t (x ∷ named_lines name ds) (named_lines name ds)))
          → (In y (own (named_lines name ds)) → In y (own ds)) → In y (own (x ∷ ds))
      go true (inl e) ih = inl e
      go true (inr r) ih = inr (ih r)
      go false r ih = inr (ih r)

  -- a line is one of its own name
  of_own : (name : List ℕ) (ds : List Duty) (d : Duty) → In d ds → d.name ≡ name → In d (named_lines (Some name) ds)
  of_own name [] d at e = absurd at
  of_own name (x ∷ ds) d at e = go (is_named (Some name) x) refl at (λ r. of_own name ds d r e)
    where
      back : (t : Bool) → is_named (Some name) x ≡ t → In d (cond t (x ∷ named_lines (Some name) ds) (named_lines (Some name) ds))
          → In d (named_lines (Some name) (x ∷ ds))
      back t h r = subst (λ (y : Bool). In d (cond y (x ∷ named_lines (Some name) ds) (named_lines (Some name) ds))) (sym h) r

      go : (t : Bool) → is_named (Some name) x ≡ t → In d (x ∷ ds) → (In d ds → In d (named_lines (Some name) ds)) → In d (named_lines (Some name) (x ∷ ds))
      go true h (inl q) ih = back true h (inl q)
      go true h (inr r) ih = back true h (inr (ih r))
      go false h (inr r) ih = back false h (ih r)
      go false h (inl q) ih = absurd (clash (sym h ∙ (bytes_eq-Decides x.name name).1 (sym (ap (λ (y : Duty). y.name) q) ∙ e)))
        where
          clash : false ≡ true → ⊥
          clash f = cc

  from_staff : (ss : List Staff) (y : PeriodDuty) → In y (all_lines (by_staff p ss)) → In y (own p.duties)
  from_staff [] y at = absurd at
  from_staff (s ∷ ss) y at = go s.name at (from_staff ss y)
    where
      one : (name : List ℕ) → In y (turned_lines p (Some name)) ⊎ In y (all_lines (by_staff p ss)) → (In y (all_lines (by_staff p ss)) → In y (own p.duties))
          → In y (own p.duties)
      one name (inl a) ih = of_all (Some name) p.duties y a
      one name (inr b) ih = ih b

      go : (o : Option (List ℕ)) → In y (all_lines (of_staff p o ++ by_staff p ss)) → (In y (all_lines (by_staff p ss)) → In y (own p.duties)) → In y (own p.duties)
      go None l ih = ih l
      go (Some name) l ih = one name (in_either y (turned_lines p (Some name)) (all_lines (by_staff p ss)) l) ih

  to_staff : (ss : List Staff) (name : List ℕ) (y : PeriodDuty) → HasStaff ss name → In y (turned_lines p (Some name)) → In y (all_lines (by_staff p ss))
  to_staff [] name y has at = absurd has.1
  to_staff (s ∷ ss) name y has at = go has.1 (λ r. to_staff ss name y (has.0, r, has.2) at)
    where
      here : (o : Option (List ℕ)) → o ≡ Some name → In y (all_lines (of_staff p o ++ by_staff p ss))
      here None e = absurd (none e)
        where
          none : None ≡ Some name → ⊥
          none f = cc
      here (Some other) e =
          in_first y (turned_lines p (Some other)) (all_lines (by_staff p ss)) (subst (λ (o : Option (List ℕ)). In y (turned_lines p o)) (sym e) at)

      there : (o : Option (List ℕ)) → In y (all_lines (by_staff p ss)) → In y (all_lines (of_staff p o ++ by_staff p ss))
      there None r = r
      there (Some other) r = in_second y (turned_lines p (Some other)) (all_lines (by_staff p ss)) r

      go : In has.0 (s ∷ ss) → (In has.0 ss → In y (all_lines (by_staff p ss))) → In y (all_lines (by_staff p (s ∷ ss)))
      go (inl q) ih = here s.name (sym (ap (λ (t : Staff). t.name) q) ∙ has.2)
      go (inr r) ih = there s.name (ih r)

  -- all lines, or those of names
  none_named : (ss : List Staff) → Each (λ (s : Staff). s.name ≡ None) ss → by_staff p ss ≡ []
  none_named [] h = refl
  none_named (s ∷ ss) h = ap (λ (o : Option (List ℕ)). of_staff p o ++ by_staff p ss) h.0 ∙ none_named ss h.1

  from_or : (xs : List NamedLines) (y : PeriodDuty) → (In y (all_lines xs) → In y (own p.duties)) → In y (all_lines (or_all p xs)) → In y (turned_lines p None)
  from_or [] y h at = go (in_either y (turned_lines p None) [] at)
    where
      go : In y (turned_lines p None) ⊎ In y [] → In y (turned_lines p None)
      go (inl a) = a
      go (inr b) = absurd b
  from_or (x ∷ xs) y h at = whole p.duties (h at)
    where
      whole : (ds : List Duty) → In y (own ds) → In y (own (named_lines None ds))
      whole [] a = a
      whole (d ∷ ds) (inl e) = inl e
      whole (d ∷ ds) (inr r) = inr (whole ds r)

  whole_back : (ds : List Duty) (y : PeriodDuty) → In y (own (named_lines None ds)) → In y (own ds)
  whole_back ds y at = of_all None ds y at

  to_or : (xs : List NamedLines) (y : PeriodDuty) → In y (turned_lines p None) → (xs ≡ []) ⊎ In y (all_lines xs) → In y (all_lines (or_all p xs))
  to_or [] y at h = in_first y (turned_lines p None) [] at
  to_or (x ∷ xs) y at (inl e) = absurd (none e)
    where
      none : x ∷ xs ≡ [] → ⊥
      none f = cc
  to_or (x ∷ xs) y at (inr a) = a

  in_names : AreStaffed p → (y : PeriodDuty) → In y (turned_lines p None) → (by_staff p p.staff ≡ []) ⊎ In y (all_lines (by_staff p p.staff))
  in_names (inl none) y at = inl (none_named p.staff none)
  in_names (inr each) y at =
      let l = from_map (turned_duty p) p.duties y (whole_back p.duties y at) in
      let line = to_map (turned_duty p) (named_lines (Some l.0.name) p.duties) l.0 (of_own l.0.name p.duties l.0 l.1 refl) in
      inr (to_staff p.staff l.0.name y (each_at p.duties l.0 each l.1) (subst (λ (z : PeriodDuty). In z (turned_lines p (Some l.0.name))) (sym l.2) line))
    where
      each_at : (ds : List Duty) (d : Duty) → Each (λ (x : Duty). HasStaff p.staff x.name) ds → In d ds → HasStaff p.staff d.name
      each_at [] d h a = absurd a
      each_at (x ∷ ds) d h (inl q) = subst (λ (z : Duty). HasStaff p.staff z.name) (sym q) h.0
      each_at (x ∷ ds) d h (inr r) = each_at ds d h.1 r

pub names_law : NamesLaw
names_law = λ p staffed y. (
  (λ at. from_or p (by_staff p p.staff) y (from_staff p p.staff y) at),
  (λ at. to_or p (by_staff p p.staff) y at (in_names p staffed y at)),
)
