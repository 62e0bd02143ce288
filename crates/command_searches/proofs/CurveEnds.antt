-- Curves over the same texts end alike.
use Rattle.std.proofs.Common.{◌≡◌, ◌≢◌, ℕ, ◌+◌, ◌<◌, Bool, true, false, List, [], ◌∷◌, length, Option, None, Some, refl, sym, ap, subst, ◌∙◌, arith, ◌⊎◌, inl, inr, map}
use Rattle.std.proofs.lemmas.Bool.Decides.{eqb_tells}
use Rattle.std.specs.Prelude.{IsSome, cond, ◌&&◌, is_none, nat_eq}
use Rattle.std.specs.List.{list_all}
use Rattle.command_searches.specs.declared.limit.Limit.{Limit}
use Rattle.model_rosters.specs.declared.grammar.Grammar.{Grammar}
use Rattle.model_rosters.specs.declared.instance.Instance.{Instance}
use Rattle.model_rosters.specs.declared.instance.Shift.{Shift}
use Rattle.model_rosters.specs.SoundInstance.{IsSoundInstance}
use Rattle.check_certificates.specs.declared.cert.Cert.{Cert}
use Rattle.check_certificates.specs.certificate_laws.Right.{YesIsRight}
use Rattle.text_demand_lines.specs.declared.fault.DemandFault.{DemandFault}
use Rattle.text_demand_lines.specs.FaultLine as demand
use Rattle.text_demand.specs.InstanceOf.{instance_of}
use Rattle.search_days.specs.declared.day_curve.staff.Staff.{Staff}
use Rattle.search_days.specs.day_curve.Curves.{first_heads, point_count}
use Rattle.search_days.specs.day_curve.CurveText.{curve_text}
use Rattle.search_days.specs.day_curve.Named.{staff_of}
use Rattle.search_days.specs.day_curve.Staffs.{IsStaff, with_heads}
use Rattle.search_days.proofs.day_curve.StaffNames.{named-staff}
use Rattle.search_days.specs.declared.day_curve.points.CurvePoint.{CurvePoint}
use Rattle.command_shelf.specs.Shelf.{Texts}
use Rattle.command_searches.specs.Curve.{Point, ArePoints, point_entries, said_points, is_same, is_closed, has_no_cost, curve_status, SaysCurve, SaysNoTeam, Curving, CurvesDemand, AnswersCurveDemand, CurvesRules, AnswersCurve}
use Rattle.command_searches.specs.Curve as curves
use Rattle.command_searches.specs.OneEnd.{EndsAlike, costs_of}
use Rattle.command_searches.specs.Series.{Entry, End, answered, broken_off}
use Rattle.command_searches.specs.Solve.{MasterView}
use Rattle.command_searches.proofs.CurveAnswers.{some-points}
use Rattle.command_searches.proofs.OneCost.{never_both, costs-alike}
use Rattle.command_searches.proofs.OneEndLemmas.{many_or_few, arcs_alike}
use Rattle.command_answers.proofs.OneReading.{same_text, same_ok, same_err, not_both, same_grammar, no_fault, faults_once}

both : (a b : Bool) → (a && b) ≡ true → (a ≡ true) × (b ≡ true)
both true b h = (refl, h)
both false b h = let e : false ≡ true = h in cc

joined : (a b : Bool) → a ≡ true → b ≡ true → (a && b) ≡ true
joined true b e f = f
joined false b e f = let clash : false ≡ true = e in cc

-- a closed point without a cost has no bound
no_bound : (a b : Option ℕ) → is_same a b ≡ true → is_none a ≡ true → b ≡ None
no_bound None None e n = refl
no_bound None (Some b) e n = let clash : false ≡ true = e in cc
no_bound (Some a) b e n = let clash : false ≡ true = n in cc

-- where no roster is allowed, none has a cost
cost_none : (i : Instance) (c d : Cert) (cost : Option ℕ) → c.cost ≡ cost → YesIsRight i c → YesIsRight i d → d.bound ≡ None → is_none cost ≡ true
cost_none i c d None e h k none = refl
cost_none i c d (Some n) e h k none = absurd (never_both i c d h k (subst (λ (o : Option ℕ). IsSome o) (sym e) refl) none)

-- two curves over the same head counts, the first closed and without costs
none_alike : (i : Instance) (staff : Staff) (limit : Limit) (s t : Bool) (h q r : ℕ) (k l : List Shift) (xs ys : List Point) → length xs ≡ length ys → ArePoints i staff s limit h q k xs → ArePoints i staff t limit h r l ys
    → list_all is_closed (said_points h xs) ≡ true → list_all has_no_cost (said_points h xs) ≡ true → list_all has_no_cost (said_points h ys) ≡ true
none_alike i staff limit s t h q r k l [] [] e are is closed none = refl
none_alike i staff limit s t h q r k l [] (y ∷ ys) e are is closed none = let clash : 0 ≡ length (y ∷ ys) = e in absurd (omega (arith, clash))
none_alike i staff limit s t h q r k l (x ∷ xs) [] e are is closed none = let clash : length (x ∷ xs) ≡ 0 = e in absurd (omega (arith, clash))
none_alike i staff limit s t h q r k l (x ∷ xs) (y ∷ ys) e are is closed none =
    let shut = both (is_same x.found.cert.cost x.found.cert.bound) (list_all is_closed (said_points (h + 1) xs)) closed in
    let bare = both (is_none x.found.cert.cost) (list_all has_no_cost (said_points (h + 1) xs)) none in
    let bound = no_bound x.found.cert.cost x.found.cert.bound shut.0 bare.0 in
    let here = cost_none (with_heads staff i h) y.found.cert x.found.cert y.found.cert.cost refl is.0.right are.0.right bound in
    let same : length xs ≡ length ys = omega (arith, e) in
    joined (is_none y.found.cert.cost) (list_all has_no_cost (said_points (h + 1) ys)) here
    (none_alike i staff limit s t (h + 1) x.refused y.refused x.found.cert.shifts y.found.cert.shifts xs ys same are.2 is.2 shut.1 bare.1)

all_closed : (a b : Bool) → ◌≢◌ {A = ℕ} (cond a (cond b 1 0) 8) 8 → a ≡ true
all_closed true b h = refl
all_closed false b h = absurd (h refl)

zero_closed : (a b : Bool) → ◌≡◌ {A = ℕ} (cond a (cond b 1 0) 8) 0 → a ≡ true
zero_closed true b h = refl
zero_closed false b h = let clash : ◌≡◌ {A = ℕ} 8 0 = h in absurd (omega (arith, clash))

-- the bound of a closed point is its cost
bound_is : (a b : Option ℕ) → is_same a b ≡ true → b ≡ a
bound_is None None e = refl
bound_is None (Some b) e = let clash : false ≡ true = e in cc
bound_is (Some a) None e = let clash : false ≡ true = e in cc
bound_is (Some a) (Some b) e = ap (λ (n : ℕ). Some n) (by (eqb_tells a b))
  where
    by : ((nat_eq a b ≡ true) × (a ≡ b)) ⊎ ((nat_eq a b ≡ false) × (a ≢ b)) → b ≡ a
    by (inl h) = sym h.1
    by (inr h) = let clash : false ≡ true = sym h.0 ∙ e in cc

abbrev bare_point : ℕ → Option ℕ → Option ℕ → CurvePoint
bare_point heads cost bound = record { heads = heads; cost = cost; bound = bound; processed = 0; failed = 0 }

-- two closed curves over the same head counts
costs_same : (i : Instance) (staff : Staff) (limit : Limit) (s t : Bool) (h q r : ℕ) (k l : List Shift) (xs ys : List Point) → length xs ≡ length ys → ArePoints i staff s limit h q k xs → ArePoints i staff t limit h r l ys
    → list_all is_closed (said_points h xs) ≡ true → list_all is_closed (said_points h ys) ≡ true → map costs_of (said_points h xs) ≡ map costs_of (said_points h ys)
costs_same i staff limit s t h q r k l [] [] e are is shut closed = refl
costs_same i staff limit s t h q r k l [] (y ∷ ys) e are is shut closed = let clash : 0 ≡ length (y ∷ ys) = e in absurd (omega (arith, clash))
costs_same i staff limit s t h q r k l (x ∷ xs) [] e are is shut closed = let clash : length (x ∷ xs) ≡ 0 = e in absurd (omega (arith, clash))
costs_same i staff limit s t h q r k l (x ∷ xs) (y ∷ ys) e are is shut closed =
    let here = both (is_same x.found.cert.cost x.found.cert.bound) (list_all is_closed (said_points (h + 1) xs)) shut in
    let there = both (is_same y.found.cert.cost y.found.cert.bound) (list_all is_closed (said_points (h + 1) ys)) closed in
    let low = bound_is x.found.cert.cost x.found.cert.bound here.0 in
    let high = bound_is y.found.cert.cost y.found.cert.bound there.0 in
    let cost = costs-alike (with_heads staff i h) x.found.cert y.found.cert are.0.right is.0.right low high in
    let bound = low ∙ cost ∙ sym high in
    let point = ap (λ (c : Option ℕ). bare_point h c x.found.cert.bound) cost ∙ ap (λ (b : Option ℕ). bare_point h y.found.cert.cost b) bound in
    let same : length xs ≡ length ys = omega (arith, e) in
    let rest = costs_same i staff limit s t (h + 1) x.refused y.refused x.found.cert.shifts y.found.cert.shifts xs ys same are.2 is.2 here.1 there.1 in
    ap (λ (p : CurvePoint). p ∷ map costs_of (said_points (h + 1) xs)) point ∙ ap (λ (ps : List CurvePoint). bare_point h y.found.cert.cost y.found.cert.bound ∷ ps) rest

one_bool : (a b : Bool) → (a ≡ true → b ≡ true) → (b ≡ true → a ≡ true) → a ≡ b
one_bool true b f g = sym (f refl)
one_bool false true f g = g refl
one_bool false false f g = refl

one_status : (a b c d : Bool) → a ≡ true → b ≡ true → c ≡ d → ◌≡◌ {A = ℕ} (cond a (cond c 1 0) 8) (cond b (cond d 1 0) 8)
one_status a b c d e f g = rw (e, f, g) refl

no_entries : (proof : List ℕ) (h : ℕ) (ps : List Point) → 0 < length ps → point_entries proof h ps ≡ [] → ⊥
no_entries proof h [] some e = omega (arith, some)
no_entries proof h (p ∷ ps) some e = cc

-- two ends, where both are answers
abbrev AlikeAt : End → End → List Entry → List Entry → Type 0
AlikeAt (broken_off name) f x y = Unit {0}
AlikeAt (answered s a) (broken_off name) x y = Unit {0}
AlikeAt (answered s a) (answered t b) x y = EndsAlike s t a b x y

not_zero : (s k : ℕ) → s ≡ k + 1 → s ≡ 0 → ⊥
not_zero s k e z = omega (arith, e, z)

refused_alike : (s k : ℕ) (a b : List ℕ) → s ≡ k + 1 → a ≡ b → EndsAlike s s a b [] []
refused_alike s k a b some e = record { refused = λ none. (refl, refl, e); found = λ p q. refl; costs = λ p q. absurd (not_zero s k some p) }

-- a day has one team of the name
one_staff : (i : Instance) (group : Option (List ℕ)) (a b : Staff) → staff_of i group ≡ Some a → staff_of i group ≡ Some b → a ≡ b
one_staff i group a b e f = let same : Some a ≡ Some b = sym e ∙ f in cc

some_or_none : (i : Instance) (group : Option (List ℕ)) (a : Staff) → staff_of i group ≡ Some a → staff_of i group ≡ None → ⊥
some_or_none i group a e f = let clash : Some a ≡ None = sym e ∙ f in cc

-- what is said where there is no number to vary is one thing
no_team_alike : (group : Option (List ℕ)) (s t : ℕ) (a b : List ℕ) → SaysNoTeam group s a → SaysNoTeam group t b → EndsAlike s t a b [] []
no_team_alike None s t a b h k = record {
  refused = λ none. (refl, h.four ∙ sym k.four, h.line ∙ sym k.line);
  found = λ p q. h.four ∙ sym k.four;
  costs = λ p q. absurd (not_zero s 3 h.four p);
}
no_team_alike (Some name) s t a b h k = record {
  refused = λ none. (refl, h.two ∙ sym k.two, h.line ∙ sym k.line);
  found = λ p q. h.two ∙ sym k.two;
  costs = λ p q. absurd (not_zero s 1 h.two p);
}

module _ (i : Instance) (sound : IsSoundInstance i) (group : Option (List ℕ)) (proof : List ℕ) (m n : MasterView) (limit : Limit) where
  -- two curves over one team
  team_alike : (staff : Staff) (s t : ℕ) (a b : List ℕ) (x y : List Entry) (h : SaysCurve i group proof m limit s a x) (k : SaysCurve i group proof n limit t b y) → h.staff ≡ staff → k.staff ≡ staff → IsStaff i staff
      → EndsAlike s t a b x y
  team_alike staff s t a b x y h k one two of =
      let all : length h.points ≡ point_count staff i = subst (λ (z : Staff). length h.points ≡ point_count z i) one h.all in
      let others : length k.points ≡ point_count staff i = subst (λ (z : Staff). length k.points ≡ point_count z i) two k.all in
      let are : ArePoints i staff m.strict limit (first_heads staff i) m.before [] h.points = subst (λ (z : Staff). ArePoints i z m.strict limit (first_heads z i) m.before [] h.points) one h.are in
      let is : ArePoints i staff n.strict limit (first_heads staff i) n.before [] k.points = subst (λ (z : Staff). ArePoints i z n.strict limit (first_heads z i) n.before [] k.points) two k.are in
      let said : List Point → List CurvePoint = λ ps. said_points (first_heads staff i) ps in
      let ends : s ≡ curve_status (said h.points) = subst (λ (z : Staff). s ≡ curve_status (said_points (first_heads z i) h.points)) one h.status_is in
      let ended : t ≡ curve_status (said k.points) = subst (λ (z : Staff). t ≡ curve_status (said_points (first_heads z i) k.points)) two k.status_is in
      let stored : x ≡ point_entries proof (first_heads staff i) h.points = subst (λ (z : Staff). x ≡ point_entries proof (first_heads z i) h.points) one h.stored_is in
      let closed : List Point → Bool = λ ps. list_all is_closed (said ps) in
      let bare : List Point → Bool = λ ps. list_all has_no_cost (said ps) in
      let first : s ≢ 8 → closed h.points ≡ true = λ p. all_closed (closed h.points) (bare h.points) (subst (λ (z : ℕ). z ≢ 8) ends p) in
      let second : t ≢ 8 → closed k.points ≡ true = λ p. all_closed (closed k.points) (bare k.points) (subst (λ (z : ℕ). z ≢ 8) ended p) in
      let there = none_alike i staff limit m.strict n.strict (first_heads staff i) m.before n.before [] [] h.points k.points (all ∙ sym others) are is in
      let back = none_alike i staff limit n.strict m.strict (first_heads staff i) n.before m.before [] [] k.points h.points (others ∙ sym all) is are in
      record {
        refused = λ e. absurd (no_entries proof (first_heads staff i) h.points (subst (λ (z : ℕ). 0 < z) (sym all) (some-points i staff sound of)) (sym stored ∙ e));
        found = λ p q.
            let both_bare = one_bool (bare h.points) (bare k.points) (there (first p)) (back (second q)) in
            ends ∙ one_status (closed h.points) (closed k.points) (bare h.points) (bare k.points) (first p) (second q) both_bare ∙ sym ended;
        costs = λ p q. record {
          group = group;
          points = said h.points;
          others = said k.points;
          one = subst (λ (z : Staff). a ≡ curve_text group (said_points (first_heads z i) h.points)) one h.text;
          other = subst (λ (z : Staff). b ≡ curve_text group (said_points (first_heads z i) k.points)) two k.text;
          same = costs_same i staff limit m.strict n.strict (first_heads staff i) m.before n.before [] [] h.points k.points (all ∙ sym others) are is
              (zero_closed (closed h.points) (bare h.points) (sym ends ∙ p)) (zero_closed (closed k.points) (bare k.points) (sym ended ∙ q));
        };
      }

  said_alike : (s t : ℕ) (a b : List ℕ) (x y : List Entry) → SaysCurve i group proof m limit s a x → SaysCurve i group proof n limit t b y → EndsAlike s t a b x y
  said_alike s t a b x y h k = team_alike h.staff s t a b x y h k refl (one_staff i group k.staff h.staff k.team h.team) (named-staff i group h.staff h.team)

  days_alike : (e f : End) (x y : List Entry) → Curving i group proof m limit e x → Curving i group proof n limit f y → AlikeAt e f x y
  days_alike e f x y (curves.broken name z h) k = tt
  days_alike e f x y (curves.found s a z h) (curves.broken name w k) = tt
  days_alike e f x y (curves.found s a z h) (curves.found t b w k) = said_alike s t a b z w h k
  days_alike e f x y (curves.found s a z h) (curves.too_many b staff team k) = absurd (many_or_few i.grammar b h.arcs k h.few)
  days_alike e f x y (curves.found s a z h) (curves.no_team t b none k) = absurd (some_or_none i group h.staff h.team none)
  days_alike e f x y (curves.too_many a staff team h) (curves.broken name w k) = tt
  days_alike e f x y (curves.too_many a staff team h) (curves.found t b w k) = absurd (many_or_few i.grammar a k.arcs h k.few)
  days_alike e f x y (curves.too_many a staff team h) (curves.too_many b other same k) = refused_alike 9 8 a b refl (arcs_alike i.grammar a b h k)
  days_alike e f x y (curves.too_many a staff team h) (curves.no_team t b none k) = absurd (some_or_none i group staff team none)
  days_alike e f x y (curves.no_team s a none h) (curves.broken name w k) = tt
  days_alike e f x y (curves.no_team s a none h) (curves.found t b w k) = absurd (some_or_none i group k.staff k.team none)
  days_alike e f x y (curves.no_team s a none h) (curves.too_many b staff team k) = absurd (some_or_none i group staff team none)
  days_alike e f x y (curves.no_team s a none h) (curves.no_team t b more k) = no_team_alike group s t a b h k

module _ (group : Option (List ℕ)) (proof : List ℕ) (m n : MasterView) (limit : Limit) where
  demands_alike : (g : Grammar) (text : List ℕ) (e f : End) (x y : List Entry) → CurvesDemand g text group proof m limit e x → CurvesDemand g text group proof n limit f y → AlikeAt e f x y
  demands_alike g text e f x y (curves.CurvesDemand.accepted i d z is h) (curves.CurvesDemand.accepted j c w js k) =
      days_alike j js.sound group proof m n limit e f x y (subst (λ (o : Instance). Curving o group proof m limit e x) (same_ok (instance_of g text) i j is.reading js.reading) h) k
  demands_alike g text e f x y (curves.CurvesDemand.accepted i d z is h) (curves.CurvesDemand.refused b k) = absurd (not_both (instance_of g text) i k.fault is.reading k.reading)
  demands_alike g text e f x y (curves.CurvesDemand.refused a h) (curves.CurvesDemand.accepted j c w js k) = absurd (not_both (instance_of g text) j h.fault js.reading h.reading)
  demands_alike g text e f x y (curves.CurvesDemand.refused a h) (curves.CurvesDemand.refused b k) =
      refused_alike 4 3 a b refl (h.line ∙ ap (λ (z : DemandFault). demand.fault_line z) (same_err (instance_of g text) h.fault k.fault h.reading k.reading) ∙ sym k.line)

  rules_alike : (held : Texts) (text demand : List ℕ) (e f : End) (x y : List Entry) → CurvesRules (Some held) text demand group proof m limit e x → CurvesRules (Some held) text demand group proof n limit f y → AlikeAt e f x y
  rules_alike held text demand e f x y (curves.CurvesRules.accepted g d z is h) (curves.CurvesRules.accepted o c w js k) =
      demands_alike o k.text e f x y
      (subst (λ (u : List ℕ). CurvesDemand o u group proof m limit e x) (same_text held demand h.text k.text h.holds k.holds)
      (subst (λ (d : Grammar). CurvesDemand d h.text group proof m limit e x) (same_grammar text g o is.reading js.reading) h.answers)) k.answers
  rules_alike held text demand e f x y (curves.CurvesRules.accepted g d z is h) (curves.CurvesRules.refused b k) = absurd (no_fault text g k.fault is.reading k.reading)
  rules_alike held text demand e f x y (curves.CurvesRules.refused a h) (curves.CurvesRules.accepted o c w js k) = absurd (no_fault text o h.fault js.reading h.reading)
  rules_alike held text demand e f x y (curves.CurvesRules.refused a h) (curves.CurvesRules.refused b k) = refused_alike 3 2 a b refl (faults_once text a b h k)

pub curve-ends : (held : Texts) (rules demand : List ℕ) (group : Option (List ℕ)) (proof : List ℕ) (limit : Limit) (m n : MasterView) (s t : ℕ) (a b : List ℕ) (x y : List Entry)
    → AnswersCurve (Some held) rules demand group proof m limit (answered s a) x → AnswersCurve (Some held) rules demand group proof n limit (answered t b) y → EndsAlike s t a b x y
curve-ends held rules demand group proof limit m n s t a b x y h k =
    rules_alike group proof m n limit held k.text demand (answered s a) (answered t b) x y
    (subst (λ (u : List ℕ). CurvesRules (Some held) u demand group proof m limit (answered s a) x) (same_text held rules h.text k.text h.holds k.holds) h.answers) k.answers
