-- The answers of `curve`, from what its parts answer.
use Rattle.std.proofs.Common.{◌≡◌, ◌≢◌, ℕ, ◌+◌, ◌<◌, ◌≤◌, arith, Bool, List, [], ◌∷◌, length, Option, None, Some, Result, Ok, Err, IfOk, refl, sym, ap, subst, ◌∙◌, ◌⊎◌, inl, inr}
use Rattle.command_searches.specs.declared.limit.Limit.{Limit}
use Rattle.command_searches.specs.declared.limit.Limit.TheVariants.{Turns, Seconds}
use Rattle.command_searches.specs.Limits.{IsLimit, ForLimit, IsUsedUp}
use Rattle.model_rosters.specs.declared.grammar.Grammar.{Grammar}
use Rattle.model_rosters.specs.declared.instance.Done.{Done}
use Rattle.model_rosters.specs.declared.instance.Done.TheVariants.{Equal, NoRoster, TurnsOut}
use Rattle.model_rosters.specs.declared.instance.Instance.{Instance}
use Rattle.model_rosters.specs.declared.instance.Shift.{Shift}
use Rattle.model_rosters.specs.declared.memory.Memory.{Memory}
use Rattle.model_rosters.specs.Folds.{Each}
use Rattle.model_rosters.specs.Sound.{IsSound}
use Rattle.model_rosters.specs.SoundInstance.{IsSoundInstance}
use Rattle.search_branch_price.specs.declared.found.Found.{Found}
use Rattle.check_certificates.specs.Nodes.{Proof}
use Rattle.search_branch_price.specs.Found.{IsFound, IsWhole, IsStoppedRoot, IsDone}
use Rattle.search_days.specs.Solutions.{HasArcCount}
use Rattle.text_demand_lines.specs.declared.fault.DemandFault.{DemandFault}
use Rattle.text_demand_lines.specs.declared.fault.DemandFault.TheVariants as demand_faults
use Rattle.text_demand_lines.specs.FaultLine as demand
use Rattle.text_demand.specs.InstanceOf.{instance_of}
use Rattle.tree_graph.specs.declared.fault.GraphFault.{GraphFault}
use Rattle.tree_graph.specs.Graphs.{IsRefused}
use Rattle.check_certificates.specs.certificate_laws.Right.{YesIsRight}
use Rattle.search_days.specs.declared.day_curve.staff.Staff.{Staff}
use Rattle.search_days.specs.day_curve.Curves.{first_heads, point_count, IsNoDearer}
use Rattle.search_days.specs.day_curve.Named.{staff_of}
use Rattle.search_days.specs.day_curve.Staffs.{IsStaff, staff_most, with_heads}
use Rattle.search_days.proofs.day_curve.MoreHeads.{offered-falls}
use Rattle.search_days.proofs.day_curve.StaffDays.{most-within, staff-order}
use Rattle.search_days.proofs.day_curve.StaffNames.{named-staff}
use Rattle.search_days.specs.declared.day_curve.points.CurvePoint.{CurvePoint}
use Rattle.search_days.specs.day_curve.CurveText.{curve_text}
use Rattle.text_rules.specs.FaultLine.{fault_line}
use Rattle.text_rules.specs.RulesOf.{IsReading}
use Rattle.text_rules.specs.declared.fault.RulesFault.{RulesFault}
use Rattle.text_rules.specs.declared.fault.RulesFault.TheVariants as rules_faults
use Rattle.command_shelf.specs.Shelf.{Texts, Told}
use Rattle.command_answers.specs.declared.answer.Answer.{Answer}
use Rattle.command_searches.specs.Curve.{Point, ArePoints, said_points, point_entries, point_name, curve_status, AreFalling, Curving, CurvesDemand, AnswersCurveDemand, CurvesRules, AnswersCurve, SaysNoTeam, MayStorePoints, MayStoreTeam, MayStoreDemand, MayStoreHeldDemand, MayStoreRules, MayStoreCurve}
use Rattle.command_searches.specs.Curve as curves
use Rattle.command_answers.specs.Fetch.{IsAnswer, IsFetchTo, NoAnswer}
use Rattle.command_answers.specs.Readings.{IsGrammarOf, IsInstanceOf}
use Rattle.command_answers.specs.RulesFronts.{grammar-whole}
use Rattle.command_answers.specs.DemandFronts.{instance-whole}
use Rattle.command_searches.proofs.CurveFronts.{demand-whole, rules-whole}
use Rattle.command_searches.specs.Points.{FindsFirst, BreaksCurve}
use Rattle.command_answers.specs.Reader.{Holds, IsReader}
use Rattle.command_searches.specs.Series.{Entry, End, answered, broken_off, IsSeriesWriter, StoresNoEntry}
use Rattle.command_searches.specs.Solve.{MasterView, SaysTooManyArcs}
use Rattle.command_searches.specs.Writer.{IsAsked, IsTurnedDown}
use Rattle.command_searches.proofs.Solves.{IsArcsAnswer}
use Rattle.command_answers.proofs.Readers.{one_held}
use Rattle.command_answers.proofs.AskedLemmas.{no_names}
use Rattle.command_searches.proofs.SeriesLemmas.{widen, as_series, refused_fetch, after_fetch, after_asked, turned_down, broken_series, said_series}
use Rattle.command_searches.proofs.PointNames.{may_next, team-asked, team-left}

-- a search that did not end with its turns closed its point
open_ran_out : (i : Instance) (strict : Bool) (turns : ℕ) (f : Found) (proof : Proof) (d : Done) → f.done ≡ d → IsDone f.cert d → IsWhole i strict turns f proof → f.cert.bound ≢ f.cert.cost → f.processed ≡ turns
open_ran_out i strict turns f proof Equal e done is ne = absurd (ne done.1)
open_ran_out i strict turns f proof NoRoster e done is ne = absurd (ne (done.1 ∙ sym done.0))
open_ran_out i strict turns f proof TurnsOut e done is ne = let ran = is.ran_out e in ran.all

-- and one of a turn or more was not stopped in its first one
used_all : (i : Instance) (strict : Bool) (turns : ℕ) (f : Found) → 1 ≤ turns → IsFound i strict turns f → f.cert.bound ≢ f.cert.cost → f.processed ≡ turns
used_all i strict turns f some is ne = by is.whole
  where
    by : IsWhole i strict turns f is.proof ⊎ IsStoppedRoot turns f → f.processed ≡ turns
    by (inl whole) = open_ran_out i strict turns f is.proof f.done refl is.done whole ne
    by (inr root) = let none = root.none in absurd (omega (arith, some, none))

used_up : (i : Instance) (strict : Bool) (limit : Limit) (f : Found) → IsLimit limit → ForLimit limit (λ k. IsFound i strict k f) → f.cert.bound ≢ f.cert.cost → IsUsedUp limit f.processed
used_up i strict (Turns n) f is searched ne = used_all i strict n f is.0 searched ne
used_up i strict (Seconds s) f is searched ne = tt

ran_out_each : (i : Instance) (staff : Staff) (strict : Bool) (limit : Limit) (h r : ℕ) (kept : List Shift) (ps : List Point) → IsLimit limit → ArePoints i staff strict limit h r kept ps
    → Each (λ (p : CurvePoint). p.bound ≢ p.cost → IsUsedUp limit p.processed) (said_points h ps)
ran_out_each i staff strict limit h r kept [] is are = tt
ran_out_each i staff strict limit h r kept (p ∷ ps) is are =
    (used_up (with_heads staff i h) strict limit p.found is are.0.searched, ran_out_each i staff strict limit (h + 1) p.refused p.found.cert.shifts ps is are.2)

-- a cost that is at most one which is at most another is at most that
no_dearer : (a b c : Option ℕ) → IsNoDearer a b → IsNoDearer b c → IsNoDearer a c
no_dearer a b None h k = tt
no_dearer a None (Some c) h k = absurd k
no_dearer None (Some b) (Some c) h k = absurd h
no_dearer (Some a) (Some b) (Some c) h k = omega (arith, h, k)

module _ (i : Instance) (staff : Staff) (of : IsStaff i staff) (strict : Bool) (limit : Limit) where
  -- each point costs no more than a cost that the one before it does not exceed
  falls_each : (cost : Option ℕ) (h r : ℕ) (before : Point) (ps : List Point) → YesIsRight (with_heads staff i h) before.found.cert → IsNoDearer before.found.cert.cost cost
      → ArePoints i staff strict limit (h + 1) r before.found.cert.shifts ps → Each (λ (q : CurvePoint). IsNoDearer q.cost cost) (said_points (h + 1) ps)
  falls_each cost h r before [] right least are = tt
  falls_each cost h r before (p ∷ ps) right least are =
      let next = offered-falls i staff h (h + 1) of (omega arith) before.found.cert p.found.cert.cost right are.1 in
      let here = no_dearer p.found.cert.cost before.found.cert.cost cost next least in
      (here, falls_each cost (h + 1) p.refused p ps are.0.right here are.2)

  same_cost : (a : Option ℕ) → IsNoDearer a a
  same_cost None = tt
  same_cost (Some n) = omega arith

  falling : (h r : ℕ) (kept : List Shift) (ps : List Point) → ArePoints i staff strict limit h r kept ps → AreFalling (said_points h ps)
  falling h r kept [] are = tt
  falling h r kept (p ∷ ps) are =
      (falls_each p.found.cert.cost h p.refused p ps are.0.right (same_cost p.found.cert.cost) are.2, falling (h + 1) p.refused p.found.cert.shifts ps are.2)

-- a sound day has a point
pub some-points : (i : Instance) (staff : Staff) → IsSoundInstance i → IsStaff i staff → 0 < point_count staff i
some-points i staff s of = let order = staff-order staff i of s in omega (arith, order.0, order.1)

-- and no team of it may have more than 64 employees
pub few-heads : (i : Instance) (staff : Staff) → IsSoundInstance i → IsStaff i staff → staff_most staff i ≤ 64
few-heads i staff s of = let most = most-within staff i of s in let few = s.few in omega (arith, most, few)

module _ (i : Instance) (group : Option (List ℕ)) (proof : List ℕ) (m : MasterView) (limit : Limit) where
  refused_graph : (staff : Staff) → staff_of i group ≡ Some staff → (fault : GraphFault) → IsRefused i.grammar fault → (r : Result Answer Memory) → IfOk r (IsArcsAnswer fault)
      → (e : End) (stored : List Entry) → StoresNoEntry (IsAnswer r) e stored → Curving i group proof m limit e stored
  refused_graph staff team fault refused r h (broken_off name) stored a = absurd a
  refused_graph staff team fault refused (Err x) h (answered status output) stored a = absurd a.0
  refused_graph staff team fault refused (Ok x) h (answered status output) stored a =
      let s : status ≡ 9 = a.0.0 ∙ h.0 in
      rw (s, a.1) (curves.too_many output staff team (subst (λ (o : List ℕ). SaysTooManyArcs i.grammar o) (sym a.0.1) (h.1 i.grammar refused)))

  without_team : staff_of i group ≡ None → (e : End) (stored : List Entry) → StoresNoEntry (SaysNoTeam group) e stored → Curving i group proof m limit e stored
  without_team none (broken_off name) stored a = absurd a
  without_team none (answered status output) stored a = rw (a.1) (curves.no_team status output none a.0)

  module _ (before after : Told) (status : ℕ) where
    pub graph-refused : (staff : Staff) → staff_of i group ≡ Some staff → (fault : GraphFault) → IsRefused i.grammar fault → (r : Result Answer Memory) → IfOk r (IsArcsAnswer fault)
        → IsReader (IsAnswer r) [] before after status → IsSeriesWriter (Curving i group proof m limit) [] (MayStorePoints proof group i) before after status
    graph-refused staff team fault refused r h reader =
        widen (StoresNoEntry (IsAnswer r)) (Curving i group proof m limit) (refused_graph staff team fault refused r h) [] [] (MayStorePoints proof group i) (MayStorePoints proof group i)
        before after status (λ k. k) (λ k. k) (as_series (IsAnswer r) [] (MayStorePoints proof group i) before after status reader)

    pub no-team-said : staff_of i group ≡ None → IsReader (SaysNoTeam group) [] before after status → IsSeriesWriter (Curving i group proof m limit) [] (MayStorePoints proof group i) before after status
    no-team-said none reader =
        widen (StoresNoEntry (SaysNoTeam group)) (Curving i group proof m limit) (without_team none) [] [] (MayStorePoints proof group i) (MayStorePoints proof group i)
        before after status (λ k. k) (λ k. k) (as_series (SaysNoTeam group) [] (MayStorePoints proof group i) before after status reader)

  module _ (before after : Told) (status : ℕ) (staff : Staff) (team : staff_of i group ≡ Some staff) where
    pub curve-broken : staff_most staff i ≤ 64 → BreaksCurve i staff proof m limit before after status → IsSeriesWriter (Curving i group proof m limit) [] (MayStorePoints proof group i) before after status
    curve-broken few b =
        let entries = point_entries proof (first_heads staff i) b.points in
        let due = point_name proof (first_heads staff i + length b.points) in
        broken_series (Curving i group proof m limit) entries (MayStorePoints proof group i) due before after status
        (curves.broken due entries (record { staff = staff; team = team; points = b.points; fewer = b.fewer; are = b.are; stored_is = refl; next = refl }))
        (λ may. may_next proof staff i b.points before.held b.fewer few (may staff team)) b.broken

    -- a curve whose points were asked for, and may be stored or not
    pub curve-asked : (middle : Told) → IsAsked (MayStoreTeam proof staff i) before middle → IsSeriesWriter (Curving i group proof m limit) [] (MayStorePoints proof group i) middle after status
        → IsSeriesWriter (Curving i group proof m limit) [] (MayStorePoints proof group i) before after status
    curve-asked middle a w = after_asked (Curving i group proof m limit) (MayStorePoints proof group i) before middle after status (team-asked proof group staff i team before middle a) w

    pub curve-left : IsTurnedDown (MayStoreTeam proof staff i) before after status → IsSeriesWriter (Curving i group proof m limit) [] (MayStorePoints proof group i) before after status
    curve-left a = turned_down (Curving i group proof m limit) (MayStorePoints proof group i) before after status (team-left proof group staff i team before after status a)

    module _ (middle : Told) (kept : List Shift) (said : List CurvePoint) (is : IsLimit limit) (arcs : (n : ℕ) × HasArcCount i.grammar n) (f : FindsFirst i staff proof m limit (point_count staff i) kept before middle said) where
      -- what is said of all points
      all_said : (s : ℕ) (o : List ℕ) → s ≡ curve_status said → o ≡ curve_text group said → Curving i group proof m limit (answered s o) (point_entries proof (first_heads staff i) f.points)
      all_said s o status_is text =
          curves.found s o (point_entries proof (first_heads staff i) f.points) (record {
            staff = staff;
            team = team;
            arcs = arcs.0;
            few = arcs.1;
            points = f.points;
            all = f.all;
            are = f.are;
            counted = f.counted;
            stored_is = refl;
            falls = falling i staff (named-staff i group staff team) m.strict limit (first_heads staff i) m.before [] f.points f.are;
            ran_out = ran_out_each i staff m.strict limit (first_heads staff i) m.before [] f.points is f.are;
            status_is = status_is ∙ ap (λ (ps : List CurvePoint). curve_status ps) f.is;
            text = text ∙ ap (λ (ps : List CurvePoint). curve_text group ps) f.is;
          })

      said_of : (r : Result Answer Memory) → IfOk r (λ a. (a.status ≡ curve_status said) × (a.output ≡ curve_text group said))
          → (s : ℕ) (o : List ℕ) → IsAnswer r s o → Curving i group proof m limit (answered s o) (point_entries proof (first_heads staff i) f.points)
      said_of (Err e) h s o a = absurd a
      said_of (Ok x) h s o a = all_said s o (a.0 ∙ h.0) (a.1 ∙ h.1)

      pub curve-said : (r : Result Answer Memory) → IfOk r (λ a. (a.status ≡ curve_status said) × (a.output ≡ curve_text group said))
          → IsReader (IsAnswer r) [] middle after status → IsSeriesWriter (Curving i group proof m limit) [] (MayStorePoints proof group i) before after status
      curve-said r h reader =
          said_series (Curving i group proof m limit) (point_entries proof (first_heads staff i) f.points) (IsAnswer r) (curve_status said) (curve_text group said) (MayStorePoints proof group i) before middle after status
          (said_of r h) (all_said (curve_status said) (curve_text group said) refl refl) f.stored reader

module _ (group : Option (List ℕ)) (proof : List ℕ) (m : MasterView) (limit : Limit) where
  refused_demand : (g : Grammar) (text : List ℕ) (fault : DemandFault) (r : Result Answer Memory)
      → IfOk r (λ a. (fault ≢ demand_faults.Memory) × (a.status ≡ 4) × (a.output ≡ demand.fault_line fault)) → (fault ≢ demand_faults.Memory → instance_of g text ≡ Err fault)
      → (e : End) (stored : List Entry) → StoresNoEntry (IsAnswer r) e stored → CurvesDemand g text group proof m limit e stored
  refused_demand g text fault r h reading (broken_off name) stored a = absurd a
  refused_demand g text fault (Err x) h reading (answered status output) stored a = absurd a.0
  refused_demand g text fault (Ok x) h reading (answered status output) stored a =
      let s : status ≡ 4 = a.0.0 ∙ h.1 in
      rw (s, a.1) (curves.CurvesDemand.refused output (record { fault = fault; reading = reading h.0; line = a.0.1 ∙ h.2 }))

  refused_rules : (held : Option Texts) (text demand_name : List ℕ) (fault : RulesFault) (r : Result Answer Memory)
      → IfOk r (λ a. (fault ≢ rules_faults.Memory) × (a.status ≡ 3) × (a.output ≡ fault_line fault)) → (fault ≢ rules_faults.Memory → IsReading text (Err fault))
      → (e : End) (stored : List Entry) → StoresNoEntry (IsAnswer r) e stored → CurvesRules held text demand_name group proof m limit e stored
  refused_rules held text demand_name fault r h reading (broken_off name) stored a = absurd a
  refused_rules held text demand_name fault (Err x) h reading (answered status output) stored a = absurd a.0
  refused_rules held text demand_name fault (Ok x) h reading (answered status output) stored a =
      let s : status ≡ 3 = a.0.0 ∙ h.1 in
      rw (s, a.1) (curves.CurvesRules.refused output (record { fault = fault; reading = reading h.0; line = a.0.1 ∙ h.2 }))

  module _ (before after : Told) (status : ℕ) where
    pub demand-refused : (g : Grammar) (text : List ℕ) (fault : DemandFault) (r : Result Answer Memory)
        → IfOk r (λ a. (fault ≢ demand_faults.Memory) × (a.status ≡ 4) × (a.output ≡ demand.fault_line fault)) → (fault ≢ demand_faults.Memory → instance_of g text ≡ Err fault)
        → IsReader (IsAnswer r) [] before after status → IsSeriesWriter (CurvesDemand g text group proof m limit) [] (MayStoreDemand proof group g text) before after status
    demand-refused g text fault r h reading reader =
        widen (StoresNoEntry (IsAnswer r)) (CurvesDemand g text group proof m limit) (refused_demand g text fault r h reading) [] [] (MayStoreDemand proof group g text) (MayStoreDemand proof group g text) before after status (λ k. k) (λ k. k)
        (as_series (IsAnswer r) [] (MayStoreDemand proof group g text) before after status reader)

    pub demand-accepted : (g : Grammar) (text : List ℕ) (i : Instance) → instance_of g text ≡ Ok i → IsSoundInstance i
        → IsSeriesWriter (Curving i group proof m limit) [] (MayStorePoints proof group i) before after status → IsSeriesWriter (CurvesDemand g text group proof m limit) [] (MayStoreDemand proof group g text) before after status
    demand-accepted g text i reading sound w =
        widen (Curving i group proof m limit) (CurvesDemand g text group proof m limit) (λ e x a. curves.CurvesDemand.accepted i e x (record { reading = reading; sound = sound }) a) [] []
        (MayStoreDemand proof group g text) (MayStorePoints proof group i) before after status (λ k. k) (λ k. k i (record { reading = reading; sound = sound })) w

    pub rules-refused : (text demand_name : List ℕ) (fault : RulesFault) (r : Result Answer Memory)
        → IfOk r (λ a. (fault ≢ rules_faults.Memory) × (a.status ≡ 3) × (a.output ≡ fault_line fault)) → (fault ≢ rules_faults.Memory → IsReading text (Err fault))
        → IsReader (IsAnswer r) [] before after status → IsSeriesWriter (CurvesRules before.held text demand_name group proof m limit) (demand_name ∷ []) (MayStoreRules proof group text demand_name) before after status
    rules-refused text demand_name fault r h reading reader =
        widen (StoresNoEntry (IsAnswer r)) (CurvesRules before.held text demand_name group proof m limit) (refused_rules before.held text demand_name fault r h reading) (demand_name ∷ []) []
        (MayStoreRules proof group text demand_name) (MayStoreRules proof group text demand_name) before after status (no_names before.held (demand_name ∷ [])) (λ k. k)
        (as_series (IsAnswer r) [] (MayStoreRules proof group text demand_name) before after status reader)

    pub rules-accepted : (text demand_name : List ℕ) (g : Grammar) → IsReading text (Ok g) → IsSound g
        → IsSeriesWriter (AnswersCurveDemand before.held g demand_name group proof m limit) (demand_name ∷ []) (MayStoreHeldDemand proof group g demand_name) before after status
        → IsSeriesWriter (CurvesRules before.held text demand_name group proof m limit) (demand_name ∷ []) (MayStoreRules proof group text demand_name) before after status
    rules-accepted text demand_name g reading sound w =
        widen (AnswersCurveDemand before.held g demand_name group proof m limit) (CurvesRules before.held text demand_name group proof m limit)
        (λ e x a. curves.CurvesRules.accepted g e x (record { reading = reading; sound = sound }) a) (demand_name ∷ []) (demand_name ∷ [])
        (MayStoreRules proof group text demand_name) (MayStoreHeldDemand proof group g demand_name) before after status (λ k. k) (λ k. k g (record { reading = reading; sound = sound })) w

    -- a demand text that was fetched, and one that was not
    pub demand-read : (g : Grammar) (name front : List ℕ) (middle : Told) → IsFetchTo 1048576 name before middle front
        → IsSeriesWriter (CurvesDemand g front group proof m limit) [] (MayStoreDemand proof group g front) middle after status
        → IsSeriesWriter (AnswersCurveDemand before.held g name group proof m limit) (name ∷ []) (MayStoreHeldDemand proof group g name) before after status
    demand-read g name front middle f w =
        after_fetch (AnswersCurveDemand before.held g name group proof m limit) name [] (MayStoreHeldDemand proof group g name) before middle after status f.text f.fetch
        (widen (CurvesDemand g front group proof m limit) (AnswersCurveDemand before.held g name group proof m limit) each [] []
        (MayStoreHeldDemand proof group g name) (MayStoreDemand proof group g front) middle after status (λ k. k) room w)
      where
        each : (e : End) (x : List Entry) → CurvesDemand g front group proof m limit e x → AnswersCurveDemand before.held g name group proof m limit e x
        each e x a = record {
          text = f.text;
          holds = f.fetch.holds;
          answers = demand-whole g f.text group proof m limit e x (subst (λ (t : List ℕ). CurvesDemand g t group proof m limit e x) f.front_is a);
        }

        room : MayStoreHeldDemand proof group g name middle.held → MayStoreDemand proof group g front middle.held
        room k = λ i is. k f.text (subst (λ (h : Option Texts). Holds h name f.text) (sym f.fetch.held) f.fetch.holds) i (instance-whole g f.text i (subst (λ (t : List ℕ). IsInstanceOf g t i) f.front_is is))

    pub demand-unread : (g : Grammar) (name : List ℕ) → IsReader NoAnswer (name ∷ []) before after status
        → IsSeriesWriter (AnswersCurveDemand before.held g name group proof m limit) (name ∷ []) (MayStoreHeldDemand proof group g name) before after status
    demand-unread g name reader = refused_fetch (AnswersCurveDemand before.held g name group proof m limit) name (name ∷ []) (MayStoreHeldDemand proof group g name) before after status (λ k. k) reader

    -- a rules text that was fetched, and one that was not
    pub rules-read : (name demand_name front : List ℕ) (middle : Told) → IsFetchTo 1048576 name before middle front
        → IsSeriesWriter (CurvesRules middle.held front demand_name group proof m limit) (demand_name ∷ []) (MayStoreRules proof group front demand_name) middle after status
        → IsSeriesWriter (AnswersCurve before.held name demand_name group proof m limit) (name ∷ demand_name ∷ []) (MayStoreCurve proof group name demand_name) before after status
    rules-read name demand_name front middle f w =
        after_fetch (AnswersCurve before.held name demand_name group proof m limit) name (demand_name ∷ []) (MayStoreCurve proof group name demand_name) before middle after status f.text f.fetch
        (widen (CurvesRules middle.held front demand_name group proof m limit) (AnswersCurve before.held name demand_name group proof m limit) each (demand_name ∷ []) (demand_name ∷ [])
        (MayStoreCurve proof group name demand_name) (MayStoreRules proof group front demand_name) middle after status (λ k. k) room w)
      where
        each : (e : End) (x : List Entry) → CurvesRules middle.held front demand_name group proof m limit e x → AnswersCurve before.held name demand_name group proof m limit e x
        each e x a = record {
          text = f.text;
          holds = f.fetch.holds;
          answers = rules-whole before.held f.text demand_name group proof m limit e x
              (subst (λ (t : List ℕ). CurvesRules before.held t demand_name group proof m limit e x) f.front_is (subst (λ (h : Option Texts). CurvesRules h front demand_name group proof m limit e x) f.fetch.held a));
        }

        room : MayStoreCurve proof group name demand_name middle.held → MayStoreRules proof group front demand_name middle.held
        room k = λ g is. k f.text (subst (λ (h : Option Texts). Holds h name f.text) (sym f.fetch.held) f.fetch.holds) g (grammar-whole f.text g (subst (λ (t : List ℕ). IsGrammarOf t g) f.front_is is))

    pub rules-unread : (name demand_name : List ℕ) → IsReader NoAnswer (name ∷ []) before after status
        → IsSeriesWriter (AnswersCurve before.held name demand_name group proof m limit) (name ∷ demand_name ∷ []) (MayStoreCurve proof group name demand_name) before after status
    rules-unread name demand_name reader =
        refused_fetch (AnswersCurve before.held name demand_name group proof m limit) name (name ∷ demand_name ∷ []) (MayStoreCurve proof group name demand_name) before after status
        (one_held before.held name (demand_name ∷ [])) reader
