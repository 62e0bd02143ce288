-- The points of a curve, one after another.
use Rattle.std.proofs.Common.{◌≡◌, ℕ, ◌+◌, ◌<◌, arith, Bool, List, [], ◌∷◌, ◌++◌, length, Result, Ok, Err, IfOk, refl, sym, ap, subst, ◌∙◌}
use Rattle.std.specs.Prelude.{MatchResult}
use Rattle.command_searches.specs.declared.limit.Limit.{Limit}
use Rattle.command_searches.specs.Limits.{ForLimit}
use Rattle.model_rosters.specs.declared.instance.Instance.{Instance}
use Rattle.model_rosters.specs.declared.instance.Shift.{Shift}
use Rattle.search_primal.specs.OldRosters.{IsNoDearerThan}
use Rattle.search_branch_price.specs.declared.found.Found.{Found}
use Rattle.search_branch_price.specs.Found.{AreCounted}
use Rattle.search_days.specs.declared.solution.Solution.{Solution}
use Rattle.search_days.specs.Solutions.{IsSolution}
use Rattle.search_days.specs.declared.day_curve.staff.Staff.{Staff}
use Rattle.search_days.specs.day_curve.Curves.{first_heads, point_count, point_heads, point_day, CurveView}
use Rattle.search_days.specs.day_curve.Staffs.{with_heads}
use Rattle.search_days.specs.declared.day_curve.points.CurvePoint.{CurvePoint}
use Rattle.search_days.specs.day_curve.CurveText.{point_of}
use Rattle.command_shelf.specs.Shelf.{Told}
use Rattle.command_searches.specs.Curve.{Point, ArePoints, refused_after, kept_after, point_entries, said_points, point_name}
use Rattle.command_searches.specs.Points.{FindsPoint, FindsFirst, BreaksCurve, next_heads}
use Rattle.command_searches.specs.Series.{Entry, IsStoredBy, IsBrokenOff}
use Rattle.command_searches.specs.Solve.{MasterView, lent, done_status, Finds}
use Rattle.command_searches.proofs.Solves.{finds}
use Rattle.command_searches.proofs.SeriesLemmas.{none_yet, stored_more, broken_later, out_of_memory}

length_more : (ps : List Point) (p : Point) → length (ps ++ p ∷ []) ≡ length ps + 1
length_more [] p = refl
length_more (q ∷ qs) p = let e = length_more qs p in omega (arith, e)

refused_more : (r : ℕ) (ps : List Point) (p : Point) → refused_after r (ps ++ p ∷ []) ≡ p.refused
refused_more r [] p = refl
refused_more r (q ∷ qs) p = refused_more q.refused qs p

abbrev entry_at : List ℕ → ℕ → List ℕ → Entry
entry_at proof heads text = record { name = point_name proof heads; text = text }

entries_more : (proof : List ℕ) (h n : ℕ) (ps : List Point) (p : Point) → length ps ≡ n
    → point_entries proof h (ps ++ p ∷ []) ≡ point_entries proof h ps ++ record { name = point_name proof (h + n); text = p.stored } ∷ []
entries_more proof h n [] p e = let here : h ≡ h + n = omega (arith, e) in ap (λ (k : ℕ). entry_at proof k p.stored ∷ []) here
entries_more proof h n (q ∷ qs) p e =
    let same : h + 1 + length qs ≡ h + n = omega (arith, e) in
    let rest = subst (λ (k : ℕ). point_entries proof (h + 1) (qs ++ p ∷ []) ≡ point_entries proof (h + 1) qs ++ record { name = point_name proof k; text = p.stored } ∷ []) same (entries_more proof (h + 1) (length qs) qs p refl) in
    ap (λ (es : List Entry). entry_at proof h q.stored ∷ es) rest

said_more : (h n : ℕ) (ps : List Point) (p : Point) → length ps ≡ n → said_points h (ps ++ p ∷ []) ≡ said_points h ps ++ point_of (h + n) p.found ∷ []
said_more h n [] p e = let here : h ≡ h + n = omega (arith, e) in ap (λ (k : ℕ). point_of k p.found ∷ []) here
said_more h n (q ∷ qs) p e =
    let same : h + 1 + length qs ≡ h + n = omega (arith, e) in
    let rest = subst (λ (k : ℕ). said_points (h + 1) (qs ++ p ∷ []) ≡ said_points (h + 1) qs ++ point_of k p.found ∷ []) same (said_more (h + 1) (length qs) qs p refl) in
    ap (λ (xs : List CurvePoint). point_of h q.found ∷ xs) rest

kept_more : (kept : List Shift) (ps : List Point) (p : Point) → kept_after kept (ps ++ p ∷ []) ≡ p.found.cert.shifts
kept_more kept [] p = refl
kept_more kept (q ∷ qs) p = kept_more q.found.cert.shifts qs p

module _ (i : Instance) (staff : Staff) (strict : Bool) (limit : Limit) where
  -- what the search of the next point finds, behind points that the master had refused so many nodes after
  abbrev IsNext : ℕ → ℕ → List Shift → Point → Type 0
  IsNext heads refused kept p =
      Finds (with_heads staff i heads) (lent strict refused p.refused) limit (done_status p.found.done) p.stored p.found × IsNoDearerThan (with_heads staff i heads) kept p.found.cert.cost

  points_more : (h n r : ℕ) (kept : List Shift) (ps : List Point) (p : Point) → length ps ≡ n → ArePoints i staff strict limit h r kept ps → IsNext (h + n) (refused_after r ps) (kept_after kept ps) p
      → ArePoints i staff strict limit h r kept (ps ++ p ∷ [])
  points_more h n r kept [] p e are next = let same : h + n ≡ h = omega (arith, e) in let one = subst (λ (k : ℕ). IsNext k r kept p) same next in (one.0, one.1, tt)
  points_more h n r kept (q ∷ qs) p e are next =
      let same : h + n ≡ h + 1 + length qs = omega (arith, e) in
      (are.0, are.1, points_more (h + 1) (length qs) q.refused q.found.cert.shifts qs p refl are.2 (subst (λ (k : ℕ). IsNext k (refused_after q.refused qs) (kept_after q.found.cert.shifts qs) p) same next))

module _ (i : Instance) (staff : Staff) (proof : List ℕ) (strict : Bool) (limit : Limit) where
  pub first-none : (r : ℕ) (told : Told) → FindsFirst i staff proof (lent strict r r) limit 0 [] told told []
  first-none r told = record { points = []; all = refl; are = tt; counted = refl; last = refl; is = refl; stored = none_yet told }

  -- one point more, by what was found of it
  module _ (r s t n : ℕ) (kept : List Shift) (before middle after : Told) (said : List CurvePoint) (f : FindsFirst i staff proof (lent strict r s) limit n kept before middle said) where
    first-more : (point : CurvePoint) (found : Found) (text : List ℕ) → Finds (with_heads staff i (first_heads staff i + n)) (lent strict s t) limit (done_status found.done) text found
        → IsNoDearerThan (with_heads staff i (first_heads staff i + n)) kept found.cert.cost → point ≡ point_of (first_heads staff i + n) found
        → IsStoredBy (record { name = point_name proof (first_heads staff i + n); text = text } ∷ []) middle after
        → FindsFirst i staff proof (lent strict r t) limit (n + 1) found.cert.shifts before after (said ++ point ∷ [])
    first-more point found text finds falls is stored_now =
        let first = first_heads staff i in
        let new : Point = record { found = found; stored = text; refused = t } in
        let next : IsNext i staff strict limit (first + n) (refused_after r f.points) (kept_after [] f.points) new = (
          subst (λ (k : ℕ). Finds (with_heads staff i (first + n)) (lent strict k t) limit (done_status found.done) text found) (sym f.counted) finds,
          subst (λ (k : List Shift). IsNoDearerThan (with_heads staff i (first + n)) k found.cert.cost) (sym f.last) falls,
        ) in
        let stored = stored_more (point_entries proof first f.points) (record { name = point_name proof (first + n); text = text } ∷ []) before middle after f.stored stored_now in
        record {
          points = f.points ++ new ∷ [];
          all = length_more f.points new ∙ ap (λ (k : ℕ). k + 1) f.all;
          are = points_more i staff strict limit first n r [] f.points new f.all f.are next;
          counted = refused_more r f.points new;
          last = kept_more [] f.points new;
          is = ap (λ (xs : List CurvePoint). xs ++ point ∷ []) f.is ∙ ap (λ (q : CurvePoint). said_points first f.points ++ q ∷ []) is ∙ sym (said_more first n f.points new f.all);
          stored = subst (λ (es : List Entry). IsStoredBy es before after) (sym (entries_more proof first n f.points new f.all)) stored;
        }

    first-broken : (status : ℕ) → n < point_count staff i → IsBrokenOff [] (point_name proof (first_heads staff i + n)) middle after status → BreaksCurve i staff proof (lent strict r t) limit before after status
    first-broken status fewer b =
        let entries = point_entries proof (first_heads staff i) f.points in
        record {
          points = f.points;
          fewer = subst (λ (k : ℕ). k < point_count staff i) (sym f.all) fewer;
          are = f.are;
          broken = broken_later entries (point_name proof (first_heads staff i + length f.points)) before middle after status f.stored
              (subst (λ (k : ℕ). IsBrokenOff [] (point_name proof (first_heads staff i + k)) middle after status) (sym f.all) b);
        }

  pub none-begun : (r t : ℕ) (told : Told) → 0 < point_count staff i → BreaksCurve i staff proof (lent strict r t) limit told told 7
  none-begun r t told some = record { points = []; fewer = some; are = tt; broken = out_of_memory [] (point_name proof (first_heads staff i + 0)) told told (none_yet told) }

-- a curve after one more point is at the next number
more_heads : (old : CurveView) → point_heads (record old { given = old.given + 1 }) ≡ next_heads old
more_heads old = omega arith

heads_now : (old new : CurveView) → new ≡ record old { given = old.given + 1 } → point_heads new ≡ next_heads old
heads_now old new e = ap (λ (v : CurveView). point_heads v) e ∙ more_heads old

day_now : (old new : CurveView) → new ≡ record old { given = old.given + 1 } → point_day new ≡ with_heads old.staff old.day (next_heads old)
day_now old new e = ap (λ (v : CurveView). with_heads v.staff v.day (point_heads v)) e ∙ ap (λ (k : ℕ). with_heads old.staff old.day k) (more_heads old)

-- the loop's curve has given so many points of the first one
module _ (first old : CurveView) (n : ℕ) (e : old ≡ record first { given = n; kept = old.kept }) where
  -- its next point is that of the first one
  at-first : (P : CurveView → Type 0) → P old → P (record first { given = n; kept = old.kept })
  at-first P h = subst P e h

  pub next-curve : (new : CurveView) (kept : List Shift) → new ≡ record old { given = old.given + 1; kept = kept } → new ≡ record first { given = n + 1; kept = new.kept }
  next-curve new kept h =
      let same : new ≡ record first { given = n + 1; kept = kept } = h ∙ ap (λ (v : CurveView). record v { given = v.given + 1; kept = kept }) e in
      let keeps : new.kept ≡ kept = ap (λ (v : CurveView). v.kept) same in
      same ∙ ap (λ (k : List Shift). record first { given = n + 1; kept = k }) (sym keeps)

  module _ (proof : List ℕ) (a b : Bool) (limit : Limit) (r s t : ℕ) (before middle after : Told) (said : List CurvePoint) where
    pub next-found : (new : CurveView) (point : CurvePoint) → a ≡ b → FindsFirst first.day first.staff proof (lent b r s) limit n old.kept before middle said
        → FindsPoint old new proof (lent a s t) limit middle after point → FindsFirst first.day first.staff proof (lent b r t) limit (n + 1) new.kept before after (said ++ point ∷ [])
    next-found new point same f p =
        let found = at-first (λ v. Finds (with_heads v.staff v.day (next_heads v)) (lent a s t) limit (done_status p.found.done) p.text p.found) p.finds in
        let falls = at-first (λ v. IsNoDearerThan (with_heads v.staff v.day (next_heads v)) old.kept p.found.cert.cost) p.falls in
        let is = at-first (λ v. point ≡ point_of (next_heads v) p.found) p.is in
        let stored = at-first (λ v. IsStoredBy (record { name = point_name proof (next_heads v); text = p.text } ∷ []) middle after) p.stored in
        let kept : new.kept ≡ p.found.cert.shifts = ap (λ (v : CurveView). v.kept) p.next in
        let more = first-more first.day first.staff proof b limit r s t n old.kept before middle after said f point p.found p.text
        (subst (λ (x : Bool). Finds (with_heads first.staff first.day (first_heads first.staff first.day + n)) (lent x s t) limit (done_status p.found.done) p.text p.found) same found) falls is stored in
        subst (λ (k : List Shift). FindsFirst first.day first.staff proof (lent b r t) limit (n + 1) k before after (said ++ point ∷ [])) (sym kept) more

    pub next-broken : (status : ℕ) → n < point_count first.staff first.day → FindsFirst first.day first.staff proof (lent b r s) limit n old.kept before middle said
        → IsBrokenOff [] (point_name proof (next_heads old)) middle after status → BreaksCurve first.day first.staff proof (lent b r t) limit before after status
    next-broken status fewer f h =
        first-broken first.day first.staff proof b limit r s t n old.kept before middle after said f status fewer
        (at-first (λ v. IsBrokenOff [] (point_name proof (next_heads v)) middle after status) h)

-- how the next point ends, by how storing it ends
module _ (old given new : CurveView) (proof : List ℕ) (m : MasterView) (limit : Limit) (before after : Told) (s : Solution) (e : given ≡ record old { given = old.given + 1 })
    (kept : new ≡ record given { kept = s.found.cert.shifts }) where
  point-found : (said : CurvePoint) → ForLimit limit (λ k. IsSolution (point_day given) m.strict k s) → AreCounted (point_day given) m.before m.now s.found
      → IsNoDearerThan (point_day given) old.kept s.found.cert.cost → said ≡ point_of (point_heads given) s.found
      → IsStoredBy (record { name = point_name proof (point_heads given); text = s.proof } ∷ []) before after → FindsPoint old new proof m limit before after said
  point-found said solution counted falls is stored =
      let here = heads_now old given e in
      let day = day_now old given e in
      record {
        found = s.found;
        text = s.proof;
        finds = finds (with_heads old.staff old.day (next_heads old)) m limit s (subst (λ (i : Instance). ForLimit limit (λ k. IsSolution i m.strict k s)) day solution)
            (subst (λ (i : Instance). AreCounted i m.before m.now s.found) day counted) (done_status s.found.done) refl;
        falls = subst (λ (i : Instance). IsNoDearerThan i old.kept s.found.cert.cost) day falls;
        is = is ∙ ap (λ (k : ℕ). point_of k s.found) here;
        stored = subst (λ (k : ℕ). IsStoredBy (record { name = point_name proof k; text = s.proof } ∷ []) before after) here stored;
        next = kept ∙ ap (λ (v : CurveView). record v { kept = s.found.cert.shifts }) e;
      }

  pub point-ends : (r : Result CurvePoint ℕ) → ForLimit limit (λ k. IsSolution (point_day given) m.strict k s) → AreCounted (point_day given) m.before m.now s.found
      → IsNoDearerThan (point_day given) old.kept s.found.cert.cost → IfOk r (λ said. said ≡ point_of (point_heads given) s.found)
      → MatchResult r (λ said. IsStoredBy (record { name = point_name proof (point_heads given); text = s.proof } ∷ []) before after) (IsBrokenOff [] (point_name proof (point_heads given)) before after)
      → MatchResult r (FindsPoint old new proof m limit before after) (IsBrokenOff [] (point_name proof (next_heads old)) before after)
  point-ends (Ok said) solution counted falls is stored = point-found said solution counted falls is stored
  point-ends (Err status) solution counted falls is broken = subst (λ (k : ℕ). IsBrokenOff [] (point_name proof k) before after status) (heads_now old given e) broken

pub not-begun : (name : List ℕ) (told : Told) → IsBrokenOff [] name told told 7
not-begun name told = out_of_memory [] name told told (none_yet told)
