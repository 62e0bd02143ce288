-- A line that is read keeps what was read within the limits.
use Rattle.std.proofs.Common.{◌≡◌, ℕ, ◌-◌, ◌<◌, ◌≤◌, Bool, true, false, not, cond, eqb, List, [], ◌∷◌, ◌++◌, length, Some, Result, Ok, Err, sym, arith, subst, length-append}
use Rattle.std.specs.Prelude.{codes, ◌≢◌}
use Rattle.std.specs.Str.{bytes_eq}
use Rattle.std.proofs.lemmas.Bool.{or_parts, eq-eqb}
use Rattle.std.proofs.lemmas.List.Elements.{All-nil, All-push}
use Rattle.text_lines.specs.Lines.{TextLine, text_items}
use Rattle.text_lines.specs.declared.line.BadByte as bad
use Rattle.model_rosters.specs.declared.grammar.Grammar.{Grammar}
use Rattle.model_rosters.specs.declared.instance.Group.{Group}
use Rattle.model_rosters.specs.Folds.{Each}
use Rattle.model_rosters.specs.SoundInstance.{IsGroup, AreGroups}
use Rattle.model_rosters.proofs.EachLemmas.{Each-push}
use Rattle.text_demand_lines.specs.declared.draft.Bound.{Bound}
use Rattle.text_demand_lines.specs.declared.draft.Draft.{Draft}
use Rattle.text_demand_lines.specs.declared.draft.Need.{Need}
use Rattle.text_demand_lines.specs.declared.fault.DemandFault.{DemandFault}
use Rattle.text_demand_lines.specs.declared.fault.DemandFault.TheVariants.{UnknownLine, Twice, NoNeed}
use Rattle.text_demand_lines.specs.Fields.{number_at, work_at, name_at, range_at}
use Rattle.text_demand_lines.specs.Teams.{has_group, most_heads, heads_at, group_of, group_at}
use Rattle.text_demand_lines.specs.Steps.{◌>>=◌}
use Rattle.text_demand.specs.Counts.{counts_at}
use Rattle.text_demand.specs.Lines.{has_need, has_bound, need_of, need_at, bound_at, line_at, item_at}
use Rattle.text_demand.specs.Drafts.{AreCounts, IsNeed, AreApart, AreBounds, IsDraft}
use Rattle.text_demand.specs.InstanceOf.{no_draft, draft_of}
use Rattle.text_demand.proofs.GroupSums.{most_more}
use Rattle.text_lines.proofs.StepsLemmas.{each_keeps, passed, bind_ok, same_ok, err, ok}
use Rattle.text_demand.proofs.FieldsKept.{work_is, name_within, counts_are, range_within}
use Rattle.text_lines.proofs.FieldsLemmas.{number_within}
use Rattle.text_lines.proofs.ListLemmas.{apart_more, none_passes, fewer}

heads_keep : (k : ℕ) (g : Grammar) (d new : Draft) (ws : List (List ℕ)) → IsDraft g d → heads_at k d ws ≡ Ok new → IsDraft g new
unfolding heads_at
heads_keep k g d new [] s e = absurd cc
heads_keep k g d new (a ∷ []) s e = absurd cc
heads_keep k g d new (a ∷ b ∷ []) s e =
    let alone = passed _ _ _ _ e in
    let h = bind_ok (range_at k 64 a b) _ _ alone.1 in
    let once = passed _ _ _ _ h.2 in
    let w = range_within k 64 a b h.0 h.1 in
    subst (IsDraft g) (same_ok (record d { heads = Some h.0 }) new once.1) (record {
      heads = record { order = w.0; some = w.1; few = w.2 };
      groups = s.groups;
      few = s.few;
      needs = s.needs;
      apart = s.apart;
      least = s.least;
      most = s.most;
    })
heads_keep k g d new (a ∷ b ∷ c ∷ ws) s e = absurd cc

-- ---- groups

abbrev name_of : Group → ℕ
name_of group = group.name

record MayWork (names : ℕ) (groups : List Group) : Type 0 where
  are : AreGroups names groups
  few : most_heads groups ≤ 64

one_group : (names : ℕ) (groups : List Group) (group : Group) → MayWork names groups → length groups < 8 → has_group groups group.name ≡ false → IsGroup names group → group.heads_max ≤ 64 - most_heads groups → MayWork names (groups ++ group ∷ [])
one_group names groups group s few new is room = record {
  are = record {
    few = omega (arith, length-append groups (group ∷ []));
    each = All-push (IsGroup names) groups group s.are.each is;
    apart = apart_more name_of groups group s.are.apart (λ k a e same.
        let no = none_passes (λ (x : Group). eqb x.name group.name) groups new k a e in
        let yes : eqb a.name group.name ≡ true = eq-eqb a.name group.name same in
        absurd cc);
  };
  few = omega (arith, most_more groups group, s.few);
}

groups_keep : (k : ℕ) (g : Grammar) (old new : List Group) (name a b : List ℕ) → MayWork (length g.names) old → group_of k g old name a b ≡ Ok new → MayWork (length g.names) new
unfolding group_of
groups_keep k g old new name a b s e =
    let few = passed _ _ _ _ e in
    let x = bind_ok (name_at k g.names name) _ _ few.1 in
    let once = passed _ _ _ _ x.2 in
    let h = bind_ok (range_at k (64 - most_heads old) a b) _ _ once.1 in
    let w = range_within k (64 - most_heads old) a b h.0 h.1 in
    let group : Group = record { name = x.0; heads_min = h.0.least; heads_max = h.0.most } in
    let is : IsGroup (length g.names) group = record { name = name_within k g.names name x.0 x.1; order = w.0; some = w.1 } in
    subst (MayWork (length g.names)) (same_ok (old ++ group ∷ []) new h.2) (one_group (length g.names) old group s (fewer _ _ few.0) once.0 is w.2)

group_keeps : (k : ℕ) (g : Grammar) (d new : Draft) (ws : List (List ℕ)) → IsDraft g d → group_at k g d ws ≡ Ok new → IsDraft g new
unfolding group_at
group_keeps k g d new [] s e = absurd cc
group_keeps k g d new (n ∷ []) s e = absurd cc
group_keeps k g d new (n ∷ a ∷ []) s e = absurd cc
group_keeps k g d new (n ∷ a ∷ b ∷ []) s e =
    let alone = passed _ _ _ _ e in
    let gs = bind_ok (group_of k g d.groups n a b) _ _ alone.1 in
    let w = groups_keep k g d.groups gs.0 n a b (record { are = s.groups; few = s.few }) gs.1 in
    subst (IsDraft g) (same_ok (record d { groups = gs.0 }) new gs.2) (record {
      heads = s.heads;
      groups = w.are;
      few = w.few;
      needs = s.needs;
      apart = s.apart;
      least = s.least;
      most = s.most;
    })
group_keeps k g d new (n ∷ a ∷ b ∷ c ∷ ws) s e = absurd cc

-- ---- need lines

-- a code that no need line has
others : (code : ℕ) (needs : List Need) → has_need needs code ≡ false → Each (λ (m : Need). m.code ≢ code) needs
others code [] h = tt
others code (n ∷ ns) h =
    let parts = or_parts (eqb n.code code) (has_need ns code) h in
    ((λ same. let yes : eqb n.code code ≡ true = eq-eqb n.code code same in let no = parts.0 in absurd cc), others code ns parts.1)

one_need : (ns : List Need) (n : Need) → AreApart ns → Each (λ (m : Need). m.code ≢ n.code) ns → AreApart (ns ++ n ∷ [])
one_need [] n s h = (tt, tt)
one_need (m ∷ ns) n s h = (Each-push (λ (x : Need). x.code ≢ m.code) ns n s.0 (λ same. h.0 (sym same)), one_need ns n s.1 h.1)

record MayNeed (g : Grammar) (needs : List Need) : Type 0 where
  each : Each (IsNeed g) needs
  apart : AreApart needs

needs_keep : (k : ℕ) (g : Grammar) (old new : List Need) (code a b : List ℕ) (ws : List (List ℕ)) → MayNeed g old → need_of k g old code a b ws ≡ Ok new → MayNeed g new
unfolding need_of
needs_keep k g old new code a b ws s e =
    let c = bind_ok (work_at k g.codes code) _ _ e in
    let once = passed _ _ _ _ c.2 in
    let under = bind_ok (number_at k 0 10000 a) _ _ once.1 in
    let over = bind_ok (number_at k 0 10000 b) _ _ under.2 in
    let counts = bind_ok (counts_at k g.periods ws) _ _ over.2 in
    let w = counts_are k g.periods ws counts.0 counts.1 in
    let need : Need = record { code = c.0; under = under.0; over = over.0; counts = counts.0 } in
    let is : IsNeed g need = record {
      work = work_is k g code c.0 c.1;
      under = (number_within _ _ 0 10000 under.0 a under.1).1;
      over = (number_within _ _ 0 10000 over.0 b over.1).1;
      whole = w.0;
      counts = w.1;
    } in
    subst (MayNeed g) (same_ok (old ++ need ∷ []) new counts.2) (record {
      each = Each-push (IsNeed g) old need s.each is;
      apart = one_need old need s.apart (others c.0 old once.0);
    })

needs_at_keep : (k : ℕ) (g : Grammar) (old new : List Need) (ws : List (List ℕ)) → MayNeed g old → need_at k g old ws ≡ Ok new → MayNeed g new
unfolding need_at
needs_at_keep k g old new [] s e = absurd cc
needs_at_keep k g old new (c ∷ []) s e = absurd cc
needs_at_keep k g old new (c ∷ a ∷ []) s e = absurd cc
needs_at_keep k g old new (c ∷ a ∷ b ∷ ws) s e = needs_keep k g old new c a b ws s e

-- ---- bounds

bounds_keep : (k : ℕ) (g : Grammar) (needs : List Need) (old new : List Bound) (ws : List (List ℕ)) → AreBounds old → bound_at k g needs old ws ≡ Ok new → AreBounds new
unfolding bound_at
bounds_keep k g needs old new [] s e = absurd cc
bounds_keep k g needs old new (code ∷ ws) s e =
    let more : ℕ → List ℕ → Result (List Bound) DemandFault = λ c counts. ok (old ++ record { code = c; counts = counts } ∷ []) in
    let then : ℕ → Result (List Bound) DemandFault = λ c. counts_at k g.periods ws >>= more c in
    let c = bind_ok (work_at k g.codes code) (λ (x : ℕ). cond (not (has_need needs x)) (err (NoNeed k)) (cond (has_bound old x) (err (Twice k)) (then x))) new e in
    let there = passed (not (has_need needs c.0)) (NoNeed k) (cond (has_bound old c.0) (err (Twice k)) (then c.0)) new c.2 in
    let once = passed (has_bound old c.0) (Twice k) (then c.0) new there.1 in
    let counts = bind_ok (counts_at k g.periods ws) (more c.0) new once.1 in
    let bound : Bound = record { code = c.0; counts = counts.0 } in
    subst AreBounds {x = old ++ bound ∷ []} (same_ok (old ++ bound ∷ []) new counts.2)
    (Each-push (λ (b : Bound). AreCounts b.counts) old bound s (counts_are k g.periods ws counts.0 counts.1).1)

-- ---- lines

need_keeps : (k : ℕ) (g : Grammar) (d new : Draft) (ws : List (List ℕ)) → IsDraft g d → (need_at k g d.needs ws >>= λ (n : List Need). ok (record d { needs = n })) ≡ Ok new → IsDraft g new
need_keeps k g d new ws s e =
    let b = bind_ok (need_at k g d.needs ws) (λ (n : List Need). ok (record d { needs = n })) new e in
    let w = needs_at_keep k g d.needs b.0 ws (record { each = s.needs; apart = s.apart }) b.1 in
    subst (IsDraft g) (same_ok (record d { needs = b.0 }) new b.2)
    (record { heads = s.heads; groups = s.groups; few = s.few; needs = w.each; apart = w.apart; least = s.least; most = s.most })

least_keeps : (k : ℕ) (g : Grammar) (d new : Draft) (ws : List (List ℕ)) → IsDraft g d → (bound_at k g d.needs d.least ws >>= λ (n : List Bound). ok (record d { least = n })) ≡ Ok new → IsDraft g new
least_keeps k g d new ws s e =
    let b = bind_ok (bound_at k g d.needs d.least ws) (λ (n : List Bound). ok (record d { least = n })) new e in
    subst (IsDraft g) (same_ok (record d { least = b.0 }) new b.2)
    (record { heads = s.heads; groups = s.groups; few = s.few; needs = s.needs; apart = s.apart; least = bounds_keep k g d.needs d.least b.0 ws s.least b.1; most = s.most })

most_keeps : (k : ℕ) (g : Grammar) (d new : Draft) (ws : List (List ℕ)) → IsDraft g d → (bound_at k g d.needs d.most ws >>= λ (n : List Bound). ok (record d { most = n })) ≡ Ok new → IsDraft g new
most_keeps k g d new ws s e =
    let b = bind_ok (bound_at k g d.needs d.most ws) (λ (n : List Bound). ok (record d { most = n })) new e in
    subst (IsDraft g) (same_ok (record d { most = b.0 }) new b.2)
    (record { heads = s.heads; groups = s.groups; few = s.few; needs = s.needs; apart = s.apart; least = s.least; most = bounds_keep k g d.needs d.most b.0 ws s.most b.1 })

line_keeps : (k : ℕ) (g : Grammar) (d new : Draft) (ws : List (List ℕ)) → IsDraft g d → line_at k g d ws ≡ Ok new → IsDraft g new
unfolding line_at
line_keeps k g d new [] s e = absurd cc
line_keeps k g d new (w ∷ ws) s e = by (bytes_eq w (codes "heads")) (bytes_eq w (codes "group")) (bytes_eq w (codes "need")) (bytes_eq w (codes "least")) (bytes_eq w (codes "most")) e
  where
    by : (p q r t u : Bool) → cond p (heads_at k d ws) (cond q (group_at k g d ws) (cond r (need_at k g d.needs ws >>= λ (n : List Need). ok (record d { needs = n })) (cond t (bound_at k g d.needs d.least ws >>= λ (n : List Bound). ok (record d { least = n })) (cond u (bound_at k g d.needs d.most ws >>= λ (n : List Bound). ok (record d { most = n })) (err (UnknownLine k)))))) ≡ ok new → IsDraft g new
    by true q r t u h = heads_keep k g d new ws s h
    by false true r t u h = group_keeps k g d new ws s h
    by false false true t u h = need_keeps k g d new ws s h
    by false false false true u h = least_keeps k g d new ws s h
    by false false false false true h = most_keeps k g d new ws s h
    by false false false false false h = absurd cc

item_keeps : (g : Grammar) (d new : Draft) (item : Result TextLine bad.BadByte) → IsDraft g d → item_at g d item ≡ Ok new → IsDraft g new
item_keeps g d new (Ok line) s e = line_keeps line.number g d new line.words s e
item_keeps g d new (Err b) s e = absurd cc

no_draft_is : (g : Grammar) → IsDraft g no_draft
no_draft_is g = record {
  heads = tt;
  groups = record { few = omega arith; each = All-nil _; apart = λ i j a b lt ei ej. absurd cc };
  few = omega arith;
  needs = tt;
  apart = tt;
  least = tt;
  most = tt;
}

-- what all lines of a text say is within the limits
pub draft_keeps : (g : Grammar) (text : List ℕ) (d : Draft) → draft_of g text ≡ Ok d → IsDraft g d
draft_keeps g text d e = each_keeps (item_at g) (IsDraft g) (item_keeps g) no_draft d (text_items text) (no_draft_is g) e
