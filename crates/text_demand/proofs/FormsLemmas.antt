-- Lines that stand have one of the five forms, and what a whole text says of its lines.
use Rattle.std.proofs.Common.{◌≡◌, ℕ, ◌+◌, ◌-◌, ◌≤◌, Bool, true, false, cond, not, eqb, leb, ltb, min, List, [], ◌∷◌, ◌++◌, length, Option, Some, None, Result, Ok, Err, refl, sym, ap, ◌∙◌, arith, inl, inr, ◌⊎◌, subst, length-append}
use Rattle.std.specs.Prelude.{codes, is_some}
use Rattle.std.specs.Str.{bytes_eq}
use Rattle.text_lines.specs.Lines.{TextLine, text_items}
use Rattle.text_lines.specs.declared.line.BadByte as bad
use Rattle.text_lines.proofs.ListLemmas.{at_least, not_false, same_number, one_if, has, none_there}
use Rattle.text_lines.proofs.RefusalsLemmas.{first_refused}
use Rattle.text_lines.proofs.StepsLemmas.{err, ok, passed, bind_ok, same_ok}
use Rattle.text_lines.proofs.WordLemmas.{the_bytes}
use Rattle.text_lines.specs.Refusals.{begins}
use Rattle.model_rosters.specs.declared.grammar.Grammar.{Grammar}
use Rattle.model_rosters.specs.declared.instance.Group.{Group}
use Rattle.model_rosters.specs.declared.instance.Instance.{Instance}
use Rattle.model_rosters.specs.Folds.{Each, count}
use Rattle.text_demand_lines.specs.declared.draft.Bound.{Bound}
use Rattle.text_demand_lines.specs.declared.draft.Draft.{Draft}
use Rattle.text_demand_lines.specs.declared.draft.Heads.{Heads}
use Rattle.text_demand_lines.specs.declared.draft.Need.{Need}
use Rattle.text_demand_lines.specs.declared.fault.DemandFault.{DemandFault}
use Rattle.text_demand_lines.specs.declared.fault.DemandFault.TheVariants.{UnknownLine, Twice, NoNeed, Mixed, TooManyGroups, TooLong, NoHeads, WrongCount}
use Rattle.text_demand_lines.specs.FaultLine.{line_of}
use Rattle.text_demand_lines.specs.Fields.{number_at, work_at, name_at, range_at}
use Rattle.text_demand_lines.specs.Teams.{has_group, most_heads, heads_at, group_of, group_at}
use Rattle.text_demand_lines.specs.Steps.{◌>>=◌, each}
use Rattle.text_demand.specs.Counts.{count_at, counts_at}
use Rattle.text_demand.specs.Lines.{has_need, has_bound, need_of, need_at, bound_at, line_at, item_at}
use Rattle.text_demand.specs.Forms.{IsForm, heads, group, need, least, most, HasForm, HaveTeams, IsComplete, IsFirstRefused, AllStand}
use Rattle.text_demand.specs.InstanceOf.{heads_of, made, finish, no_draft, draft_of, instance_of}
use Rattle.text_demand.proofs.DraftKept.{draft_keeps}
use Rattle.text_demand.proofs.RefusedLines.{item_line}

-- a heads line or group lines, and not both
abbrev IsAlone : Draft → Type 0
IsAlone d = (has d.heads ≡ 0) ⊎ (length d.groups ≡ 0)

abbrev line_with : List (List ℕ) → Result TextLine bad.BadByte
line_with ws = Ok (record { number = 0; words = ws })

-- what a line that stands is, and what it adds
record Stands (periods : ℕ) (d new : Draft) (ws : List (List ℕ)) : Type 0 where
  form : IsForm periods ws
  heads_said : has new.heads ≡ one_if (begins (codes "heads") (line_with ws)) + has d.heads
  groups_said : length new.groups ≡ one_if (begins (codes "group") (line_with ws)) + length d.groups
  alone : IsAlone d → IsAlone new

heads_stand : (p k : ℕ) (d new : Draft) (ws : List (List ℕ)) → heads_at k d ws ≡ Ok new → Stands p d new (codes "heads" ∷ ws)
unfolding heads_at
heads_stand p k d new [] e = absurd cc
heads_stand p k d new (a ∷ []) e = absurd cc
heads_stand p k d new (a ∷ b ∷ []) e =
    let free = passed (ltb 0 (length d.groups)) (Mixed k) _ new e in
    let h = bind_ok (range_at k 64 a b) _ new free.1 in
    let more : Draft = record d { heads = Some h.0 } in
    let once = passed (is_some d.heads) (Twice k) (ok more) new h.2 in
    let none : length d.groups ≤ 0 = at_least 0 (length d.groups) free.0 in
    subst (λ (x : Draft). Stands p d x (codes "heads" ∷ a ∷ b ∷ [])) (same_ok more new once.1) (record {
      form = heads a b refl;
      heads_said = omega (arith, none_there d.heads once.0);
      groups_said = omega arith;
      alone = λ before. inr (omega (arith, none));
    })
heads_stand p k d new (a ∷ b ∷ c ∷ ws) e = absurd cc

group_more : (k : ℕ) (g : Grammar) (groups new : List Group) (name a b : List ℕ) → group_of k g groups name a b ≡ Ok new → length new ≡ 1 + length groups
unfolding group_of
group_more k g groups new name a b e =
    let room = passed (leb 8 (length groups)) (TooManyGroups k) _ new e in
    let x = bind_ok (name_at k g.names name) _ new room.1 in
    let once = passed (has_group groups x.0) (Twice k) _ new x.2 in
    let h = bind_ok (range_at k (64 - most_heads groups) a b) _ new once.1 in
    let one : Group = record { name = x.0; heads_min = h.0.least; heads_max = h.0.most } in
    omega (arith, ap length (sym (same_ok (groups ++ one ∷ []) new h.2)), length-append groups (one ∷ []))

group_stands : (p k : ℕ) (g : Grammar) (d new : Draft) (ws : List (List ℕ)) → group_at k g d ws ≡ Ok new → Stands p d new (codes "group" ∷ ws)
unfolding group_at
group_stands p k g d new [] e = absurd cc
group_stands p k g d new (n ∷ []) e = absurd cc
group_stands p k g d new (n ∷ a ∷ []) e = absurd cc
group_stands p k g d new (n ∷ a ∷ b ∷ []) e =
    let free = passed (is_some d.heads) (Mixed k) _ new e in
    let gs = bind_ok (group_of k g d.groups n a b) _ new free.1 in
    let more : Draft = record d { groups = gs.0 } in
    subst (λ (x : Draft). Stands p d x (codes "group" ∷ n ∷ a ∷ b ∷ [])) (same_ok more new gs.2) (record {
      form = group n a b refl;
      heads_said = omega arith;
      groups_said = omega (arith, group_more k g d.groups gs.0 n a b gs.1);
      alone = λ before. inl (none_there d.heads free.0);
    })
group_stands p k g d new (n ∷ a ∷ b ∷ c ∷ ws) e = absurd cc

counts_whole : (k periods : ℕ) (ws : List (List ℕ)) (counts : List ℕ) → counts_at k periods ws ≡ Ok counts → length ws ≡ periods
unfolding counts_at
counts_whole k periods ws counts e =
    let a = passed (not (eqb (length ws) periods)) (WrongCount k (min (length ws) 4294967295)) (each (count_at k) [] ws) counts e in
    same_number (length ws) periods (not_false _ a.0)

need_form : (k : ℕ) (g : Grammar) (needs new : List Need) (ws : List (List ℕ)) → need_at k g needs ws ≡ Ok new → IsForm g.periods (codes "need" ∷ ws)
unfolding need_at need_of
need_form k g needs new [] e = absurd cc
need_form k g needs new (c ∷ []) e = absurd cc
need_form k g needs new (c ∷ a ∷ []) e = absurd cc
need_form k g needs new (c ∷ a ∷ b ∷ ws) e =
    let x = bind_ok (work_at k g.codes c) _ new e in
    let once = passed (has_need needs x.0) (Twice k) _ new x.2 in
    let under = bind_ok (number_at k 0 10000 a) _ new once.1 in
    let over = bind_ok (number_at k 0 10000 b) _ new under.2 in
    let counts = bind_ok (counts_at k g.periods ws) _ new over.2 in
    need c a b ws refl (counts_whole k g.periods ws counts.0 counts.1)

bound_words : (k : ℕ) (g : Grammar) (needs : List Need) (bounds new : List Bound) (ws : List (List ℕ)) → bound_at k g needs bounds ws ≡ Ok new → (c : List ℕ) × (cs : List (List ℕ)) × (ws ≡ c ∷ cs) × (length cs ≡ g.periods)
unfolding bound_at
bound_words k g needs bounds new [] e = absurd cc
bound_words k g needs bounds new (c ∷ ws) e =
    let x = bind_ok (work_at k g.codes c) _ new e in
    let needed = passed (not (has_need needs x.0)) (NoNeed k) _ new x.2 in
    let once = passed (has_bound bounds x.0) (Twice k) _ new needed.1 in
    let counts = bind_ok (counts_at k g.periods ws) _ new once.1 in
    (c, ws, refl, counts_whole k g.periods ws counts.0 counts.1)

-- a line that says nothing of how many employees work
needs_stand : (k : ℕ) (g : Grammar) (d new : Draft) (ws : List (List ℕ)) → (need_at k g d.needs ws >>= λ (n : List Need). ok (record d { needs = n })) ≡ Ok new → Stands g.periods d new (codes "need" ∷ ws)
needs_stand k g d new ws e =
    let b = bind_ok (need_at k g d.needs ws) (λ (n : List Need). ok (record d { needs = n })) new e in
    subst (λ (x : Draft). Stands g.periods d x (codes "need" ∷ ws)) (same_ok (record d { needs = b.0 }) new b.2) (record {
      form = need_form k g d.needs b.0 ws b.1;
      heads_said = omega arith;
      groups_said = omega arith;
      alone = λ before. before;
    })

least_stands : (k : ℕ) (g : Grammar) (d new : Draft) (ws : List (List ℕ)) → (bound_at k g d.needs d.least ws >>= λ (n : List Bound). ok (record d { least = n })) ≡ Ok new → Stands g.periods d new (codes "least" ∷ ws)
least_stands k g d new ws e =
    let b = bind_ok (bound_at k g d.needs d.least ws) (λ (n : List Bound). ok (record d { least = n })) new e in
    let h = bound_words k g d.needs d.least b.0 ws b.1 in
    subst (λ (x : Draft). Stands g.periods d x (codes "least" ∷ ws)) (same_ok (record d { least = b.0 }) new b.2) (record {
      form = least h.0 h.1 (ap (λ (r : List (List ℕ)). codes "least" ∷ r) h.2) h.3;
      heads_said = omega arith;
      groups_said = omega arith;
      alone = λ before. before;
    })

most_stands : (k : ℕ) (g : Grammar) (d new : Draft) (ws : List (List ℕ)) → (bound_at k g d.needs d.most ws >>= λ (n : List Bound). ok (record d { most = n })) ≡ Ok new → Stands g.periods d new (codes "most" ∷ ws)
most_stands k g d new ws e =
    let b = bind_ok (bound_at k g d.needs d.most ws) (λ (n : List Bound). ok (record d { most = n })) new e in
    let h = bound_words k g d.needs d.most b.0 ws b.1 in
    subst (λ (x : Draft). Stands g.periods d x (codes "most" ∷ ws)) (same_ok (record d { most = b.0 }) new b.2) (record {
      form = most h.0 h.1 (ap (λ (r : List (List ℕ)). codes "most" ∷ r) h.2) h.3;
      heads_said = omega arith;
      groups_said = omega arith;
      alone = λ before. before;
    })

line_stands : (k : ℕ) (g : Grammar) (d new : Draft) (ws : List (List ℕ)) → line_at k g d ws ≡ Ok new → Stands g.periods d new ws
unfolding line_at
line_stands k g d new [] e = absurd cc
line_stands k g d new (w ∷ ws) e = by (bytes_eq w (codes "heads")) (bytes_eq w (codes "group")) (bytes_eq w (codes "need")) (bytes_eq w (codes "least")) (bytes_eq w (codes "most")) refl refl refl refl refl e
  where
    at : (v : List ℕ) → bytes_eq w v ≡ true → Stands g.periods d new (v ∷ ws) → Stands g.periods d new (w ∷ ws)
    at v h s = subst (λ (x : List ℕ). Stands g.periods d new (x ∷ ws)) (sym (the_bytes w v h)) s

    by : (p q r t u : Bool) → bytes_eq w (codes "heads") ≡ p → bytes_eq w (codes "group") ≡ q → bytes_eq w (codes "need") ≡ r → bytes_eq w (codes "least") ≡ t → bytes_eq w (codes "most") ≡ u
        → cond p (heads_at k d ws) (cond q (group_at k g d ws) (cond r (need_at k g d.needs ws >>= λ (n : List Need). ok (record d { needs = n })) (cond t (bound_at k g d.needs d.least ws >>= λ (n : List Bound). ok (record d { least = n }))
        (cond u (bound_at k g d.needs d.most ws >>= λ (n : List Bound). ok (record d { most = n })) (err (UnknownLine k)))))) ≡ ok new → Stands g.periods d new (w ∷ ws)
    by true q r t u a b c f i h = at (codes "heads") a (heads_stand g.periods k d new ws h)
    by false true r t u a b c f i h = at (codes "group") b (group_stands g.periods k g d new ws h)
    by false false true t u a b c f i h = at (codes "need") c (needs_stand k g d new ws h)
    by false false false true u a b c f i h = at (codes "least") f (least_stands k g d new ws h)
    by false false false false true a b c f i h = at (codes "most") i (most_stands k g d new ws h)
    by false false false false false a b c f i h = absurd cc

-- what lines that stand are, and what they add
record AllAdd (periods : ℕ) (d new : Draft) (items : List (Result TextLine bad.BadByte)) : Type 0 where
  forms : Each (HasForm periods) items
  heads_said : has new.heads ≡ count (begins (codes "heads")) items + has d.heads
  groups_said : length new.groups ≡ count (begins (codes "group")) items + length d.groups
  alone : IsAlone d → IsAlone new

item_adds : (g : Grammar) (d t new : Draft) (i : Result TextLine bad.BadByte) (is : List (Result TextLine bad.BadByte)) → item_at g d i ≡ Ok t → AllAdd g.periods t new is → AllAdd g.periods d new (i ∷ is)
item_adds g d t new (Err b) is e h = absurd cc
item_adds g d t new (Ok line) is e h =
    let s = line_stands line.number g d t line.words e in
    record {
      forms = (s.form, h.forms);
      heads_said = omega (arith, h.heads_said, s.heads_said);
      groups_said = omega (arith, h.groups_said, s.groups_said);
      alone = λ before. h.alone (s.alone before);
    }

all_add : (g : Grammar) (d new : Draft) (items : List (Result TextLine bad.BadByte)) → each (item_at g) d items ≡ Ok new → AllAdd g.periods d new items
all_add g d new [] e = subst (λ (x : Draft). AllAdd g.periods d x []) (same_ok d new e) (record { forms = tt; heads_said = omega arith; groups_said = omega arith; alone = λ before. before })
all_add g d new (i ∷ is) e =
    let b = bind_ok (item_at g d i) (λ (t : Draft). each (item_at g) t is) new e in
    item_adds g d b.0 new i is b.1 (all_add g b.0 new is b.2)

-- ---- whole texts

teams_of : (hs : Option Heads) (gs : List Group) (h : Heads) → heads_of hs gs ≡ Ok h → (has hs ≡ 0) ⊎ (length gs ≡ 0) → length gs ≤ 8 → HaveTeams (has hs) (length gs)
teams_of None [] h e a few = absurd cc
teams_of (Some x) [] h e a few = inl (refl, refl)
teams_of None (g ∷ gs) h e a few = inr (refl, omega arith, few)
teams_of (Some x) (g ∷ gs) h e a few = elim a [
  | inl z ↦ absurd (omega (arith, z))
  | inr z ↦ absurd (omega (arith, z))
]

complete : (g : Grammar) (text : List ℕ) (d : Draft) (i : Instance) → draft_of g text ≡ Ok d → finish g d ≡ Ok i → IsComplete g text
unfolding finish
complete g text d i e f =
    let h = bind_ok (heads_of d.heads d.groups) _ i f in
    let added = all_add g no_draft d (text_items text) e in
    let few : length d.groups ≤ 8 = (draft_keeps g text d e).groups.few in
    let said : has d.heads ≡ count (begins (codes "heads")) (text_items text) = omega (arith, added.heads_said) in
    let grouped : length d.groups ≡ count (begins (codes "group")) (text_items text) = omega (arith, added.groups_said) in
    let teams = teams_of d.heads d.groups h.0 h.1 (added.alone (inl refl)) few in
    record { forms = added.forms; teams = rw (said, grouped) at teams }

pub accepted_lines : (g : Grammar) (text : List ℕ) (i : Instance) → instance_of g text ≡ Ok i → IsComplete g text
unfolding instance_of
accepted_lines g text i e =
    let short = passed (ltb 1048576 (length text)) TooLong (draft_of g text >>= finish g) i e in
    let d = bind_ok (draft_of g text) (finish g) i short.1 in
    complete g text d.0 i d.1 d.2

no_heads : (g : Grammar) (d : Draft) (e : DemandFault) → finish g d ≡ Err e → e ≡ NoHeads
unfolding finish
no_heads g d e = by d.heads d.groups
  where
    by : (hs : Option Heads) (gs : List Group) → (heads_of hs gs >>= λ (h : Heads). ok (made g d h)) ≡ Err e → e ≡ NoHeads
    by None [] q = cc
    by (Some x) [] q = absurd cc
    by None (x ∷ gs) q = absurd cc
    by (Some y) (x ∷ gs) q = absurd cc

pub refused_line : (g : Grammar) (text : List ℕ) (e : DemandFault) → instance_of g text ≡ Err e → (e ≡ TooLong) ⊎ (IsFirstRefused g text e ⊎ (AllStand g text × (e ≡ NoHeads)))
unfolding instance_of
refused_line g text e h = by (ltb 1048576 (length text)) (draft_of g text) refl h
  where
    by : (t : Bool) (r : Result Draft DemandFault) → draft_of g text ≡ r → cond t (err TooLong) (r >>= finish g) ≡ Err e → (e ≡ TooLong) ⊎ (IsFirstRefused g text e ⊎ (AllStand g text × (e ≡ NoHeads)))
    by true r s q = inl cc
    by false (Err c) s q = let same : c ≡ e = cc in inr (inl (first_refused line_of (item_at g) (item_line g) no_draft (text_items text) e (s ∙ ap (λ (x : DemandFault). err {A = Draft} x) same)))
    by false (Ok d) s q = inr (inr ((d, s), no_heads g d e q))
