-- The draft of a plan and a forecast that fit a grammar is one of it.
use Rattle.std.proofs.Common.{◌≡◌, true, ℕ, zero, suc, ◌+◌, ◌<◌, ◌≤◌, List, [], ◌∷◌, ◌++◌, length, get_or, map, Option, None, Some, refl, sym, ap, ◌∙◌, arith}
use Rattle.std.specs.Prelude.{◌≢◌, IfSome, nat_eq, slice_get}
use Rattle.std.specs.Str.{bytes_eq}
use Rattle.std.proofs.lemmas.List.Sums.{passes_at_first}
use Rattle.std.proofs.lemmas.Option.{slice_get_within}
use Rattle.model_rosters.specs.declared.grammar.CodeDef.{CodeDef}
use Rattle.model_rosters.specs.declared.grammar.Grammar.{Grammar}
use Rattle.model_rosters.specs.declared.instance.Group.{Group}
use Rattle.model_rosters.specs.Demands.{IsWork}
use Rattle.model_rosters.specs.Folds.{Each, sum_n}
use Rattle.model_rosters.specs.SoundInstance.{IsGroup}
use Rattle.model_rosters.proofs.EachLemmas.{Each-append, Each-get, each_all}
use Rattle.text_lines.proofs.ListLemmas.{same_number}
use Rattle.text_lines.proofs.WordLemmas.{the_bytes}
use Rattle.text_demand_lines.specs.declared.draft.Bound.{Bound}
use Rattle.text_demand_lines.specs.declared.draft.Need as draft
use Rattle.text_demand_lines.specs.Teams.{most_heads}
use Rattle.text_demand.specs.Drafts.{AreApart, AreBounds, AreCounts, AreHeads, IsDraft, IsNeed}
use Rattle.plan_meaning.specs.declared.forecast.Column.{Column}
use Rattle.plan_meaning.specs.declared.forecast.Forecast.{Forecast}
use Rattle.plan_meaning.specs.declared.plan.Need as plan
use Rattle.plan_meaning.specs.declared.plan.Plan.{Plan}
use Rattle.plan_meaning.specs.declared.plan.Staff.{Staff}
use Rattle.plan_meaning.specs.Rosters.{asked, number_at, numbers_from, step_at}
use Rattle.plan_meaning.specs.Times.{periods}
use Rattle.plan_forecast.specs.Sound.{AreSmall, IsSmallColumn}
use Rattle.plan_demand.specs.declared.side.Side.{Side}
use Rattle.plan_demand.specs.declared.side.Side.TheVariants.{Least, Most}
use Rattle.plan_demand.specs.Demands.{IsSmallNeed, bound_of, bounds_by, code_place, draft_of, free, group_of, groups_by, heads_by, name_place, need_of, needs_by, side_of}
use Rattle.plan_demand.specs.Premises.{AreNamedApart, AreNeedsApart, IsDemandPlan, IsStaffed}

-- ---- counts

count_small : (ns : List ℕ) (place other : ℕ) → AreSmall ns → other ≤ 64 → get_or ns place other ≤ 64
count_small [] place other h o = o
count_small (n ∷ ns) zero other h o = h.0
count_small (n ∷ ns) (suc place) other h o = count_small ns place other h.1 o

counts_small : (p : Plan) (f : Forecast) (ns : List ℕ) (other n k : ℕ) → AreSmall ns → other ≤ 64
    → AreCounts (map (λ (passed : ℕ). number_at (Some ns) other (step_at p f passed)) (numbers_from n k))
counts_small p f ns other n zero h o = tt
counts_small p f ns other n (suc k) h o = (count_small ns (step_at p f n) other h o, counts_small p f ns other (n + 1) k h o)

many : (g : ℕ → ℕ) (n k : ℕ) → length (map g (numbers_from n k)) ≡ k
many g n zero = refl
many g n (suc k) = ap suc (many g (n + 1) k)

-- ---- needs

module _ (g : Grammar) (p : Plan) (f : Forecast) (same : g.periods ≡ periods p) where
  need_is : (n : plan.Need) (c : Column) → IsSmallNeed p n → IsWork g (code_place g n.code) → IsSmallColumn c → IsNeed g (need_of g p f (record { need = n; column = c }))
  need_is n c small work column = record {
    work = work;
    under = small.missing;
    over = small.needless;
    whole = many (λ (passed : ℕ). number_at (Some c.need) 0 (step_at p f passed)) 0 (periods p) ∙ sym same;
    counts = counts_small p f c.need 0 0 (periods p) column.need (omega arith);
  }

  needs_are : (ns : List plan.Need) (cs : List Column) → Each (IsSmallNeed p) ns → Each (λ (n : plan.Need). IsWork g (code_place g n.code)) ns → Each IsSmallColumn cs
      → Each (IsNeed g) (needs_by g p f (asked ns cs))
  needs_are [] cs small work columns = tt
  needs_are (n ∷ ns) [] small work columns = tt
  needs_are (n ∷ ns) (c ∷ cs) small work columns =
      (need_is n c small.0 work.0 columns.0, needs_are ns cs small.1 work.1 columns.1)

  -- codes that stand at one place are one
  same_code : (a b : ℕ) → IsWork g (code_place g a) → code_place g b ≡ code_place g a → b ≡ a
  same_code a b work at =
      let none : CodeDef = work.0 in
      let within : code_place g a < length g.codes = slice_get_within g.codes (code_place g a) work.0 work.1 in
      let first : nat_eq (get_or g.codes (code_place g a) none).byte a ≡ true = passes_at_first (λ (d : CodeDef). nat_eq d.byte a) g.codes none within in
      let other : nat_eq (get_or g.codes (code_place g b) none).byte b ≡ true = passes_at_first (λ (d : CodeDef). nat_eq d.byte b) g.codes none (omega (arith, within, at)) in
      let there : (get_or g.codes (code_place g b) none).byte ≡ (get_or g.codes (code_place g a) none).byte = ap (λ (k : ℕ). (get_or g.codes k none).byte) at in
      sym (same_number _ _ other) ∙ there ∙ same_number _ _ first

  apart_from : (n : plan.Need) (ns : List plan.Need) (cs : List Column) (c : Column) → IsWork g (code_place g n.code) → Each (λ (m : plan.Need). m.code ≢ n.code) ns
      → Each (λ (m : draft.Need). m.code ≢ code_place g n.code) (needs_by g p f (asked ns cs))
  apart_from n [] cs c work h = tt
  apart_from n (m ∷ ns) [] c work h = tt
  apart_from n (m ∷ ns) (d ∷ cs) c work h =
      ((λ e. h.0 (same_code n.code m.code work e)), apart_from n ns cs c work h.1)

  needs_apart : (ns : List plan.Need) (cs : List Column) → Each (λ (n : plan.Need). IsWork g (code_place g n.code)) ns → AreNeedsApart ns → AreApart (needs_by g p f (asked ns cs))
  needs_apart [] cs work h = tt
  needs_apart (n ∷ ns) [] work h = tt
  needs_apart (n ∷ ns) (c ∷ cs) work h = (apart_from n ns cs c work.0 h.0, needs_apart ns cs work.1 h.1)

  bound_is : (side : Side) (code : ℕ) (o : Option (List ℕ)) → IfSome o AreSmall → AreBounds (bound_of g p f side code o)
  bound_is side code None h = tt
  bound_is side code (Some ns) h = (counts_small p f ns (free side) 0 (periods p) h (few side), tt)
    where
      few : (s : Side) → free s ≤ 64
      few Least = omega arith
      few Most = omega arith

  side_small : (side : Side) (c : Column) → IsSmallColumn c → IfSome (side_of side c) AreSmall
  side_small Least c h = h.least
  side_small Most c h = h.most

  bounds_are : (side : Side) (ns : List plan.Need) (cs : List Column) → Each IsSmallColumn cs → AreBounds (bounds_by g p f side (asked ns cs))
  bounds_are side [] cs h = tt
  bounds_are side (n ∷ ns) [] h = tt
  bounds_are side (n ∷ ns) (c ∷ cs) h =
      Each-append (λ (b : Bound). AreCounts b.counts) (bound_of g p f side n.code (side_of side c)) (bounds_by g p f side (asked ns cs))
      (bound_is side n.code (side_of side c) (side_small side c h.0)) (bounds_are side ns cs h.1)

-- ---- employees

heads_are : (g : Grammar) (ss : List Staff) → Each (IsStaffed g) ss → IfSome (heads_by ss) AreHeads
heads_are g [] h = tt
heads_are g (s ∷ ss) h = by s.name
  where
    by : (o : Option (List ℕ)) → IfSome (elim o [ None ↦ Some (record { least = s.least; most = s.greatest }) | Some name ↦ None ]) AreHeads
    by None = record { order = h.0.order; some = h.0.some; few = h.0.few }
    by (Some name) = tt

groups_are : (g : Grammar) (ss : List Staff) → Each (IsStaffed g) ss → Each (IsGroup (length g.names)) (groups_by g ss)
groups_are g [] h = tt
groups_are g (s ∷ ss) h =
    Each-append (IsGroup (length g.names)) (group_of g s s.name) (groups_by g ss) (by s.name h.0.name) (groups_are g ss h.1)
  where
    by : (o : Option (List ℕ)) → IfSome o (λ (name : List ℕ). name_place g name < length g.names) → Each (IsGroup (length g.names)) (group_of g s o)
    by None k = tt
    by (Some name) k = (record { name = k; order = h.0.order; some = h.0.some }, tt)

few_groups : (g : Grammar) (ss : List Staff) → length (groups_by g ss) ≤ length ss
few_groups g [] = omega arith
few_groups g (s ∷ ss) = by s.name (few_groups g ss)
  where
    by : (o : Option (List ℕ)) → length (groups_by g ss) ≤ length ss → length (group_of g s o ++ groups_by g ss) ≤ suc (length ss)
    by None h = omega (arith, h)
    by (Some name) h = omega (arith, h)

few_heads : (g : Grammar) (ss : List Staff) → most_heads (groups_by g ss) ≤ sum_n (λ (s : Staff). s.greatest) ss
few_heads g [] = omega arith
few_heads g (s ∷ ss) = by s.name (few_heads g ss)
  where
    by : (o : Option (List ℕ)) → most_heads (groups_by g ss) ≤ sum_n (λ (t : Staff). t.greatest) ss
        → most_heads (group_of g s o ++ groups_by g ss) ≤ s.greatest + sum_n (λ (t : Staff). t.greatest) ss
    by None h = omega (arith, h)
    by (Some name) h = omega (arith, h)

-- names that stand at one place are one
same_name : (g : Grammar) (a b : List ℕ) → name_place g a < length g.names → name_place g b ≡ name_place g a → a ≡ b
same_name g a b within at =
    let first : bytes_eq a (get_or g.names (name_place g a) []) ≡ true = passes_at_first (bytes_eq a) g.names [] within in
    let other : bytes_eq b (get_or g.names (name_place g b) []) ≡ true = passes_at_first (bytes_eq b) g.names [] (omega (arith, within, at)) in
    the_bytes _ _ first ∙ ap (λ (k : ℕ). get_or g.names k []) (sym at) ∙ sym (the_bytes _ _ other)

abbrev Others : ℕ → List Group → Type 0
Others name gs = Each (λ (h : Group). name ≢ h.name) gs

abbrev GroupsApart : List Group → Type 0
GroupsApart [] = Unit {0}
GroupsApart (x ∷ xs) = Others x.name xs × GroupsApart xs

others_differ : (g : Grammar) (a : List ℕ) (ss : List Staff) → name_place g a < length g.names → Each (λ (t : Staff). IfSome t.name (λ (b : List ℕ). a ≢ b)) ss → Others (name_place g a) (groups_by g ss)
others_differ g a [] within h = tt
others_differ g a (t ∷ ss) within h =
    Each-append (λ (x : Group). name_place g a ≢ x.name) (group_of g t t.name) (groups_by g ss) (by t.name h.0) (others_differ g a ss within h.1)
  where
    by : (o : Option (List ℕ)) → IfSome o (λ (b : List ℕ). a ≢ b) → Others (name_place g a) (group_of g t o)
    by None k = tt
    by (Some b) k = ((λ e. k (same_name g a b within (sym e))), tt)

all_apart : (g : Grammar) (ss : List Staff) → Each (IsStaffed g) ss → AreNamedApart ss → GroupsApart (groups_by g ss)
all_apart g [] h k = tt
all_apart g (s ∷ ss) h k = by s.name h.0.name k.0 (all_apart g ss h.1 k.1)
  where
    by : (o : Option (List ℕ)) → IfSome o (λ (name : List ℕ). name_place g name < length g.names)
        → Each (λ (t : Staff). IfSome o (λ (a : List ℕ). IfSome t.name (λ (b : List ℕ). a ≢ b))) ss → GroupsApart (groups_by g ss) → GroupsApart (group_of g s o ++ groups_by g ss)
    by None l e rest = rest
    by (Some a) l e rest = (others_differ g a ss l e, rest)

apart_at : (gs : List Group) → GroupsApart gs → (i j : ℕ) (a b : Group) → i < j → slice_get gs i ≡ Some a → slice_get gs j ≡ Some b → a.name ≢ b.name
apart_at [] h i j a b lt ei ej = absurd cc
apart_at (x ∷ xs) h i zero a b lt ei ej = absurd (omega (arith, lt))
apart_at (x ∷ xs) h zero (suc j) a b lt ei ej =
    let same : x ≡ a = cc in
    λ e. Each-get (λ (y : Group). x.name ≢ y.name) xs j b h.0 ej (ap (λ (y : Group). y.name) same ∙ e)
apart_at (x ∷ xs) h (suc i) (suc j) a b lt ei ej = apart_at xs h.1 i j a b (omega (arith, lt)) ei ej

-- ---- the draft

pub draft_is : (g : Grammar) (p : Plan) (f : Forecast) → IsDemandPlan g p f → IsDraft g (draft_of g p f)
draft_is g p f d = record {
  heads = heads_are g p.staff d.staff;
  groups = record {
    few = omega (arith, few_groups g p.staff, d.few);
    each = each_all (IsGroup (length g.names)) (groups_by g p.staff) (groups_are g p.staff d.staff);
    apart = apart_at (groups_by g p.staff) (all_apart g p.staff d.staff d.names);
  };
  few = omega (arith, few_heads g p.staff, d.together);
  needs = needs_are g p f d.periods p.needs f.columns d.small d.work d.columns;
  apart = needs_apart g p f d.periods p.needs f.columns d.work d.apart;
  least = bounds_are g p f d.periods Least p.needs f.columns d.columns;
  most = bounds_are g p f d.periods Most p.needs f.columns d.columns;
}
