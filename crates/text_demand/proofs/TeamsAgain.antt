-- The heads line and the group lines that were written are read again.
use Rattle.std.proofs.Common.{◌≡◌, ℕ, ◌+◌, ◌-◌, ◌<◌, ◌≤◌, false, List, [], ◌∷◌, ◌++◌, length, get_or, map, Some, Ok, refl, sym, ap, ◌∙◌, arith, eqb, append_assoc, append-nil, length-append, subst}
use Rattle.std.proofs.lemmas.Bool.{lt-leb, ne_eqb}
use Rattle.std.proofs.lemmas.List.{get_or_append_left}
use Rattle.std.proofs.lemmas.List.Folds.{list_any_none}
use Rattle.std.proofs.lemmas.Option.{slice_get-get_or}
use Rattle.std.proofs.Math.Seq.{get_or-append_seam}
use Rattle.text_lines.specs.Written.{numbered}
use Rattle.model_rosters.specs.declared.grammar.Grammar.{Grammar}
use Rattle.model_rosters.specs.declared.instance.Group.{Group}
use Rattle.model_rosters.specs.Sound.{IsSound}
use Rattle.model_rosters.specs.SoundInstance.{IsGroup, AreGroups}
use Rattle.text_demand_lines.specs.declared.draft.Draft.{Draft}
use Rattle.text_demand_lines.specs.declared.draft.Heads.{Heads}
use Rattle.text_demand_lines.specs.Teams.{has_group, most_heads, heads_at, group_of, group_at}
use Rattle.text_demand_lines.specs.Steps.{each}
use Rattle.text_demand.specs.Lines.{line_at, item_at}
use Rattle.text_demand.specs.Drafts.{AreHeads}
use Rattle.text_demand.specs.InstanceOf.{no_draft}
use Rattle.text_demand.specs.Written.{heads_line, group_line}
use Rattle.text_demand.proofs.FieldsAgain.{name_again, range_again}
use Rattle.text_lines.proofs.StepsLemmas.{ok}
use Rattle.text_lines.specs.Names.{name_of}

pub heads_again : (k : ℕ) (g : Grammar) (h : Heads) → AreHeads h → line_at k g no_draft (heads_line h.least h.most) ≡ Ok (record no_draft { heads = Some h })
unfolding line_at heads_at
heads_again k g h s = rw (range_again k 64 h.least h.most (omega (arith, s.order, s.few)) s.order s.some s.few (omega arith)) refl

abbrev pub grouped : List Group → Draft
grouped gs = record no_draft { groups = gs }

abbrev no_group : Group
no_group = record { name = 0; heads_min = 0; heads_max = 0 }

-- what a group is after the groups before
record IsNext (names : ℕ) (done : List Group) (x : Group) : Type 0 where
  few : length done < 8
  new : has_group done x.name ≡ false
  is : IsGroup names x
  room : x.heads_max ≤ 64 - most_heads done

most-append : (xs ys : List Group) → most_heads (xs ++ ys) ≡ most_heads xs + most_heads ys
most-append [] ys = omega arith
most-append (x ∷ xs) ys = omega (arith, most-append xs ys)

is_next : (names : ℕ) (done : List Group) (x : Group) (xs : List Group) → AreGroups names (done ++ x ∷ xs) → most_heads (done ++ x ∷ xs) ≤ 64 → IsNext names done x
is_next names done x xs s le =
    let len : length (done ++ x ∷ xs) ≡ length done + length (x ∷ xs) = length-append done (x ∷ xs) in
    let here : get_or (done ++ x ∷ xs) (length done) no_group ≡ x = get_or-append_seam done x xs no_group in
    let sums : most_heads (done ++ x ∷ xs) ≡ most_heads done + most_heads (x ∷ xs) = most-append done (x ∷ xs) in
    record {
      few = omega (arith, len, s.few);
      new = list_any_none (λ (y : Group). eqb y.name x.name) done (λ i d lt. ne_eqb _ _ (λ same.
          let before : get_or (done ++ x ∷ xs) i d ≡ get_or done i d = get_or_append_left done (x ∷ xs) d i lt in
          s.apart i (length done) (get_or done i d) x lt (slice_get-get_or (done ++ x ∷ xs) i d (omega (arith, len)) ∙ ap (λ (y : Group). Some y) before)
          (slice_get-get_or (done ++ x ∷ xs) (length done) no_group (omega (arith, len)) ∙ ap (λ (y : Group). Some y) here) same));
      is = subst (λ (y : Group). IsGroup names y) here (s.each (length done) no_group (omega (arith, len)));
      room = omega (arith, sums, le);
    }

group_again : (k : ℕ) (g : Grammar) (names : List (List ℕ)) (done : List Group) (x : Group) → IsSound g → IsNext (length g.names) done x → name_of names x.name ≡ name_of g.names x.name
    → line_at k g (grouped done) (group_line names x) ≡ Ok (grouped (done ++ x ∷ []))
unfolding line_at group_at group_of
group_again k g names done x s n same =
    rw (lt-leb 8 (length done) n.few, same, name_again k g x.name s n.is.name, n.new, range_again k (64 - most_heads done) x.heads_min x.heads_max (omega (arith, n.is.order, n.room)) n.is.order n.is.some n.room (omega arith)) refl

pub groups_again : (k : ℕ) (g : Grammar) (names : List (List ℕ)) (done gs : List Group) → IsSound g → ((x : ℕ) → x < length g.names → name_of names x ≡ name_of g.names x)
    → AreGroups (length g.names) (done ++ gs) → most_heads (done ++ gs) ≤ 64
    → each (item_at g) (grouped done) (numbered k (map (group_line names) gs)) ≡ Ok (grouped (done ++ gs))
groups_again k g names done [] s same are le = rw (append-nil done) refl
groups_again k g names done (x ∷ gs) s same are le =
    let n = is_next (length g.names) done x gs are le in
    let step = group_again k g names done x s n (same x.name n.is.name) in
    let joined : (done ++ x ∷ []) ++ gs ≡ done ++ x ∷ gs = append_assoc done (x ∷ []) gs in
    let more = groups_again (k + 1) g names (done ++ x ∷ []) gs s same (subst (AreGroups (length g.names)) (sym joined) are) (omega (arith, ap most_heads joined, le)) in
    rw step (more ∙ ap (λ (l : List Group). ok (grouped l)) joined)
