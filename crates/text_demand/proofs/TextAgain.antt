-- An instance that was written is read again.
use Rattle.std.proofs.Common.{◌≡◌, ℕ, ◌+◌, ◌<◌, ◌≤◌, true, false, List, [], ◌∷◌, ◌++◌, length, map, Some, Ok, refl, sym, ap, ◌∙◌, arith, inl, inr, not, eqb, ltb, length-append, subst}
use Rattle.std.specs.Prelude.{All, slice_get}
use Rattle.std.specs.List.{list_all}
use Rattle.std.proofs.lemmas.Bool.{le-ltb}
use Rattle.std.proofs.lemmas.List.{length-map, get_or_append_left}
use Rattle.std.proofs.lemmas.List.Elements.{All-head, All-tail}
use Rattle.std.proofs.lemmas.Option.{slice_get-get_or}
use Rattle.text_lines.specs.Lines.{rest_items, text_items}
use Rattle.text_lines.specs.Written.{written, numbered}
use Rattle.text_lines.proofs.WrittenAgain.{written_again}
use Rattle.model_rosters.specs.declared.grammar.Grammar.{Grammar}
use Rattle.model_rosters.specs.declared.grammar.CodeDef.{CodeDef}
use Rattle.model_rosters.specs.declared.instance.Cell.{Cell}
use Rattle.model_rosters.specs.declared.instance.Group.{Group}
use Rattle.model_rosters.specs.declared.instance.Instance.{Instance}
use Rattle.model_rosters.specs.Demands.{Demand, IsDemand, all_cells}
use Rattle.model_rosters.specs.Extension.{extended}
use Rattle.model_rosters.specs.Folds.{Each}
use Rattle.model_rosters.specs.Names.{is_name, added_name}
use Rattle.model_rosters.specs.Sound.{IsSound, IsPlain}
use Rattle.model_rosters.specs.SoundInstance.{IsGroup, AreGroups, HasGroups, IsSoundInstance}
use Rattle.model_rosters.proofs.SoundCells.{few_demands}
use Rattle.model_rosters.proofs.EachLemmas.{Each-append}
use Rattle.text_demand_lines.specs.declared.draft.Draft.{Draft}
use Rattle.text_demand_lines.specs.declared.draft.Heads.{Heads}
use Rattle.text_demand_lines.specs.Teams.{most_heads}
use Rattle.text_demand_lines.specs.Steps.{each}
use Rattle.text_demand.specs.Lines.{item_at}
use Rattle.text_demand.specs.Drafts.{AreHeads}
use Rattle.text_demand.specs.InstanceOf.{cells_of, least_heads, heads_of, day_grammar, made, finish, no_draft, draft_of, instance_of}
use Rattle.text_demand.specs.Written.{group_line, team_lines, demand_lines, AreDemandsOf, demand_text}
use Rattle.text_demand.proofs.CellsAgain.{all_again}
use Rattle.text_demand.proofs.CommentLines.{comment_line}
use Rattle.text_lines.proofs.WrittenLemmas.{parts_again}
use Rattle.text_demand.proofs.FineLines.{IsFineLine, heads_fine, group_fine, demands_fine, demands_few, lines_written, lines_short}
use Rattle.text_lines.proofs.StepsLemmas.{ok}
use Rattle.text_lines.specs.Names.{name_of}
use Rattle.text_demand.proofs.NeedsAgain.{after, demands_again, none_new}
use Rattle.text_demand.proofs.TeamsAgain.{heads_again, grouped, groups_again}

-- a plain grammar's names are spelled
spelled : (g : Grammar) → IsSound g → IsPlain g → (x : ℕ) → x < length g.names → is_name (name_of g.names x) ≡ true
spelled g s p x lt = elim (s.names.each x (name_of g.names x) (slice_get-get_or g.names x [] lt)) [
  | inl h ↦ h
  | inr h ↦ absurd (p.spelled x [] lt h.0)
]

each_within : (gs : List Group) (names : ℕ) → All (IsGroup names) gs → most_heads gs ≤ 64 → Each (λ (x : Group). (x.name < names) × (x.heads_min ≤ 64) × (x.heads_max ≤ 64)) gs
each_within [] names h le = tt
each_within (x ∷ xs) names h le =
    let first = All-head (IsGroup names) x xs h in (
      (first.name, omega (arith, first.order, le), omega (arith, le)),
      each_within xs names (All-tail (IsGroup names) x xs h) (omega (arith, le)),
    )

-- what the written lines of the teams make, from line number k on
record AreTeams (g : Grammar) (i : Instance) (k : ℕ) : Type 0 where
  draft : Draft
  read : each (item_at g) no_draft (numbered k (team_lines i i.groups)) ≡ Ok draft
  no_needs : draft.needs ≡ []
  no_least : draft.least ≡ []
  no_most : draft.most ≡ []
  groups : draft.groups ≡ i.groups
  heads : heads_of draft.heads i.groups ≡ Ok (record { least = i.heads_min; most = i.heads_max })
  fine : Each IsFineLine (team_lines i i.groups)
  few : length (team_lines i i.groups) ≤ 8

module _ (g : Grammar) (s : IsSound g) (p : IsPlain g) (k : ℕ) where
  lone_team : (i : Instance) → i.groups ≡ [] → IsSoundInstance i → AreTeams g i k
  lone_team i none h =
      let heads : Heads = record { least = i.heads_min; most = i.heads_max } in
      let are : AreHeads heads = record { order = h.order; some = h.some; few = h.few } in
      record {
        draft = record no_draft { heads = Some heads };
        read = rw (none, heads_again k g heads are) refl;
        no_needs = refl;
        no_least = refl;
        no_most = refl;
        groups = sym none;
        heads = rw none refl;
        fine = rw none (heads_fine i.heads_min i.heads_max (omega (arith, h.order, h.few)) h.few, tt);
        few = rw none (omega arith);
      }

  -- the names of the rules, seen among those of the extension
  same_name : (x : ℕ) → x < length g.names → name_of (g.names ++ added_name ∷ []) x ≡ name_of g.names x
  same_name x lt = get_or_append_left g.names (added_name ∷ []) [] x lt

  groups_fine : (names : List (List ℕ)) → ((x : ℕ) → x < length g.names → name_of names x ≡ name_of g.names x) → (gs : List Group)
      → Each (λ (x : Group). (x.name < length g.names) × (x.heads_min ≤ 64) × (x.heads_max ≤ 64)) gs → Each IsFineLine (map (group_line names) gs)
  groups_fine names same [] h = tt
  groups_fine names same (x ∷ xs) h =
      (group_fine names x (ap is_name (same x.name h.0.0) ∙ spelled g s p x.name h.0.0) h.0.1 h.0.2, groups_fine names same xs h.1)

  some_teams : (i : Instance) (x : Group) (xs : List Group) → i.groups ≡ x ∷ xs → i.grammar ≡ extended g (x ∷ xs) → AreGroups (length g.names) (x ∷ xs)
      → i.heads_min ≡ least_heads (x ∷ xs) → i.heads_max ≡ most_heads (x ∷ xs) → i.heads_max ≤ 64 → AreTeams g i k
  some_teams i x xs e eg are least most le =
      let names : i.grammar.names ≡ g.names ++ added_name ∷ [] = ap (λ (a : Grammar). a.names) eg in
      let few : most_heads (x ∷ xs) ≤ 64 = omega (arith, most, le) in
      let spelled_names : List (List ℕ) = g.names ++ added_name ∷ [] in
      let lines : team_lines i i.groups ≡ map (group_line spelled_names) (x ∷ xs) = ap (team_lines i) e ∙ ap (λ (ns : List (List ℕ)). map (group_line ns) (x ∷ xs)) names in
      record {
        draft = grouped (x ∷ xs);
        read = ap (λ (ls : List (List (List ℕ))). each (item_at g) no_draft (numbered k ls)) lines ∙ groups_again k g spelled_names [] (x ∷ xs) s same_name are few;
        no_needs = refl;
        no_least = refl;
        no_most = refl;
        groups = sym e;
        heads = rw (e, least, most) refl;
        fine = subst (Each IsFineLine) (sym lines) (groups_fine spelled_names same_name (x ∷ xs) (each_within (x ∷ xs) (length g.names) are.each few));
        few = omega (arith, ap length lines, length-map (x ∷ xs) (group_line spelled_names), are.few);
      }

  teams_again : (i : Instance) → i.grammar ≡ day_grammar g i.groups → IsSoundInstance i → AreTeams g i k
  teams_again i eg h = by i.groups refl eg h.groups
    where
      by : (gs : List Group) → i.groups ≡ gs → i.grammar ≡ day_grammar g gs → HasGroups i gs → AreTeams g i k
      by [] e d has = lone_team i e h
      by (x ∷ xs) e d has =
          let b : Grammar = has.0 in
          let start : i.grammar.start ≡ length b.names = ap (λ (a : Grammar). a.start) has.1.grammar in
          let own : i.grammar.start ≡ length g.names = ap (λ (a : Grammar). a.start) d in
          let n : length b.names ≡ length g.names = omega (arith, start, own) in
          let Are : ℕ → Type 0 = λ m. AreGroups m (x ∷ xs) in
          let of_b : AreGroups (length b.names) (x ∷ xs) = subst (λ (gs : List Group). AreGroups (length b.names) gs) e has.1.groups in
          some_teams i x xs e d (subst Are n of_b) (has.1.least ∙ ap least_heads e) (has.1.most ∙ ap most_heads e) h.few

  day_codes : (gs : List Group) → (day_grammar g gs).codes ≡ g.codes
  day_codes [] = refl
  day_codes (x ∷ xs) = refl

  day_periods : (gs : List Group) → (day_grammar g gs).periods ≡ g.periods
  day_periods [] = refl
  day_periods (x ∷ xs) = refl

  own_demands : (a : Grammar) (ds : List Demand) → a.codes ≡ g.codes → a.periods ≡ g.periods → Each (IsDemand a) ds → Each (IsDemand g) ds
  own_demands a [] c n h = tt
  own_demands a (d ∷ ds) c n h = (
    record {
      work = (h.0.work.0, ap (λ (cs : List CodeDef). slice_get cs d.code) (sym c) ∙ h.0.work.1, h.0.work.2);
      under = h.0.under;
      over = h.0.over;
      whole = h.0.whole ∙ n;
      each = h.0.each;
    },
    own_demands a ds c n h.1,
  )

  made_again : (i : Instance) (ds : List Demand) (t : AreTeams g i k) → i.grammar ≡ day_grammar g i.groups → AreDemandsOf i ds → finish g (after t.draft ds) ≡ Ok i
  unfolding finish
  made_again i ds t eg are =
      let h : Heads = record { least = i.heads_min; most = i.heads_max } in
      let heads : heads_of t.draft.heads t.draft.groups ≡ Ok h = ap (heads_of t.draft.heads) t.groups ∙ t.heads in
      let day : day_grammar g t.draft.groups ≡ i.grammar = ap (day_grammar g) t.groups ∙ sym eg in
      let cells : cells_of (after t.draft ds) ≡ i.cells = rw (t.no_needs, t.no_least, t.no_most) (ap all_cells (all_again ds are.once) ∙ sym are.made) in
      let Made : Grammar → List Group → List Cell → Instance = λ a b c. record { grammar = a; heads_min = i.heads_min; heads_max = i.heads_max; groups = b; cells = c } in
      let same : made g (after t.draft ds) h ≡ i =
      ap (λ (a : Grammar). Made a t.draft.groups (cells_of (after t.draft ds))) day ∙ ap (λ (b : List Group). Made i.grammar b (cells_of (after t.draft ds))) t.groups ∙ ap (Made i.grammar i.groups) cells in
      rw heads (ap (λ (x : Instance). ok x) same)

  -- what the written lines make, from line number k on
  record AreRead (i : Instance) (ds : List Demand) : Type 0 where
    draft : Draft
    read : each (item_at g) no_draft (rest_items k (demand_text i ds)) ≡ Ok draft
    done : finish g draft ≡ Ok i
    short : length (demand_text i ds) ≤ 1000000

  lines_again : (i : Instance) (ds : List Demand) → i.grammar ≡ day_grammar g i.groups → IsSoundInstance i → AreDemandsOf i ds → AreRead i ds
  lines_again i ds eg h are =
      let t = teams_again i eg h in
      let codes_same : i.grammar.codes ≡ g.codes = ap (λ (a : Grammar). a.codes) eg ∙ day_codes i.groups in
      let periods_same : i.grammar.periods ≡ g.periods = ap (λ (a : Grammar). a.periods) eg ∙ day_periods i.groups in
      let each_demand : Each (IsDemand g) ds = own_demands i.grammar ds codes_same periods_same are.each in
      let ts : List (List (List ℕ)) = team_lines i i.groups in
      let ms : List (List (List ℕ)) = demand_lines g.codes ds in
      let mine : demand_lines i.grammar.codes ds ≡ ms = ap (λ (cs : List CodeDef). demand_lines cs ds) codes_same in
      let text : demand_text i ds ≡ written (ts ++ ms) = ap (λ (l : List (List (List ℕ))). written (ts ++ l)) mine in
      let fine : Each IsFineLine (ts ++ ms) = Each-append IsFineLine ts ms t.fine (demands_fine g s.codes s.some_period s.few_periods ds each_demand) in
      let items : rest_items k (written (ts ++ ms)) ≡ numbered k (ts ++ ms) = written_again k (ts ++ ms) (lines_written (ts ++ ms) fine) in
      let second = demands_again g s.codes s.some_period (k + length ts) t.draft ds each_demand are.once (none_new g s.codes s.some_period t.draft ds t.no_needs t.no_least t.no_most) in
      let read : each (item_at g) no_draft (numbered k (ts ++ ms)) ≡ Ok (after t.draft ds) = parts_again (item_at g) no_draft t.draft (ok (after t.draft ds)) k ts ms t.read second in
      let small : length (written (ts ++ ms)) ≤ 1000000 = omega (arith, lines_short (ts ++ ms) fine, length-append ts ms, t.few, demands_few g s.codes s.some_period s.few_periods ds each_demand, few_demands g ds s.codes each_demand are.once) in
      record {
        draft = after t.draft ds;
        read = rw text (ap (each (item_at g) no_draft) items ∙ read);
        done = made_again i ds t eg are;
        short = rw text small;
      }

module _ (g : Grammar) (s : IsSound g) (p : IsPlain g) (i : Instance) (ds : List Demand) (eg : i.grammar ≡ day_grammar g i.groups) (h : IsSoundInstance i) (are : AreDemandsOf i ds) where
  pub text_again : instance_of g (demand_text i ds) ≡ Ok i
  unfolding instance_of
  text_again =
      let r = lines_again g s p 1 i ds eg h are in
      let few : ltb 1048576 (length (demand_text i ds)) ≡ false = le-ltb 1048576 (length (demand_text i ds)) (omega (arith, r.short)) in
      rw (few, r.read) r.done

  -- a line of a comment before the text counts for nothing
  pub text_behind : (comment : List ℕ) → length comment ≤ 1000 → list_all (λ b. not (eqb b 10)) comment ≡ true → instance_of g (35 ∷ comment ++ 10 ∷ demand_text i ds) ≡ Ok i
  unfolding instance_of
  text_behind comment short one =
      let text : List ℕ = 35 ∷ comment ++ 10 ∷ demand_text i ds in
      let r = lines_again g s p 2 i ds eg h are in
      let few : ltb 1048576 (length text) ≡ false = le-ltb 1048576 (length text) (omega (arith, r.short, short, length-append comment (10 ∷ demand_text i ds))) in
      let items : text_items text ≡ rest_items 2 (demand_text i ds) = comment_line 1 comment (demand_text i ds) one in
      let read : draft_of g text ≡ Ok r.draft = ap (each (item_at g) no_draft) items ∙ r.read in
      rw (few, read) r.done
