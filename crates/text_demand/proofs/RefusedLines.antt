-- The fault of a line carries the line's number.
use Rattle.std.proofs.Common.{◌≡◌, ℕ, ◌-◌, max, min, not, ◌&&◌, eqb, leb, ltb, List, [], ◌∷◌, ◌++◌, length, Option, Some, None, Result, Ok, Err, refl}
use Rattle.std.specs.Prelude.{codes, is_some, position, slice_index}
use Rattle.std.specs.Str.{bytes_eq}
use Rattle.text_lines.specs.Lines.{TextLine}
use Rattle.text_lines.specs.Refusals.{number_of}
use Rattle.text_lines.specs.declared.line.BadByte as bad
use Rattle.text_lines.proofs.RefusalsLemmas.{At, at_ok, at_err, at_cond, at_bind, refuse, demand, at_each, number_line}
use Rattle.text_lines.proofs.StepsLemmas.{ok}
use Rattle.model_rosters.specs.declared.grammar.CodeDef.{CodeDef}
use Rattle.model_rosters.specs.declared.grammar.Grammar.{Grammar}
use Rattle.model_rosters.specs.declared.instance.Group.{Group}
use Rattle.text_demand_lines.specs.declared.draft.Bound.{Bound}
use Rattle.text_demand_lines.specs.declared.draft.Draft.{Draft}
use Rattle.text_demand_lines.specs.declared.draft.Need.{Need}
use Rattle.text_demand_lines.specs.declared.fault.DemandFault.{DemandFault}
use Rattle.text_demand_lines.specs.declared.fault.DemandFault.TheVariants.{BadByte, BadNumber, OutOfRange, NotWork, NoName, WrongCount, UnknownLine, Twice, NoNeed, Mixed, TooManyGroups}
use Rattle.text_demand_lines.specs.FaultLine.{line_of}
use Rattle.text_demand_lines.specs.Fields.{number_at, found_or, work_at, name_at, range_at}
use Rattle.text_demand_lines.specs.Teams.{has_group, most_heads, heads_at, group_of, group_at}
use Rattle.text_demand.specs.Counts.{count_at, counts_at}
use Rattle.text_demand.specs.Lines.{has_need, has_bound, need_of, need_at, bound_at, line_at, item_at}

abbrev On : {A : Type 0} → ℕ → Result A DemandFault → Type 0
On k r = At line_of k r

number : (k low high : ℕ) (w : List ℕ) → On k (number_at k low high w)
number k low high w = number_line line_of k (BadNumber k) (OutOfRange k) refl refl low high w

found : (k : ℕ) (d : DemandFault) → line_of d ≡ Some k → (o : Option ℕ) → On k (found_or d o)
found k d e (Some c) = at_ok line_of k c
found k d e None = at_err line_of k d e

work_line : (k : ℕ) (defs : List CodeDef) (w : List ℕ) → On k (work_at k defs w)
unfolding work_at
work_line k defs w =
    refuse line_of k (not (eqb (length w) 1)) (NotWork k) _ refl (found k (NotWork k) refl (position (λ (d : CodeDef). d.work && eqb d.byte (slice_index w 0)) defs))

name_line : (k : ℕ) (names : List (List ℕ)) (w : List ℕ) → On k (name_at k names w)
unfolding name_at
name_line k names w = found k (NoName k) refl (position (λ (n : List ℕ). bytes_eq n w) names)

count_line : (k : ℕ) (counts : List ℕ) (w : List ℕ) → On k (count_at k counts w)
count_line k counts w = at_bind line_of k (number_at k 0 64 w) (λ (n : ℕ). ok (counts ++ n ∷ [])) (number k 0 64 w) (λ n. at_ok line_of k (counts ++ n ∷ []))

counts_line : (k periods : ℕ) (ws : List (List ℕ)) → On k (counts_at k periods ws)
unfolding counts_at
counts_line k periods ws =
    refuse line_of k (not (eqb (length ws) periods)) (WrongCount k (min (length ws) 4294967295)) _ refl (at_each line_of k (count_at k) (count_line k) [] ws)

range_line : (k limit : ℕ) (a b : List ℕ) → On k (range_at k limit a b)
unfolding range_at
range_line k limit a b =
    at_bind line_of k (number_at k 0 64 a) _ (number k 0 64 a) (λ low. at_bind line_of k (number_at k (max low 1) limit b) _ (number k (max low 1) limit b) (λ high. at_ok line_of k _))

heads_line : (k : ℕ) (d : Draft) (ws : List (List ℕ)) → On k (heads_at k d ws)
unfolding heads_at
heads_line k d [] = at_err line_of k (UnknownLine k) refl
heads_line k d (a ∷ []) = at_err line_of k (UnknownLine k) refl
heads_line k d (a ∷ b ∷ []) =
    refuse line_of k (ltb 0 (length d.groups)) (Mixed k) _ refl
    (at_bind line_of k (range_at k 64 a b) _ (range_line k 64 a b) (λ h. refuse line_of k (is_some d.heads) (Twice k) _ refl (at_ok line_of k _)))
heads_line k d (a ∷ b ∷ c ∷ ws) = at_err line_of k (UnknownLine k) refl

group_of_line : (k : ℕ) (g : Grammar) (groups : List Group) (name a b : List ℕ) → On k (group_of k g groups name a b)
unfolding group_of
group_of_line k g groups name a b =
    refuse line_of k (leb 8 (length groups)) (TooManyGroups k) _ refl
    (at_bind line_of k (name_at k g.names name) _ (name_line k g.names name) (λ x. refuse line_of k (has_group groups x) (Twice k) _ refl
    (at_bind line_of k (range_at k (64 - most_heads groups) a b) _ (range_line k (64 - most_heads groups) a b) (λ h. at_ok line_of k _))))

group_line : (k : ℕ) (g : Grammar) (d : Draft) (ws : List (List ℕ)) → On k (group_at k g d ws)
unfolding group_at
group_line k g d [] = at_err line_of k (UnknownLine k) refl
group_line k g d (n ∷ []) = at_err line_of k (UnknownLine k) refl
group_line k g d (n ∷ a ∷ []) = at_err line_of k (UnknownLine k) refl
group_line k g d (n ∷ a ∷ b ∷ []) =
    refuse line_of k (is_some d.heads) (Mixed k) _ refl
    (at_bind line_of k (group_of k g d.groups n a b) _ (group_of_line k g d.groups n a b) (λ gs. at_ok line_of k (record d { groups = gs })))
group_line k g d (n ∷ a ∷ b ∷ c ∷ ws) = at_err line_of k (UnknownLine k) refl

need_line : (k : ℕ) (g : Grammar) (needs : List Need) (ws : List (List ℕ)) → On k (need_at k g needs ws)
unfolding need_at need_of
need_line k g needs [] = at_err line_of k (UnknownLine k) refl
need_line k g needs (c ∷ []) = at_err line_of k (UnknownLine k) refl
need_line k g needs (c ∷ a ∷ []) = at_err line_of k (UnknownLine k) refl
need_line k g needs (c ∷ a ∷ b ∷ ws) =
    at_bind line_of k (work_at k g.codes c) _ (work_line k g.codes c) (λ x. refuse line_of k (has_need needs x) (Twice k) _ refl
    (at_bind line_of k (number_at k 0 10000 a) _ (number k 0 10000 a) (λ under.
    at_bind line_of k (number_at k 0 10000 b) _ (number k 0 10000 b) (λ over.
    at_bind line_of k (counts_at k g.periods ws) _ (counts_line k g.periods ws) (λ counts. at_ok line_of k _)))))

bound_line : (k : ℕ) (g : Grammar) (needs : List Need) (bounds : List Bound) (ws : List (List ℕ)) → On k (bound_at k g needs bounds ws)
unfolding bound_at
bound_line k g needs bounds [] = at_err line_of k (UnknownLine k) refl
bound_line k g needs bounds (c ∷ ws) =
    at_bind line_of k (work_at k g.codes c) _ (work_line k g.codes c) (λ x. refuse line_of k (not (has_need needs x)) (NoNeed k) _ refl
    (refuse line_of k (has_bound bounds x) (Twice k) _ refl
    (at_bind line_of k (counts_at k g.periods ws) _ (counts_line k g.periods ws) (λ counts. at_ok line_of k _))))

words_line : (k : ℕ) (g : Grammar) (d : Draft) (ws : List (List ℕ)) → On k (line_at k g d ws)
unfolding line_at
words_line k g d [] = at_err line_of k (UnknownLine k) refl
words_line k g d (w ∷ ws) =
    at_cond line_of k (bytes_eq w (codes "heads")) _ _ (heads_line k d ws)
    (at_cond line_of k (bytes_eq w (codes "group")) _ _ (group_line k g d ws)
    (at_cond line_of k (bytes_eq w (codes "need")) _ _ (at_bind line_of k (need_at k g d.needs ws) _ (need_line k g d.needs ws) (λ n. at_ok line_of k (record d { needs = n })))
    (at_cond line_of k (bytes_eq w (codes "least")) _ _ (at_bind line_of k (bound_at k g d.needs d.least ws) _ (bound_line k g d.needs d.least ws) (λ b. at_ok line_of k (record d { least = b })))
    (demand line_of k (bytes_eq w (codes "most")) (UnknownLine k) _ (at_bind line_of k (bound_at k g d.needs d.most ws) _ (bound_line k g d.needs d.most ws) (λ b. at_ok line_of k (record d { most = b }))) refl))))

pub item_line : (g : Grammar) (d : Draft) (item : Result TextLine bad.BadByte) → At line_of (number_of item) (item_at g d item)
item_line g d (Ok line) = words_line line.number g d line.words
item_line g d (Err b) = at_err line_of b.line (BadByte b.line) refl
