-- The lines of an instance are lines of words, and short.
use Rattle.std.proofs.Common.{◌≡◌, ℕ, ◌*◌, ◌<◌, ◌≤◌, Bool, true, false, cond, List, [], ◌∷◌, length, map, refl, sym, ap, arith, length-append, subst}
use Rattle.std.specs.Prelude.{codes}
use Rattle.std.specs.List.{list_all}
use Rattle.std.specs.Fmt.{decimal}
use Rattle.std.proofs.lemmas.Bool.{and_from, lt-ltb}
use Rattle.std.proofs.lemmas.List.{length-map}
use Rattle.std.proofs.lemmas.Option.{slice_get_within}
use Rattle.text_lines.proofs.WordLemmas.{IsFine, code_byte_fine, name_fine, number_fine, literal, words_written, spaced_short}
use Rattle.text_lines.specs.Written.{are_written, spaced, written}
use Rattle.text_lines.specs.Names.{name_of}
use Rattle.model_rosters.specs.declared.grammar.Grammar.{Grammar}
use Rattle.model_rosters.specs.declared.instance.Group.{Group}
use Rattle.model_rosters.specs.Demands.{Demand, IsDemand, demand_cells}
use Rattle.model_rosters.specs.Folds.{Each}
use Rattle.model_rosters.specs.Names.{is_name}
use Rattle.model_rosters.specs.Sound.{AreCodes}
use Rattle.model_rosters.proofs.EachLemmas.{Each-append}
use Rattle.text_demand.specs.declared.number_of.NumberOf.{NumberOf}
use Rattle.text_demand.specs.declared.number_of.NumberOf.TheVariants.{Need, Floor, Ceiling}
use Rattle.text_demand.specs.Drafts.{AreCounts}
use Rattle.text_demand.specs.Written.{code_byte, heads_line, group_line, numbers_of, are_all, need_line, bound_lines, code_lines, demand_lines}
use Rattle.text_demand.proofs.FieldsAgain.{asked, numbers_are}
use Rattle.text_demand.proofs.NeedsAgain.{counts_within, shape}

-- lines

pub record IsFineLine (l : List (List ℕ)) : Type 0 where
  some : 0 < length l
  few : length l ≤ 100
  words : Each IsFine l

pub heads_fine : (least most : ℕ) → least ≤ 64 → most ≤ 64 → IsFineLine (heads_line least most)
heads_fine least most a b = record { some = omega arith; few = omega arith; words = (literal (codes "heads") refl refl, (number_fine least (omega arith), (number_fine most (omega arith), tt))) }

pub group_fine : (ns : List (List ℕ)) (g : Group) → is_name (name_of ns g.name) ≡ true → g.heads_min ≤ 64 → g.heads_max ≤ 64 → IsFineLine (group_line ns g)
group_fine ns g e a b = record { some = omega arith; few = omega arith; words = (literal (codes "group") refl refl, (name_fine _ e, (number_fine g.heads_min (omega arith), (number_fine g.heads_max (omega arith), tt)))) }

numbers_fine : (ns : List ℕ) → AreCounts ns → Each IsFine (map decimal ns)
numbers_fine [] h = tt
numbers_fine (n ∷ ns) h = (number_fine n (omega (arith, h.0)), numbers_fine ns h.1)

module _ (g : Grammar) (s : AreCodes g.codes) (some : 1 ≤ g.periods) (few : g.periods ≤ 96) where
  module _ (e : Demand) (h : IsDemand g e) where
    code_fine : IsFine (code_byte g.codes e.code ∷ [])
    code_fine =
        let lt : e.code < length g.codes = slice_get_within g.codes e.code h.work.0 h.work.1 in
        record { written = and_from _ _ refl (and_from _ _ (code_byte_fine (code_byte g.codes e.code) (s.bytes e.code (record { byte = 0; work = false }) lt)) refl); short = omega arith }

    all_numbers : (which : NumberOf) → Each IsFine (numbers_of which (demand_cells e))
    all_numbers which = rw (numbers_are which e 1 e.periods) (numbers_fine (map (asked which) e.periods) (counts_within which e.periods h.each))

    count : (which : NumberOf) → length (numbers_of which (demand_cells e)) ≤ 96
    count which = omega (arith, ap length (numbers_are which e 1 e.periods), length-map (map (asked which) e.periods) decimal, length-map e.periods (asked which), h.whole)

    need_fine : IsFineLine (need_line (code_byte g.codes e.code) e.under e.over (demand_cells e))
    need_fine = record {
      some = omega arith;
      few = omega (arith, count Need);
      words = (literal (codes "need") refl refl, (code_fine, (number_fine e.under h.under, (number_fine e.over h.over, all_numbers Need))));
    }

    bound_fine : (w : List ℕ) (which : NumberOf) (free : ℕ) → IsFine w → Each IsFineLine (bound_lines w (code_byte g.codes e.code) which free (demand_cells e))
    bound_fine w which free f = by (are_all which free (demand_cells e))
      where
        by : (t : Bool) → Each IsFineLine (cond t [] ((w ∷ (code_byte g.codes e.code ∷ []) ∷ numbers_of which (demand_cells e)) ∷ []))
        by true = tt
        by false = (record { some = omega arith; few = omega (arith, count which); words = (f, (code_fine, all_numbers which)) }, tt)

    bound_few : (w : List ℕ) (which : NumberOf) (free : ℕ) → length (bound_lines w (code_byte g.codes e.code) which free (demand_cells e)) ≤ 1
    bound_few w which free = by (are_all which free (demand_cells e))
      where
        by : (t : Bool) → length (cond t [] ((w ∷ (code_byte g.codes e.code ∷ []) ∷ numbers_of which (demand_cells e)) ∷ [])) ≤ 1
        by true = omega arith
        by false = omega arith

    lines_fine : Each IsFineLine (code_lines g.codes (demand_cells e))
    lines_fine =
        let P : List (List (List ℕ)) → Type 0 = λ ls. Each IsFineLine ls in
        subst P (sym (shape g.codes e (omega (arith, h.whole)))) (need_fine, Each-append IsFineLine _ _ (bound_fine (codes "least") Floor 0 (literal (codes "least") refl refl)) (bound_fine (codes "most") Ceiling 64 (literal (codes "most") refl refl)))

    lines_few : length (code_lines g.codes (demand_cells e)) ≤ 3
    lines_few =
        let l : List (List (List ℕ)) = bound_lines (codes "least") (code_byte g.codes e.code) Floor 0 (demand_cells e) in
        let m : List (List (List ℕ)) = bound_lines (codes "most") (code_byte g.codes e.code) Ceiling 64 (demand_cells e) in
        omega (arith, ap length (shape g.codes e (omega (arith, h.whole))), length-append l m, bound_few (codes "least") Floor 0, bound_few (codes "most") Ceiling 64)

  pub demands_fine : (ds : List Demand) → Each (IsDemand g) ds → Each IsFineLine (demand_lines g.codes ds)
  demands_fine [] h = tt
  demands_fine (e ∷ ds) h = Each-append IsFineLine (code_lines g.codes (demand_cells e)) (demand_lines g.codes ds) (lines_fine e h.0) (demands_fine ds h.1)

  pub demands_few : (ds : List Demand) → Each (IsDemand g) ds → length (demand_lines g.codes ds) ≤ 3 * length ds
  demands_few [] h = omega arith
  demands_few (e ∷ ds) h = omega (arith, length-append (code_lines g.codes (demand_cells e)) (demand_lines g.codes ds), lines_few e h.0, demands_few ds h.1)

-- what fine lines are

line_written : (l : List (List ℕ)) → IsFineLine l → are_written l ≡ true
line_written l h = and_from _ _ (lt-ltb 0 _ h.some) (words_written l h.words)

pub lines_written : (ls : List (List (List ℕ))) → Each IsFineLine ls → list_all are_written ls ≡ true
lines_written [] h = refl
lines_written (l ∷ ls) h = and_from _ _ (line_written l h.0) (lines_written ls h.1)

pub lines_short : (ls : List (List (List ℕ))) → Each IsFineLine ls → length (written ls) ≤ 3301 * length ls
lines_short [] h = omega arith
lines_short (l ∷ ls) h =
    omega (arith, length-append (spaced l) (10 ∷ written ls), spaced_short l h.0.words, h.0.few, lines_short ls h.1)
