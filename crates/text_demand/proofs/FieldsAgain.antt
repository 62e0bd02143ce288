-- Words that were written are read again.
use Rattle.std.proofs.Common.{◌≡◌, ℕ, ◌+◌, ◌<◌, ◌≤◌, ◌&&◌, Bool, true, false, max, List, [], ◌∷◌, ◌++◌, length, get_or, map, Some, Ok, refl, sym, ap, ◌∙◌, arith, eqb, append_assoc, append-nil}
use Rattle.std.specs.Prelude.{position}
use Rattle.std.specs.Fmt.{decimal}
use Rattle.std.specs.Str.{bytes_eq}
use Rattle.std.proofs.lemmas.Bool.{and_from, eq-eqb, ne_eqb, false_from_ne_true}
use Rattle.std.proofs.lemmas.List.{length-map}
use Rattle.std.proofs.lemmas.List.Sums.{position_or_len_is}
use Rattle.std.proofs.lemmas.Option.{same_Some, slice_get_within, slice_get-get_or}
use Rattle.std.proofs.lemmas.Slice.Eq.{bytes_eq-Decides}
use Rattle.model_rosters.specs.declared.grammar.CodeDef.{CodeDef}
use Rattle.model_rosters.specs.declared.grammar.Grammar.{Grammar}
use Rattle.model_rosters.specs.Demands.{PeriodDemand, Demand, demand_cell, cells_from, IsWork}
use Rattle.model_rosters.specs.Sound.{AreCodes, IsSound}
use Rattle.text_demand_lines.specs.declared.fault.DemandFault.TheVariants.{BadNumber, OutOfRange}
use Rattle.text_demand_lines.specs.Fields.{work_at, name_at, range_at}
use Rattle.text_demand_lines.specs.Steps.{each}
use Rattle.text_demand.specs.Counts.{count_at, counts_at}
use Rattle.text_demand.specs.declared.number_of.NumberOf.{NumberOf}
use Rattle.text_demand.specs.declared.number_of.NumberOf.TheVariants.{Need, Floor, Ceiling}
use Rattle.text_demand.specs.Drafts.{AreCounts}
use Rattle.text_lines.proofs.FieldsLemmas.{number_at_again, position_at}
use Rattle.text_demand.specs.Written.{code_byte, number_of, numbers_of}
use Rattle.text_lines.proofs.StepsLemmas.{ok}
use Rattle.text_lines.specs.Names.{name_of}

second_false : (a b : Bool) → b ≡ false → (a && b) ≡ false
second_false true b e = e
second_false false b e = refl

abbrev no_code : CodeDef
no_code = record { byte = 0; work = false }

pub work_again : (k : ℕ) (g : Grammar) (c : ℕ) → AreCodes g.codes → IsWork g c → work_at k g.codes (code_byte g.codes c ∷ []) ≡ Ok c
unfolding work_at
work_again k g c s w =
    let lt : c < length g.codes = slice_get_within g.codes c w.0 w.1 in
    let is : get_or g.codes c no_code ≡ w.0 = same_Some _ w.0 (sym (slice_get-get_or g.codes c no_code lt) ∙ w.1) in
    let p : CodeDef → Bool = λ d. d.work && eqb d.byte (code_byte g.codes c) in
    let here : p (get_or g.codes c no_code) ≡ true = and_from _ _ (ap (λ (d : CodeDef). d.work) is ∙ w.2) (eq-eqb _ _ refl) in
    let before : (j : ℕ) → j < c → p (get_or g.codes j no_code) ≡ false = λ j jc. second_false _ _ (ne_eqb _ _ (s.apart j c (get_or g.codes j no_code) (get_or g.codes c no_code) jc
    (slice_get-get_or g.codes j no_code (omega arith)) (slice_get-get_or g.codes c no_code lt))) in
    let at : position p g.codes ≡ Some c = position_at p g.codes c (position_or_len_is p g.codes c no_code (omega arith) before (λ h. here)) lt in
    rw at refl

pub name_again : (k : ℕ) (g : Grammar) (x : ℕ) → IsSound g → x < length g.names → name_at k g.names (name_of g.names x) ≡ Ok x
unfolding name_at
name_again k g x s lt =
    let p : List ℕ → Bool = λ n. bytes_eq n (name_of g.names x) in
    let here : p (get_or g.names x []) ≡ true = (bytes_eq-Decides (name_of g.names x) (name_of g.names x)).1 refl in
    let before : (j : ℕ) → j < x → p (get_or g.names j []) ≡ false = λ j jx. false_from_ne_true _ (λ equal. s.names.apart j x (get_or g.names j []) (name_of g.names x) jx
    (slice_get-get_or g.names j [] (omega arith)) (slice_get-get_or g.names x [] lt) ((bytes_eq-Decides (get_or g.names j []) (name_of g.names x)).0 equal)) in
    let at : position p g.names ≡ Some x = position_at p g.names x (position_or_len_is p g.names x [] (omega arith) before (λ h. here)) lt in
    rw at refl

counts_again : (k : ℕ) (done ns : List ℕ) → AreCounts ns → each (count_at k) done (map decimal ns) ≡ Ok (done ++ ns)
counts_again k done [] h = rw (append-nil done) refl
counts_again k done (n ∷ ns) h =
    rw (number_at_again (BadNumber k) (OutOfRange k) 0 64 n (omega arith) h.0 (omega arith))
    (counts_again k (done ++ n ∷ []) ns h.1 ∙ ap (λ (cs : List ℕ). ok cs) (append_assoc done (n ∷ []) ns))

pub counts_at_again : (k periods : ℕ) (ns : List ℕ) → length ns ≡ periods → AreCounts ns → counts_at k periods (map decimal ns) ≡ Ok ns
unfolding counts_at
counts_at_again k periods ns e h =
    let whole : eqb (length (map decimal ns)) periods ≡ true = eq-eqb _ _ (length-map ns decimal ∙ e) in
    rw whole (counts_again k [] ns h)

pub range_again : (k limit a b : ℕ) → a ≤ 64 → a ≤ b → 1 ≤ b → b ≤ limit → limit ≤ 10000 → range_at k limit (decimal a) (decimal b) ≡ Ok (record { least = a; most = b })
unfolding range_at
range_again k limit a b small le some ge few =
    rw (number_at_again (BadNumber k) (OutOfRange k) 0 64 a (omega arith) small (omega arith), number_at_again (BadNumber k) (OutOfRange k) (max a 1) limit b (omega arith) ge (omega (arith, few))) refl

-- a number that is asked of a period
abbrev pub asked : NumberOf → PeriodDemand → ℕ
asked Need p = p.need
asked Floor p = p.floor
asked Ceiling p = p.ceiling

asked_is : (which : NumberOf) (d : Demand) (k : ℕ) (p : PeriodDemand) → number_of which (demand_cell d k p) ≡ asked which p
asked_is Need d k p = refl
asked_is Floor d k p = refl
asked_is Ceiling d k p = refl

pub numbers_are : (which : NumberOf) (d : Demand) (k : ℕ) (ps : List PeriodDemand) → numbers_of which (cells_from d k ps) ≡ map decimal (map (asked which) ps)
numbers_are which d k [] = refl
numbers_are which d k (p ∷ ps) = rw (asked_is which d k p, numbers_are which d (k + 1) ps) refl
