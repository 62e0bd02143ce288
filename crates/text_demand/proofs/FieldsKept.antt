-- What tests and numbers that were read say.
use Rattle.std.proofs.Common.{◌≡◌, ℕ, ◌+◌, ◌<◌, ◌≤◌, Bool, false, not, ◌&&◌, eqb, max, min, List, [], ◌∷◌, ◌++◌, length, get_or, Option, Some, None, Ok, sym, ap, ◌∙◌, arith, subst, length-append}
use Rattle.std.specs.Prelude.{slice_index}
use Rattle.std.specs.Str.{bytes_eq}
use Rattle.std.proofs.lemmas.Bool.{and_parts}
use Rattle.std.proofs.lemmas.List.Quantifiers.{position-Some}
use Rattle.std.proofs.lemmas.Option.{slice_get-get_or}
use Rattle.model_rosters.specs.declared.grammar.CodeDef.{CodeDef}
use Rattle.model_rosters.specs.declared.grammar.Grammar.{Grammar}
use Rattle.model_rosters.specs.Demands.{IsWork}
use Rattle.model_rosters.proofs.EachLemmas.{Each-push}
use Rattle.text_demand_lines.specs.declared.draft.Heads.{Heads}
use Rattle.text_demand_lines.specs.declared.fault.DemandFault.{DemandFault}
use Rattle.text_demand_lines.specs.declared.fault.DemandFault.TheVariants.{WrongCount}
use Rattle.text_demand_lines.specs.Fields.{number_at, found_or, work_at, name_at, range_at}
use Rattle.text_demand_lines.specs.Steps.{each}
use Rattle.text_demand.specs.Counts.{count_at, counts_at}
use Rattle.text_demand.specs.Drafts.{AreCounts}
use Rattle.text_lines.proofs.FieldsLemmas.{number_within}
use Rattle.text_lines.proofs.ListLemmas.{not_false, same_number}
use Rattle.text_lines.proofs.StepsLemmas.{each_keeps, passed, bind_ok, same_ok}

-- ---- fields

found_some : (e : DemandFault) (o : Option ℕ) (c : ℕ) → found_or e o ≡ Ok c → o ≡ Some c
found_some e (Some x) c q = ap (λ (y : ℕ). Some y) (same_ok x c q)
found_some e None c q = absurd cc

-- a code that was read is one for work
pub work_is : (k : ℕ) (g : Grammar) (w : List ℕ) (c : ℕ) → work_at k g.codes w ≡ Ok c → IsWork g c
unfolding work_at
work_is k g w c e =
    let a = passed _ _ _ _ e in
    let p : CodeDef → Bool = λ d. d.work && eqb d.byte (slice_index w 0) in
    let none : CodeDef = record { byte = 0; work = false } in
    let at = position-Some p g.codes c none (found_some _ _ c a.1) in
    (get_or g.codes c none, slice_get-get_or g.codes c none at.0, (and_parts _ _ at.1).0)

-- a name that was read is there
pub name_within : (k : ℕ) (names : List (List ℕ)) (w : List ℕ) (x : ℕ) → name_at k names w ≡ Ok x → x < length names
unfolding name_at
name_within k names w x e = (position-Some (λ (n : List ℕ). bytes_eq n w) names x [] (found_some _ _ x e)).0

counts_keep : (k : ℕ) (old new : List ℕ) (w : List ℕ) → AreCounts old → count_at k old w ≡ Ok new → AreCounts new
counts_keep k old new w s e =
    let b = bind_ok (number_at k 0 64 w) _ _ e in
    subst AreCounts (same_ok (old ++ b.0 ∷ []) new b.2) (Each-push (λ (n : ℕ). n ≤ 64) old b.0 s (number_within _ _ 0 64 b.0 w b.1).1)

one_each : (k : ℕ) (old new : List ℕ) (ws : List (List ℕ)) → each (count_at k) old ws ≡ Ok new → length new ≡ length old + length ws
one_each k old new [] e = ap length (sym (same_ok old new e)) ∙ omega arith
one_each k old new (w ∷ ws) e =
    let first = bind_ok (count_at k old w) (λ (u : List ℕ). each (count_at k) u ws) new e in
    let b = bind_ok (number_at k 0 64 w) _ _ first.1 in
    let more : length first.0 ≡ length old + 1 = ap length (sym (same_ok (old ++ b.0 ∷ []) first.0 b.2)) ∙ length-append old (b.0 ∷ []) in
    omega (arith, more, one_each k first.0 new ws first.2)

-- numbers that were read: one for each period, each within its limit
pub counts_are : (k periods : ℕ) (ws : List (List ℕ)) (counts : List ℕ) → counts_at k periods ws ≡ Ok counts → (length counts ≡ periods) × AreCounts counts
unfolding counts_at
counts_are k periods ws counts e =
    let a = passed (not (eqb (length ws) periods)) (WrongCount k (min (length ws) 4294967295)) (each (count_at k) [] ws) counts e in
    let n : length ws ≡ periods = same_number (length ws) periods (not_false _ a.0) in
    (omega (arith, one_each k [] counts ws a.1, n), each_keeps (count_at k) AreCounts (counts_keep k) [] counts ws tt a.1)

-- how many employees may work
pub range_within : (k limit : ℕ) (a b : List ℕ) (h : Heads) → range_at k limit a b ≡ Ok h → (h.least ≤ h.most) × (1 ≤ h.most) × (h.most ≤ limit)
unfolding range_at
range_within k limit a b h e =
    let low = bind_ok (number_at k 0 64 a) _ _ e in
    let high = bind_ok (number_at k (max low.0 1) limit b) _ _ low.2 in
    let w = number_within _ _ (max low.0 1) limit high.0 b high.1 in
    let P : Heads → Type 0 = λ x. (x.least ≤ x.most) × (1 ≤ x.most) × (x.most ≤ limit) in
    subst P (same_ok (record { least = low.0; most = high.0 }) h high.2) (omega (arith, w.0), omega (arith, w.0), w.1)
