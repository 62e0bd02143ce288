-- A code that is declared keeps the codes sound.
use Rattle.std.proofs.Common.{◌≡◌, ℕ, ◌+◌, ◌<◌, ◌≤◌, Bool, true, false, not, ◌&&◌, cond, List, [], ◌∷◌, ◌++◌, length, arith, inl, inr, eqb, leb, length-append, subst, Ok}
use Rattle.std.specs.Prelude.{slice_index, count_by}
use Rattle.std.proofs.lemmas.Bool.{or_parts, eq-eqb, cases_lt, le-leb}
use Rattle.std.proofs.lemmas.List.Elements.{All-push}
use Rattle.std.proofs.lemmas.List.Sums.{sum_by-append}
use Rattle.model_rosters.specs.declared.grammar.CodeDef.{CodeDef}
use Rattle.model_rosters.specs.Names.{is_code_byte}
use Rattle.model_rosters.specs.Sound.{AreCodes}
use Rattle.text_lines.proofs.ListLemmas.{apart_more, none_passes, fewer, not_false}
use Rattle.text_rules.specs.Lines.{declare_at}
use Rattle.text_lines.proofs.StepsLemmas.{passed, same_ok}

abbrev works : CodeDef → Bool
works c = c.work

counted : (work : Bool) (defs : List CodeDef) (b : ℕ) → (work && leb 8 (count_by works defs)) ≡ false → count_by works defs ≤ 8 → count_by works (defs ++ record { byte = b; work = work } ∷ []) ≤ 8
counted true defs b h le = elim (cases_lt (count_by works defs) 8) [
  | inl lt ↦ omega (arith, sum_by-append (λ (c : CodeDef). cond (works c) 1 0) defs (record { byte = b; work = true } ∷ []))
  | inr ge ↦ let yes : leb 8 (count_by works defs) ≡ true = le-leb 8 _ ge in absurd cc
]
counted false defs b h le = omega (arith, sum_by-append (λ (c : CodeDef). cond (works c) 1 0) defs (record { byte = b; work = false } ∷ []))

pub declare_keeps : (k : ℕ) (work : Bool) (defs new : List CodeDef) (w : List ℕ) → AreCodes defs → declare_at k work defs w ≡ Ok new → AreCodes new × (length defs ≤ length new)
unfolding declare_at
declare_keeps k work defs new w s e =
    let byte : ℕ = slice_index w 0 in
    let more : CodeDef = record { byte = byte; work = work } in
    let a = passed _ _ _ _ e in
    let b = passed _ _ _ _ a.1 in
    let c = passed _ _ _ _ b.1 in
    let d = passed _ _ _ _ c.1 in
    let form = or_parts (not (eqb (length w) 1)) (not (is_code_byte byte)) a.0 in
    let lt : length defs < 32 = fewer (length defs) 32 c.0 in
    let len : length (defs ++ more ∷ []) ≡ length defs + 1 = length-append defs (more ∷ []) in
    let sound : AreCodes (defs ++ more ∷ []) = record {
      few = omega (arith, len);
      few_work = counted work defs byte d.0 s.few_work;
      bytes = All-push (λ (c : CodeDef). is_code_byte c.byte ≡ true) defs more s.bytes (not_false _ form.1);
      apart = apart_more (λ (c : CodeDef). c.byte) defs more s.apart (λ j x h same. let no = none_passes (λ (c : CodeDef). eqb c.byte byte) defs b.0 j x h in let yes : eqb x.byte byte ≡ true = eq-eqb _ _ same in absurd cc);
    } in
    let Goal : List CodeDef → Type 0 = λ (l : List CodeDef). AreCodes l × (length defs ≤ length l) in
    subst Goal (same_ok _ _ d.1) (sound, omega (arith, len))
