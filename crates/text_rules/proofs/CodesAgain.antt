-- The code lines that were written are read again.
use Rattle.std.proofs.Common.{◌≡◌, ℕ, ◌+◌, ◌<◌, Bool, true, false, cond, ◌&&◌, List, [], ◌∷◌, ◌++◌, length, get_or, map, Some, Result, Ok, refl, sym, ap, ◌∙◌, arith, eqb, leb, append_assoc, append-nil, length-append, subst}
use Rattle.std.specs.Prelude.{codes, count_by}
use Rattle.std.proofs.lemmas.Bool.{lt-leb, ne_eqb}
use Rattle.std.proofs.lemmas.Option.{slice_get-get_or}
use Rattle.std.proofs.lemmas.List.{get_or_append_left}
use Rattle.std.proofs.Math.Seq.{get_or-append_seam}
use Rattle.std.proofs.lemmas.List.Folds.{list_any_none}
use Rattle.std.proofs.lemmas.List.Sums.{sum_by-append}
use Rattle.text_lines.specs.Written.{numbered}
use Rattle.model_rosters.specs.declared.grammar.CodeDef.{CodeDef}
use Rattle.model_rosters.specs.Names.{is_code_byte}
use Rattle.model_rosters.specs.Sound.{AreCodes}
use Rattle.text_rules.specs.declared.draft.Draft.{Draft}
use Rattle.text_rules.specs.Steps.{each}
use Rattle.text_rules.specs.Lines.{is_declared, declare_at, codes_at, line_at, item_at}
use Rattle.text_rules.specs.Written.{code_line}
use Rattle.text_lines.proofs.StepsLemmas.{ok}

abbrev no_code : CodeDef
no_code = record { byte = 0; work = false }

abbrev works : CodeDef → ℕ
works c = cond c.work 1 0

-- what the codes before c, and c, are
record IsNext (defs : List CodeDef) (c : CodeDef) : Type 0 where
  few : length defs < 32
  byte : is_code_byte c.byte ≡ true
  new : is_declared defs c.byte ≡ false
  few_work : (c.work && leb 8 (count_by (λ (d : CodeDef). d.work) defs)) ≡ false

is_next : (defs : List CodeDef) (c : CodeDef) (cs : List CodeDef) → AreCodes (defs ++ c ∷ cs) → IsNext defs c
is_next defs c cs s =
    let len : length (defs ++ c ∷ cs) ≡ length defs + length (c ∷ cs) = length-append defs (c ∷ cs) in
    let here : get_or (defs ++ c ∷ cs) (length defs) no_code ≡ c = get_or-append_seam defs c cs no_code in
    record {
      few = omega (arith, len, s.few);
      byte = subst (λ (d : CodeDef). is_code_byte d.byte ≡ true) here (s.bytes (length defs) no_code (omega (arith, len)));
      new = list_any_none (λ (d : CodeDef). eqb d.byte c.byte) defs (λ i d lt. ne_eqb _ _ (λ same.
          let before : get_or (defs ++ c ∷ cs) i d ≡ get_or defs i d = get_or_append_left defs (c ∷ cs) d i lt in
          s.apart i (length defs) (get_or defs i d) c lt (slice_get-get_or (defs ++ c ∷ cs) i d (omega (arith, len)) ∙ ap (λ (x : CodeDef). Some x) before) (slice_get-get_or (defs ++ c ∷ cs) (length defs) no_code (omega (arith, len)) ∙ ap (λ (x : CodeDef). Some x) here) same));
      few_work = by c.work refl;
    }
  where
    by : (t : Bool) → c.work ≡ t → (t && leb 8 (count_by (λ (d : CodeDef). d.work) defs)) ≡ false
    by false e = refl
    by true e =
        let one : works c ≡ 1 = rw e refl in
        lt-leb 8 _ (omega (arith, s.few_work, sum_by-append works defs (c ∷ cs), sum_by-append works (c ∷ []) cs, one))

declared_again : (k : ℕ) (defs : List CodeDef) (c : CodeDef) → IsNext defs c → declare_at k c.work defs (c.byte ∷ []) ≡ Ok (defs ++ c ∷ [])
unfolding declare_at
declared_again k defs c s = rw (s.byte, s.new, lt-leb 32 (length defs) s.few, s.few_work) refl

code_again : (k : ℕ) (d : Draft) (c : CodeDef) → IsNext d.codes c → line_at k d (code_line c) ≡ Ok (record d { codes = d.codes ++ c ∷ [] })
unfolding line_at codes_at
code_again k d c s = by c.work (declared_again k d.codes c s)
  where
    by : (t : Bool) → declare_at k t d.codes (c.byte ∷ []) ≡ Ok (d.codes ++ c ∷ []) → line_at k d (cond t (codes "work") (codes "idle") ∷ (c.byte ∷ []) ∷ []) ≡ Ok (record d { codes = d.codes ++ c ∷ [] })
    by true e = rw e refl
    by false e = rw e refl

pub codes_again : (k : ℕ) (d : Draft) (cs : List CodeDef) → AreCodes (d.codes ++ cs) → each item_at d (numbered k (map code_line cs)) ≡ Ok (record d { codes = d.codes ++ cs })
codes_again k d [] s = rw (append-nil d.codes) refl
codes_again k d (c ∷ cs) s =
    let step : line_at k d (code_line c) ≡ Ok (record d { codes = d.codes ++ c ∷ [] }) = code_again k d c (is_next d.codes c cs s) in
    let more = codes_again (k + 1) (record d { codes = d.codes ++ c ∷ [] }) cs (subst AreCodes (sym (append_assoc d.codes (c ∷ []) cs)) s) in
    let Filled : List CodeDef → Result Draft _ = λ (l : List CodeDef). ok (record d { codes = l }) in
    rw step (more ∙ ap Filled (append_assoc d.codes (c ∷ []) cs))
