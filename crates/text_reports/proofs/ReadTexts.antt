-- Texts that are read as reports, and texts that are refused.
use Rattle.std.proofs.Common.{◌≡◌, ℕ, ◌+◌, List, [], ◌∷◌, Result, Ok, Err, Option, Some, None, refl, sym, ap, ◌∙◌, subst, arith, inl, inr, append-nil}
use Rattle.std.specs.Prelude.{◌≢◌, IfSome, IfOk, IfErr, MatchResult}
use Rattle.text_lines.specs.Lines.{text_items}
use Rattle.text_lines.specs.Written.{numbered}
use Rattle.text_lines.specs.Steps as steps
use Rattle.text_lines.proofs.StepsLemmas.{bind_ok, same_ok, err}
use Rattle.model_rosters.specs.declared.instance.Instance.{Instance}
use Rattle.model_rosters.specs.declared.instance.Shift.{Shift}
use Rattle.model_rosters.specs.SoundInstance.{IsSoundInstance}
use Rattle.model_rosters.proofs.EachLemmas.{Each-weaker}
use Rattle.text_proof_pieces.proofs.FineItems.{text_fine}
use Rattle.text_reports.specs.declared.cover.Cover.{Cover}
use Rattle.text_reports.specs.declared.fault.ReportFault.{ReportFault}
use Rattle.text_reports.specs.declared.fault.ReportFault.TheVariants.{BadByte, BadLine, CutShort, Trailing, Memory}
use Rattle.text_reports.specs.declared.report.Report.{Report}
use Rattle.text_reports.specs.Readable.{IsAmount, IsCount, HasCounts, HasFittingNumbers, IsReadable, Begins, IsTextOf, HasLines, IsFront, IsRefused}
use Rattle.text_reports.specs.Readings.{Items, ended, Reads}
use Rattle.text_reports.specs.ReportReading.{report_reading, report_of}
use Rattle.text_reports.specs.ReportText.{report_lines, report_text}
use Rattle.text_reports.specs.Writable.{IsSmall, IsSmallCover, HasSmallNumbers}
use Rattle.text_reports.proofs.ExactReadings.{Lines, Front, Apart, Refuses}
use Rattle.text_reports.proofs.FineLines.{report_again}
use Rattle.text_reports.proofs.WholeForms.{Whole, report_exact}

-- nothing is left where the end was seen
end_seen : (r x : Report) (items : Items) → ended x items ≡ Ok r → (x ≡ r) × (items ≡ [])
end_seen r x [] h = (same_ok {E = ReportFault} x r h, refl)
end_seen r x (Ok line ∷ items) h = absurd cc
end_seen r x (Err b ∷ items) h = absurd cc

pub report_accepted : (i : Instance) (text : List ℕ) (r : Report) → IsSoundInstance i → report_of i (text_items text) ≡ Ok r → IsTextOf i text r
report_accepted i text r s h =
    let items : Items = text_items text in
    let t = bind_ok (report_reading i items) (λ x. ended x.0 x.1) r h in
    let x : Report × Items = t.0 in
    let last = end_seen r x.0 x.1 t.2 in
    let took = (report_exact i s).takes items (text_fine text) x t.1 in
    let lines : Begins items (report_lines i x.0) [] = subst (λ (rest : Items). Begins items (report_lines i x.0) rest) last.1 (subst (λ (ls : Lines). Begins items ls x.1) took.1.1 took.2) in
    let is : IsTextOf i text x.0 = record { readable = took.1.0; lines = lines } in
    subst (IsTextOf i text) last.0 is

pub report_given : (i : Instance) (text : List ℕ) (r : Report) → IsSoundInstance i → IsTextOf i text r → report_of i (text_items text) ≡ Ok r
report_given i text r s h =
    let items : Items = text_items text in
    let read : report_reading i items ≡ Ok (r, []) = (report_exact i s).gives items [] r (report_lines i r) (h.readable, refl) h.lines in
    ap (λ (o : Result (Report × Items) ReportFault). steps.◌>>=◌ o (λ x. ended x.0 x.1)) read

front_is : (i : Instance) (before : Lines) → Front (Whole i) before → IsFront i before
front_is i before h = (h.1, h.2, (h.0, h.3.0, sym h.3.1))

apart_is : (i : Instance) (before : Lines) (words : List (List ℕ)) → Apart (Whole i) before words → (after : Lines) → HasLines i before (words ∷ after) → ⊥
apart_is i before words h after k = h k.0 (report_lines i k.0) [] after (k.1, refl) (append-nil (report_lines i k.0) ∙ k.2)

refused_is : (i : Instance) (items : Items) (e : ReportFault) → Refuses (Whole i) items e → IsRefused i items e
refused_is i items (BadByte k) h = record { before = h.0; after = h.1; split = h.2; stand = inl (front_is i h.0 h.3) }
refused_is i items (BadLine k) h = record { before = h.0; words = h.1; after = h.2; split = h.3; stand = front_is i h.0 h.4; refused = apart_is i h.0 h.1 h.5 }
refused_is i items CutShort h = record { before = h.0; split = h.1; stand = front_is i h.0 h.2 }
refused_is i items (Trailing k) h = absurd h
refused_is i items Memory h = absurd h

-- what follows a whole report
behind_is : (i : Instance) (items rest : Items) (r : Report) (ls : Lines) (e : ReportFault) → Whole i r ls → Begins items ls rest → ended r rest ≡ Err e → IsRefused i items e
behind_is i items [] r ls e w b h = absurd cc
behind_is i items (Ok line ∷ rest) r ls e w b h =
    subst (IsRefused i items) (same_err (Trailing line.number) e h)
    (record { before = ls; words = line.words; after = rest; split = b; whole = (r, w.0, sym w.1 ∙ sym (append-nil ls)) })
  where
    same_err : (d e : ReportFault) → err {A = Report} d ≡ err e → d ≡ e
    same_err d e h = cc
behind_is i items (Err x ∷ rest) r ls e w b h =
    subst (IsRefused i items) (same_err (BadByte x.line) e h)
    (record { before = ls; after = rest; split = b; stand = inr (r, w.0, sym w.1 ∙ sym (append-nil ls)) })
  where
    same_err : (d e : ReportFault) → err {A = Report} d ≡ err e → d ≡ e
    same_err d e h = cc

report_refused : (i : Instance) (text : List ℕ) (e : ReportFault) → IsSoundInstance i → report_of i (text_items text) ≡ Err e → IsRefused i (text_items text) e
report_refused i text e s h = by (report_reading i (text_items text)) refl h
  where
    same_err : (d e : ReportFault) → err {A = Report} d ≡ err e → d ≡ e
    same_err d e h = cc

    by : (o : Result (Report × Items) ReportFault) → report_reading i (text_items text) ≡ o → steps.◌>>=◌ o (λ x. ended x.0 x.1) ≡ Err e → IsRefused i (text_items text) e
    by (Err d) at k = subst (IsRefused i (text_items text)) (same_err d e k) (refused_is i (text_items text) d ((report_exact i s).refuses (text_items text) (text_fine text) d at))
    by (Ok x) at k =
        let took = (report_exact i s).takes (text_items text) (text_fine text) x at in
        behind_is i (text_items text) x.1 x.0 took.0 e took.1 took.2 k

-- a fault is told unless memory ran out
pub fault_told : (i : Instance) (text : List ℕ) (e : ReportFault) → IsSoundInstance i → (e ≢ Memory → report_of i (text_items text) ≡ Err e) → IsRefused i (text_items text) e
fault_told i text (BadByte k) s h = report_refused i text (BadByte k) s (h (λ q. absurd cc))
fault_told i text (BadLine k) s h = report_refused i text (BadLine k) s (h (λ q. absurd cc))
fault_told i text CutShort s h = report_refused i text CutShort s (h (λ q. absurd cc))
fault_told i text (Trailing k) s h = report_refused i text (Trailing k) s (h (λ q. absurd cc))
fault_told i text Memory s h = tt

-- where there is a report, no fault but want of memory comes
only_memory : (i : Instance) (text : List ℕ) (r : Report) (e : ReportFault) → IsSoundInstance i → IsTextOf i text r → (e ≢ Memory → report_of i (text_items text) ≡ Err e) → e ≡ Memory
only_memory i text r e s t h = by e (report_given i text r s t) h
  where
    by : (e : ReportFault) → report_of i (text_items text) ≡ Ok r → (e ≢ Memory → report_of i (text_items text) ≡ Err e) → e ≡ Memory
    by Memory ok f = refl
    by (BadByte k) ok f = let no = f (λ q. absurd cc) in absurd cc
    by (BadLine k) ok f = let no = f (λ q. absurd cc) in absurd cc
    by CutShort ok f = let no = f (λ q. absurd cc) in absurd cc
    by (Trailing k) ok f = let no = f (λ q. absurd cc) in absurd cc

pub given_again : (i : Instance) (text : List ℕ) (result : Result Report ReportFault) (r : Report) → IsSoundInstance i → Reads (λ x. x) result (report_of i (text_items text)) → IsTextOf i text r
    → MatchResult result (λ x. x ≡ r) (λ e. e ≡ Memory)
given_again i text (Ok x) r s h t = let read = report_given i text r s t in same_ok {E = ReportFault} x r (sym h ∙ read)
given_again i text (Err e) r s h t = only_memory i text r e s t h

pub taken : (i : Instance) (text : List ℕ) (result : Result Report ReportFault) → IsSoundInstance i → Reads (λ x. x) result (report_of i (text_items text)) → IfOk result (IsTextOf i text)
taken i text (Ok x) s h = report_accepted i text x s h
taken i text (Err e) s h = tt

pub told : (i : Instance) (text : List ℕ) (result : Result Report ReportFault) → IsSoundInstance i → Reads (λ x. x) result (report_of i (text_items text)) → IfErr result (IsRefused i (text_items text))
told i text (Ok x) s h = tt
told i text (Err e) s h = fault_told i text e s h

-- ---- a written report is read again

begins_all : (k : ℕ) (ls : Lines) → Begins (numbered k ls) ls []
begins_all k [] = refl
begins_all k (l ∷ ls) = (refl, begins_all (k + 1) ls)

small_some : (o : Option ℕ) → IfSome o IsAmount → IfSome o IsSmall
small_some None h = tt
small_some (Some n) h = omega (arith, h)

small_count : (n : ℕ) → IsCount n → IsSmall n
small_count n h = omega (arith, h)

small_cover : (c : Cover) → HasCounts c → IsSmallCover c
small_cover c h = record { need = small_count c.need h.need; have = small_count c.have h.have; short = small_count c.short h.short; over = small_count c.over h.over }

small_numbers : (r : Report) → HasFittingNumbers r → HasSmallNumbers r
small_numbers r h = record {
  cost = small_some r.cost h.cost;
  bound = small_some r.bound h.bound;
  processed = small_count r.processed h.processed;
  failed = small_count r.failed h.failed;
  prices = Each-weaker (λ (s : Shift). IsAmount s.price) (λ (s : Shift). IsSmall s.price) r.shifts (λ s k. omega (arith, k)) h.prices;
  paid = omega (arith, h.paid);
  penalty = omega (arith, h.penalty);
  cover = Each-weaker HasCounts IsSmallCover r.cover small_cover h.cover;
}

pub text_of_report : (i : Instance) (r : Report) → IsSoundInstance i → IsReadable i r → IsTextOf i (report_text i r) r
text_of_report i r s h =
    let items : text_items (report_text i r) ≡ numbered 1 (report_lines i r) = report_again i r s h.writable (small_numbers r h.numbers) in
    record { readable = h; lines = subst (λ (x : Items). Begins x (report_lines i r) []) (sym items) (begins_all 1 (report_lines i r)) }
