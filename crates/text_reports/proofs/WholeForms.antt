-- The lines of a whole report.
use Rattle.std.proofs.Common.{◌≡◌, ℕ, ◌*◌, ◌/◌, ◌<◌, ◌≤◌, List, [], ◌∷◌, ◌++◌, length, map, Option, Some, None, refl, sym, ap, ◌∙◌, subst, arith, append-nil}
use Rattle.std.specs.Prelude.{codes, IfSome}
use Rattle.std.proofs.Math.Nat.{mul-div_cancel}
use Rattle.model_rosters.specs.declared.instance.Done.{Done}
use Rattle.model_rosters.specs.declared.instance.Group.{Group}
use Rattle.model_rosters.specs.declared.instance.Instance.{Instance}
use Rattle.model_rosters.specs.declared.instance.Shift.{Shift}
use Rattle.model_rosters.specs.Folds.{Each}
use Rattle.model_rosters.specs.SoundInstance.{IsSoundInstance}
use Rattle.model_rosters.proofs.EachLemmas.{Each-weaker}
use Rattle.text_proof_pieces.proofs.PriceBlock.{cells_whole}
use Rattle.text_certificates.specs.Written.{amount_words, shift_line}
use Rattle.text_reports.specs.declared.cover.Cover.{Cover}
use Rattle.text_reports.specs.declared.report.Report.{Report}
use Rattle.text_reports.specs.LineWords.{most_amount, most_count}
use Rattle.text_reports.specs.Readable.{IsAmount, IsCount, HasCounts, HasFittingNumbers, IsReadable}
use Rattle.text_reports.specs.ReportReading.{head_reading, roster_reading, cost_reading, report_reading}
use Rattle.text_reports.specs.Reports.{IsOfNoRoster}
use Rattle.text_reports.specs.ReportText.{header_line, result_line, number_line, head_lines, cover_lines, roster_lines, cost_lines, report_lines}
use Rattle.text_reports.specs.Writable.{IsWritableShift, HasCover}
use Rattle.text_reports.proofs.ExactReadings.{Lines, Form, IsExact, Nothing, Then, done_exact, then_exact, same_exact}
use Rattle.text_reports.proofs.LineForms.{Number, Header, End, Amount, IsReadableShift, number_exact, header_exact, amount_exact}
use Rattle.text_reports.proofs.LineForms as one
use Rattle.text_reports.proofs.ReportForms.{line_first, Shifts, Covers, shifts_exact, covers_exact}

-- ---- the lines that each report has

abbrev headed : Done → Option ℕ → Option ℕ → ℕ → ℕ → Report
headed end cost bound processed failed = record {
  done = end;
  cost = cost;
  bound = bound;
  processed = processed;
  failed = failed;
  shifts = [];
  paid = 0;
  penalty = 0;
  cover = [];
}

abbrev Head : List Group → Form Report
Head groups =
    Then (Header groups) (λ _. Then End (λ end. Then (Amount (codes "cost")) (λ cost. Then (Amount (codes "bound")) (λ bound.
    Then (Number most_count (codes "processed")) (λ processed. Then (Number most_count (codes "failed")) (λ failed. Nothing (headed end cost bound processed failed)))))))

head_exact : (groups : List Group) → IsExact (Head groups) (head_reading groups)
head_exact groups =
    then_exact _ _ _ _ (header_exact groups) (λ _. then_exact _ _ _ _ one.done_exact (λ end. then_exact _ _ _ _ (amount_exact (codes "cost")) (λ cost.
    then_exact _ _ _ _ (amount_exact (codes "bound")) (λ bound. then_exact _ _ _ _ (number_exact most_count (codes "processed") (omega arith)) (λ processed.
    then_exact _ _ _ _ (number_exact most_count (codes "failed") (omega arith)) (λ failed. done_exact (headed end cost bound processed failed)))))))

-- what the first lines say
record IsHead (groups : List Group) (r : Report) (ls : Lines) : Type 0 where
  cost : IfSome r.cost IsAmount
  bound : IfSome r.bound IsAmount
  processed : IsCount r.processed
  failed : IsCount r.failed
  none : IsOfNoRoster r
  lines : ls ≡ head_lines groups r

head_to : (groups : List Group) (r : Report) (ls : Lines) → Head groups r ls → IsHead groups r ls
head_to groups r ls t1 =
    let t2 = t1.4 in
    let t3 = t2.4 in
    let t4 = t3.4 in
    let t5 = t4.4 in
    let t6 = t5.4 in
    let z = t6.4 in
    let made : Report = headed t2.0 t3.0 t4.0 t5.0 t6.0 in
    let l6 = line_first (number_line (codes "failed") t6.0) t6.1 t6.2 t5.2 [] t6.3.1 t6.5 z.1 in
    let l5 = line_first (number_line (codes "processed") t5.0) t5.1 t5.2 t4.2 _ t5.3.1 t5.5 l6 in
    let l4 = line_first (amount_words (codes "bound") t4.0) t4.1 t4.2 t3.2 _ t4.3.1 t4.5 l5 in
    let l3 = line_first (amount_words (codes "cost") t3.0) t3.1 t3.2 t2.2 _ t3.3.1 t3.5 l4 in
    let l2 = line_first (result_line t2.0) t2.1 t2.2 t1.2 _ t2.3.1 t2.5 l3 in
    let l1 = line_first (header_line groups) t1.1 t1.2 ls _ t1.3.1 t1.5 l2 in
    let is : IsHead groups made ls = record {
      cost = t3.3.0;
      bound = t4.3.0;
      processed = t5.3.0;
      failed = t6.3.0;
      none = record { no_shift = refl; none_paid = refl; no_penalty = refl; no_cover = refl };
      lines = l1;
    } in
    subst (λ (x : Report). IsHead groups x ls) (sym z.0) is

-- a report without its roster
abbrev bare : Report → Report
bare r = headed r.done r.cost r.bound r.processed r.failed

head_back : (groups : List Group) (r : Report) → HasFittingNumbers r → Head groups (bare r) (head_lines groups r)
head_back groups r h = (
  tt,
  header_line groups ∷ [],
  result_line r.done ∷ amount_words (codes "cost") r.cost ∷ amount_words (codes "bound") r.bound ∷ number_line (codes "processed") r.processed ∷ number_line (codes "failed") r.failed ∷ [],
  (tt, refl),
  (
    r.done,
    result_line r.done ∷ [],
    amount_words (codes "cost") r.cost ∷ amount_words (codes "bound") r.bound ∷ number_line (codes "processed") r.processed ∷ number_line (codes "failed") r.failed ∷ [],
    (tt, refl),
    (
      r.cost,
      amount_words (codes "cost") r.cost ∷ [],
      amount_words (codes "bound") r.bound ∷ number_line (codes "processed") r.processed ∷ number_line (codes "failed") r.failed ∷ [],
      (h.cost, refl),
      (
        r.bound,
        amount_words (codes "bound") r.bound ∷ [],
        number_line (codes "processed") r.processed ∷ number_line (codes "failed") r.failed ∷ [],
        (h.bound, refl),
        (
          r.processed,
          number_line (codes "processed") r.processed ∷ [],
          number_line (codes "failed") r.failed ∷ [],
          (h.processed, refl),
          (r.failed, number_line (codes "failed") r.failed ∷ [], [], (h.failed, refl), (refl, refl), refl),
          refl,
        ),
        refl,
      ),
      refl,
    ),
    refl,
  ),
  refl,
)

-- ---- the lines of the roster

abbrev pub code_count : Instance → ℕ
code_count i = length i.cells / i.grammar.periods

abbrev with_roster : Report → List Shift → ℕ → ℕ → List Cover → Report
with_roster r shifts paid penalty cover = record r {
  shifts = shifts;
  paid = paid;
  penalty = penalty;
  cover = cover;
}

abbrev Roster : Instance → Report → Form Report
Roster i r =
    Then (Number 64 (codes "shifts")) (λ count. Then (Shifts i r.shifts count) (λ shifts. Then (Number most_amount (codes "paid")) (λ paid.
    Then (Number most_amount (codes "penalty")) (λ penalty. Then (Covers i r.cover 0 (code_count i)) (λ cover. Nothing (with_roster r shifts paid penalty cover))))))

roster_exact : (i : Instance) → IsSoundInstance i → (r : Report) → IsExact (Roster i r) (roster_reading i r)
roster_exact i s r =
    then_exact _ _ _ _ (number_exact 64 (codes "shifts") (omega arith)) (λ count. then_exact _ _ _ _ (shifts_exact i s r.shifts count) (λ shifts.
    then_exact _ _ _ _ (number_exact most_amount (codes "paid") (omega arith)) (λ paid. then_exact _ _ _ _ (number_exact most_amount (codes "penalty") (omega arith)) (λ penalty.
    then_exact _ _ _ _ (covers_exact i r.cover 0 (code_count i)) (λ cover. done_exact (with_roster r shifts paid penalty cover))))))

-- what the lines of a roster say
record IsRoster (i : Instance) (start r : Report) (ls : Lines) : Type 0 where
  same : r ≡ with_roster start r.shifts r.paid r.penalty r.cover
  few : length r.shifts ≤ 64
  shifts : Each (IsReadableShift i) r.shifts
  paid : IsAmount r.paid
  penalty : IsAmount r.penalty
  long : length r.cover ≡ length i.cells
  cover : Each HasCounts r.cover
  lines : ls ≡ roster_lines i r

-- there is a cell for each code and each period
pub cells_made : (i : Instance) → IsSoundInstance i → code_count i * i.grammar.periods ≡ length i.cells
cells_made i s =
    let n : ℕ = i.grammar.periods in
    let w = cells_whole i s in
    let some : 0 < n = omega (arith, s.grammar.some_period) in
    let lines : length i.cells / n ≡ w.lines = ap (λ (m : ℕ). m / n) w.made ∙ mul-div_cancel w.lines some in
    ap (λ (k : ℕ). k * n) lines ∙ sym w.made

roster_to : (i : Instance) (start r : Report) (ls : Lines) → IsSoundInstance i → IsOfNoRoster start → Roster i start r ls → IsRoster i start r ls
roster_to i start r ls sound none t1 =
    let t2 = t1.4 in
    let t3 = t2.4 in
    let t4 = t3.4 in
    let t5 = t4.4 in
    let z = t5.4 in
    let ss = t2.3 in
    let cs = t5.3 in
    let shifts : t2.0 ≡ ss.0 = ss.1 ∙ ap (λ (x : List Shift). x ++ ss.0) none.no_shift in
    let covers : t5.0 ≡ cs.0 = cs.1 ∙ ap (λ (x : List Cover). x ++ cs.0) none.no_cover in
    let made : Report = with_roster start ss.0 t3.0 t4.0 cs.0 in
    let is_made : r ≡ made = z.0 ∙ ap (λ (x : List Shift). with_roster start x t3.0 t4.0 t5.0) shifts ∙ ap (λ (x : List Cover). with_roster start ss.0 t3.0 t4.0 x) covers in
    let long : length cs.0 ≡ length i.cells = cs.2 ∙ cells_made i sound in
    let count : number_line (codes "shifts") t1.0 ≡ number_line (codes "shifts") (length ss.0) = ap (number_line (codes "shifts")) (sym ss.2) in
    let codes_are : length cs.0 / i.grammar.periods ≡ code_count i = ap (λ (m : ℕ). m / i.grammar.periods) long in
    let l5 : t4.2 ≡ cover_lines i 0 (length cs.0 / i.grammar.periods) cs.0 =
    t5.5 ∙ ap (λ (x : Lines). t5.1 ++ x) z.1 ∙ append-nil t5.1 ∙ cs.4 ∙ ap (λ (m : ℕ). cover_lines i 0 m cs.0) (sym codes_are) in
    let l4 = line_first (number_line (codes "penalty") t4.0) t4.1 t4.2 t3.2 _ t4.3.1 t4.5 l5 in
    let l3 = line_first (number_line (codes "paid") t3.0) t3.1 t3.2 t2.2 _ t3.3.1 t3.5 l4 in
    let l2 = t2.5 ∙ ap (λ (x : Lines). x ++ t2.2) ss.4 ∙ ap (λ (x : Lines). map (shift_line i) ss.0 ++ x) l3 in
    let l1 = line_first (number_line (codes "shifts") (length ss.0)) t1.1 t1.2 ls _ (t1.3.1 ∙ ap (λ (l : List (List ℕ)). l ∷ []) count) t1.5 l2 in
    let is : IsRoster i start made ls = record {
      same = refl;
      few = omega (arith, t1.3.0, ss.2);
      shifts = ss.3;
      paid = t3.3.0;
      penalty = t4.3.0;
      long = long;
      cover = cs.3;
      lines = l1;
    } in
    subst (λ (x : Report). IsRoster i start x ls) (sym is_made) is

roster_back : (i : Instance) (r : Report) → IsSoundInstance i → IsReadable i r → Each (IsReadableShift i) r.shifts → length r.cover ≡ length i.cells → Roster i (bare r) r (roster_lines i r)
roster_back i r s h shifts long =
    let whole : length r.cover ≡ code_count i * i.grammar.periods = long ∙ sym (cells_made i s) in
    let codes_are : length r.cover / i.grammar.periods ≡ code_count i = ap (λ (m : ℕ). m / i.grammar.periods) long in
    let covers : cover_lines i 0 (length r.cover / i.grammar.periods) r.cover ≡ cover_lines i 0 (code_count i) r.cover = ap (λ (m : ℕ). cover_lines i 0 m r.cover) codes_are in
    let left : Lines = cover_lines i 0 (length r.cover / i.grammar.periods) r.cover in (
      length r.shifts,
      number_line (codes "shifts") (length r.shifts) ∷ [],
      map (shift_line i) r.shifts ++ (number_line (codes "paid") r.paid ∷ number_line (codes "penalty") r.penalty ∷ left),
      (h.writable.few, refl),
      (
        r.shifts,
        map (shift_line i) r.shifts,
        number_line (codes "paid") r.paid ∷ number_line (codes "penalty") r.penalty ∷ left,
        (r.shifts, refl, refl, shifts, refl),
        (
          r.paid,
          number_line (codes "paid") r.paid ∷ [],
          number_line (codes "penalty") r.penalty ∷ left,
          (h.numbers.paid, refl),
          (
            r.penalty,
            number_line (codes "penalty") r.penalty ∷ [],
            left,
            (h.numbers.penalty, refl),
            (r.cover, left, [], (r.cover, refl, whole, h.numbers.cover, covers), (refl, refl), sym (append-nil left)),
            refl,
          ),
          refl,
        ),
        refl,
      ),
      refl,
    )

-- ---- whole reports

abbrev Cost : Instance → Report → Option ℕ → Form Report
Cost i r None = Nothing r
Cost i r (Some c) = Roster i r

cost_exact : (i : Instance) → IsSoundInstance i → (r : Report) (cost : Option ℕ) → IsExact (Cost i r cost) (cost_reading i r cost)
cost_exact i s r None = done_exact r
cost_exact i s r (Some c) = roster_exact i s r

abbrev Parts : Instance → Form Report
Parts i = Then (Head i.groups) (λ r. Cost i r r.cost)

parts_exact : (i : Instance) → IsSoundInstance i → IsExact (Parts i) (report_reading i)
parts_exact i s = then_exact _ _ _ _ (head_exact i.groups) (λ r. cost_exact i s r r.cost)

-- the lines of a report that a text can say
abbrev pub Whole : Instance → Form Report
Whole i r ls = IsReadable i r × (ls ≡ report_lines i r)

shift_parts : (i : Instance) (ss : List Shift) → Each (IsReadableShift i) ss → Each (IsWritableShift i) ss × Each (λ (s : Shift). IsAmount s.price) ss
shift_parts i ss h = (Each-weaker _ _ ss (λ s k. k.writable) h, Each-weaker _ _ ss (λ s k. k.price) h)

parts_shift : (i : Instance) (ss : List Shift) → Each (IsWritableShift i) ss → Each (λ (s : Shift). IsAmount s.price) ss → Each (IsReadableShift i) ss
parts_shift i [] h k = tt
parts_shift i (s ∷ ss) h k = (record { writable = h.0; price = k.0 }, parts_shift i ss h.1 k.1)

to_none : (i : Instance) (r : Report) (u v ls : Lines) → IsHead i.groups r u → r.cost ≡ None → v ≡ [] → ls ≡ u ++ v → Whole i r ls
to_none i r u v ls h at none e =
    let has : HasCover i r r.cost = subst (λ (o : Option ℕ). HasCover i r o) (sym at) h.none in
    let no_shift : r.shifts ≡ [] = h.none.no_shift in
    let lines : cost_lines i r r.cost ≡ [] = ap (cost_lines i r) at in (
      record {
        writable = record { few = rw no_shift (omega arith); shifts = rw no_shift tt; cover = has };
        numbers = record {
          cost = h.cost;
          bound = h.bound;
          processed = h.processed;
          failed = h.failed;
          prices = rw no_shift tt;
          paid = rw h.none.none_paid (omega arith);
          penalty = rw h.none.no_penalty (omega arith);
          cover = rw h.none.no_cover tt;
        };
      },
      e ∙ ap (λ (x : Lines). u ++ x) (none ∙ sym lines) ∙ ap (λ (x : Lines). x ++ cost_lines i r r.cost) h.lines,
    )

-- the same with a roster
made_whole : (i : Instance) (start : Report) (shifts : List Shift) (paid penalty c : ℕ) (cover : List Cover) (u v ls : Lines) → IsHead i.groups start u → start.cost ≡ Some c
    → IsRoster i start (with_roster start shifts paid penalty cover) v → ls ≡ u ++ v → Whole i (with_roster start shifts paid penalty cover) ls
made_whole i start shifts paid penalty c cover u v ls h at r e =
    let parts = shift_parts i shifts r.shifts in
    let made : Report = with_roster start shifts paid penalty cover in
    let has : HasCover i made start.cost = subst (λ (o : Option ℕ). HasCover i made o) (sym at) r.long in
    let lines : cost_lines i made start.cost ≡ roster_lines i made = ap (cost_lines i made) at in (
      record {
        writable = record { few = r.few; shifts = parts.0; cover = has };
        numbers = record {
          cost = h.cost;
          bound = h.bound;
          processed = h.processed;
          failed = h.failed;
          prices = parts.1;
          paid = r.paid;
          penalty = r.penalty;
          cover = r.cover;
        };
      },
      e ∙ ap (λ (x : Lines). u ++ x) (r.lines ∙ sym lines) ∙ ap (λ (x : Lines). x ++ cost_lines i made start.cost) h.lines,
    )

parts_to : (i : Instance) → IsSoundInstance i → (r : Report) (ls : Lines) → Parts i r ls → Whole i r ls
parts_to i s r ls t = by t.0.cost refl t.4
  where
    h : IsHead i.groups t.0 t.1
    h = head_to i.groups t.0 t.1 t.3

    by : (cost : Option ℕ) → t.0.cost ≡ cost → Cost i t.0 cost r t.2 → Whole i r ls
    by None at k = subst (λ (x : Report). Whole i x ls) (sym k.0) (to_none i t.0 t.1 t.2 ls h at k.1 t.5)
    by (Some c) at k =
        let is = roster_to i t.0 r t.2 s h.none k in
        let made : Report = with_roster t.0 r.shifts r.paid r.penalty r.cover in
        let is' : IsRoster i t.0 made t.2 = subst (λ (x : Report). IsRoster i t.0 x t.2) is.same is in
        subst (λ (x : Report). Whole i x ls) (sym is.same) (made_whole i t.0 r.shifts r.paid r.penalty c r.cover t.1 t.2 ls h at is' t.5)

no_roster : (r : Report) → IsOfNoRoster r → r ≡ bare r
no_roster r h =
    ap (λ (x : List Shift). with_roster r x r.paid r.penalty r.cover) h.no_shift ∙ ap (λ (x : ℕ). with_roster r [] x r.penalty r.cover) h.none_paid
    ∙ ap (λ (x : ℕ). with_roster r [] 0 x r.cover) h.no_penalty ∙ ap (λ (x : List Cover). with_roster r [] 0 0 x) h.no_cover

parts_back : (i : Instance) → IsSoundInstance i → (r : Report) (ls : Lines) → Whole i r ls → Parts i r ls
parts_back i s r ls h = (bare r, head_lines i.groups r, cost_lines i r r.cost, head_back i.groups r h.0.numbers, by r.cost h.0.writable.cover, h.1)
  where
    by : (cost : Option ℕ) → HasCover i r cost → Cost i (bare r) cost r (cost_lines i r cost)
    by None k = (no_roster r k, refl)
    by (Some c) k = roster_back i r s h.0 (parts_shift i r.shifts h.0.writable.shifts h.0.numbers.prices) k

-- the reading of a report takes exactly the lines of reports
pub report_exact : (i : Instance) → IsSoundInstance i → IsExact (Whole i) (report_reading i)
report_exact i s = same_exact (Parts i) (Whole i) (report_reading i) (parts_to i s) (parts_back i s) (parts_exact i s)
