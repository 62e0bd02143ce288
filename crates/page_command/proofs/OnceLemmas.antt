-- The same texts have the same answer, but for the trees of derivations.
use Rattle.std.proofs.Common.{◌≡◌, ℕ, Bool, true, false, List, [], ◌∷◌, Option, None, Some, refl, sym, ap, subst, ◌∙◌, inl, inr}
use Rattle.model_rosters.specs.declared.grammar.Grammar.{Grammar}
use Rattle.model_rosters.specs.declared.instance.Instance.{Instance}
use Rattle.model_rosters.specs.declared.instance.Shift.{Shift}
use Rattle.model_rosters.specs.Trees.{steps}
use Rattle.check_certificates.specs.declared.cert.Cert.{Cert}
use Rattle.check_certificates.specs.declared.why.Why.{Why}
use Rattle.check_certificates.specs.declared.verdict.Verdict.TheVariants.{No}
use Rattle.check_certificates.proofs.certificate_laws.NoCause.{refused as cause-refuses}
use Rattle.check_certificates.proofs.certificate_laws.OneCause.{one-first}
use Rattle.text_demand_lines.specs.declared.fault.DemandFault.{DemandFault}
use Rattle.text_demand_lines.specs.FaultLine as demand
use Rattle.text_demand.specs.InstanceOf.{instance_of}
use Rattle.text_proof_pieces.specs.declared.fault.ProofFault.{ProofFault}
use Rattle.text_proof_pieces.specs.CertOf.{proof_of}
use Rattle.text_proof_pieces.specs.FaultLine as proof
use Rattle.page_text.specs.declared.row.Row.{Row}
use Rattle.check_values.specs.Answers as values
use Rattle.check_values.specs.declared.valued.Valued.{Valued}
use Rattle.check_values.proofs.OneAnswer.{one_value, stated-once}
use Rattle.check_values.specs.stated_rosters.FaultLine as roster
use Rattle.check_values.specs.stated_rosters.RosterOf.{roster_of}
use Rattle.check_values.specs.declared.stated_rosters.fault.RosterFault.{RosterFault}
use Rattle.command_shelf.specs.Shelf.{Texts}
use Rattle.page_derived_rules.specs.RuledTrees.{AreRuledAtOnePrice}
use Rattle.text_answers.specs.VerdictText.{verdict_text}
use Rattle.command_answers.specs.Asked.{ProofAnswers, TextAnswers, AnswersThird, DemandAnswers, TextsAnswers}
use Rattle.command_answers.specs.Readings.{SaysProofFault}
use Rattle.command_answers.specs.Asked as checks
use Rattle.command_answers.proofs.OneReading.{same_text, same_ok, same_err, not_both, same_grammar, no_fault, faults_once}
use Rattle.page_labels.specs.FaultLine as label
use Rattle.page_labels.specs.Labels.{nothing}
use Rattle.page_labels.specs.LabelsOf.{labels_of}
use Rattle.page_labels.specs.declared.fault.LabelFault.{LabelFault}
use Rattle.page_labels.specs.declared.clock.Clock.{Clock}
use Rattle.page_labels.specs.declared.labels.Labels.{Labels}
use Rattle.page_views.specs.declared.kind.CalendarDay.{CalendarDay}
use Rattle.command_texts.specs.what_if.Value.{SaysRosterFault}
use Rattle.page_command.specs.Check.{AnswersBeside, AnswersDemand, AnswersLabelled, AnswersRequest, AnswersShown, BesideAnswers, LabelAnswers, OldAnswers, RefusedLabels, Request, RequestAnswers, UnderAnswers, kind_by, requested}
use Rattle.page_command.specs.Check as answers
use Rattle.page_command.specs.Dated.{AnswersDated, CalendarAnswers, ClockAnswers, no_clock_line, events_on}
use Rattle.page_command.specs.Dated as dated
use Rattle.page_views.specs.Draw.{IsPage}
use Rattle.page_command.specs.Judgement.{Judgement, StatedJudgement}
use Rattle.page_command.specs.Judgement as judgement
use Rattle.page_command.specs.Old.{RefusedOld, old_of}
use Rattle.page_command.specs.Old as old_text
use Rattle.page_command.specs.declared.old_fault.OldFault.{OldFault}
use Rattle.page_command.specs.Report.{IsRead, LineAnswers, ReportAnswers, RosterAnswers, SaysTextFault, is_report}
use Rattle.page_command.specs.Report as report
use Rattle.page_views.specs.Shown.{IsShown, Showing, certified, line_instead, stated}
use Rattle.page_views.specs.Shown as showing
use Rattle.page_views.specs.declared.kind.FirstWord.{FirstWord}
use Rattle.page_views.specs.declared.kind.FirstWord.TheVariants as words
use Rattle.page_views.specs.declared.kind.Kind.{Kind}
use Rattle.page_views.specs.declared.kind.Kind.TheVariants.{Page, Table, Coverage, Calendar}
use Rattle.page_views.specs.declared.roster.ShownRoster.{ShownRoster}
use Rattle.page_command.specs.OnePage.{AreSameButTrees, AreTreesOfRows, ArePagesButTrees}
use Rattle.page_views.specs.Rows.{AreDerived, IsDerived, rows_of, rules_of}
use Rattle.page_views.specs.declared.sums.Sums.{Sums}
use Rattle.page_views.specs.declared.compare.Comparison.{Comparison}
use Rattle.page_command.proofs.OneComparison.{compared_once}

-- equal statuses, and texts that are the same but for the trees of derivations
abbrev AreAlike : ℕ → ℕ → List ℕ → List ℕ → Type 0
AreAlike s t a b = (s ≡ t) × AreSameButTrees a b

trees_of_row : (i : Instance) (r : Row) (a b : List ℕ) → IsDerived i r a → IsDerived i r b → AreRuledAtOnePrice r.word a b
trees_of_row i r a b h k =
    let g : Grammar = rules_of i r.group in
    record {
      grammar = g;
      price = r.price;
      one = steps 1 h.says.tree;
      other = steps 1 k.says.tree;
      first = h.text;
      second = k.text;
    }

trees_of_rows : (i : Instance) (rs : List Row) (xs ys : List (List ℕ)) → AreDerived i rs xs → AreDerived i rs ys → AreTreesOfRows rs xs ys
trees_of_rows i [] [] [] h k = tt
trees_of_rows i [] [] (y ∷ ys) h k = absurd k
trees_of_rows i [] (x ∷ xs) ys h k = absurd h
trees_of_rows i (r ∷ rs) [] ys h k = absurd h
trees_of_rows i (r ∷ rs) (x ∷ xs) [] h k = absurd k
trees_of_rows i (r ∷ rs) (x ∷ xs) (y ∷ ys) h k = (trees_of_row i r x y h.0 k.0, trees_of_rows i rs xs ys h.1 k.1)

-- two pages of one roster
pages_once : (x : Sums) (d : Labels) (i : Instance) (r : ShownRoster) (old : Option (List Shift)) (a b : List ℕ) → IsPage x d i r old a → IsPage x d i r old b → ArePagesButTrees a b
pages_once x d i r old a b h k =
    let same : h.shows.comparison ≡ k.shows.comparison
    = compared_once i.grammar.periods old r.shifts h.shows.comparison k.shows.comparison h.shows.compared k.shows.compared in
    let left = h.shows.beside in
    let right = k.shows.beside in
    let rows : h.content.rows ≡ k.content.rows
    = left.rows ∙ ap (λ (c : Comparison). rows_of i d c r.shifts) same ∙ sym right.rows in
    record {
      periods = i.grammar.periods;
      codes = i.grammar.codes;
      one = h.content;
      other = k.content;
      same = record {
        title = left.title ∙ sym right.title;
        words = left.words ∙ sym right.words;
        money = left.money ∙ sym right.money;
        off = left.off ∙ sym right.off;
        times = left.times ∙ sym right.times;
        stated = left.stated ∙ sym right.stated;
        figures = left.figures ∙ sym right.figures;
        changes = left.changes ∙ ap (λ (c : Comparison). c.changes) same ∙ sym right.changes;
        rows = rows;
        columns = left.columns ∙ sym right.columns;
        tables = left.tables ∙ sym right.tables;
        read = left.read ∙ sym right.read;
        derivations = trees_of_rows i k.content.rows h.content.derivations k.content.derivations
            (subst (λ (rs : List Row). AreDerived i rs h.content.derivations) rows left.derivations) right.derivations;
      };
      first = h.text;
      second = k.text;
    }

-- two times what shows one roster
shown_once : (n : Kind) (d : Labels) (i : Instance) (r : ShownRoster) (old : Option (List Shift)) (a b : List ℕ) → IsShown n d i r old a → IsShown n d i r old b → AreSameButTrees a b
shown_once (Page x) d i r old a b h k = inr (pages_once x d i r old a b h k)
shown_once Table d i r old a b h k = inl (h ∙ sym k)
shown_once Coverage d i r old a b h k = inl (h ∙ sym k)
shown_once (Calendar x) d i r old a b h k = inl (h ∙ sym k)

-- the line that is said in place of what shows a roster is one
same_line : (o : Option (List ℕ)) (a b : List ℕ) → o ≡ Some a → o ≡ Some b → a ≡ b
same_line o a b e f = cc

abbrev IsSaid : Option (List ℕ) → Type 0
IsSaid None = ⊥
IsSaid (Some line) = Unit {0}

line_or_none : (o : Option (List ℕ)) (a : List ℕ) → o ≡ Some a → o ≡ None → ⊥
line_or_none o a e f = subst IsSaid (sym e ∙ f) tt

-- two answers with one roster
showing_once : (n : Kind) (d : Labels) (i : Instance) (r : ShownRoster) (old : Option (List Shift)) (s t : ℕ) (a b : List ℕ) → Showing n d i r old s a → Showing n d i r old t b → AreAlike s t a b
showing_once n d i r old s t a b (showing.Showing.shown x e h) (showing.Showing.shown y f k) = (refl, shown_once n d i r old a b h k)
showing_once n d i r old s t a b (showing.Showing.shown x e h) (showing.Showing.line_said y f) = absurd (line_or_none (line_instead n d r) b f e)
showing_once n d i r old s t a b (showing.Showing.line_said x e) (showing.Showing.shown y f k) = absurd (line_or_none (line_instead n d r) a e f)
showing_once n d i r old s t a b (showing.Showing.line_said x e) (showing.Showing.line_said y f) = (refl, inl (same_line (line_instead n d r) a b e f))

judged_once : (n : Kind) (d : Labels) (old : Option (List Shift)) (i : Instance) (c : Cert) (s t : ℕ) (a b : List ℕ) → Judgement n d old i c s a → Judgement n d old i c t b → AreAlike s t a b
judged_once n d old i c s t a b (judgement.Judgement.yes u x h) (judgement.Judgement.yes v y k) = showing_once n d i (certified c) old s t a b h.shown k.shown
judged_once n d old i c s t a b (judgement.Judgement.yes u x h) (judgement.Judgement.no y k) = absurd (cause-refuses i c h.accepted k.why k.cause.holds)
judged_once n d old i c s t a b (judgement.Judgement.no x h) (judgement.Judgement.yes v y k) = absurd (cause-refuses i c k.accepted h.why h.cause.holds)
judged_once n d old i c s t a b (judgement.Judgement.no x h) (judgement.Judgement.no y k) =
    (refl, inl (h.line ∙ ap (λ (w : Why). verdict_text (No w)) (one-first i c h.why k.why h.cause k.cause) ∙ sym k.line))

proof_lines_once : (i : Instance) (text a b : List ℕ) → SaysProofFault i text a → SaysProofFault i text b → a ≡ b
proof_lines_once i text a b h k =
    h.line ∙ ap (λ (x : ProofFault). proof.fault_line x) (same_err (proof_of i text) h.fault k.fault h.reading k.reading) ∙ sym k.line

report_lines_once : (i : Instance) (text a b : List ℕ) → SaysRosterFault i text a → SaysRosterFault i text b → a ≡ b
report_lines_once i text a b h k =
    h.line ∙ ap (λ (x : RosterFault). roster.fault_line x) (same_err (roster_of i text) h.fault k.fault h.reading k.reading) ∙ sym k.line

proof_once : (n : Kind) (d : Labels) (old : Option (List Shift)) (i : Instance) (text : List ℕ) (s t : ℕ) (a b : List ℕ) → ProofAnswers (Judgement n d old) i text s a → ProofAnswers (Judgement n d old) i text t b → AreAlike s t a b
proof_once n d old i text s t a b (checks.ProofAnswers.accepted c x xs e h) (checks.ProofAnswers.accepted z y ys f k) =
    judged_once n d old i z s t a b (subst (λ (q : Cert). Judgement n d old i q s a) (same_ok (proof_of i text) c z e f) h) k
proof_once n d old i text s t a b (checks.ProofAnswers.accepted c x xs e h) (checks.ProofAnswers.refused ys k) = absurd (not_both (proof_of i text) c k.fault e k.reading)
proof_once n d old i text s t a b (checks.ProofAnswers.refused xs h) (checks.ProofAnswers.accepted z y ys f k) = absurd (not_both (proof_of i text) z h.fault f h.reading)
proof_once n d old i text s t a b (checks.ProofAnswers.refused xs h) (checks.ProofAnswers.refused ys k) = (refl, inl (proof_lines_once i text a b h k))

-- a stated roster has one answer
stated_twice : (n : Kind) (d : Labels) (old : Option (List Shift)) (i : Instance) (shifts : List Shift) (s t : ℕ) (a b : List ℕ) → StatedJudgement n d old i shifts s a → StatedJudgement n d old i shifts t b
    → AreAlike s t a b
stated_twice n d old i shifts s t a b (judgement.StatedJudgement.allowed u x h) (judgement.StatedJudgement.allowed v y k) =
    let same : h.value ≡ k.value = one_value i shifts h.value k.value h.is k.is in
    showing_once n d i (stated k.value) old s t a b (subst (λ (w : Valued). Showing n d i (stated w) old s a) same h.shown) k.shown
stated_twice n d old i shifts s t a b (judgement.StatedJudgement.allowed u x h) (judgement.StatedJudgement.not_allowed y k) = absurd (k.are.never h.value.cost h.costs)
stated_twice n d old i shifts s t a b (judgement.StatedJudgement.not_allowed x h) (judgement.StatedJudgement.allowed v y k) = absurd (h.are.never k.value.cost k.costs)
stated_twice n d old i shifts s t a b (judgement.StatedJudgement.not_allowed x h) (judgement.StatedJudgement.not_allowed y k) =
    (refl, inl ((stated-once i shifts 1 1 a b (values.StatedAnswer.refused a h) (values.StatedAnswer.refused b k)).1))

report_once : (n : Kind) (d : Labels) (old : Option (List Shift)) (i : Instance) (text : List ℕ) (s t : ℕ) (a b : List ℕ) → ReportAnswers n d old i text s a → ReportAnswers n d old i text t b → AreAlike s t a b
report_once n d old i text s t a b (report.ReportAnswers.accepted c x xs e h) (report.ReportAnswers.accepted z y ys f k) =
    stated_twice n d old i z s t a b (subst (λ (q : List Shift). StatedJudgement n d old i q s a) (same_ok (roster_of i text) c z e f) h) k
report_once n d old i text s t a b (report.ReportAnswers.accepted c x xs e h) (report.ReportAnswers.refused ys k) = absurd (not_both (roster_of i text) c k.fault e k.reading)
report_once n d old i text s t a b (report.ReportAnswers.refused xs h) (report.ReportAnswers.accepted z y ys f k) = absurd (not_both (roster_of i text) z h.fault f h.reading)
report_once n d old i text s t a b (report.ReportAnswers.refused xs h) (report.ReportAnswers.refused ys k) = (refl, inl (report_lines_once i text a b h k))

-- a text is a report or none
not_two : (b : Bool) → b ≡ true → b ≡ false → ⊥
not_two true e f = cc
not_two false e f = cc

roster_once : (n : Kind) (d : Labels) (old : Option (List Shift)) (i : Instance) (text : List ℕ) (s t : ℕ) (a b : List ℕ) → RosterAnswers n d old i text s a → RosterAnswers n d old i text t b → AreAlike s t a b
roster_once n d old i text s t a b (report.RosterAnswers.by_proof x xs e h) (report.RosterAnswers.by_proof y ys f k) = proof_once n d old i text s t a b h k
roster_once n d old i text s t a b (report.RosterAnswers.by_proof x xs e h) (report.RosterAnswers.by_report y ys f k) = absurd (not_two (is_report text) f e)
roster_once n d old i text s t a b (report.RosterAnswers.by_report x xs e h) (report.RosterAnswers.by_proof y ys f k) = absurd (not_two (is_report text) e f)
roster_once n d old i text s t a b (report.RosterAnswers.by_report x xs e h) (report.RosterAnswers.by_report y ys f k) = report_once n d old i text s t a b h k

-- a text that is read is not refused
read_or_not : (i : Instance) (text xs : List ℕ) → IsRead i text → SaysTextFault i text xs → ⊥
read_or_not i text xs (report.IsRead.proof_read c is e) (report.SaysTextFault.proof_refused other k) = not_both (proof_of i text) c k.fault e k.reading
read_or_not i text xs (report.IsRead.proof_read c is e) (report.SaysTextFault.report_refused other k) = not_two (is_report text) other is
read_or_not i text xs (report.IsRead.report_read shifts is e) (report.SaysTextFault.proof_refused other k) = not_two (is_report text) is other
read_or_not i text xs (report.IsRead.report_read shifts is e) (report.SaysTextFault.report_refused other k) = not_both (roster_of i text) shifts k.fault e k.reading

text_faults_once : (i : Instance) (text a b : List ℕ) → SaysTextFault i text a → SaysTextFault i text b → a ≡ b
text_faults_once i text a b (report.SaysTextFault.proof_refused is h) (report.SaysTextFault.proof_refused other k) = proof_lines_once i text a b h k
text_faults_once i text a b (report.SaysTextFault.proof_refused is h) (report.SaysTextFault.report_refused other k) = absurd (not_two (is_report text) other is)
text_faults_once i text a b (report.SaysTextFault.report_refused is h) (report.SaysTextFault.proof_refused other k) = absurd (not_two (is_report text) is other)
text_faults_once i text a b (report.SaysTextFault.report_refused is h) (report.SaysTextFault.report_refused other k) = report_lines_once i text a b h k

-- one line in place of what would be shown
line_once : (i : Instance) (text line : List ℕ) (s t : ℕ) (a b : List ℕ) → LineAnswers i text line s a → LineAnswers i text line t b → AreAlike s t a b
line_once i text line s t a b (report.LineAnswers.line_said xs e h) (report.LineAnswers.line_said ys f k) = (refl, inl (h ∙ sym k))
line_once i text line s t a b (report.LineAnswers.line_said xs e h) (report.LineAnswers.text_refused ys k) = absurd (read_or_not i text b e k)
line_once i text line s t a b (report.LineAnswers.text_refused xs h) (report.LineAnswers.line_said ys f k) = absurd (read_or_not i text a f h)
line_once i text line s t a b (report.LineAnswers.text_refused xs h) (report.LineAnswers.text_refused ys k) = (refl, inl (text_faults_once i text a b h k))

refused_once : (labels : List ℕ) (i : Instance) (text : List ℕ) (s t : ℕ) (a b : List ℕ) → RefusedLabels labels i text s a → RefusedLabels labels i text t b → AreAlike s t a b
refused_once labels i text s t a b h k =
    let same : h.line ≡ k.line = h.fault.line ∙ ap (λ (x : LabelFault). label.fault_line x) (same_err (labels_of i labels) h.fault.fault k.fault.fault h.fault.reading k.fault.reading) ∙ sym k.fault.line in
    line_once i text k.line s t a b (subst (λ (x : List ℕ). LineAnswers i text x s a) same h.answers) k.answers

old_refused_once : (old : List ℕ) (i : Instance) (text : List ℕ) (s t : ℕ) (a b : List ℕ) → RefusedOld old i text s a → RefusedOld old i text t b → AreAlike s t a b
old_refused_once old i text s t a b h k =
    let same : h.line ≡ k.line = h.fault.line ∙ ap (λ (x : OldFault). old_text.fault_line x) (same_err (old_of i old) h.fault.fault k.fault.fault h.fault.reading k.fault.reading) ∙ sym k.fault.line in
    line_once i text k.line s t a b (subst (λ (x : List ℕ). LineAnswers i text x s a) same h.answers) k.answers

old_once : (n : Kind) (d : Labels) (old : List ℕ) (i : Instance) (text : List ℕ) (s t : ℕ) (a b : List ℕ) → OldAnswers n d old i text s a → OldAnswers n d old i text t b → AreAlike s t a b
old_once n d old i text s t a b (answers.OldAnswers.read x sx xs e h) (answers.OldAnswers.read y sy ys f k) =
    roster_once n d (Some y) i text s t a b (subst (λ (q : List Shift). RosterAnswers n d (Some q) i text s a) (same_ok (old_of i old) x y e f) h) k
old_once n d old i text s t a b (answers.OldAnswers.read x sx xs e h) (answers.OldAnswers.old_refused sy ys k) = absurd (not_both (old_of i old) x k.fault.fault e k.fault.reading)
old_once n d old i text s t a b (answers.OldAnswers.old_refused sx xs h) (answers.OldAnswers.read y sy ys f k) = absurd (not_both (old_of i old) y h.fault.fault f h.fault.reading)
old_once n d old i text s t a b (answers.OldAnswers.old_refused sx xs h) (answers.OldAnswers.old_refused sy ys k) = old_refused_once old i text s t a b h k

beside_once : (n : Kind) (d : Labels) (old : Option (List ℕ)) (i : Instance) (text : List ℕ) (s t : ℕ) (a b : List ℕ) → BesideAnswers n d old i text s a → BesideAnswers n d old i text t b → AreAlike s t a b
beside_once n d None i text s t a b h k = roster_once n d None i text s t a b h k
beside_once n d (Some old) i text s t a b h k = old_once n d old i text s t a b h k

labels_once : (n : Kind) (labels : List ℕ) (old : Option (List ℕ)) (i : Instance) (text : List ℕ) (s t : ℕ) (a b : List ℕ) → LabelAnswers n labels old i text s a → LabelAnswers n labels old i text t b → AreAlike s t a b
labels_once n labels old i text s t a b (answers.LabelAnswers.answered d x xs e h) (answers.LabelAnswers.answered g y ys f k) =
    beside_once n g old i text s t a b (subst (λ (q : Labels). BesideAnswers n q old i text s a) (same_ok (labels_of i labels) d g e f) h) k
labels_once n labels old i text s t a b (answers.LabelAnswers.answered d x xs e h) (answers.LabelAnswers.labels_refused y ys k) =
    absurd (not_both (labels_of i labels) d k.fault.fault e k.fault.reading)
labels_once n labels old i text s t a b (answers.LabelAnswers.labels_refused x xs h) (answers.LabelAnswers.answered g y ys f k) =
    absurd (not_both (labels_of i labels) g h.fault.fault f h.fault.reading)
labels_once n labels old i text s t a b (answers.LabelAnswers.labels_refused x xs h) (answers.LabelAnswers.labels_refused y ys k) = refused_once labels i text s t a b h k

-- answers to a proof text of which there is one
abbrev IsOnce : TextAnswers → Type 0
IsOnce A = (i : Instance) (text : List ℕ) (s t : ℕ) (a b : List ℕ) → A i text s a → A i text t b → AreAlike s t a b

module _ (A : TextAnswers) (once : IsOnce A) where
  proofs_once : (held : Texts) (i : Instance) (name : List ℕ) (s t : ℕ) (a b : List ℕ) → AnswersThird A (Some held) i name s a → AnswersThird A (Some held) i name t b → AreAlike s t a b
  proofs_once held i name s t a b h k =
      once i k.text s t a b (subst (λ (x : List ℕ). A i x s a) (same_text held name h.text k.text h.holds k.holds) h.answers) k.answers

  demand_once : (held : Texts) (g : Grammar) (text name : List ℕ) (s t : ℕ) (a b : List ℕ) → DemandAnswers A (Some held) g text name s a → DemandAnswers A (Some held) g text name t b → AreAlike s t a b
  demand_once held g text name s t a b (checks.DemandAnswers.accepted i x xs e h) (checks.DemandAnswers.accepted j y ys f k) =
      proofs_once held j name s t a b
      (subst (λ (z : Instance). AnswersThird A (Some held) z name s a) (same_ok (instance_of g text) i j e.reading f.reading) h) k
  demand_once held g text name s t a b (checks.DemandAnswers.accepted i x xs e h) (checks.DemandAnswers.refused ys k) =
      absurd (not_both (instance_of g text) i k.fault e.reading k.reading)
  demand_once held g text name s t a b (checks.DemandAnswers.refused xs h) (checks.DemandAnswers.accepted j y ys f k) =
      absurd (not_both (instance_of g text) j h.fault f.reading h.reading)
  demand_once held g text name s t a b (checks.DemandAnswers.refused xs h) (checks.DemandAnswers.refused ys k) =
      (refl, inl (h.line ∙ ap (λ (x : DemandFault). demand.fault_line x) (same_err (instance_of g text) h.fault k.fault h.reading k.reading) ∙ sym k.line))

under_once : (n : Kind) (labels old : Option (List ℕ)) (i : Instance) (text : List ℕ) (s t : ℕ) (a b : List ℕ) → UnderAnswers n labels old i text s a → UnderAnswers n labels old i text t b → AreAlike s t a b
under_once n None old i text s t a b h k = beside_once n nothing old i text s t a b h k
under_once n (Some labels) old i text s t a b h k = labels_once n labels old i text s t a b h k

-- what is asked by texts is answered once
asked_once : (r : Request) (demand : List ℕ) → IsOnce (RequestAnswers r demand)
asked_once r demand i text s t a b h k = under_once (kind_by r demand text) r.labels r.old i text s t a b h k

demands_once : (r : Request) (held : Texts) (g : Grammar) (name proof_name : List ℕ) (s t : ℕ) (a b : List ℕ) → AnswersDemand r (Some held) g name proof_name s a → AnswersDemand r (Some held) g name proof_name t b → AreAlike s t a b
demands_once r held g name proof_name s t a b h k =
    demand_once (RequestAnswers r k.text) (asked_once r k.text) held g k.text proof_name s t a b
    (subst (λ (x : List ℕ). DemandAnswers (RequestAnswers r x) (Some held) g x proof_name s a) (same_text held name h.text k.text h.holds k.holds) h.answers) k.answers

request_once : (r : Request) (held : Texts) (demand proof : List ℕ) (s t : ℕ) (a b : List ℕ) → AnswersRequest r (Some held) demand proof s a → AnswersRequest r (Some held) demand proof t b → AreAlike s t a b
request_once r held demand proof s t a b (answers.AnswersRequest.accepted g x xs e h) (answers.AnswersRequest.accepted f y ys q k) =
    demands_once r held f demand proof s t a b
    (subst (λ (z : Grammar). AnswersDemand r (Some held) z demand proof s a) (same_grammar r.rules g f e.reading q.reading) h) k
request_once r held demand proof s t a b (answers.AnswersRequest.accepted g x xs e h) (answers.AnswersRequest.refused ys k) = absurd (no_fault r.rules g k.fault e.reading k.reading)
request_once r held demand proof s t a b (answers.AnswersRequest.refused xs h) (answers.AnswersRequest.accepted f y ys q k) = absurd (no_fault r.rules f h.fault q.reading h.reading)
request_once r held demand proof s t a b (answers.AnswersRequest.refused xs h) (answers.AnswersRequest.refused ys k) = (refl, inl (faults_once r.rules a b h k))

pub page_once : (w : FirstWord) (held : Texts) (rules demand proof : List ℕ) (s t : ℕ) (a b : List ℕ) → AnswersShown w (Some held) rules demand proof s a → AnswersShown w (Some held) rules demand proof t b → AreAlike s t a b
page_once w held rules demand proof s t a b h k =
    let same = same_text held rules h.text k.text h.holds k.holds in
    request_once (requested w k.text None None) held demand proof s t a b (subst (λ (x : List ℕ). AnswersRequest (requested w x None None) (Some held) demand proof s a) same h.answers) k.answers

pub labelled_once : (w : FirstWord) (held : Texts) (rules demand proof labels : List ℕ) (s t : ℕ) (a b : List ℕ) → AnswersLabelled w (Some held) rules demand proof labels s a
    → AnswersLabelled w (Some held) rules demand proof labels t b → AreAlike s t a b
labelled_once w held rules demand proof labels s t a b h k =
    let rules_same = same_text held rules h.text k.text h.holds k.holds in
    let labels_same = same_text held labels h.answers.text k.answers.text h.answers.holds k.answers.holds in
    let by_rules = subst (λ (x : List ℕ). AnswersRequest (requested w x (Some h.answers.text) None) (Some held) demand proof s a) rules_same h.answers.answers in
    let by_labels = subst (λ (x : List ℕ). AnswersRequest (requested w k.text (Some x) None) (Some held) demand proof s a) labels_same by_rules in
    request_once (requested w k.text (Some k.answers.text) None) held demand proof s t a b by_labels k.answers.answers

pub beside_texts_once : (held : Texts) (rules demand proof labels old : List ℕ) (s t : ℕ) (a b : List ℕ) → AnswersBeside (Some held) rules demand proof labels old s a
    → AnswersBeside (Some held) rules demand proof labels old t b → AreAlike s t a b
beside_texts_once held rules demand proof labels old s t a b h k =
    let p = h.answers.answers in
    let q = k.answers.answers in
    let rules_same = same_text held rules h.text k.text h.holds k.holds in
    let labels_same = same_text held labels h.answers.text k.answers.text h.answers.holds k.answers.holds in
    let old_same = same_text held old p.text q.text p.holds q.holds in
    let by_rules = subst (λ (x : List ℕ). AnswersRequest (requested words.Page x (Some h.answers.text) (Some p.text)) (Some held) demand proof s a) rules_same p.answers in
    let by_labels = subst (λ (x : List ℕ). AnswersRequest (requested words.Page k.text (Some x) (Some p.text)) (Some held) demand proof s a) labels_same by_rules in
    let by_old = subst (λ (x : List ℕ). AnswersRequest (requested words.Page k.text (Some k.answers.text) (Some x)) (Some held) demand proof s a) old_same by_labels in
    request_once (requested words.Page k.text (Some k.answers.text) (Some q.text)) held demand proof s t a b by_old q.answers

-- what a labels text tells of the clock is one thing
same_clock : (o : Option Clock) (c z : Clock) → o ≡ Some c → o ≡ Some z → c ≡ z
same_clock o c z e f = cc

abbrev IsClocked : Option Clock → Type 0
IsClocked None = ⊥
IsClocked (Some c) = Unit {0}

clock_or_none : (o : Option Clock) (c : Clock) → o ≡ Some c → o ≡ None → ⊥
clock_or_none o c e f = subst IsClocked (sym e ∙ f) tt

clock_once : (day : CalendarDay) (d : Labels) (i : Instance) (text : List ℕ) (s t : ℕ) (a b : List ℕ) → ClockAnswers day d i text s a → ClockAnswers day d i text t b → AreAlike s t a b
clock_once day d i text s t a b (dated.ClockAnswers.answered c x xs e h) (dated.ClockAnswers.answered z y ys f k) =
    roster_once (Calendar (events_on day z)) d None i text s t a b
    (subst (λ (q : Clock). RosterAnswers (Calendar (events_on day q)) d None i text s a) (same_clock d.clock c z e f) h) k
clock_once day d i text s t a b (dated.ClockAnswers.answered c x xs e h) (dated.ClockAnswers.no_clock y ys f k) = absurd (clock_or_none d.clock c e f)
clock_once day d i text s t a b (dated.ClockAnswers.no_clock x xs e h) (dated.ClockAnswers.answered z y ys f k) = absurd (clock_or_none d.clock z f e)
clock_once day d i text s t a b (dated.ClockAnswers.no_clock x xs e h) (dated.ClockAnswers.no_clock y ys f k) = line_once i text no_clock_line s t a b h k

calendar_once : (day : CalendarDay) (labels : List ℕ) → IsOnce (CalendarAnswers day labels)
calendar_once day labels i text s t a b (dated.CalendarAnswers.read d x xs e h) (dated.CalendarAnswers.read g y ys f k) =
    clock_once day g i text s t a b
    (subst (λ (q : Labels). ClockAnswers day q i text s a) (same_ok (labels_of i labels) d g e f) h) k
calendar_once day labels i text s t a b (dated.CalendarAnswers.read d x xs e h) (dated.CalendarAnswers.labels_refused y ys k) =
    absurd (not_both (labels_of i labels) d k.fault.fault e k.fault.reading)
calendar_once day labels i text s t a b (dated.CalendarAnswers.labels_refused x xs h) (dated.CalendarAnswers.read g y ys f k) =
    absurd (not_both (labels_of i labels) g h.fault.fault f h.fault.reading)
calendar_once day labels i text s t a b (dated.CalendarAnswers.labels_refused x xs h) (dated.CalendarAnswers.labels_refused y ys k) =
    refused_once labels i text s t a b h k

read_texts_once : (A : TextAnswers) → IsOnce A → (held : Texts) (rules demand name : List ℕ) (s t : ℕ) (a b : List ℕ) → TextsAnswers A (Some held) rules demand name s a
    → TextsAnswers A (Some held) rules demand name t b → AreAlike s t a b
read_texts_once A once held rules demand name s t a b (checks.TextsAnswers.accepted g x xs e h) (checks.TextsAnswers.accepted f y ys q k) =
    demand_once A once held f demand name s t a b (subst (λ (z : Grammar). DemandAnswers A (Some held) z demand name s a) (same_grammar rules g f e.reading q.reading) h) k
read_texts_once A once held rules demand name s t a b (checks.TextsAnswers.accepted g x xs e h) (checks.TextsAnswers.refused ys k) = absurd (no_fault rules g k.fault e.reading k.reading)
read_texts_once A once held rules demand name s t a b (checks.TextsAnswers.refused xs h) (checks.TextsAnswers.accepted f y ys q k) = absurd (no_fault rules f h.fault q.reading h.reading)
read_texts_once A once held rules demand name s t a b (checks.TextsAnswers.refused xs h) (checks.TextsAnswers.refused ys k) = (refl, inl (faults_once rules a b h k))

pub dated_once : (day : CalendarDay) (held : Texts) (rules demand proof labels : List ℕ) (s t : ℕ) (a b : List ℕ) → AnswersDated day (Some held) rules demand proof labels s a
    → AnswersDated day (Some held) rules demand proof labels t b → AreAlike s t a b
dated_once day held rules demand proof labels s t a b h k =
    let rules_same = same_text held rules h.text k.text h.holds k.holds in
    let labels_same = same_text held labels h.answers.text k.answers.text h.answers.holds k.answers.holds in
    let demand_same = same_text held demand h.answers.answers.text k.answers.answers.text h.answers.answers.holds k.answers.answers.holds in
    let one = subst (λ (r : List ℕ). TextsAnswers (CalendarAnswers day h.answers.text) (Some held) r h.answers.answers.text proof s a) rules_same h.answers.answers.answers in
    let two = subst (λ (l : List ℕ). TextsAnswers (CalendarAnswers day l) (Some held) k.text h.answers.answers.text proof s a) labels_same one in
    let three = subst (λ (d : List ℕ). TextsAnswers (CalendarAnswers day k.answers.text) (Some held) k.text d proof s a) demand_same two in
    read_texts_once (CalendarAnswers day k.answers.text) (calendar_once day k.answers.text) held k.text k.answers.answers.text proof s t a b three
    k.answers.answers.answers
