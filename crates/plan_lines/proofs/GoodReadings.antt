-- What all lines of a plan say is fit.
use Rattle.std.proofs.Common.{◌≡◌, ℕ, ◌≤◌, Bool, true, false, not, ◌&&◌, cond, eqb, List, [], ◌∷◌, Option, Some, None, Result, Ok, Err, refl, sym, ap, subst}
use Rattle.std.proofs.Math.Dec.{leb}
use Rattle.std.specs.Prelude.{is_some}
use Rattle.std.proofs.lemmas.Bool.{leb-true, ltb-false}
use Rattle.text_lines.proofs.FieldsLemmas.{number_within}
use Rattle.text_lines.proofs.ListLemmas.{not_false, same_number}
use Rattle.text_lines.proofs.StepsLemmas.{bind_ok, each_keeps, passed, same_ok}
use Rattle.text_lines.specs.Lines.{before_comment}
use Rattle.text_lines.specs.Words.{words}
use Rattle.plan_cells.specs.Lines.{NumberedLine, text_lines}
use Rattle.plan_faults.specs.declared.fault.Kind.{Kind}
use Rattle.plan_faults.specs.declared.fault.Kind.TheVariants as kind
use Rattle.plan_faults.specs.declared.fault.LineFault.{LineFault}
use Rattle.plan_faults.specs.declared.fault.PlanFault.{PlanFault}
use Rattle.plan_faults.specs.declared.fault.Signs.{Signs}
use Rattle.plan_fields.proofs.GoodWords.{quoted_ok}
use Rattle.plan_fields.specs.Drafts.{no_draft}
use Rattle.plan_fields.specs.Steps.{◌>>=◌, quoted}
use Rattle.plan_fields.specs.declared.draft.Draft.{Draft}
use Rattle.plan_lines.proofs.GoodDrafts.{IsGoodDraft, draft_good, none_good}
use Rattle.plan_lines.specs.DayLines.{day_line, day_or, day_words, new_day, title_line}
use Rattle.plan_lines.specs.DraftLines.{draft_line}
use Rattle.plan_lines.specs.Kinds.{is_free, kind_of}
use Rattle.plan_lines.specs.Lines.{behind_day, kind_line, known_line, line_at, signed_line, word_line, words_line}
use Rattle.plan_lines.specs.Plans.{item_at, located, reading_of}
use Rattle.plan_lines.specs.Readings.{nothing}
use Rattle.plan_lines.specs.Signs.{is_plain, signs_of}
use Rattle.plan_lines.specs.declared.reading.Reading.{Reading}
use Rattle.plan_meaning.specs.declared.plan.PlanDay.{PlanDay}
use Rattle.plan_meaning.specs.declared.plan.Time.{Time}
use Rattle.plan_words.specs.Days.{IsSoundDay, day_of}
use Rattle.plan_words.specs.Digits.{minutes_at}
use Rattle.plan_words.specs.Numbers.{number_at}
use Rattle.plan_words.specs.TimeWords.{as_time, clock_time, marked_time, time_at, time_or}
use Rattle.plan_words.specs.declared.fault.DayFault.{DayFault}
use Rattle.plan_words.specs.declared.fault.WordFault.{WordFault}

-- ---- the day

same_time : (s t : Time) → Some s ≡ Some t → s ≡ t
same_time s t e = cc

as_time_is : (next : Bool) (o : Option ℕ) (t : Time) → as_time next o ≡ Some t → t.minute ≤ 1440
unfolding as_time
as_time_is next None t e = absurd cc
as_time_is next (Some m) t e = by (leb m 1440) refl e
  where
    by : (b : Bool) → leb m 1440 ≡ b → cond b (Some (record { minute = m; next_day = next })) None ≡ Some t → t.minute ≤ 1440
    by false h q = absurd cc
    by true h q = subst (λ (x : Time). x.minute ≤ 1440) (same_time (record { minute = m; next_day = next }) t q) (leb-true m 1440 h)

marked_is : (plus one : ℕ) (o : Option ℕ) (t : Time) → marked_time plus one o ≡ Some t → t.minute ≤ 1440
unfolding marked_time
marked_is plus one o t e = by (eqb plus 43 && eqb one 49) e
  where
    by : (b : Bool) → cond b (as_time true o) None ≡ Some t → t.minute ≤ 1440
    by true q = as_time_is true o t q
    by false q = absurd cc

time_small : (w : List ℕ) (t : Time) → time_at w ≡ Some t → t.minute ≤ 1440
unfolding time_at
time_small [] t e = absurd cc
time_small (a ∷ []) t e = absurd cc
time_small (a ∷ b ∷ []) t e = absurd cc
time_small (a ∷ b ∷ c ∷ []) t e = absurd cc
time_small (a ∷ b ∷ c ∷ d ∷ []) t e = as_time_is false (minutes_at 48 a b c d) t e
time_small (a ∷ b ∷ c ∷ d ∷ f ∷ []) t e = as_time_is false (minutes_at a b c d f) t e
time_small (a ∷ b ∷ c ∷ d ∷ f ∷ g ∷ []) t e = marked_is f g (minutes_at 48 a b c d) t e
time_small (a ∷ b ∷ c ∷ d ∷ f ∷ g ∷ h ∷ []) t e = marked_is g h (minutes_at a b c d f) t e
time_small (a ∷ b ∷ c ∷ d ∷ f ∷ g ∷ h ∷ i ∷ w) t e = absurd cc

time_is : (w : List ℕ) (t : Time) → time_or (time_at w) ≡ Ok t → t.minute ≤ 1440
unfolding time_or
time_is w t e = by (time_at w) refl e
  where
    by : (o : Option Time) → time_at w ≡ o → time_or o ≡ Ok t → t.minute ≤ 1440
    by None h q = absurd cc
    by (Some s) h q = subst (λ (x : Time). x.minute ≤ 1440) (same_ok {E = WordFault} s t q) (time_small w s h)

day_sound : (d x : PlanDay) → 1 ≤ d.minutes → d.minutes ≤ 720 → d.end.minute ≤ 1440 → day_of d ≡ Ok x → IsSoundDay x
unfolding day_of
day_sound d x some few end e =
    let whole = passed _ _ _ _ e in
    let most = passed _ _ _ _ whole.1 in
    subst IsSoundDay (same_ok {E = DayFault} d x most.1) (record {
      some = some;
      few = few;
      end = end;
      whole = same_number _ 0 (not_false _ whole.0);
      periods = ltb-false _ _ most.0;
    })

day_or_ok : (w v : List ℕ) (r : Result PlanDay DayFault) (x : PlanDay) → day_or w v r ≡ Ok x → r ≡ Ok x
day_or_ok w v (Ok d) x e = ap (λ (y : PlanDay). Ok y) (same_ok {E = LineFault} d x e)
day_or_ok w v (Err f) x e = absurd cc

day_words_sound : (w v u : List ℕ) (x : PlanDay) → day_words w v u ≡ Ok x → IsSoundDay x
unfolding day_words
day_words_sound w v u x e =
    let begin = bind_ok (quoted w (clock_time w)) _ _ e in
    let end = bind_ok (quoted v (time_or (time_at v))) _ _ begin.2 in
    let minutes = bind_ok (quoted u (number_at 1 720 u)) _ _ end.2 in
    let d : PlanDay = record { begin = begin.0; end = end.0; minutes = minutes.0 } in
    let range = number_within _ _ 1 720 minutes.0 u (quoted_ok u _ _ minutes.1) in
    day_sound d x range.0 range.1 (time_is v end.0 (quoted_ok v _ _ end.1)) (day_or_ok w v (day_of d) x minutes.2)

-- ---- a reading

-- before the day line nothing was said; behind it all is fit
abbrev pub IsReadDay : Option PlanDay → Draft → Type 0
IsReadDay None x = x ≡ no_draft
IsReadDay (Some d) x = IsSoundDay d × IsGoodDraft d x

abbrev pub IsGoodReading : Reading → Type 0
IsGoodReading r = IsReadDay r.day r.draft

first_day : (o : Option PlanDay) (x : Draft) (d : PlanDay) → is_some o ≡ false → IsReadDay o x → IsSoundDay d → IsReadDay (Some d) x
first_day None x d e g sound = (sound, subst (IsGoodDraft d) (sym g) (none_good d))
first_day (Some c) x d e g sound = absurd cc

new_day_is : (ws : List (List ℕ)) (o : Option PlanDay) → new_day ws ≡ Ok o → (d : PlanDay) × (o ≡ Some d) × IsSoundDay d
new_day_is [] o e = absurd cc
new_day_is (w ∷ []) o e = absurd cc
new_day_is (w ∷ v ∷ []) o e = absurd cc
new_day_is (w ∷ v ∷ u ∷ []) o e =
    let d = bind_ok (day_words w v u) _ _ e in
    (d.0, sym (same_ok {E = LineFault} (Some d.0) o d.2), day_words_sound w v u d.0 d.1)
new_day_is (w ∷ v ∷ u ∷ t ∷ ws) o e = absurd cc

day_good : (r s : Reading) (ws : List (List ℕ)) → IsGoodReading r → (day_line r.day ws >>= λ d. Ok (record r { day = d })) ≡ Ok s → IsGoodReading s
unfolding day_line
day_good r s ws g e =
    let o = bind_ok (day_line r.day ws) _ _ e in
    let once = passed (is_some r.day) _ _ _ o.1 in
    let d = new_day_is ws o.0 once.1 in
    subst IsGoodReading (same_ok {E = LineFault} (record r { day = o.0 }) s o.2)
    (subst (λ (x : Option PlanDay). IsReadDay x r.draft) (sym d.1) (first_day r.day r.draft d.0 once.0 g d.2))

behind_good : (k : ℕ) (r s : Reading) (what : Kind) (ws : List (List ℕ)) → IsGoodReading r → behind_day k r r.day what ws ≡ Ok s → IsGoodReading s
behind_good k r s what ws g e = by r.day refl e
  where
    by : (o : Option PlanDay) → r.day ≡ o → behind_day k r o what ws ≡ Ok s → IsGoodReading s
    by None h q = absurd cc
    by (Some d) h q =
        let x = bind_ok (draft_line k d r.draft what ws) _ _ q in
        let own = subst (λ (o : Option PlanDay). IsReadDay o r.draft) h g in
        subst IsGoodReading (same_ok {E = LineFault} (record r { draft = x.0 }) s x.2)
        (subst (λ (o : Option PlanDay). IsReadDay o x.0) (sym h) (own.0, draft_good d own.0 k r.draft x.0 what ws own.1 x.1))

kind_good : (k : ℕ) (r s : Reading) (what : Kind) (ws : List (List ℕ)) → IsGoodReading r → kind_line k r what ws ≡ Ok s → IsGoodReading s
unfolding kind_line
kind_good k r s kind.Title ws g e =
    let t = bind_ok (title_line r.title ws) _ _ e in
    subst IsGoodReading (same_ok {E = LineFault} (record r { title = t.0 }) s t.2) g
kind_good k r s kind.Day ws g e = day_good r s ws g e
kind_good k r s kind.Money ws g e = behind_good k r s kind.Money ws g e
kind_good k r s kind.Work ws g e = behind_good k r s kind.Work ws g e
kind_good k r s kind.Pause ws g e = behind_good k r s kind.Pause ws g e
kind_good k r s kind.Extra ws g e = behind_good k r s kind.Extra ws g e
kind_good k r s kind.Change ws g e = behind_good k r s kind.Change ws g e
kind_good k r s kind.Stretch ws g e = behind_good k r s kind.Stretch ws g e
kind_good k r s kind.Starts ws g e = behind_good k r s kind.Starts ws g e
kind_good k r s kind.Duty ws g e = behind_good k r s kind.Duty ws g e
kind_good k r s kind.Staff ws g e = behind_good k r s kind.Staff ws g e
kind_good k r s kind.Need ws g e = behind_good k r s kind.Need ws g e

known_good : (k : ℕ) (r s : Reading) (w : List ℕ) (o : Option Kind) (ws : List (List ℕ)) → IsGoodReading r → known_line k r w o ws ≡ Ok s → IsGoodReading s
known_good k r s w None ws g e = absurd cc
known_good k r s w (Some what) ws g e = kind_good k r s what ws g e

word_good : (k : ℕ) (r s : Reading) (body w : List ℕ) (ws : List (List ℕ)) → IsGoodReading r → word_line k r body w ws ≡ Ok s → IsGoodReading s
unfolding word_line
word_good k r s body w ws g e =
    let plain = passed (not (is_free (kind_of w)) && not (is_plain body)) _ _ _ e in
    known_good k r s w (kind_of w) ws g plain.1

words_good : (k : ℕ) (r s : Reading) (body : List ℕ) (ws : List (List ℕ)) → IsGoodReading r → words_line k r body ws ≡ Ok s → IsGoodReading s
words_good k r s body [] g e = subst IsGoodReading (same_ok {E = LineFault} r s e) g
words_good k r s body (w ∷ ws) g e = word_good k r s body w ws g e

line_good : (k : ℕ) (r s : Reading) (body : List ℕ) → IsGoodReading r → line_at k r body ≡ Ok s → IsGoodReading s
unfolding line_at
line_good k r s body g e = by (signs_of body) e
  where
    by : (o : Option Signs) → signed_line k r body o ≡ Ok s → IsGoodReading s
    by (Some f) q = absurd cc
    by None q = words_good k r s body (words body) g q

located_ok : (k : ℕ) (r : Result Reading LineFault) (s : Reading) → located k r ≡ Ok s → r ≡ Ok s
located_ok k (Ok x) s e = ap (λ (y : Reading). Ok y) (same_ok {E = PlanFault} x s e)
located_ok k (Err f) s e = absurd cc

-- what was read of all lines is fit
pub reading_good : (text : List ℕ) (s : Reading) → reading_of text ≡ Ok s → IsGoodReading s
reading_good text s e =
    each_keeps item_at IsGoodReading
    (λ (r t : Reading) (l : NumberedLine) (g : IsGoodReading r) (h : item_at r l ≡ Ok t). line_good l.number r t (before_comment l.bytes) g (located_ok l.number _ t h))
    nothing s (text_lines text) refl e
