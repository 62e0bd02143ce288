-- The fault of a line carries the line's number.
use Rattle.std.proofs.Common.{◌≡◌, ℕ, Bool, true, false, cond, ◌⊎◌, ◌&&◌, ◌||◌, eqb, ltb, not, List, [], ◌∷◌, length, Option, Some, None, Result, Ok, Err, refl, inl, inr}
use Rattle.std.specs.Prelude.{codes, is_some, position, slice_index, ◌==◌}
use Rattle.std.specs.Str.{bytes_eq}
use Rattle.model_rosters.specs.declared.grammar.CodeDef.{CodeDef}
use Rattle.model_rosters.specs.declared.instance.Group.{Group}
use Rattle.model_rosters.specs.declared.instance.Instance.{Instance}
use Rattle.text_lines.specs.Lines.{TextLine}
use Rattle.text_lines.specs.Fields.{number_at}
use Rattle.text_lines.specs.Refusals.{number_of}
use Rattle.text_lines.specs.declared.line.BadByte as bad
use Rattle.text_lines.proofs.RefusalsLemmas.{At, at_ok, at_err, at_cond, at_bind, number_line, refuse, demand, first_refused}
use Rattle.text_lines.proofs.StepsLemmas.{err}
use Rattle.page_labels.specs.declared.fault.LabelFault.{LabelFault}
use Rattle.page_labels.specs.declared.fault.LabelFault.TheVariants.{BadByte, UnknownLine, BadNumber, OutOfRange, UnknownCode, NoName, BadName, Twice, TooLong}
use Rattle.page_labels.specs.declared.labels.Labels.{Labels}
use Rattle.page_labels.specs.Clocks.{clock_of, is_time, minute_at, minutes_at, time_at, two}
use Rattle.page_labels.specs.FaultLine.{line_of}
use Rattle.page_labels.specs.Fields.{checked, code_at, found_or, group_at, has_name, joined, numbered_or, words_at}
use Rattle.page_labels.specs.LabelLines.{clock_at, code_byte, code_line_at, decimals_at, flag_at, further_at, group_line_at, grouped_at, is_time_off, line_at, money_at, off_at, other_at, paid_at, said_paid, shift_at, title_at, worded_at, works}
use Rattle.page_labels.specs.Labels.{has_code, has_group, has_paid, has_shift, is_paid, nothing}
use Rattle.page_labels.specs.LabelsOf.{item_at, labels_of, IsFirstRefused}
use Rattle.page_labels.specs.Steps.{each}
use Rattle.page_labels.specs.TextLines.{text_items}

abbrev On : {A : Type 0} → ℕ → Result A LabelFault → Type 0
On k r = At line_of k r

words_line : (k : ℕ) (ws : List (List ℕ)) → On k (words_at k ws)
unfolding checked
words_line k ws =
    refuse line_of k (eqb (length (joined ws)) 0) (UnknownLine k) _ refl
    (refuse line_of k (ltb 60 (length (joined ws))) (OutOfRange k) _ refl (at_ok line_of k (joined ws)))

found : (k : ℕ) (o : Option ℕ) → On k (found_or (UnknownCode k) o)
found k (Some c) = at_ok line_of k c
found k None = at_err line_of k (UnknownCode k) refl

code_on : (k : ℕ) (defs : List CodeDef) (w : List ℕ) → On k (code_at k defs w)
unfolding code_at
code_on k defs w =
    refuse line_of k (not (length w == 1)) (UnknownCode k) _ refl (found k (position (λ (d : CodeDef). d.byte == slice_index w 0) defs))

numbered : (k : ℕ) (o : Option ℕ) → On k (numbered_or (NoName k) o)
numbered k (Some place) = at_ok line_of k _
numbered k None = at_err line_of k (NoName k) refl

group_on : (k : ℕ) (names : List (List ℕ)) (groups : List Group) (w : List ℕ) → On k (group_at k names groups w)
unfolding group_at
group_on k names groups w = numbered k (position (has_name names w) groups)

minute_on : (k g h colon a b : ℕ) → On k (minute_at k g h colon a b)
unfolding minute_at
minute_on k g h colon a b =
    demand line_of k (is_time g h colon a b) (BadNumber k) _
    (refuse line_of k (ltb 23 (two g h) || ltb 59 (two a b)) (OutOfRange k) _ refl (at_ok line_of k _)) refl

time_on : (k : ℕ) (w : List ℕ) → On k (time_at k w)
unfolding time_at
time_on k [] = at_err line_of k (BadNumber k) refl
time_on k (a ∷ []) = at_err line_of k (BadNumber k) refl
time_on k (a ∷ b ∷ []) = at_err line_of k (BadNumber k) refl
time_on k (a ∷ b ∷ c ∷ []) = at_err line_of k (BadNumber k) refl
time_on k (a ∷ b ∷ c ∷ d ∷ []) = minute_on k 48 a b c d
time_on k (a ∷ b ∷ c ∷ d ∷ e ∷ []) = minute_on k a b c d e
time_on k (a ∷ b ∷ c ∷ d ∷ e ∷ f ∷ fs) = at_err line_of k (BadNumber k) refl

clock_on : (k : ℕ) (w v : List ℕ) → On k (clock_of k w v)
unfolding clock_of
clock_on k w v =
    at_bind line_of k (time_at k w) _ (time_on k w) (λ begin.
    at_bind line_of k (minutes_at k v) _ (number_line line_of k (BadNumber k) (OutOfRange k) refl refl 1 1440 v) (λ minutes. at_ok line_of k _))

title_on : (k : ℕ) (d : Labels) (ws : List (List ℕ)) → On k (title_at k d ws)
unfolding title_at
title_on k d ws =
    at_bind line_of k (words_at k ws) _ (words_line k ws) (λ t. refuse line_of k (ltb 0 (length d.title)) (Twice k) _ refl (at_ok line_of k _))

money_on : (k : ℕ) (d : Labels) (ws : List (List ℕ)) → On k (money_at k d ws)
unfolding money_at
money_on k d ws =
    at_bind line_of k (words_at k ws) _ (words_line k ws) (λ t. refuse line_of k (ltb 0 (length d.money)) (Twice k) _ refl (at_ok line_of k _))

clock_line : (k : ℕ) (d : Labels) (ws : List (List ℕ)) → On k (clock_at k d ws)
unfolding clock_at
clock_line k d [] = at_err line_of k (UnknownLine k) refl
clock_line k d (w ∷ []) = at_err line_of k (UnknownLine k) refl
clock_line k d (w ∷ v ∷ []) =
    at_bind line_of k (clock_of k w v) _ (clock_on k w v) (λ c. refuse line_of k (is_some d.clock) (Twice k) _ refl (at_ok line_of k _))
clock_line k d (w ∷ v ∷ x ∷ ws) = at_err line_of k (UnknownLine k) refl

code_line : (k : ℕ) (defs : List CodeDef) (d : Labels) (ws : List (List ℕ)) → On k (code_line_at k defs d ws)
unfolding code_line_at
code_line k defs d [] = at_err line_of k (UnknownLine k) refl
code_line k defs d (w ∷ ws) =
    at_bind line_of k (code_at k defs w) _ (code_on k defs w) (λ c.
    at_bind line_of k (words_at k ws) _ (words_line k ws) (λ t. refuse line_of k (has_code d.codes c) (Twice k) _ refl (at_ok line_of k _)))

group_line : (k : ℕ) (i : Instance) (d : Labels) (ws : List (List ℕ)) → On k (group_line_at k i d ws)
unfolding group_line_at
group_line k i d [] = at_err line_of k (UnknownLine k) refl
group_line k i d (w ∷ ws) =
    at_bind line_of k (group_at k i.grammar.names i.groups w) _ (group_on k i.grammar.names i.groups w) (λ n.
    at_bind line_of k (words_at k ws) _ (words_line k ws) (λ t. refuse line_of k (has_group d.groups n) (Twice k) _ refl (at_ok line_of k _)))

flag_on : (k : ℕ) (w : List ℕ) → On k (flag_at k w)
unfolding flag_at
flag_on k w =
    at_cond line_of k (bytes_eq w (codes "yes")) _ _ (at_ok line_of k true)
    (at_cond line_of k (bytes_eq w (codes "no")) _ _ (at_ok line_of k false) (at_err line_of k (UnknownLine k) refl))

said_line : (k : ℕ) (d : Labels) (c byte : ℕ) (said : Bool) → On k (said_paid k d c byte said)
unfolding said_paid
said_line k d c byte said =
    refuse line_of k (said && is_time_off d.off byte) (BadName k) _ refl
    (refuse line_of k (has_paid d.paid c) (Twice k) _ refl (at_ok line_of k _))

paid_line : (k : ℕ) (defs : List CodeDef) (d : Labels) (ws : List (List ℕ)) → On k (paid_at k defs d ws)
unfolding paid_at
paid_line k defs d [] = at_err line_of k (UnknownLine k) refl
paid_line k defs d (w ∷ []) = at_err line_of k (UnknownLine k) refl
paid_line k defs d (w ∷ v ∷ []) =
    at_bind line_of k (code_at k defs w) _ (code_on k defs w) (λ c. refuse line_of k (works defs c) (BadName k) _ refl
    (at_bind line_of k (flag_at k v) _ (flag_on k v) (λ said. said_line k d c (code_byte defs c) said)))
paid_line k defs d (w ∷ v ∷ x ∷ ws) = at_err line_of k (UnknownLine k) refl

off_line : (k : ℕ) (defs : List CodeDef) (d : Labels) (ws : List (List ℕ)) → On k (off_at k defs d ws)
unfolding off_at
off_line k defs d [] = at_err line_of k (UnknownLine k) refl
off_line k defs d (w ∷ []) =
    at_bind line_of k (code_at k defs w) _ (code_on k defs w) (λ c.
    refuse line_of k (works defs c || is_paid d.paid c) (BadName k) _ refl
    (refuse line_of k (is_some d.off) (Twice k) _ refl (at_ok line_of k _)))
off_line k defs d (w ∷ v ∷ ws) = at_err line_of k (UnknownLine k) refl

number_on : (k low high : ℕ) (w : List ℕ) → On k (number_at (BadNumber k) (OutOfRange k) low high w)
number_on k low high w = number_line line_of k (BadNumber k) (OutOfRange k) refl refl low high w

decimals_line : (k : ℕ) (d : Labels) (ws : List (List ℕ)) → On k (decimals_at k d ws)
unfolding decimals_at
decimals_line k d [] = at_err line_of k (UnknownLine k) refl
decimals_line k d (w ∷ []) =
    at_bind line_of k (number_at (BadNumber k) (OutOfRange k) 0 4 w) _ (number_on k 0 4 w) (λ n.
    refuse line_of k (is_some d.decimals) (Twice k) _ refl (at_ok line_of k _))
decimals_line k d (w ∷ v ∷ ws) = at_err line_of k (UnknownLine k) refl

worded_line : (k : ℕ) (d : Labels) (n g : ℕ) (ws : List (List ℕ)) → On k (worded_at k d n g ws)
unfolding worded_at
worded_line k d n g [] = at_err line_of k (UnknownLine k) refl
worded_line k d n g (w ∷ ws) =
    at_bind line_of k (words_at k ws) _ (words_line k ws) (λ t. refuse line_of k (has_shift d.shifts n) (Twice k) _ refl (at_ok line_of k _))

grouped_line : (k : ℕ) (i : Instance) (d : Labels) (n : ℕ) (ws : List (List ℕ)) → On k (grouped_at k i d n ws)
unfolding grouped_at
grouped_line k i d n [] = at_err line_of k (UnknownLine k) refl
grouped_line k i d n (w ∷ ws) =
    at_bind line_of k (group_at k i.grammar.names i.groups w) _ (group_on k i.grammar.names i.groups w) (λ g. worded_line k d n g ws)

shift_line : (k : ℕ) (i : Instance) (d : Labels) (ws : List (List ℕ)) → On k (shift_at k i d ws)
unfolding shift_at
shift_line k i d [] = at_err line_of k (UnknownLine k) refl
shift_line k i d (w ∷ ws) =
    at_bind line_of k (number_at (BadNumber k) (OutOfRange k) 1 4294967295 w) _ (number_on k 1 4294967295 w) (λ n.
    at_cond line_of k (eqb (length i.groups) 0) _ _ (worded_line k d n 0 ws) (grouped_line k i d n ws))

further_line : (k : ℕ) (i : Instance) (d : Labels) (w : List ℕ) (ws : List (List ℕ)) → On k (further_at k i d w ws)
unfolding further_at
further_line k i d w ws =
    at_cond line_of k (bytes_eq w (codes "paid")) _ _ (paid_line k i.grammar.codes d ws)
    (at_cond line_of k (bytes_eq w (codes "off")) _ _ (off_line k i.grammar.codes d ws)
    (at_cond line_of k (bytes_eq w (codes "shift")) _ _ (shift_line k i d ws)
    (at_cond line_of k (bytes_eq w (codes "decimals")) _ _ (decimals_line k d ws) (at_err line_of k (UnknownLine k) refl))))

other_line : (k : ℕ) (i : Instance) (d : Labels) (w : List ℕ) (ws : List (List ℕ)) → On k (other_at k i d w ws)
unfolding other_at
other_line k i d w ws =
    at_cond line_of k (bytes_eq w (codes "code")) _ _ (code_line k i.grammar.codes d ws)
    (at_cond line_of k (bytes_eq w (codes "group")) _ _ (group_line k i d ws) (further_line k i d w ws))

first_line : (k : ℕ) (i : Instance) (d : Labels) (ws : List (List ℕ)) → On k (line_at k i d ws)
unfolding line_at
first_line k i d [] = at_err line_of k (UnknownLine k) refl
first_line k i d (w ∷ ws) =
    at_cond line_of k (bytes_eq w (codes "title")) _ _ (title_on k d ws)
    (at_cond line_of k (bytes_eq w (codes "clock")) _ _ (clock_line k d ws)
    (at_cond line_of k (bytes_eq w (codes "money")) _ _ (money_on k d ws) (other_line k i d w ws)))

item_line : (i : Instance) (d : Labels) (item : Result TextLine bad.BadByte) → At line_of (number_of item) (item_at i d item)
item_line i d (Ok line) = first_line line.number i d line.words
item_line i d (Err b) = at_err line_of b.line (BadByte b.line) refl

pub refused_line : (i : Instance) (text : List ℕ) (e : LabelFault) → labels_of i text ≡ Err e → (e ≡ TooLong) ⊎ IsFirstRefused i text e
unfolding labels_of
refused_line i text e h = by (ltb 65536 (length text)) h
  where
    by : (t : Bool) → cond t (err TooLong) (each (item_at i) nothing (text_items text)) ≡ Err e → (e ≡ TooLong) ⊎ IsFirstRefused i text e
    by true q = inl cc
    by false q = inr (first_refused line_of (item_at i) (item_line i) nothing (text_items text) e q)
