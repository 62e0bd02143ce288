-- The fault of a line carries the line's number.
use Rattle.std.proofs.Common.{◌≡◌, ℕ, Bool, true, false, cond, ◌⊎◌, leb, ltb, List, [], ◌∷◌, ◌++◌, length, Option, Some, None, Result, Ok, Err, refl, inl, inr}
use Rattle.std.specs.Prelude.{codes, position}
use Rattle.std.specs.Str.{bytes_eq}
use Rattle.model_rosters.specs.declared.instance.Instance.{Instance}
use Rattle.model_rosters.specs.declared.instance.Shift.{Shift}
use Rattle.text_lines.specs.Lines.{TextLine, text_items}
use Rattle.text_lines.specs.Refusals.{number_of}
use Rattle.text_lines.specs.declared.line.BadByte as bad
use Rattle.text_lines.proofs.RefusalsLemmas.{At, at_ok, at_err, at_cond, at_bind, refuse, demand, first_refused}
use Rattle.text_lines.proofs.StepsLemmas.{err}
use Rattle.text_proof_pieces.specs.Fields.{has_name}
use Rattle.text_proof_pieces.specs.ShiftLines.{is_pair}
use Rattle.check_values.specs.declared.stated_rosters.fault.RosterFault.{RosterFault}
use Rattle.check_values.specs.declared.stated_rosters.fault.RosterFault.TheVariants.{BadByte, UnknownLine, BadNumber, OutOfRange, NoName, TooManyShifts, NoRoster, TooLong}
use Rattle.check_values.specs.stated_rosters.FaultLine.{line_of}
use Rattle.check_values.specs.stated_rosters.Fields.{numbered_or, group_at}
use Rattle.check_values.specs.stated_rosters.ShiftLines.{ShiftLine, shift_words, team_at, is_priced, letters_of, added}
use Rattle.check_values.specs.stated_rosters.RosterOf.{other_at, line_at, item_at, begins_report, shifts_of, roster_of, IsFirstRefused}

abbrev On : {A : Type 0} → ℕ → Result A RosterFault → Type 0
On k r = At line_of k r

found : (k : ℕ) (o : Option ℕ) → On k (numbered_or k o)
found k (Some place) = at_ok line_of k _
found k None = at_err line_of k (NoName k) refl

team_line : (k : ℕ) (i : Instance) (name : Option (List ℕ)) → On k (team_at k i name)
unfolding group_at
team_line k i None = at_ok line_of k 0
team_line k i (Some w) = found k (position (has_name i.grammar.names w) i.groups)

letters_line : (k group : ℕ) (word : List ℕ) (price : Option (List ℕ)) → On k (letters_of k group word price)
unfolding letters_of
letters_line k group word price =
    refuse line_of k (ltb 96 (length word)) (OutOfRange k) _ refl (demand line_of k (is_priced price) (BadNumber k) _ (at_ok line_of k _) refl)

added_line : (k : ℕ) (i : Instance) (shifts : List Shift) (said : Option ShiftLine) → On k (added k i shifts said)
unfolding added
added_line k i shifts None = at_err line_of k (UnknownLine k) refl
added_line k i shifts (Some w) =
    refuse line_of k (leb 64 (length shifts)) (TooManyShifts k) _ refl
    (at_bind line_of k (team_at k i w.name) _ (team_line k i w.name) (λ group.
    at_bind line_of k (letters_of k group w.word w.price) _ (letters_line k group w.word w.price) (λ s. at_ok line_of k (shifts ++ s ∷ []))))

other_line : (k : ℕ) (report : Bool) (shifts : List Shift) (ws : List (List ℕ)) → On k (other_at k report shifts ws)
unfolding other_at
other_line k false shifts ws = at_err line_of k (UnknownLine k) refl
other_line k true shifts ws = refuse line_of k (is_pair (codes "cost") (codes "none") ws) (NoRoster k) _ refl (at_ok line_of k shifts)

words_line : (k : ℕ) (i : Instance) (report : Bool) (shifts : List Shift) (ws : List (List ℕ)) → On k (line_at k i report shifts ws)
unfolding line_at
words_line k i report shifts [] = at_err line_of k (UnknownLine k) refl
words_line k i report shifts (w ∷ ws) =
    at_cond line_of k (bytes_eq w (codes "shift")) _ _ (added_line k i shifts (shift_words i.groups ws)) (other_line k report shifts (w ∷ ws))

item_line : (i : Instance) (report : Bool) (shifts : List Shift) (item : Result TextLine bad.BadByte) → At line_of (number_of item) (item_at i report shifts item)
item_line i report shifts (Ok line) = words_line line.number i report shifts line.words
item_line i report shifts (Err b) = at_err line_of b.line (BadByte b.line) refl

pub refused_line : (i : Instance) (text : List ℕ) (e : RosterFault) → roster_of i text ≡ Err e → (e ≡ TooLong) ⊎ IsFirstRefused i text e
unfolding roster_of
refused_line i text e h = by (ltb 1048576 (length text)) h
  where
    report : Bool
    report = begins_report (text_items text)

    by : (t : Bool) → cond t (err TooLong) (shifts_of i (text_items text)) ≡ Err e → (e ≡ TooLong) ⊎ IsFirstRefused i text e
    by true q = inl cc
    by false q = inr (first_refused line_of (item_at i report) (item_line i report) [] (text_items text) e q)
