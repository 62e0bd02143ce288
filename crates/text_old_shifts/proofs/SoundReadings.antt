-- The shifts that were read are sound, and so is the certificate of them.
use Rattle.std.proofs.Common.{◌≡◌, ℕ, ◌+◌, ◌≤◌, Bool, true, false, cond, leb, ltb, eqb, List, [], ◌∷◌, ◌++◌, length, Option, Some, None, Result, Ok, Err, refl, sym, ◌∙◌, arith, subst, length-append}
use Rattle.std.specs.Prelude.{codes, position, IfOk, ◌&&◌}
use Rattle.std.specs.Str.{bytes_eq}
use Rattle.std.proofs.lemmas.List.Quantifiers.{position-Some}
use Rattle.model_rosters.specs.declared.instance.Group.{Group}
use Rattle.model_rosters.specs.declared.instance.Instance.{Instance}
use Rattle.model_rosters.specs.declared.instance.Shift.{Shift}
use Rattle.model_rosters.specs.Cuts.{base_cuts}
use Rattle.model_rosters.specs.Folds.{Each}
use Rattle.model_rosters.proofs.EachLemmas.{Each-push}
use Rattle.check_certificates.specs.Nodes.{bare}
use Rattle.check_certificates.specs.Sound.{IsGroupNumber, IsSoundCert, IsSoundShift}
use Rattle.text_lines.specs.Lines.{TextLine, text_items}
use Rattle.text_lines.specs.Steps.{◌>>=◌}
use Rattle.text_lines.specs.declared.line.BadByte.{BadByte}
use Rattle.text_lines.proofs.ListLemmas.{at_least, fewer}
use Rattle.text_lines.proofs.StepsLemmas.{ok, same_ok, bind_ok, passed, held}
use Rattle.text_proof_pieces.specs.Fields.{has_name}
use Rattle.text_proof_pieces.specs.Items.{Items}
use Rattle.text_proof_pieces.specs.ShiftLines.{is_pair}
use Rattle.text_proof_pieces.proofs.FineItems.{AreFine, IsFine, IsFineWord, text_fine}
use Rattle.text_old_shifts.specs.FromOf.{cert_of_shifts}
use Rattle.text_old_shifts.specs.Header.{header_of}
use Rattle.text_old_shifts.specs.ShiftLines.{ShiftLine, added, is_priced, letters_words, named_team, numbered, shift_words, team_in, team_of, with_line}
use Rattle.text_old_shifts.specs.ShiftsOf.{begun, headed, is_node, line_at, no_shifts, other_at, shifts_from, shifts_of}
use Rattle.text_old_shifts.specs.SoundShifts.{AreSoundShifts}
use Rattle.text_old_shifts.specs.Steps.{Reads}
use Rattle.text_old_shifts.specs.declared.fault.OldFault.{OldFault}
use Rattle.text_old_shifts.specs.declared.fault.OldFault.TheVariants.{BadNumber, NoRoster, OutOfRange, TooLong, TooManyShifts}
use Rattle.text_old_shifts.specs.declared.header.Header.{Header}
use Rattle.text_old_shifts.specs.declared.said.SaidShifts.{SaidShifts}

letters_fine : (name : Option (List ℕ)) (ws : List (List ℕ)) (line : ShiftLine) → AreFine ws
    → letters_words name ws ≡ Some line → IsFineWord line.word
letters_fine name [] line fine e = absurd cc
letters_fine name (w ∷ []) line fine e =
    let same : record { name = name; word = w; price = None } ≡ line = cc in
    subst (λ (l : ShiftLine). IsFineWord l.word) same fine.0
letters_fine name (w ∷ p ∷ []) line fine e =
    let same : record { name = name; word = w; price = Some p } ≡ line = cc in
    subst (λ (l : ShiftLine). IsFineWord l.word) same fine.0
letters_fine name (w ∷ p ∷ x ∷ ws) line fine e = absurd cc

words_fine : (named : Bool) (ws : List (List ℕ)) (line : ShiftLine) → AreFine ws → shift_words named ws ≡ Some line
    → IsFineWord line.word
unfolding shift_words
words_fine false ws line fine e = letters_fine None ws line fine e
words_fine true [] line fine e = absurd cc
words_fine true (name ∷ ws) line fine e = letters_fine (Some name) ws line fine.1 e

same_some : (m n : ℕ) → Some m ≡ Some n → m ≡ n
same_some m n e = cc

named_is : (names : List (List ℕ)) (g : Group) (gs : List Group) (name : Option (List ℕ)) (n : ℕ)
    → named_team names (g ∷ gs) name ≡ Some n → IsGroupNumber (g ∷ gs) n
named_is names g gs None n e = absurd cc
named_is names g gs (Some w) n e = by (position (has_name names w) (g ∷ gs)) refl e
  where
    by : (o : Option ℕ) → position (has_name names w) (g ∷ gs) ≡ o → numbered o ≡ Some n → IsGroupNumber (g ∷ gs) n
    by None at q = absurd cc
    by (Some place) at q =
        let within = (position-Some (has_name names w) (g ∷ gs) place g at).0 in
        let same : place + 1 ≡ n = same_some (place + 1) n q in
        (omega arith, omega arith)

team_is : (i : Instance) (name : Option (List ℕ)) (n : ℕ) → team_of i name ≡ Some n → IsGroupNumber i.groups n
unfolding team_of
team_is i name n e = by i.groups e
  where
    by : (gs : List Group) → team_in i.grammar.names gs name ≡ Some n
        → IsGroupNumber gs n
    by [] q = let same : 0 ≡ n = same_some 0 n q in omega arith
    by (g ∷ gs) q = named_is i.grammar.names g gs name n q

with_sound : (i : Instance) (s : SaidShifts) (group : Option ℕ) (word : List ℕ)
    → ((n : ℕ) → group ≡ Some n → IsGroupNumber i.groups n) → IsFineWord word → length word ≤ 96
    → length s.shifts + s.passed + 1 ≤ 64 → AreSoundShifts i s → AreSoundShifts i (with_line s group word)
unfolding with_line
with_sound i s None word number fine short room sound =
    record { few = omega (arith, room); each = sound.each; free = sound.free }
with_sound i s (Some n) word number fine short room sound =
    let made : Shift = record { group = n; word = word; price = 0 } in
    let is : IsSoundShift i made = record {
      some = fine.some;
      short = short;
      bytes = fine.bytes;
      group = number n refl;
      price = omega arith;
    } in
    record {
      few = omega (arith, room, length-append s.shifts (made ∷ []));
      each = Each-push (IsSoundShift i) s.shifts made sound.each is;
      free = Each-push (λ (x : Shift). x.price ≡ 0) s.shifts made sound.free refl;
    }

added_sound : (k : ℕ) (i : Instance) (old new : SaidShifts) (line : ShiftLine) → IsFineWord line.word
    → AreSoundShifts i old → added k i old (Some line) ≡ Ok new → AreSoundShifts i new
unfolding added
added_sound k i old new line fine sound e =
    let p = passed (leb 64 (length old.shifts + old.passed)) (TooManyShifts k) _ new e in
    let q = passed (ltb 96 (length line.word)) (OutOfRange k) _ new p.1 in
    let made = with_line old (team_of i line.name) line.word in
    let h = held (is_priced line.price) (BadNumber k) (ok made) new q.1 in
    let room = fewer (length old.shifts + old.passed) 64 p.0 in
    subst (AreSoundShifts i) (same_ok made new h.1)
    (with_sound i old (team_of i line.name) line.word (team_is i line.name) fine (at_least 96 (length line.word) q.0)
    (omega (arith, room)) sound)

shift_sound : (k : ℕ) (i : Instance) (named : Bool) (old new : SaidShifts) (ws : List (List ℕ)) → AreFine ws
    → AreSoundShifts i old → added k i old (shift_words named ws) ≡ Ok new → AreSoundShifts i new
unfolding added
shift_sound k i named old new ws fine sound e = by (shift_words named ws) refl e
  where
    by : (o : Option ShiftLine) → shift_words named ws ≡ o → added k i old o ≡ Ok new → AreSoundShifts i new
    by None at q = absurd cc
    by (Some line) at q = added_sound k i old new line (words_fine named ws line fine at) sound q

other_same : (k : ℕ) (h : Header) (old new : SaidShifts) (ws : List (List ℕ)) → other_at k h old ws ≡ Ok new
    → old ≡ new
unfolding other_at
other_same k h old new ws e =
    same_ok old new
    ((passed (h.report && is_pair (codes "cost") (codes "none") ws) (NoRoster k) (ok old) new e).1)

pub line_sound : (k : ℕ) (i : Instance) (h : Header) (old new : SaidShifts) (ws : List (List ℕ)) → AreFine ws
    → AreSoundShifts i old → line_at k i h old ws ≡ Ok new → AreSoundShifts i new
unfolding line_at
line_sound k i h old new [] fine sound e = subst (AreSoundShifts i) (same_ok old new e) sound
line_sound k i h old new (w ∷ ws) fine sound e = by (bytes_eq w (codes "shift")) e
  where
    by : (t : Bool)
        → cond t (added k i old (shift_words h.named ws)) (other_at k h old (w ∷ ws)) ≡ Ok new
        → AreSoundShifts i new
    by true q = shift_sound k i h.named old new ws fine.1 sound q
    by false q = subst (AreSoundShifts i) (other_same k h old new (w ∷ ws) q) sound

-- at most 64 lines
with_few : (s : SaidShifts) (group : Option ℕ) (word : List ℕ) → length s.shifts + s.passed + 1 ≤ 64
    → length (with_line s group word).shifts + (with_line s group word).passed ≤ 64
unfolding with_line
with_few s None word room = omega (arith, room)
with_few s (Some n) word room =
    omega (arith, room, length-append s.shifts (record { group = n; word = word; price = 0 } ∷ []))

added_few : (k : ℕ) (i : Instance) (old new : SaidShifts) (o : Option ShiftLine) → added k i old o ≡ Ok new
    → length new.shifts + new.passed ≤ 64
unfolding added
added_few k i old new None e = absurd cc
added_few k i old new (Some line) e =
    let p = passed (leb 64 (length old.shifts + old.passed)) (TooManyShifts k) _ new e in
    let q = passed (ltb 96 (length line.word)) (OutOfRange k) _ new p.1 in
    let made = with_line old (team_of i line.name) line.word in
    let h = held (is_priced line.price) (BadNumber k) (ok made) new q.1 in
    let room = fewer (length old.shifts + old.passed) 64 p.0 in
    subst (λ (s : SaidShifts). length s.shifts + s.passed ≤ 64) (same_ok made new h.1)
    (with_few old (team_of i line.name) line.word (omega (arith, room)))

pub line_few : (k : ℕ) (i : Instance) (h : Header) (old new : SaidShifts) (ws : List (List ℕ))
    → length old.shifts + old.passed ≤ 64 → line_at k i h old ws ≡ Ok new → length new.shifts + new.passed ≤ 64
unfolding line_at
line_few k i h old new [] few e =
    subst (λ (s : SaidShifts). length s.shifts + s.passed ≤ 64) (same_ok old new e) few
line_few k i h old new (w ∷ ws) few e = by (bytes_eq w (codes "shift")) e
  where
    by : (t : Bool)
        → cond t (added k i old (shift_words h.named ws)) (other_at k h old (w ∷ ws)) ≡ Ok new
        → length new.shifts + new.passed ≤ 64
    by true q = added_few k i old new (shift_words h.named ws) q
    by false q =
        subst (λ (s : SaidShifts). length s.shifts + s.passed ≤ 64) (other_same k h old new (w ∷ ws) q) few

-- the lines behind one that is none of a node
pub next_line : (i : Instance) (h : Header) (old new : SaidShifts) (all items : Items) (item : Result TextLine BadByte)
    (line : TextLine) → all ≡ item ∷ items → item ≡ Ok line → is_node line.words ≡ false
    → line_at line.number i h old line.words ≡ Ok new → shifts_from i h old all ≡ shifts_from i h new items
next_line i h old new all items item line e f g k = rw (e, f, g, k) refl

lines_sound : (i : Instance) (h : Header) (old new : SaidShifts) (items : Items) → Each IsFine items
    → AreSoundShifts i old → shifts_from i h old items ≡ Ok new → AreSoundShifts i new
lines_sound i h old new [] fine sound e = subst (AreSoundShifts i) (same_ok old new e) sound
lines_sound i h old new (Err b ∷ items) fine sound e = absurd cc
lines_sound i h old new (Ok line ∷ items) fine sound e =
    by (is_node line.words) (λ s t q. lines_sound i h s new items fine.1 t q) e
  where
    by : (t : Bool) → ((s : SaidShifts) → AreSoundShifts i s → shifts_from i h s items ≡ Ok new → AreSoundShifts i new)
        → cond t (ok old) (line_at line.number i h old line.words >>= λ s. shifts_from i h s items) ≡ Ok new
        → AreSoundShifts i new
    by true more q = subst (AreSoundShifts i) (same_ok old new q) sound
    by false more q =
        let first = bind_ok (line_at line.number i h old line.words) (λ (s : SaidShifts). shifts_from i h s items) new
        q in
        more first.0 (line_sound line.number i h old first.0 line.words fine.0 sound first.1) first.2

none_sound : (i : Instance) → AreSoundShifts i no_shifts
none_sound i = record { few = omega arith; each = tt; free = tt }

headed_sound : (i : Instance) (k : ℕ) (h : Option Header) (new : SaidShifts) (items : Items) → Each IsFine items
    → headed i k h items ≡ Ok new → AreSoundShifts i new
headed_sound i k None new items fine e = absurd cc
headed_sound i k (Some h) new items fine e = lines_sound i h no_shifts new items fine (none_sound i) e

begun_sound : (i : Instance) (new : SaidShifts) (items : Items) → Each IsFine items → begun i items ≡ Ok new
    → AreSoundShifts i new
begun_sound i new [] fine e = absurd cc
begun_sound i new (Err b ∷ items) fine e = absurd cc
begun_sound i new (Ok line ∷ items) fine e = headed_sound i line.number (header_of line.words) new items fine.1 e

-- what was read of a text is sound
pub text_sound : (i : Instance) (text : List ℕ) (r : Result SaidShifts OldFault)
    → Reads (λ s. s) r (begun i (text_items text)) → IfOk r (AreSoundShifts i)
text_sound i text (Err e) reads = tt
text_sound i text (Ok s) reads = begun_sound i s (text_items text) (text_fine text) reads

-- a certificate of sound shifts is sound
pub cert_sound : (i : Instance) (s : SaidShifts) → AreSoundShifts i s → IsSoundCert i (cert_of_shifts s.shifts)
cert_sound i s sound = record {
  proof = bare;
  nodes = record { whole = refl; few = omega arith; each = (tt, tt) };
  listed = (tt, tt);
  shifts = sound.each;
  few = let f = sound.few in omega (arith, f);
  none = λ e. absurd cc;
  cost = omega arith;
  bound = omega arith;
}
