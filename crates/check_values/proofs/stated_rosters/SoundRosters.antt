-- The shifts that were read are sound.
use Rattle.std.proofs.Common.{◌≡◌, ℕ, ◌+◌, Bool, true, false, cond, leb, ltb, List, [], ◌∷◌, ◌++◌, length, Option, Some, None, Result, Ok, Err, refl, arith, subst, length-append}
use Rattle.std.specs.Prelude.{codes, position, IfOk}
use Rattle.std.specs.Str.{bytes_eq}
use Rattle.std.proofs.lemmas.List.Quantifiers.{position-Some}
use Rattle.model_rosters.specs.declared.instance.Group.{Group}
use Rattle.model_rosters.specs.declared.instance.Instance.{Instance}
use Rattle.model_rosters.specs.declared.instance.Shift.{Shift}
use Rattle.model_rosters.specs.Folds.{Each}
use Rattle.model_rosters.proofs.EachLemmas.{Each-push}
use Rattle.check_certificates.specs.Sound.{IsGroupNumber, IsSoundShift}
use Rattle.text_lines.specs.Lines.{TextLine, text_items}
use Rattle.text_lines.specs.declared.line.BadByte as bad
use Rattle.text_lines.proofs.ListLemmas.{at_least, fewer}
use Rattle.text_lines.proofs.StepsLemmas.{ok, same_ok, bind_ok, passed, held}
use Rattle.text_proof_pieces.specs.Fields.{has_name}
use Rattle.text_proof_pieces.specs.ShiftLines.{is_pair}
use Rattle.text_proof_pieces.proofs.FineItems.{AreFine, IsFine, IsFineWord, text_fine}
use Rattle.check_values.specs.declared.stated_rosters.fault.RosterFault.{RosterFault}
use Rattle.check_values.specs.declared.stated_rosters.fault.RosterFault.TheVariants.{BadNumber, OutOfRange, TooManyShifts, NoRoster}
use Rattle.check_values.specs.stated_rosters.Fields.{numbered_or, group_at}
use Rattle.check_values.specs.stated_rosters.ShiftLines.{ShiftLine, letters_words, shift_words, team_at, is_priced, letters_of, added}
use Rattle.check_values.specs.stated_rosters.RosterOf.{other_at, line_at, item_at, IsSoundRoster}
use Rattle.check_values.specs.stated_rosters.Steps.{each, Reads}

-- with groups one is named, and else none
abbrev IsNamed : List Group → Option (List ℕ) → Type 0
IsNamed [] name = name ≡ None
IsNamed (g ∷ gs) name = (w : List ℕ) × (name ≡ Some w)

-- the words of a shift line that fit the groups
record IsLine (groups : List Group) (said : ShiftLine) : Type 0 where
  named : IsNamed groups said.name
  fine : IsFineWord said.word

letters_fine : (groups : List Group) (name : Option (List ℕ)) (ws : List (List ℕ)) (said : ShiftLine) → IsNamed groups name → AreFine ws → letters_words name ws ≡ Some said → IsLine groups said
letters_fine groups name [] said named fine e = absurd cc
letters_fine groups name (w ∷ []) said named fine e =
    let same : record { name = name; word = w; price = None } ≡ said = cc in
    subst (IsLine groups) same (record { named = named; fine = fine.0 })
letters_fine groups name (w ∷ p ∷ []) said named fine e =
    let same : record { name = name; word = w; price = Some p } ≡ said = cc in
    subst (IsLine groups) same (record { named = named; fine = fine.0 })
letters_fine groups name (w ∷ p ∷ x ∷ ws) said named fine e = absurd cc

words_fine : (groups : List Group) (ws : List (List ℕ)) (said : ShiftLine) → AreFine ws → shift_words groups ws ≡ Some said → IsLine groups said
unfolding shift_words
words_fine [] ws said fine e = letters_fine [] None ws said refl fine e
words_fine (g ∷ gs) [] said fine e = absurd cc
words_fine (g ∷ gs) (name ∷ ws) said fine e = letters_fine (g ∷ gs) (Some name) ws said (name, refl) fine.1 e

found_is : (k : ℕ) (names : List (List ℕ)) (g : Group) (gs : List Group) (w : List ℕ) (n : ℕ) → group_at k names (g ∷ gs) w ≡ Ok n → IsGroupNumber (g ∷ gs) n
unfolding group_at
found_is k names g gs w n e = by (position (has_name names w) (g ∷ gs)) refl e
  where
    by : (o : Option ℕ) → position (has_name names w) (g ∷ gs) ≡ o → numbered_or k o ≡ Ok n → IsGroupNumber (g ∷ gs) n
    by None at q = absurd cc
    by (Some place) at q =
        let within = (position-Some (has_name names w) (g ∷ gs) place g at).0 in
        let same : place + 1 ≡ n = same_ok (place + 1) n q in
        (omega arith, omega arith)

team_is : (k : ℕ) (i : Instance) (name : Option (List ℕ)) (n : ℕ) → IsNamed i.groups name → team_at k i name ≡ Ok n → IsGroupNumber i.groups n
team_is k i name n named e = by i.groups name named e
  where
    at : List Group → Option (List ℕ) → Result ℕ RosterFault
    at gs None = Ok 0
    at gs (Some w) = group_at k i.grammar.names gs w

    by : (gs : List Group) (o : Option (List ℕ)) → IsNamed gs o → at gs o ≡ Ok n → IsGroupNumber gs n
    by [] None is q = let same : 0 ≡ n = same_ok 0 n q in omega arith
    by [] (Some w) is q = absurd cc
    by (g ∷ gs) None is q = let none : None ≡ Some is.0 = is.1 in absurd cc
    by (g ∷ gs) (Some w) is q = found_is k i.grammar.names g gs w n q

letters_are : (k : ℕ) (i : Instance) (group : ℕ) (word : List ℕ) (price : Option (List ℕ)) (s : Shift) → IsFineWord word → IsGroupNumber i.groups group → letters_of k group word price ≡ Ok s → IsSoundShift i s × (s.price ≡ 0)
unfolding letters_of
letters_are k i group word price s fine number e =
    let p = passed (ltb 96 (length word)) (OutOfRange k) _ s e in
    let made : Shift = record { group = group; word = word; price = 0 } in
    let q = held (is_priced price) (BadNumber k) (ok made) s p.1 in
    let is : IsSoundShift i made = record {
      some = fine.some;
      short = at_least 96 (length word) p.0;
      bytes = fine.bytes;
      group = number;
      price = omega arith;
    } in
    subst (λ (x : Shift). IsSoundShift i x × (x.price ≡ 0)) (same_ok made s q.1) (is, refl)

added_sound : (k : ℕ) (i : Instance) (old new : List Shift) (said : ShiftLine) → IsLine i.groups said → IsSoundRoster i old → added k i old (Some said) ≡ Ok new → IsSoundRoster i new
unfolding added
added_sound k i old new said line sound e =
    let p = passed (leb 64 (length old)) (TooManyShifts k) _ new e in
    let group = bind_ok (team_at k i said.name) _ new p.1 in
    let s = bind_ok (letters_of k group.0 said.word said.price) _ new group.2 in
    let number = team_is k i said.name group.0 line.named group.1 in
    let is = letters_are k i group.0 said.word said.price s.0 line.fine number s.1 in
    let room = fewer (length old) 64 p.0 in
    let more : IsSoundRoster i (old ++ s.0 ∷ []) = record {
      few = omega (arith, room, length-append old (s.0 ∷ []));
      each = Each-push (IsSoundShift i) old s.0 sound.each is.0;
      free = Each-push (λ (x : Shift). x.price ≡ 0) old s.0 sound.free is.1;
    } in
    subst (IsSoundRoster i) (same_ok (old ++ s.0 ∷ []) new s.2) more

shift_sound : (k : ℕ) (i : Instance) (old new : List Shift) (ws : List (List ℕ)) → AreFine ws → IsSoundRoster i old → added k i old (shift_words i.groups ws) ≡ Ok new → IsSoundRoster i new
unfolding added
shift_sound k i old new ws fine sound e = by (shift_words i.groups ws) refl e
  where
    by : (o : Option ShiftLine) → shift_words i.groups ws ≡ o → added k i old o ≡ Ok new → IsSoundRoster i new
    by None at q = absurd cc
    by (Some said) at q = added_sound k i old new said (words_fine i.groups ws said fine at) sound q

other_same : (k : ℕ) (report : Bool) (old new : List Shift) (ws : List (List ℕ)) → other_at k report old ws ≡ Ok new → old ≡ new
unfolding other_at
other_same k false old new ws e = absurd cc
other_same k true old new ws e = same_ok old new ((passed (is_pair (codes "cost") (codes "none") ws) (NoRoster k) (ok old) new e).1)

line_sound : (k : ℕ) (i : Instance) (report : Bool) (old new : List Shift) (ws : List (List ℕ)) → AreFine ws → IsSoundRoster i old → line_at k i report old ws ≡ Ok new → IsSoundRoster i new
unfolding line_at
line_sound k i report old new [] fine sound e = absurd cc
line_sound k i report old new (w ∷ ws) fine sound e = by (bytes_eq w (codes "shift")) e
  where
    by : (t : Bool) → cond t (added k i old (shift_words i.groups ws)) (other_at k report old (w ∷ ws)) ≡ Ok new → IsSoundRoster i new
    by true q = shift_sound k i old new ws fine.1 sound q
    by false q = subst (IsSoundRoster i) (other_same k report old new (w ∷ ws) q) sound

item_sound : (i : Instance) (report : Bool) (old new : List Shift) (item : Result TextLine bad.BadByte) → IsFine item → IsSoundRoster i old → item_at i report old item ≡ Ok new → IsSoundRoster i new
item_sound i report old new (Ok line) fine sound e = line_sound line.number i report old new line.words fine sound e
item_sound i report old new (Err b) fine sound e = absurd cc

items_sound : (i : Instance) (report : Bool) (old new : List Shift) (items : List (Result TextLine bad.BadByte)) → Each IsFine items → IsSoundRoster i old → each (item_at i report) old items ≡ Ok new → IsSoundRoster i new
items_sound i report old new [] fine sound e = subst (IsSoundRoster i) (same_ok old new e) sound
items_sound i report old new (x ∷ xs) fine sound e =
    let first = bind_ok (item_at i report old x) (λ (u : List Shift). each (item_at i report) u xs) new e in
    items_sound i report first.0 new xs fine.1 (item_sound i report old first.0 x fine.0 sound first.1) first.2

no_shift : (i : Instance) → IsSoundRoster i []
no_shift i = record { few = omega arith; each = tt; free = tt }

-- what was read of a text is sound
pub text_sound : (i : Instance) (text : List ℕ) (report : Bool) (r : Result (List Shift) RosterFault) → Reads (λ shifts. shifts) r (each (item_at i report) [] (text_items text)) → IfOk r (IsSoundRoster i)
text_sound i text report (Err e) reads = tt
text_sound i text report (Ok shifts) reads = items_sound i report [] shifts (text_items text) (text_fine text) (no_shift i) reads
