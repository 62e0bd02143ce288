-- The text of a remaining day is read as that day.
use Rattle.std.proofs.Common.{◌≡◌, ℕ, ◌<◌, ◌≤◌, ◌^◌, Bool, true, not, ◌&&◌, leb, eqb, ltb, List, [], ◌∷◌, ◌++◌, length, Ok, refl, ap, arith, length-append}
use Rattle.std.specs.Prelude.{codes}
use Rattle.std.specs.List.{list_all}
use Rattle.std.specs.Fmt.{decimal}
use Rattle.std.proofs.lemmas.Bool.{and_parts, and_from, leb-true, ne_eqb}
use Rattle.std.proofs.lemmas.Fmt.{length-decimal-le_wide}
use Rattle.text_lines.specs.Written.{is_word_byte}
use Rattle.text_lines.proofs.ListLemmas.{all_append, all_weaker}
use Rattle.text_lines.proofs.WordLemmas.{number_written}
use Rattle.model_rosters.specs.declared.grammar.Grammar.{Grammar}
use Rattle.model_rosters.specs.Demands.{Demand}
use Rattle.model_rosters.specs.Sound.{IsSound, IsPlain}
use Rattle.model_rosters.specs.SoundInstance.{IsSoundInstance}
use Rattle.text_demand.specs.InstanceOf.{day_grammar, instance_of}
use Rattle.text_demand.specs.Written.{AreDemandsOf}
use Rattle.text_demand.proofs.TextAgain.{text_behind}
use Rattle.check_values.specs.declared.remaining_day.answer.Rest.{Rest}
use Rattle.check_values.specs.remaining_day.RestText.{kept_comment, rest_text, spaced_number}

abbrev is_no_feed : ℕ → Bool
is_no_feed b = not (eqb b 10)

word_byte : (b : ℕ) → is_word_byte b ≡ true → is_no_feed b ≡ true
word_byte b e =
    let a = and_parts (leb 33 b && leb b 126) (not (eqb b 35)) e in
    let c = and_parts (leb 33 b) (leb b 126) a.0 in
    let low : 33 ≤ b = leb-true 33 b c.0 in
    ap not (ne_eqb b 10 (λ q. omega (arith, q, low)))

number_line : (n : ℕ) → n < 2 ^ 64 → list_all is_no_feed (spaced_number n) ≡ true
number_line n h =
    let w = and_parts (ltb 0 (length (decimal n))) (list_all is_word_byte (decimal n)) (number_written n (omega arith)) in
    all_append is_no_feed (decimal n) [] (all_weaker is_word_byte is_no_feed word_byte (decimal n) w.1) refl

number_short : (n : ℕ) → n < 2 ^ 64 → length (spaced_number n) ≤ 21
number_short n h =
    let l = length-decimal-le_wide 20 n (omega arith) (omega arith) (omega arith) in
    omega (arith, l, length-append (decimal n) [])

module _ (rest : Rest) (count : ℕ) (n : count < 2 ^ 64) (p : rest.paid < 2 ^ 64) (q : rest.penalty < 2 ^ 64) where
  abbrev first : List ℕ
  first = codes " kept shifts" ++ spaced_number count

  abbrev second : List ℕ
  second = first ++ codes ", paid" ++ spaced_number rest.paid

  comment_line : list_all is_no_feed (kept_comment count rest.paid rest.penalty) ≡ true
  comment_line =
      let a = all_append is_no_feed (codes " kept shifts") (spaced_number count) refl (number_line count n) in
      let b = all_append is_no_feed first (codes ", paid") a refl in
      let c = all_append is_no_feed (first ++ codes ", paid") (spaced_number rest.paid) b (number_line rest.paid p) in
      let d = all_append is_no_feed second (codes ", penalty") c refl in
      all_append is_no_feed (second ++ codes ", penalty") (spaced_number rest.penalty) d (number_line rest.penalty q)

  comment_short : length (kept_comment count rest.paid rest.penalty) ≤ 1000
  comment_short =
      let a = length-append (codes " kept shifts") (spaced_number count) in
      let b = length-append first (codes ", paid") in
      let c = length-append (first ++ codes ", paid") (spaced_number rest.paid) in
      let d = length-append second (codes ", penalty") in
      let e = length-append (second ++ codes ", penalty") (spaced_number rest.penalty) in
      let u : length (codes " kept shifts") ≡ 12 = refl in
      let v : length (codes ", paid") ≡ 6 = refl in
      let w : length (codes ", penalty") ≡ 9 = refl in
      omega (arith, a, b, c, d, e, u, v, w, number_short count n, number_short rest.paid p, number_short rest.penalty q)

pub rest-again : (g : Grammar) (rest : Rest) (ds : List Demand) (count : ℕ) → IsSound g → IsPlain g → rest.day.grammar ≡ day_grammar g rest.day.groups → IsSoundInstance rest.day → AreDemandsOf rest.day ds
    → count < 2 ^ 64 → rest.paid < 2 ^ 64 → rest.penalty < 2 ^ 64
    → instance_of g (rest_text count rest ds) ≡ Ok rest.day
rest-again g rest ds count sound plain day is are n p q =
    text_behind g sound plain rest.day ds day is are (kept_comment count rest.paid rest.penalty) (comment_short rest count n p q) (comment_line rest count n p q)
