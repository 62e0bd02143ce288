-- The lines of a report are lines of words.
use Rattle.std.proofs.Common.{◌≡◌, ℕ, zero, suc, ◌+◌, ◌-◌, ◌*◌, ◌/◌, ◌<◌, ◌≤◌, List, [], ◌∷◌, length, get_or, map, take, drop, Option, Some, None, refl, arith}
use Rattle.std.specs.Prelude.{codes, slice_get, IfSome}
use Rattle.std.specs.Fmt.{decimal}
use Rattle.std.proofs.lemmas.Bool.{and_from, lt-ltb}
use Rattle.std.proofs.lemmas.Option.{slice_get-get_or}
use Rattle.std.proofs.Math.Nat.{mul-div-le}
use Rattle.text_lines.specs.Lines.{text_items}
use Rattle.text_lines.specs.Written.{numbered}
use Rattle.text_lines.proofs.WrittenAgain.{written_again}
use Rattle.model_rosters.specs.declared.instance.Done.{Done}
use Rattle.model_rosters.specs.declared.instance.Done.TheVariants.{Equal, NoRoster, TurnsOut}
use Rattle.model_rosters.specs.declared.instance.Group.{Group}
use Rattle.model_rosters.specs.declared.instance.Instance.{Instance}
use Rattle.model_rosters.specs.declared.instance.Shift.{Shift}
use Rattle.model_rosters.specs.Folds.{Each}
use Rattle.model_rosters.specs.SoundInstance.{HasGroups, IsSoundInstance}
use Rattle.model_rosters.proofs.EachLemmas.{Each-append}
use Rattle.check_certificates.specs.Sound.{IsGroupNumber}
use Rattle.text_proof_pieces.specs.PriceLines.{due_byte}
use Rattle.text_certificates.specs.Written.{amount_word, amount_words, name_word, shift_words, shift_line}
use Rattle.text_certificates.proofs.FineWords.{IsFine, IsFineLine, line_fine, lines_fine, number_fine, bytes_fine, any_name_fine, name_within, due_fine}
use Rattle.text_certificates.proofs.TreeAgain.{each_take}
use Rattle.text_reports.specs.declared.cover.Cover.{Cover}
use Rattle.text_reports.specs.declared.part.Part.{Part}
use Rattle.text_reports.specs.declared.part.Part.TheVariants.{Need, Have, Short, Over}
use Rattle.text_reports.specs.declared.report.Report.{Report}
use Rattle.text_reports.specs.ReportText.{header_line, result_line, number_line, head_lines, part_name, part_of, parts_of, part_line, code_lines, cover_lines, roster_lines, cost_lines, report_lines, report_text}
use Rattle.text_reports.specs.Writable.{IsWritableShift, HasCover, IsWritable, IsSmall, IsSmallCover, HasSmallNumbers}

small_fine : (n : ℕ) → IsSmall n → IsFine (decimal n)
small_fine n h = number_fine n (omega (arith, h))

header_fine : (groups : List Group) → IsFineLine (header_line groups)
header_fine [] = refl
header_fine (g ∷ gs) = refl

result_fine : (d : Done) → IsFineLine (result_line d)
result_fine Equal = refl
result_fine NoRoster = refl
result_fine TurnsOut = refl

amount_fine : (x : Option ℕ) → IfSome x IsSmall → IsFine (amount_word x)
amount_fine None h = refl
amount_fine (Some n) h = small_fine n h

amounts_fine : (first : List ℕ) (x : Option ℕ) → IsFine first → IfSome x IsSmall → IsFineLine (amount_words first x)
amounts_fine first x f h = line_fine first (amount_word x ∷ []) f (amount_fine x h, tt)

number_line_fine : (first : List ℕ) (n : ℕ) → IsFine first → IsSmall n → IsFineLine (number_line first n)
number_line_fine first n f h = line_fine first (decimal n ∷ []) f (small_fine n h, tt)

head_fine : (i : Instance) (r : Report) → HasSmallNumbers r → Each IsFineLine (head_lines i.groups r)
head_fine i r h = (
  header_fine i.groups,
  (
    result_fine r.done,
    (
      amounts_fine (codes "cost") r.cost refl h.cost,
      (
        amounts_fine (codes "bound") r.bound refl h.bound,
        (number_line_fine (codes "processed") r.processed refl h.processed, (number_line_fine (codes "failed") r.failed refl h.failed, tt)),
      ),
    ),
  ),
)

letters_fine : (i : Instance) (s : Shift) → IsWritableShift i s → IsFine s.word
letters_fine i s h = and_from _ _ (lt-ltb 0 (length s.word) (omega (arith, h.some))) (bytes_fine s.word h.bytes)

shift_fine : (i : Instance) (s : Shift) → IsSoundInstance i → IsWritableShift i s → IsSmall s.price → IsFineLine (shift_line i s)
shift_fine i s si h small = by i.groups refl si.groups h.group
  where
    by : (gs : List Group) → i.groups ≡ gs → HasGroups i gs → IsGroupNumber gs s.group → IsFineLine (shift_words i gs s)
    by [] e hg m = line_fine (codes "shift") (s.word ∷ decimal s.price ∷ []) refl (letters_fine i s h, (small_fine s.price small, tt))
    by (g ∷ gs) e hg m =
        let lt : s.group - 1 < length (g ∷ gs) = omega (arith, m.0, m.1) in
        let at : slice_get (g ∷ gs) (s.group - 1) ≡ Some (get_or (g ∷ gs) (s.group - 1) g) = slice_get-get_or (g ∷ gs) (s.group - 1) g lt in
        let name : IsFine (name_word i.grammar.names (slice_get (g ∷ gs) (s.group - 1))) = rw at (any_name_fine i.grammar si.grammar (get_or (g ∷ gs) (s.group - 1) g).name (name_within i g gs (s.group - 1) hg e lt)) in
        line_fine (codes "shift") (name_word i.grammar.names (slice_get (g ∷ gs) (s.group - 1)) ∷ s.word ∷ decimal s.price ∷ []) refl (name, (letters_fine i s h, (small_fine s.price small, tt)))

shifts_fine : (i : Instance) (ss : List Shift) → IsSoundInstance i → Each (IsWritableShift i) ss → Each (λ (s : Shift). IsSmall s.price) ss → Each IsFineLine (map (shift_line i) ss)
shifts_fine i [] si h k = tt
shifts_fine i (s ∷ ss) si h k = (shift_fine i s si h.0 k.0, shifts_fine i ss si h.1 k.1)

part_small : (part : Part) (c : Cover) → IsSmallCover c → IsSmall (part_of part c)
part_small Need c h = h.need
part_small Have c h = h.have
part_small Short c h = h.short
part_small Over c h = h.over

parts_fine : (part : Part) (cs : List Cover) → Each IsSmallCover cs → Each IsFine (parts_of part cs)
parts_fine part [] h = tt
parts_fine part (c ∷ cs) h = (small_fine (part_of part c) (part_small part c h.0), parts_fine part cs h.1)

name_fine : (part : Part) → IsFine (part_name part)
name_fine Need = refl
name_fine Have = refl
name_fine Short = refl
name_fine Over = refl

part_line_fine : (part : Part) (byte : ℕ) (cs : List Cover) → IsFine (byte ∷ []) → Each IsSmallCover cs → IsFineLine (part_line part byte cs)
part_line_fine part byte cs b h = line_fine (part_name part) ((byte ∷ []) ∷ parts_of part cs) (name_fine part) (b, parts_fine part cs h)

code_lines_fine : (byte : ℕ) (cs : List Cover) → IsFine (byte ∷ []) → Each IsSmallCover cs → Each IsFineLine (code_lines byte cs)
code_lines_fine byte cs b h =
    (part_line_fine Need byte cs b h, (part_line_fine Have byte cs b h, (part_line_fine Short byte cs b h, (part_line_fine Over byte cs b h, tt))))

cover_lines_fine : (i : Instance) (place m : ℕ) (cs : List Cover) → IsSoundInstance i → place + m * i.grammar.periods ≤ length i.cells → Each IsSmallCover cs → Each IsFineLine (cover_lines i place m cs)
cover_lines_fine i place zero cs s le h = tt
cover_lines_fine i place (suc m) cs s le h =
    let n : ℕ = i.grammar.periods in
    let some : 1 ≤ n = s.grammar.some_period in
    let parts = each_take IsSmallCover n cs h in
    let lt : place < length i.cells = omega (arith, le, some) in
    Each-append IsFineLine (code_lines (due_byte i place) (take n cs)) (cover_lines i (place + n) m (drop n cs))
    (code_lines_fine (due_byte i place) (take n cs) (due_fine i place s lt) parts.0) (cover_lines_fine i (place + n) m (drop n cs) s (omega (arith, le)) parts.1)

roster_fine : (i : Instance) (r : Report) → IsSoundInstance i → IsWritable i r → HasSmallNumbers r → length r.cover ≡ length i.cells → Each IsFineLine (roster_lines i r)
roster_fine i r s w h all =
    let n : ℕ = i.grammar.periods in
    let whole : n * (length r.cover / n) ≤ length r.cover = mul-div-le (length r.cover) n in
    let covers : Each IsFineLine (cover_lines i 0 (length r.cover / n) r.cover) = cover_lines_fine i 0 (length r.cover / n) r.cover s (omega (arith, whole, all)) h.cover in
    let sums : Each IsFineLine (number_line (codes "paid") r.paid ∷ number_line (codes "penalty") r.penalty ∷ cover_lines i 0 (length r.cover / n) r.cover)
    = (number_line_fine (codes "paid") r.paid refl h.paid, (number_line_fine (codes "penalty") r.penalty refl h.penalty, covers)) in (
      number_line_fine (codes "shifts") (length r.shifts) refl (omega (arith, w.few)),
      Each-append IsFineLine (map (shift_line i) r.shifts) (number_line (codes "paid") r.paid ∷ number_line (codes "penalty") r.penalty ∷ cover_lines i 0 (length r.cover / n) r.cover) (shifts_fine i r.shifts s w.shifts h.prices) sums,
    )

cost_fine : (i : Instance) (r : Report) (cost : Option ℕ) → IsSoundInstance i → IsWritable i r → HasSmallNumbers r → HasCover i r cost → Each IsFineLine (cost_lines i r cost)
cost_fine i r None s w h c = tt
cost_fine i r (Some n) s w h c = roster_fine i r s w h c

report_fine : (i : Instance) (r : Report) → IsSoundInstance i → IsWritable i r → HasSmallNumbers r → Each IsFineLine (report_lines i r)
report_fine i r s w h = Each-append IsFineLine (head_lines i.groups r) (cost_lines i r r.cost) (head_fine i r h) (cost_fine i r r.cost s w h w.cover)

pub report_again : (i : Instance) (r : Report) → IsSoundInstance i → IsWritable i r → HasSmallNumbers r → text_items (report_text i r) ≡ numbered 1 (report_lines i r)
report_again i r s w h = written_again 1 (report_lines i r) (lines_fine (report_lines i r) (report_fine i r s w h))
