-- The lines of a report, joined.
use Rattle.std.proofs.Common.{◌≡◌, ℕ, zero, suc, ◌+◌, ◌*◌, ◌/◌, ◌<◌, ◌≤◌, List, [], ◌∷◌, ◌++◌, length, take, drop, refl, sym, ap, ◌∙◌, arith, append_assoc, append-nil, length-take, length-drop}
use Rattle.std.proofs.Math.Nat.{mul-div_cancel}
use Rattle.text_lines.proofs.WrittenLemmas.{written_append, line_then, lines_then}
use Rattle.text_lines.specs.Written.{written}
use Rattle.model_rosters.specs.declared.instance.Instance.{Instance}
use Rattle.model_rosters.specs.SoundInstance.{IsSoundInstance}
use Rattle.text_proof_pieces.specs.PriceLines.{due_byte}
use Rattle.text_proof_pieces.proofs.PriceBlock.{cells_whole}
use Rattle.text_reports.specs.declared.cover.Cover.{Cover}
use Rattle.text_reports.specs.ReportText.{code_lines, cover_lines}

pub three_lines : (o0 o1 o2 o3 : List ℕ) (a b c : List (List ℕ)) → o1 ≡ o0 ++ written (a ∷ []) → o2 ≡ o1 ++ written (b ∷ []) → o3 ≡ o2 ++ written (c ∷ []) → o3 ≡ o0 ++ written (a ∷ b ∷ c ∷ [])
three_lines o0 o1 o2 o3 a b c p q r = line_then o0 o1 o3 a (b ∷ c ∷ []) p (line_then o1 o2 o3 b (c ∷ []) q r)

pub four_lines : (o0 o1 o2 o3 o4 : List ℕ) (a b c d : List (List ℕ)) → o1 ≡ o0 ++ written (a ∷ []) → o2 ≡ o1 ++ written (b ∷ []) → o3 ≡ o2 ++ written (c ∷ []) → o4 ≡ o3 ++ written (d ∷ [])
    → o4 ≡ o0 ++ written (a ∷ b ∷ c ∷ d ∷ [])
four_lines o0 o1 o2 o3 o4 a b c d p q r s =
    line_then o0 o1 o4 a (b ∷ c ∷ d ∷ []) p (line_then o1 o2 o4 b (c ∷ d ∷ []) q (line_then o2 o3 o4 c (d ∷ []) r s))

pub five_lines : (o0 o1 o2 o3 o4 o5 : List ℕ) (a b c d e : List (List ℕ)) → o1 ≡ o0 ++ written (a ∷ []) → o2 ≡ o1 ++ written (b ∷ []) → o3 ≡ o2 ++ written (c ∷ []) → o4 ≡ o3 ++ written (d ∷ [])
    → o5 ≡ o4 ++ written (e ∷ []) → o5 ≡ o0 ++ written (a ∷ b ∷ c ∷ d ∷ e ∷ [])
five_lines o0 o1 o2 o3 o4 o5 a b c d e p q r s t = line_then o0 o1 o5 a (b ∷ c ∷ d ∷ e ∷ []) p (four_lines o1 o2 o3 o4 o5 b c d e q r s t)

pub six_lines : (o0 o1 o2 o3 o4 o5 o6 : List ℕ) (a b c d e f : List (List ℕ)) → o1 ≡ o0 ++ written (a ∷ []) → o2 ≡ o1 ++ written (b ∷ []) → o3 ≡ o2 ++ written (c ∷ []) → o4 ≡ o3 ++ written (d ∷ [])
    → o5 ≡ o4 ++ written (e ∷ []) → o6 ≡ o5 ++ written (f ∷ []) → o6 ≡ o0 ++ written (a ∷ b ∷ c ∷ d ∷ e ∷ f ∷ [])
six_lines o0 o1 o2 o3 o4 o5 o6 a b c d e f p q r s t u =
    line_then o0 o1 o6 a (b ∷ c ∷ d ∷ e ∷ f ∷ []) p (line_then o1 o2 o6 b (c ∷ d ∷ e ∷ f ∷ []) q (four_lines o2 o3 o4 o5 o6 c d e f r s t u))

-- the lines of a roster
pub roster_joined : (o0 o1 o2 o3 o4 o5 : List ℕ) (n p q : List (List ℕ)) (ss cs : List (List (List ℕ))) → o1 ≡ o0 ++ written (n ∷ []) → o2 ≡ o1 ++ written ss → o3 ≡ o2 ++ written (p ∷ []) → o4 ≡ o3 ++ written (q ∷ [])
    → o5 ≡ o4 ++ written cs → o5 ≡ o0 ++ written (n ∷ (ss ++ (p ∷ q ∷ cs)))
roster_joined o0 o1 o2 o3 o4 o5 n p q ss cs a b c d e =
    line_then o0 o1 o5 n (ss ++ (p ∷ q ∷ cs)) a (lines_then o1 o2 o5 ss (p ∷ q ∷ cs) b (line_then o2 o3 o5 p (q ∷ cs) c (line_then o3 o4 o5 q cs d e)))

-- the lines of covers that are still to be written
pub record CoversLeft (i : Instance) (place : ℕ) (rest : List Cover) (out whole : List ℕ) : Type 0 where
  pub codes : ℕ
  pub long : length rest ≡ codes * i.grammar.periods
  pub text : out ++ written (cover_lines i place codes rest) ≡ whole

pub covers_enough : (i : Instance) (place : ℕ) (rest : List Cover) (out whole : List ℕ) → 1 ≤ length rest → CoversLeft i place rest out whole → i.grammar.periods ≤ length rest
covers_enough i place rest out whole some l = by l.codes l.long
  where
    by : (k : ℕ) → length rest ≡ k * i.grammar.periods → i.grammar.periods ≤ length rest
    by zero e = absurd (omega (arith, e))
    by (suc k) e = omega (arith, e)

-- the first code's covers
first_long : (i : Instance) (place : ℕ) (rest first : List Cover) (out whole : List ℕ) → 1 ≤ length rest → first ≡ take i.grammar.periods rest → CoversLeft i place rest out whole → length first ≡ i.grammar.periods
first_long i place rest first out whole some f l = omega (arith, ap length f, length-take i.grammar.periods rest, covers_enough i place rest out whole some l)

pub covers_next : (i : Instance) (place byte : ℕ) (rest first others : List Cover) (o1 o2 whole : List ℕ) → 1 ≤ length rest → first ≡ take i.grammar.periods rest → others ≡ drop i.grammar.periods rest
    → byte ≡ due_byte i place → o2 ≡ o1 ++ written (code_lines byte first) → CoversLeft i place rest o1 whole → CoversLeft i (place + length first) others o2 whole
covers_next i place byte rest first others o1 o2 whole some f b is w l = rw (first_long i place rest first o1 whole some f l) (by l.codes l.long l.text)
  where
    by : (k : ℕ) → length rest ≡ k * i.grammar.periods → o1 ++ written (cover_lines i place k rest) ≡ whole → CoversLeft i (place + i.grammar.periods) others o2 whole
    by zero e t = absurd (omega (arith, e))
    by (suc k) e t =
        let lines : List (List (List ℕ)) = code_lines (due_byte i place) (take i.grammar.periods rest) in
        let theirs : List (List (List ℕ)) = cover_lines i (place + i.grammar.periods) k (drop i.grammar.periods rest) in
        let o2-is : o2 ≡ o1 ++ written lines = w ∙ ap (λ (x : ℕ). o1 ++ written (code_lines x first)) is ∙ ap (λ (ps : List Cover). o1 ++ written (code_lines (due_byte i place) ps)) f in
        record {
          codes = k;
          long = omega (arith, ap length b, length-drop i.grammar.periods rest, e);
          text = rw b (ap (λ (o : List ℕ). o ++ written theirs) o2-is ∙ append_assoc o1 (written lines) (written theirs) ∙ ap (λ (o : List ℕ). o1 ++ o) (sym (written_append lines theirs)) ∙ t);
        }

-- the two parts have all covers that are left
pub covers_parted : (i : Instance) (place most : ℕ) (rest first others : List Cover) → first ≡ take i.grammar.periods rest → others ≡ drop i.grammar.periods rest → place + length rest ≡ most → place + length first + length others ≡ most
covers_parted i place most rest first others f b e = omega (arith, ap length f, ap length b, length-take i.grammar.periods rest, length-drop i.grammar.periods rest, e)

pub covers_done : (i : Instance) (place : ℕ) (rest : List Cover) (out whole : List ℕ) → length rest ≡ 0 → 1 ≤ i.grammar.periods → CoversLeft i place rest out whole → out ≡ whole
covers_done i place rest out whole none some l = by l.codes l.long l.text
  where
    by : (k : ℕ) → length rest ≡ k * i.grammar.periods → out ++ written (cover_lines i place k rest) ≡ whole → out ≡ whole
    by zero e t = sym (append-nil out) ∙ t
    by (suc k) e t = absurd (omega (arith, e, none, some))

-- where there is a cover for each cell, all lines are to be written
pub covers_left : (i : Instance) (cs : List Cover) (o0 out : List ℕ) → IsSoundInstance i → length cs ≡ length i.cells → out ≡ o0
    → CoversLeft i 0 cs out (o0 ++ written (cover_lines i 0 (length cs / i.grammar.periods) cs))
covers_left i cs o0 out s all e =
    let n : ℕ = i.grammar.periods in
    let w = cells_whole i s in
    let made : length cs ≡ w.lines * n = all ∙ w.made in
    let some : 0 < n = omega (arith, s.grammar.some_period) in
    let lines : length cs / n ≡ w.lines = ap (λ (m : ℕ). m / n) made ∙ mul-div_cancel w.lines some in
    record { codes = length cs / n; long = made ∙ ap (λ (k : ℕ). k * n) (sym lines); text = rw e refl }
