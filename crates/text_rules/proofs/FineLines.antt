-- The lines of a grammar are lines of words, and short.
use Rattle.std.proofs.Common.{◌≡◌, ℕ, ◌*◌, ◌<◌, ◌≤◌, Bool, true, false, cond, ◌&&◌, List, [], ◌∷◌, ◌++◌, length, map, refl, arith, eqb, length-append}
use Rattle.std.specs.Prelude.{codes}
use Rattle.std.specs.List.{list_all}
use Rattle.std.specs.Fmt.{decimal}
use Rattle.std.proofs.lemmas.Bool.{and_from, lt-ltb}
use Rattle.std.proofs.lemmas.List.{length-map}
use Rattle.text_lines.proofs.WordLemmas.{IsFine, code_byte_fine, name_fine, number_fine, literal, words_written, spaced_short}
use Rattle.text_lines.specs.Written.{are_written, spaced, written}
use Rattle.text_lines.specs.Names.{code_of}
use Rattle.model_rosters.specs.declared.grammar.Sym.{Sym}
use Rattle.model_rosters.specs.declared.grammar.Sym.TheVariants.{Code, Name}
use Rattle.model_rosters.specs.declared.grammar.CodeDef.{CodeDef}
use Rattle.model_rosters.specs.declared.grammar.Window.{Window}
use Rattle.model_rosters.specs.declared.grammar.Rule.{Rule}
use Rattle.model_rosters.specs.Folds.{Each}
use Rattle.model_rosters.specs.Names.{is_code_byte, is_name}
use Rattle.model_rosters.specs.Sound.{Exists, IsWindow, IsRule}
use Rattle.model_rosters.proofs.EachLemmas.{Each-append, Each-map}
use Rattle.text_rules.specs.Written.{symbol_word, window_words, periods_line, code_line, start_line, rule_line}
use Rattle.text_rules.proofs.RuleSound.{NamesSound, CodesSound}

-- lines

pub record IsFineLine (l : List (List ℕ)) : Type 0 where
  some : 0 < length l
  few : length l ≤ 21
  words : Each IsFine l

pub periods_fine : (n : ℕ) → n ≤ 96 → IsFineLine (periods_line n)
periods_fine n le = record { some = omega arith; few = omega arith; words = (literal (codes "periods") refl refl, (number_fine n (omega arith), tt)) }

pub code_fine : (c : CodeDef) → is_code_byte c.byte ≡ true → IsFineLine (code_line c)
code_fine c e = record { some = omega arith; few = omega arith; words = (by c.work, (record { written = and_from _ _ refl (and_from _ _ (code_byte_fine c.byte e) refl); short = omega arith }, tt)) }
  where
    by : (t : Bool) → IsFine (cond t (codes "work") (codes "idle"))
    by true = literal (codes "work") refl refl
    by false = literal (codes "idle") refl refl

pub start_fine : (w : List ℕ) → is_name w ≡ true → IsFineLine (start_line w)
start_fine w e = record { some = omega arith; few = omega arith; words = (literal (codes "start") refl refl, (name_fine w e, tt)) }

symbol_fine : (defs : List CodeDef) (ns : List (List ℕ)) → CodesSound defs → NamesSound ns → (s : Sym) → Exists (length defs) (length ns) s → IsFine (symbol_word defs ns s)
symbol_fine defs ns cs s (Code c) h = record { written = and_from _ _ refl (and_from _ _ refl (and_from _ _ (code_byte_fine (code_of defs c).byte (cs.bytes c h)) refl)); short = omega arith }
symbol_fine defs ns cs s (Name x) h = name_fine _ (s.names x h)

window_fine : (w : List ℕ) (x : Window) → IsFine w → IsWindow x → Each IsFine (window_words w x)
window_fine w x f h = by (eqb x.lo 1 && eqb x.hi 96)
  where
    by : (t : Bool) → Each IsFine (cond t [] (w ∷ decimal x.lo ∷ decimal x.hi ∷ []))
    by true = tt
    by false = (f, (number_fine x.lo (omega (arith, h.order, h.last)), (number_fine x.hi (omega (arith, h.last)), tt)))

window_few : (w : List ℕ) (x : Window) → length (window_words w x) ≤ 3
window_few w x = by (eqb x.lo 1 && eqb x.hi 96)
  where
    by : (t : Bool) → length (cond t [] (w ∷ decimal x.lo ∷ decimal x.hi ∷ [])) ≤ 3
    by true = omega arith
    by false = omega arith

pub rule_fine : (defs : List CodeDef) (ns : List (List ℕ)) → CodesSound defs → NamesSound ns → (r : Rule) → IsRule (length defs) (length ns) r → IsFineLine (rule_line defs ns r)
rule_fine defs ns cs s r h =
    let ss : List (List ℕ) = map (symbol_word defs ns) r.right in
    let a : List (List ℕ) = window_words (codes "len") r.span in
    let b : List (List ℕ) = window_words (codes "begin") r.first in
    let c : List (List ℕ) = window_words (codes "end") r.last in
    let symbols : Each IsFine ss = Each-map (Exists (length defs) (length ns)) IsFine (symbol_word defs ns) (symbol_fine defs ns cs s) r.right h.symbols in
    let span : Each IsFine a = window_fine (codes "len") r.span (literal (codes "len") refl refl) h.span in
    let begins : Each IsFine b = window_fine (codes "begin") r.first (literal (codes "begin") refl refl) h.begins in
    let ends : Each IsFine c = window_fine (codes "end") r.last (literal (codes "end") refl refl) h.ends in
    let count : length ss ≡ length r.right = simp length-map in
    record {
      some = omega arith;
      few = omega (arith, length-append ss (a ++ (b ++ c)), length-append a (b ++ c), length-append b c, count, h.eight, window_few (codes "len") r.span, window_few (codes "begin") r.first, window_few (codes "end") r.last);
      words = (literal (codes "rule") refl refl, (name_fine _ (s.names r.left h.left), (number_fine r.cost h.cost, (literal (codes "=") refl refl, Each-append IsFine ss (a ++ (b ++ c)) symbols (Each-append IsFine a (b ++ c) span (Each-append IsFine b c begins ends))))));
    }

-- what fine lines are

line_written : (l : List (List ℕ)) → IsFineLine l → are_written l ≡ true
line_written l h = and_from _ _ (lt-ltb 0 _ h.some) (words_written l h.words)

pub lines_written : (ls : List (List (List ℕ))) → Each IsFineLine ls → list_all are_written ls ≡ true
lines_written [] h = refl
lines_written (l ∷ ls) h = and_from _ _ (line_written l h.0) (lines_written ls h.1)

pub lines_short : (ls : List (List (List ℕ))) → Each IsFineLine ls → length (written ls) ≤ 700 * length ls
lines_short [] h = omega arith
lines_short (l ∷ ls) h =
    omega (arith, length-append (spaced l) (10 ∷ written ls), spaced_short l h.0.words, h.0.few, lines_short ls h.1)
