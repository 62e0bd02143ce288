-- Counts of the words that have a byte, kept while the words are gone through.
use Rattle.std.proofs.Common.{◌≡◌, ℕ, zero, suc, ◌+◌, ◌-◌, ◌^◌, ◌<◌, ◌≤◌, min, arith, cond, List, [], ◌∷◌, ◌++◌, length, map, get_or, take, drop, All, Option, Some, IfSome, ap, refl, subst, ◌∙◌}
use Rattle.std.proofs.lemmas.List.{at_drop_more, drop_all, get_or_default}
use Rattle.check_lanes.specs.Counted.{counted}
use Rattle.model_rosters.specs.declared.grammar.Grammar.{Grammar}
use Rattle.model_rosters.specs.declared.instance.Cell.{Cell}
use Rattle.model_rosters.specs.declared.instance.Shift.{Shift}
use Rattle.model_rosters.specs.Coverage.{code_byte, covered, has_at}
use Rattle.model_rosters.specs.Duties.{Duty, duty}
use Rattle.model_rosters.specs.Folds.{count}
use Rattle.check_certificates.specs.RosterCauses.{duties}
use Rattle.check_parts.specs.declared.roster_part.counter.Counter.{Counter}
use Rattle.check_parts.specs.roster_part.Counters.{AreCounts, IsCounterFor}
use Rattle.check_parts.proofs.roster_part.ShiftCounts.{count-few, length-duties}

-- the places that both lists have are counted, and the others are as they were
pub word_added : (byte : ℕ) (ns word : List ℕ) (m : ℕ) → m ≡ min (length ns) (length word) → (k : ℕ) → k < length ns
    → get_or (counted (take m ns) (take m word) byte ++ drop m ns) k 0 ≡ get_or ns k 0 + cond (has_at byte word k) 1 0
word_added byte [] word m e k l = absurd (omega arith)
word_added byte (n ∷ ns) [] zero e k l = omega arith
word_added byte (n ∷ ns) [] (suc m) e k l = absurd (omega arith)
word_added byte (n ∷ ns) (b ∷ bs) zero e k l = absurd (omega arith)
word_added byte (n ∷ ns) (b ∷ bs) (suc m) e zero l = refl
word_added byte (n ∷ ns) (b ∷ bs) (suc m) e (suc k) l = word_added byte ns bs m (omega arith) k (omega arith)

module _ (byte : ℕ) (ss : List Shift) where
  -- of the words from place i on, how many have the byte at place k
  abbrev pub rest_with : ℕ → ℕ → ℕ
  rest_with k i = count (λ (d : Duty). has_at byte d.word k) (map duty (drop i ss))

  -- the words before place i are counted
  pub record AreTallied (counts : List ℕ) (i : ℕ) : Type 0 where
    pub long : length counts ≡ 96
    pub each : (k : ℕ) → k < 96 → count (λ (d : Duty). has_at byte d.word k) (duties ss) ≡ get_or counts k 0 + rest_with k i

  pub tallied-none : (counts : List ℕ) → length counts ≡ 96 → ((k : ℕ) → k < 96 → get_or counts k 0 ≡ 0) → AreTallied counts 0
  tallied-none counts long none = record { long = long; each = λ k l. omega (arith, none k l) }

  pub tallied-next : (counts new : List ℕ) (i : ℕ) (d : Shift) → AreTallied counts i → i < length ss → length new ≡ length counts
      → ((k : ℕ) → k < length counts → get_or new k 0 ≡ get_or counts k 0 + cond (has_at byte (get_or ss i d).word k) 1 0) → AreTallied new (i + 1)
  tallied-next counts new i d h l long added = record {
    long = long ∙ h.long;
    each = λ k few.
        let next = at_drop_more (λ (xs : List Shift). count (λ (d : Duty). has_at byte d.word k) (map duty xs)) ss i d l in
        omega (arith, h.each k few, next, added k (omega (arith, h.long)));
  }

  -- no count is above the number of words
  pub tallied-few : (counts : List ℕ) (i : ℕ) → AreTallied counts i → length ss ≤ 64 → All (λ (n : ℕ). n < 2 ^ 32 - 1) counts
  tallied-few counts i h few k d l =
      omega (arith, get_or_default counts k d 0 l, h.each k (omega (arith, h.long)), count-few (λ (d : Duty). has_at byte d.word k) (duties ss), length-duties ss)

  pub tallied-all : (counts : List ℕ) (i : ℕ) → AreTallied counts i → length ss ≤ i → AreCounts byte (duties ss) counts
  tallied-all counts i h le = record {
    periods = h.long;
    each = λ k l.
        let none = ap (λ (xs : List Shift). count (λ (d : Duty). has_at byte d.word k) (map duty xs)) (drop_all i ss le) in
        omega (arith, h.each k l, none);
  }

-- what the counter holds at the period of a cell whose code was counted last
pub covered-held : (g : Grammar) (ss : List Shift) (cell : Cell) (c : Counter) → IsCounterFor g (duties ss) c → c.code ≡ Some cell.code → cell.period - 1 < 96
    → get_or c.counts (cell.period - 1) 0 ≡ covered g cell (duties ss)
covered-held g ss cell c h e l =
    let held : AreCounts (code_byte g cell.code) (duties ss) c.counts = subst (λ (o : Option ℕ). IfSome o (λ (code : ℕ). AreCounts (code_byte g code) (duties ss) c.counts)) e h in
    held.each (cell.period - 1) l
