use Rattle.std.proofs.Common.{All, ◌≤◌, ◌<◌, ℕ, zero, suc, List, [], ◌∷◌, length, get_or, arith}
use Rattle.model_rosters.specs.declared.instance.Instance.{Instance}
use Rattle.model_rosters.specs.declared.instance.Shift.{Shift}
use Rattle.model_rosters.specs.Folds.{Each}
use Rattle.check_certificates.specs.Sound.{IsSoundShift}
use Rattle.search_candidates.proofs.roster.judged.Goals as goal

short-at : (i : Instance) (ss : List Shift) → Each (IsSoundShift i) ss → (k : ℕ) → (d : Shift) → k < length ss → length (get_or ss k d).word ≤ 96
short-at i [] h k d l = absurd (omega (arith, l))
short-at i (s ∷ ss) h zero d l = h.0.short
short-at i (s ∷ ss) h (suc k) d l = short-at i ss h.1 k d (omega (arith, l))

short-words : (i : Instance) (ss : List Shift) → Each (IsSoundShift i) ss → All (λ (s : Shift). length s.word ≤ 96) ss
short-words i ss h = λ k d l. short-at i ss h k d l

pub keep_all-requires-clause-short : goal.keep_all-requires-clause-short
keep_all-requires-clause-short c = rw c.as_slice.ensures (short-words c.args.instance.now c.args.shifts c.requires.shifts.sound)
