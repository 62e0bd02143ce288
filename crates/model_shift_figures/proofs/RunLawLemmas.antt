-- The runs give the periods back.
use Rattle.std.proofs.Common.{◌≡◌, ℕ, zero, suc, ◌+◌, ◌-◌, ◌≤◌, ◌<◌, Bool, true, false, cond, ◌&&◌, eqb, ltb, eqb-true, ltb-true, ltb-false, Option, None, Some, List, [], ◌∷◌, ◌++◌, refl, sym, ap, subst, ◌∙◌, append_assoc, append-nil, arith}
use Rattle.std.proofs.lemmas.Grind.{flat_map-append}
use Rattle.std.specs.List.{flat_map}
use Rattle.model_shift_figures.specs.RunLaws.{Period, lack_periods, periods_from, run_periods}
use Rattle.model_shift_figures.specs.Runs.{ended, extended, grown, joins, last_run, next_open, runs_from, runs_of, started}
use Rattle.model_shift_figures.specs.declared.run.Lack.{Lack}
use Rattle.model_shift_figures.specs.declared.run.Run.{Run}

both : (a b : Bool) → (a && b) ≡ true → (a ≡ true) × (b ≡ true)
both true true e = (refl, refl)
both true false e = absurd cc
both false b e = absurd cc

some_count : (n : ℕ) → eqb n 0 ≡ false → 0 < n
some_count zero e = absurd cc
some_count (suc n) e = omega arith

abbrev at : ℕ → ℕ → ℕ → Period
at code k count = record { code = code; period = k; count = count }

-- one period more at the end
more_period : (code k count n : ℕ) → periods_from code k count (suc n) ≡ periods_from code k count n ++ at code (k + n) count ∷ []
more_period code k count zero = let same : k ≡ k + 0 = omega arith in ap (λ (m : ℕ). at code m count ∷ []) same
more_period code k count (suc n) =
    let same : k + 1 + n ≡ k + suc n = omega arith in
    ap (λ (t : List Period). at code k count ∷ t) (more_period code (k + 1) count n)
    ∙ ap (λ (m : ℕ). at code k count ∷ (periods_from code (k + 1) count n ++ at code m count ∷ [])) same

-- a run that is open has a period, and a number
abbrev IsOpen : Option Run → Type 0
IsOpen None = Unit {0}
IsOpen (Some r) = (r.first ≤ r.last) × (0 < r.count)

abbrev open_periods : Option Run → List Period
open_periods None = []
open_periods (Some r) = run_periods r

started_periods : (x : Lack) → run_periods (started x) ≡ at x.code x.period x.count ∷ []
started_periods x = let one : x.period + 1 - x.period ≡ suc 0 = omega arith in ap (λ (n : ℕ). periods_from x.code x.period x.count n) one

extended_periods : (r : Run) (x : Lack) → r.first ≤ r.last → joins r x ≡ true → run_periods (extended r x) ≡ run_periods r ++ at x.code x.period x.count ∷ []
extended_periods r x some j =
    let parts = both (eqb r.code x.code && eqb (r.last + 1) x.period) (eqb r.count x.count) j in
    let rest = both (eqb r.code x.code) (eqb (r.last + 1) x.period) parts.0 in
    let code = eqb-true r.code x.code rest.0 in
    let period = eqb-true (r.last + 1) x.period rest.1 in
    let count = eqb-true r.count x.count parts.1 in
    let n = r.last + 1 - r.first in
    let longer : x.period + 1 - r.first ≡ suc n = omega (arith, period, some) in
    let last : r.first + n ≡ x.period = omega (arith, period, some) in
    ap (λ (m : ℕ). periods_from r.code r.first r.count m) longer ∙ more_period r.code r.first r.count n
    ∙ ap (λ (m : ℕ). periods_from r.code r.first r.count n ++ at r.code m r.count ∷ []) last
    ∙ ap (λ (c : ℕ). periods_from r.code r.first r.count n ++ at c x.period r.count ∷ []) code
    ∙ ap (λ (c : ℕ). periods_from r.code r.first r.count n ++ at x.code x.period c ∷ []) count

-- what a further period does, by its tests
step_some : (r : Run) (x : Lack) (z p j : Bool) → eqb x.count 0 ≡ z → ltb 0 x.count ≡ p → joins r x ≡ j → r.first ≤ r.last
    → flat_map run_periods (cond (p && j) [] (r ∷ [])) ++ open_periods (cond z None (Some (cond j (extended r x) (started x))))
    ≡ run_periods r ++ cond z [] (at x.code x.period x.count ∷ [])
step_some r x true true j ez ep ej some = absurd (omega (arith, eqb-true x.count 0 ez, ltb-true 0 x.count ep))
step_some r x true false j ez ep ej some = append-nil (run_periods r ++ [])
step_some r x false false j ez ep ej some = absurd (omega (arith, some_count x.count ez, ltb-false 0 x.count ep))
step_some r x false true true ez ep ej some = extended_periods r x some ej
step_some r x false true false ez ep ej some =
    ap (λ (t : List Period). t ++ run_periods (started x)) (append-nil (run_periods r)) ∙ ap (λ (t : List Period). run_periods r ++ t) (started_periods x)

step_none : (x : Lack) (z : Bool) → open_periods (cond z None (Some (started x))) ≡ cond z [] (at x.code x.period x.count ∷ [])
step_none x true = refl
step_none x false = started_periods x

step : (live : Option Run) (x : Lack) → IsOpen live → flat_map run_periods (ended live x) ++ open_periods (next_open live x) ≡ open_periods live ++ lack_periods x
unfolding ended next_open grown
step None x h = step_none x (eqb x.count 0)
step (Some r) x h = step_some r x (eqb x.count 0) (ltb 0 x.count) (joins r x) refl refl refl h.0

open_some : (r : Run) (x : Lack) (z j : Bool) → eqb x.count 0 ≡ z → joins r x ≡ j → IsOpen (Some r) → IsOpen (cond z None (Some (cond j (extended r x) (started x))))
open_some r x true j ez ej h = tt
open_some r x false true ez ej h =
    let parts = both (eqb r.code x.code && eqb (r.last + 1) x.period) (eqb r.count x.count) ej in
    let rest = both (eqb r.code x.code) (eqb (r.last + 1) x.period) parts.0 in
    (omega (arith, h.0, eqb-true (r.last + 1) x.period rest.1), h.1)
open_some r x false false ez ej h = (omega arith, some_count x.count ez)

open_none : (x : Lack) (z : Bool) → eqb x.count 0 ≡ z → IsOpen (cond z None (Some (started x)))
open_none x true ez = tt
open_none x false ez = (omega arith, some_count x.count ez)

still_open : (live : Option Run) (x : Lack) → IsOpen live → IsOpen (next_open live x)
unfolding next_open grown
still_open None x h = open_none x (eqb x.count 0) refl
still_open (Some r) x h = open_some r x (eqb x.count 0) (joins r x) refl refl h

at_end : (live : Option Run) → flat_map run_periods (last_run live) ≡ open_periods live ++ []
at_end None = refl
at_end (Some r) = refl

give_back : (live : Option Run) (xs : List Lack) → IsOpen live → flat_map run_periods (runs_from live xs) ≡ open_periods live ++ flat_map lack_periods xs
give_back live [] h = at_end live
give_back live (x ∷ xs) h =
    let next = next_open live x in
    let ends = flat_map run_periods (ended live x) in
    let rest = flat_map lack_periods xs in
    flat_map-append run_periods (ended live x) (runs_from next xs) ∙ ap (λ (t : List Period). ends ++ t) (give_back next xs (still_open live x h))
    ∙ sym (append_assoc ends (open_periods next) rest) ∙ ap (λ (t : List Period). t ++ rest) (step live x h) ∙ append_assoc (open_periods live) (lack_periods x) rest

pub give_all_back : (xs : List Lack) → flat_map run_periods (runs_of xs) ≡ flat_map lack_periods xs
give_all_back xs = give_back None xs tt
