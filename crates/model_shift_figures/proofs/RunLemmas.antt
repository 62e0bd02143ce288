-- What an open run costs.
use Rattle.std.proofs.Common.{◌≡◌, ℕ, ◌≤◌, ◌<◌, ◌+◌, ◌*◌, Bool, true, false, cond, Option, None, Some, List, [], ◌∷◌, ◌++◌, length, drop, get_or, sym, ap, subst, ◌∙◌, append_assoc, arith}
use Rattle.std.proofs.lemmas.List.{at_drop_more}
use Rattle.std.specs.Prelude.{IfSome, if◌then◌else◌, nat_eq}
use Rattle.model_shift_figures.specs.Runs.{ended, extended, grown, joins, next_open, runs_from, runs_of, started}
use Rattle.model_shift_figures.specs.declared.run.Lack.{Lack}
use Rattle.model_shift_figures.specs.declared.run.Run.{Run}

abbrev Below : ℕ → Option Run → Type 0
Below n live = IfSome live (λ (r : Run). r.cost ≤ n)

-- a further period adds at most its cost
pub grown_below : (n : ℕ) (live : Option Run) (x : Lack) → Below n live → x.cost ≤ 1280000 → (grown live x).cost ≤ n + 1280000
unfolding grown
grown_below n None x h small = omega (arith, small)
grown_below n (Some r) x h small = by (joins r x)
  where
    by : (t : Bool) → (cond t (extended r x) (started x)).cost ≤ n + 1280000
    by true = omega (arith, h, small)
    by false = omega (arith, small)

pub next_below : (n : ℕ) (live : Option Run) (x : Lack) → Below n live → x.cost ≤ 1280000 → Below (n + 1280000) (next_open live x)
unfolding next_open
next_below n live x h small = by (nat_eq x.count 0)
  where
    by : (t : Bool) → Below (n + 1280000) (cond t None (Some (grown live x)))
    by true = tt
    by false = grown_below n live x h small

-- one more period
pub one_more : (xs : List Lack) (i : ℕ) (d : Lack) (before after : List Run) (live next : Option Run) → i < length xs → runs_of xs ≡ before ++ runs_from live (drop i xs)
    → after ≡ before ++ ended live (get_or xs i d) → next ≡ next_open live (get_or xs i d) → runs_of xs ≡ after ++ runs_from next (drop (i + 1) xs)
one_more xs i d before after live next lt e h k =
    let x = get_or xs i d in
    let rest = runs_from (next_open live x) (drop (i + 1) xs) in
    e ∙ at_drop_more (λ (ys : List Lack). before ++ runs_from live ys) xs i d lt ∙ sym (append_assoc before (ended live x) rest)
    ∙ ap (λ (t : List Run). t ++ rest) (sym h) ∙ ap (λ (o : Option Run). after ++ runs_from o (drop (i + 1) xs)) (sym k)

pub small_more : (i : ℕ) (live next : Option Run) (x : Lack) → Below (1280000 * i) live → x.cost ≤ 1280000 → next ≡ next_open live x → Below (1280000 * (i + 1)) next
small_more i live next x h small e =
    let same : 1280000 * i + 1280000 ≡ 1280000 * (i + 1) = omega arith in
    rw e (subst (λ (n : ℕ). Below n (next_open live x)) same (next_below (1280000 * i) live x h small))
