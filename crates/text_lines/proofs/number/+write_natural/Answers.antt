use Rattle.std.proofs.Common.{◌≡◌, ℕ, ◌+◌, ◌/◌, ◌%◌, ◌^◌, ◌<◌, ◌≤◌, List, [], ◌∷◌, ◌++◌, sym, arith, append_assoc}
use Rattle.std.specs.Fmt.{decimal}
use Rattle.std.proofs.lemmas.Fmt.{decimal_digit, decimal_step_wide}
use Rattle.text_lines.proofs.number.+write_natural.Goals as goal

-- the digits before the last, and then the last
last_digit : (old now : List ℕ) (n : ℕ) → 10 ≤ n → n < 10 ^ 64 → now ≡ old ++ decimal (n / 10) → old ++ decimal n ≡ now ++ (48 + n % 10) ∷ []
last_digit old now n ge lt e = rw (decimal_step_wide n ge lt, e) (sym (append_assoc old (decimal (n / 10)) ((48 + n % 10) ∷ [])))

pub returns-then-value-lt10-clause-ok : goal.returns-then-value-lt10-clause-ok
returns-then-value-lt10-clause-ok t c = rw (decimal_digit c.args.value c.if-value-lt10.true) c.push.ensures.ok

pub returns-clause-ok : goal.returns-clause-ok
returns-clause-ok t c =
    rw (last_digit c.args.out.now c.write_natural.new.out c.args.value c.if-value-lt10.false (omega arith) c.in_ok-write_natural.ensures.ok)
    c.push_or_keep.ensures.ok
