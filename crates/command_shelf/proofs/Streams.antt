-- What loops over reads and writes keep.
use Rattle.std.proofs.Common.{◌≡◌, ◌≤◌, ◌+◌, ℕ, List, [], ◌++◌, length, take, drop, Option, Some, None, ◌-◌, append_assoc, sym, arith, rules}
use Rattle.std.specs.Prelude.{IfSome}
use Rattle.std.specs.Io.KnownBytes.{Consumes, Appends, IsAtEnd}
use Rattle.std.proofs.lemmas.List.{length-append}
use Rattle.std.proofs.Math.Seq.{take-add}
use Rattle.std.proofs.lemmas.Grind.{common_steps}
use Rattle.command_shelf.specs.Shelf.{Begins}

-- the bytes taken so far were appended, and so many may still be read
pub record ReadSoFar (start now : Option (List ℕ)) (old new : List ℕ) (limit left : ℕ) : Type 0 where
  pub taken : List ℕ
  pub appended : new ≡ old ++ taken
  pub counted : length taken + left ≡ limit
  pub consumed : Consumes start now taken

-- what is there began so
pub read_begins : (start now : Option (List ℕ)) (old new : List ℕ) (limit left : ℕ) → ReadSoFar start now old new limit left → Begins old new
read_begins start now old new limit left so_far = (so_far.taken, so_far.appended)

-- no more than the limit was read
pub read_within : (start now : Option (List ℕ)) (old new : List ℕ) (limit left : ℕ) → ReadSoFar start now old new limit left
    → length new ≤ length old + limit
read_within start now old new limit left so_far =
    rw so_far.appended (rw (length-append old so_far.taken) (omega (arith, so_far.counted)))

-- at the end of the reader all its bytes are there, or those up to the limit
pub read_to_end : (start now next : Option (List ℕ)) (old new part : List ℕ) (limit left : ℕ) → ReadSoFar start now old new limit left
    → Consumes now next (take 0 part) → IsAtEnd next → IfSome start (λ bytes. new ≡ old ++ take limit bytes)
read_to_end None now next old new part limit left so_far none end = search rules
read_to_end (Some xs) None next old new part limit left so_far none end = absurd so_far.consumed
read_to_end (Some xs) (Some ys) None old new part limit left so_far none end = absurd none
read_to_end (Some xs) (Some ys) (Some zs) old new part limit left so_far none end =
    let consumed : xs ≡ so_far.taken ++ ys = so_far.consumed in
    let same : ys ≡ take 0 part ++ zs = none in
    let ended : zs ≡ [] = end in
    let whole : take limit xs ≡ so_far.taken = grind (arith, common_steps, so_far.counted) in
    rw (whole) so_far.appended

-- at the limit the bytes up to it are there
pub read_to_limit : (start now : Option (List ℕ)) (old new : List ℕ) (limit left : ℕ) → ReadSoFar start now old new limit left
    → left ≡ 0 → IfSome start (λ bytes. new ≡ old ++ take limit bytes)
read_to_limit None now old new limit left so_far full = search rules
read_to_limit (Some xs) None old new limit left so_far full = absurd so_far.consumed
read_to_limit (Some xs) (Some ys) old new limit left so_far full =
    let consumed : xs ≡ so_far.taken ++ ys = so_far.consumed in
    let whole : take limit xs ≡ so_far.taken = grind (arith, common_steps, so_far.counted) in
    rw (whole) so_far.appended

-- after a further read more of the reader's bytes are there
pub read_more : (start now next : Option (List ℕ)) (old new all piece : List ℕ) (limit left count : ℕ) → ReadSoFar start now old new limit left
    → Consumes now next piece → all ≡ new ++ piece → length piece ≡ count → count ≤ left → ReadSoFar start next old all limit (left - count)
read_more start now next old new all piece limit left count so_far more is long within = record {
  taken = so_far.taken ++ piece;
  appended = rw (is, so_far.appended) (append_assoc old so_far.taken piece);
  counted = rw (length-append so_far.taken piece) (omega (arith, so_far.counted, long, within));
  consumed = consumed start now next so_far.consumed more;
}
  where
    consumed : (s n t : Option (List ℕ)) → Consumes s n so_far.taken → Consumes n t piece → Consumes s t (so_far.taken ++ piece)
    consumed None n t a b = search rules
    consumed (Some xs) None t a b = absurd a
    consumed (Some xs) (Some ys) None a b = absurd b
    consumed (Some xs) (Some ys) (Some zs) a b =
        let first : xs ≡ so_far.taken ++ ys = a in
        let then : ys ≡ piece ++ zs = b in
        rw (first, then) (sym (append_assoc so_far.taken piece zs))

-- the first bytes were written
pub record WrittenSoFar (start now : Option (List ℕ)) (bytes : List ℕ) (done : ℕ) : Type 0 where
  pub within : done ≤ length bytes
  pub written : Appends start now (take done bytes)

-- after a further write more of them were
pub written_more : (start now next : Option (List ℕ)) (bytes piece : List ℕ) (done count : ℕ) → WrittenSoFar start now bytes done
    → Appends now next piece → piece ≡ take count (drop done bytes) → done + count ≤ length bytes → WrittenSoFar start next bytes (done + count)
written_more start now next bytes piece done count so_far more is within =
    record { within = within; written = appended start now next so_far.written (rw (← is) more) }
  where
    appended : (s n t : Option (List ℕ)) → Appends s n (take done bytes) → Appends n t (take count (drop done bytes)) → Appends s t (take (done + count) bytes)
    appended None n t a b = search rules
    appended (Some xs) None t a b = absurd a
    appended (Some xs) (Some ys) None a b = absurd b
    appended (Some xs) (Some ys) (Some zs) a b =
        let first : ys ≡ xs ++ take done bytes = a in
        let then : zs ≡ ys ++ take count (drop done bytes) = b in
        rw (take-add done count bytes, then, first) (append_assoc xs (take done bytes) (take count (drop done bytes)))
