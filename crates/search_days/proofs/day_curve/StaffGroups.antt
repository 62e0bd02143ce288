-- Groups of which one has another greatest number.
use Rattle.std.proofs.Common.{◌≡◌, ◌≢◌, ℕ, zero, suc, arith, ◌+◌, ◌≤◌, ◌<◌, Option, None, Some, List, [], ◌∷◌, ◌++◌, length, map, get_or, refl, sym, ap, subst, ◌∙◌}
use Rattle.std.proofs.lemmas.Option.{same_Some}
use Rattle.std.specs.Prelude.{slice_get, slice_set}
use Rattle.model_rosters.specs.declared.grammar.Grammar.{Grammar}
use Rattle.model_rosters.specs.declared.grammar.Rule.{Rule}
use Rattle.model_rosters.specs.declared.instance.Group.{Group}
use Rattle.model_rosters.specs.Extension.{group_rule, extended}
use Rattle.model_rosters.specs.Folds.{Each, sum_n}
use Rattle.model_rosters.specs.SoundInstance.{IsGroup, AreGroups}
use Rattle.model_rosters.proofs.EachLemmas.{all_each, each_all}
use Rattle.check_certificates.specs.Sound.{IsGroupNumber}
use Rattle.search_days.specs.day_curve.Staffs.{group_least, group_most, with_group}

abbrev pub sum_most : List Group → ℕ
sum_most gs = sum_n (λ (g : Group). g.heads_max) gs

abbrev pub sum_least : List Group → ℕ
sum_least gs = sum_n (λ (g : Group). g.heads_min) gs

-- the group that was changed

pub least-stays : (k m : ℕ) (gs : List Group) → group_least (slice_get (with_group k m gs) k) ≡ group_least (slice_get gs k)
least-stays k m [] = refl
least-stays zero m (g ∷ gs) = refl
least-stays (suc k) m (g ∷ gs) = least-stays k m gs

pub most-now : (k m : ℕ) (gs : List Group) → k < length gs → group_most (slice_get (with_group k m gs) k) ≡ m
most-now k m [] h = absurd (omega (arith, h))
most-now zero m (g ∷ gs) h = refl
most-now (suc k) m (g ∷ gs) h = most-now k m gs (omega (arith, h))

-- all groups

pub length-stays : (k m : ℕ) (gs : List Group) → length (with_group k m gs) ≡ length gs
length-stays k m [] = refl
length-stays zero m (g ∷ gs) = refl
length-stays (suc k) m (g ∷ gs) = let rest = length-stays k m gs in omega (arith, rest)

pub group-again : (k a b : ℕ) (gs : List Group) → with_group k b (with_group k a gs) ≡ with_group k b gs
group-again k a b [] = refl
group-again zero a b (g ∷ gs) = refl
group-again (suc k) a b (g ∷ gs) = ap (λ (xs : List Group). g ∷ xs) (group-again k a b gs)

pub group-whole : (k : ℕ) (gs : List Group) → with_group k (group_most (slice_get gs k)) gs ≡ gs
group-whole k [] = refl
group-whole zero (g ∷ gs) = refl
group-whole (suc k) (g ∷ gs) = ap (λ (xs : List Group). g ∷ xs) (group-whole k gs)

-- a write at the place
pub group-set : (k m : ℕ) (gs : List Group) (d : Group) → k < length gs → slice_set gs k (record (get_or gs k d) { heads_max = m }) ≡ with_group k m gs
group-set k m [] d h = absurd (omega (arith, h))
group-set zero m (x ∷ gs) d h = refl
group-set (suc k) m (x ∷ gs) d h = ap (λ (xs : List Group). x ∷ xs) (group-set k m gs d (omega (arith, h)))

pub group-write : (k m : ℕ) (gs : List Group) (g d : Group) → g ≡ get_or gs k d → k < length gs → slice_set gs k (record g { heads_max = m }) ≡ with_group k m gs
group-write k m gs g d e h = subst (λ (x : Group). slice_set gs k (record x { heads_max = m }) ≡ with_group k m gs) (sym e) (group-set k m gs d h)

pub sum-least : (k m : ℕ) (gs : List Group) → sum_least (with_group k m gs) ≡ sum_least gs
sum-least k m [] = refl
sum-least zero m (g ∷ gs) = refl
sum-least (suc k) m (g ∷ gs) = ap (λ (n : ℕ). g.heads_min + n) (sum-least k m gs)

pub sum-more : (k a b : ℕ) (gs : List Group) → a ≤ b → sum_most (with_group k a gs) ≤ sum_most (with_group k b gs)
sum-more k a b [] less = omega arith
sum-more zero a b (g ∷ gs) less = omega (arith, less)
sum-more (suc k) a b (g ∷ gs) less = let rest = sum-more k a b gs less in omega (arith, rest)

pub one-of-sum : (k m : ℕ) (gs : List Group) → k < length gs → m ≤ sum_most (with_group k m gs)
one-of-sum k m [] h = absurd (omega (arith, h))
one-of-sum zero m (g ∷ gs) h = omega arith
one-of-sum (suc k) m (g ∷ gs) h = let rest = one-of-sum k m gs (omega (arith, h)) in omega (arith, rest)

pub sums-in-order : (names : ℕ) (gs : List Group) → Each (IsGroup names) gs → sum_least gs ≤ sum_most gs
sums-in-order names [] h = omega arith
sums-in-order names (g ∷ gs) h = let rest = sums-in-order names gs h.1 in let here = h.0.order in omega (arith, rest, here)

-- the rules that groups add do not tell how many of them may work
rules-same : (added k m : ℕ) (gs : List Group) → map (group_rule added) (with_group k m gs) ≡ map (group_rule added) gs
rules-same added k m [] = refl
rules-same added zero m (g ∷ gs) = refl
rules-same added (suc k) m (g ∷ gs) = ap (λ (rs : List Rule). group_rule added g ∷ rs) (rules-same added k m gs)

pub extended-same : (g : Grammar) (k m : ℕ) (gs : List Group) → extended g (with_group k m gs) ≡ extended g gs
extended-same g k m gs = ap (λ (rs : List Rule). record (extended g gs) { rules = g.rules ++ rs }) (rules-same (length g.names) k m gs)

groups-each : (names k m : ℕ) (gs : List Group) → group_least (slice_get gs k) ≤ m → 1 ≤ m → Each (IsGroup names) gs → Each (IsGroup names) (with_group k m gs)
groups-each names k m [] less some h = tt
groups-each names zero m (g ∷ gs) less some h = (record { name = h.0.name; order = less; some = some }, h.1)
groups-each names (suc k) m (g ∷ gs) less some h = (h.0, groups-each names k m gs less some h.1)

-- a group had the name before
abbrev HadName : List Group → ℕ → Group → Type 0
HadName gs i a = (c : Group) × (slice_get gs i ≡ Some c) × (c.name ≡ a.name)

had-name : (k m i : ℕ) (gs : List Group) (a : Group) → slice_get (with_group k m gs) i ≡ Some a → HadName gs i a
had-name k m i [] a h = let clash : ◌≡◌ {A = Option Group} None (Some a) = h in cc
had-name zero m zero (g ∷ gs) a h = let same : record g { heads_max = m } ≡ a = same_Some (record g { heads_max = m }) a h in (g, refl, ap (λ (x : Group). x.name) same)
had-name zero m (suc i) (g ∷ gs) a h = (a, h, refl)
had-name (suc k) m zero (g ∷ gs) a h = (g, refl, ap (λ (x : Group). x.name) (same_Some g a h))
had-name (suc k) m (suc i) (g ∷ gs) a h = had-name k m i gs a h

pub are-groups : (names k m : ℕ) (gs : List Group) → group_least (slice_get gs k) ≤ m → 1 ≤ m → AreGroups names gs → AreGroups names (with_group k m gs)
are-groups names k m gs less some h = record {
  few = let same = length-stays k m gs in let few = h.few in omega (arith, same, few);
  each = each_all (IsGroup names) (with_group k m gs) (groups-each names k m gs less some (all_each (IsGroup names) gs h.each));
  apart = λ i j a b before at_i at_j.
      let one = had-name k m i gs a at_i in
      let other = had-name k m j gs b at_j in
      λ same. h.apart i j one.0 other.0 before one.1 other.1 (one.2 ∙ same ∙ sym other.2);
}

-- and it was one
pub number-was : (k m n : ℕ) (gs : List Group) → IsGroupNumber (with_group k m gs) n → IsGroupNumber gs n
number-was k m n [] h = h
number-was zero m n (g ∷ gs) h = h
number-was (suc k) m n (g ∷ gs) h = let same = length-stays k m gs in let last = h.1 in (h.0, omega (arith, same, last))

-- the number of a group stays one
pub number-stays : (k m n : ℕ) (gs : List Group) → IsGroupNumber gs n → IsGroupNumber (with_group k m gs) n
number-stays k m n [] h = h
number-stays zero m n (g ∷ gs) h = h
number-stays (suc k) m n (g ∷ gs) h = let same = length-stays k m gs in let last = h.1 in (h.0, omega (arith, same, last))
