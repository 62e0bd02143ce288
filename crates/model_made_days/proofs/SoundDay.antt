-- The day of each number is sound.
use Rattle.std.proofs.Common.{◌≡◌, ◌≢◌, ℕ, zero, suc, ◌<◌, ◌≤◌, ◌+◌, Bool, true, not, ◌&&◌, ltb, leb, eqb, List, [], ◌∷◌, Some, length, map, get_or, inl, refl, ap, subst, arith}
use Rattle.std.specs.List.{list_all, range_with_len}
use Rattle.std.proofs.lemmas.Bool.{and_parts, not-true, ltb-true, leb-true, le-leb, eqb-false}
use Rattle.std.proofs.lemmas.List.Sums.{AllPass-from_list_all}
use Rattle.std.proofs.lemmas.List.FromFn.{length-map-range_with_len}
use Rattle.std.proofs.lemmas.Option.{none-some}
use Rattle.model_rosters.specs.declared.grammar.CodeDef.{CodeDef}
use Rattle.model_rosters.specs.declared.grammar.Rule.{Rule}
use Rattle.model_rosters.specs.declared.grammar.Sym.{Sym}
use Rattle.model_rosters.specs.declared.grammar.Sym.TheVariants.{Code, Name}
use Rattle.model_rosters.specs.declared.grammar.Window.{Window}
use Rattle.model_rosters.specs.Demands.{IsPeriodDemand, IsWork, IsDemand, AreCells, all_cells}
use Rattle.model_rosters.specs.Folds.{Each}
use Rattle.model_rosters.specs.Grammar.{rule_at}
use Rattle.model_rosters.specs.Names.{is_code_byte, is_name, is_window_word, added_name}
use Rattle.model_rosters.specs.Sound.{Exists, IsWindow, IsRule, AreCodes, has_rule, appearances, AreNames, IsSound, IsPlain}
use Rattle.model_rosters.specs.SoundInstance.{IsSoundInstance}
use Rattle.model_rosters.specs.UnitRules.{IsRanked}
use Rattle.model_rosters.proofs.EachLemmas.{each_all}
use Rattle.model_made_days.specs.Draws.{draw, after}
use Rattle.model_made_days.specs.Made.{made_codes, made_names, made_rules, made_grammar, asked, drawn, made_periods, made_cost, made_under, made_demands, made_instance}
use Rattle.model_made_days.proofs.ListTests.{each_at, each_by, apart_at, in_order}
use Rattle.model_made_days.proofs.Draws.{answer_below}

sound_codes : AreCodes made_codes
sound_codes = record {
  few = omega arith;
  few_work = omega arith;
  bytes = AllPass-from_list_all (λ (c : CodeDef). is_code_byte c.byte) made_codes refl;
  apart = apart_at (λ (c : CodeDef). c.byte) made_codes refl;
}

-- the first letter of a name
abbrev first : List ℕ → ℕ
first w = get_or w 0 0

each_name : Each (λ w. is_name w ≡ true) made_names
unfolding is_name is_window_word
each_name = each_by is_name (λ w. is_name w ≡ true) (λ w h. h) made_names refl

each_ruled : (c x : ℕ) → x < 7 → has_rule (made_rules c) x ≡ true
each_ruled c zero h = refl
each_ruled c (suc zero) h = refl
each_ruled c (suc (suc zero)) h = refl
each_ruled c (suc (suc (suc zero))) h = refl
each_ruled c (suc (suc (suc (suc zero)))) h = refl
each_ruled c (suc (suc (suc (suc (suc zero))))) h = refl
each_ruled c (suc (suc (suc (suc (suc (suc zero)))))) h = refl
each_ruled c (suc (suc (suc (suc (suc (suc (suc x))))))) h = absurd (omega arith)

sound_names : (n c : ℕ) → AreNames (made_grammar n c)
sound_names n c = record {
  few = omega arith;
  each = λ x name e. inl (each_at (λ w. is_name w ≡ true) made_names each_name x name e);
  apart = λ i j a b lt e f same. apart_at first made_names refl i j a b lt e f (ap first same);
  ruled = each_ruled c;
  ordered = in_order 0 7 (appearances (made_rules c)) refl;
}

abbrev exists : Sym → Bool
exists (Code c) = ltb c 5
exists (Name x) = ltb x 7

exists_by : (s : Sym) → exists s ≡ true → Exists 5 7 s
exists_by (Code c) h = ltb-true c 5 h
exists_by (Name x) h = ltb-true x 7 h

abbrev is_window : Window → Bool
is_window w = leb 1 w.lo && leb w.lo w.hi && leb w.hi 96

window_by : (w : Window) → is_window w ≡ true → IsWindow w
window_by w h =
    let last = and_parts (leb 1 w.lo && leb w.lo w.hi) (leb w.hi 96) h in
    let both = and_parts (leb 1 w.lo) (leb w.lo w.hi) last.0 in
    record { first = leb-true 1 w.lo both.0; order = leb-true w.lo w.hi both.1; last = leb-true w.hi 96 last.1 }

abbrev is_rule : Rule → Bool
is_rule r = ltb r.left 7 && (leb r.cost 10000
    && (leb 1 (length r.right) && (leb (length r.right) 8 && (list_all exists r.right
    && (is_window r.span && (is_window r.first && is_window r.last))))))

rule_by : (r : Rule) → is_rule r ≡ true → IsRule 5 7 r
rule_by r h =
    let left = and_parts (ltb r.left 7) _ h in
    let cost = and_parts (leb r.cost 10000) _ left.1 in
    let some = and_parts (leb 1 (length r.right)) _ cost.1 in
    let eight = and_parts (leb (length r.right) 8) _ some.1 in
    let symbols = and_parts (list_all exists r.right) _ eight.1 in
    let span = and_parts (is_window r.span) _ symbols.1 in
    let ends = and_parts (is_window r.first) (is_window r.last) span.1 in
    record {
      left = ltb-true r.left 7 left.0;
      cost = leb-true r.cost 10000 cost.0;
      some = leb-true 1 (length r.right) some.0;
      eight = leb-true (length r.right) 8 eight.0;
      symbols = each_all (Exists 5 7) r.right (each_by exists (Exists 5 7) exists_by r.right symbols.0);
      span = window_by r.span span.0;
      begins = window_by r.first ends.0;
      ends = window_by r.last ends.1;
    }

each_rule : (c : ℕ) → c ≤ 10000 → Each (IsRule 5 7) (made_rules c)
each_rule c h = each_by is_rule (IsRule 5 7) rule_by (made_rules c) (rw (le-leb c 10000 h) refl)

-- a rule of one symbol leads to a name of a greater number
abbrev rises : ℕ → List Sym → Bool
rises x [] = true
rises x (Code c ∷ ss) = true
rises x (Name y ∷ []) = ltb x y
rises x (Name y ∷ s ∷ ss) = true

Rises : Rule → Type 0
Rises r = (y : ℕ) → r.right ≡ Name y ∷ [] → r.left < y

rises_by : (r : Rule) → rises r.left r.right ≡ true → Rises r
unfolding Rises
rises_by r h y e =
    let P : List Sym → Type 0 = λ ss. rises r.left ss ≡ true in ltb-true r.left y (subst P e h)

each_rises : (c : ℕ) → Each Rises (made_rules c)
each_rises c = each_by (λ (r : Rule). rises r.left r.right) Rises rises_by (made_rules c) refl

ranked : (n c : ℕ) → c ≤ 10000 → IsRanked (made_grammar n c) (λ x. x) 7
unfolding Rises
ranked n c h = record {
  below = λ r rule e. below r rule e;
  rises = λ r rule y e right. above r rule e y right;
}
  where
    below : (r : ℕ) (rule : Rule) → rule_at (made_grammar n c) r ≡ Some rule → rule.left < 7
    below zero rule e = absurd (none-some rule e)
    below (suc k) rule e = (each_at (IsRule 5 7) (made_rules c) (each_rule c h) k rule e).left

    above : (r : ℕ) (rule : Rule) → rule_at (made_grammar n c) r ≡ Some rule → Rises rule
    above zero rule e = absurd (none-some rule e)
    above (suc k) rule e = each_at Rises (made_rules c) (each_rises c) k rule e

sound_grammar : (n c : ℕ) → 1 ≤ n → n ≤ 96 → c ≤ 10000 → IsSound (made_grammar n c)
sound_grammar n c some few cost = record {
  some_period = some;
  few_periods = few;
  codes = sound_codes;
  names = sound_names n c;
  few_rules = omega arith;
  rules = each_all (IsRule 5 7) (made_rules c) (each_rule c cost);
  start = omega arith;
  ranks = (λ x. x, ranked n c cost);
}

-- no name is the added one
abbrev is_spelled : List ℕ → Bool
is_spelled name = not (eqb (first name) 42)

spelled_by : (name : List ℕ) → is_spelled name ≡ true → name ≢ added_name
spelled_by name h e = eqb-false (first name) 42 (not-true (eqb (first name) 42) h) (ap first e)

each_spelled : Each (λ name. name ≢ added_name) made_names
each_spelled = each_by is_spelled (λ name. name ≢ added_name) spelled_by made_names refl

plain_grammar : (n c : ℕ) → IsPlain (made_grammar n c)
plain_grammar n c = record {
  few_names = omega arith;
  few_rules = omega arith;
  spelled = each_all (λ name. name ≢ added_name) made_names each_spelled;
}

each_need : (number k m : ℕ) → 1 ≤ m → m ≤ 64 → (a n : ℕ)
    → Each IsPeriodDemand (map (λ p. asked (draw number (k + p) m)) (range_with_len a n))
each_need number k m some few a zero = tt
each_need number k m some few a (suc n) = (
  record {
    need = omega (arith, answer_below (after number (k + a)) m some);
    floor = omega arith;
    ceiling = omega arith;
  },
  each_need number k m some few (a + 1) n,
)

sound_demand : (number k m code under n c : ℕ) → 1 ≤ m → m ≤ 64 → IsWork (made_grammar n c) code
    → under ≤ 10000 → IsDemand (made_grammar n c) (drawn number k m code under n)
sound_demand number k m code under n c some few work cheap = record {
  work = work;
  under = cheap;
  over = omega arith;
  whole = length-map-range_with_len (λ p. asked (draw number (k + p) m)) 1 n;
  each = each_need number k m some few 1 n;
}

below : (number k m : ℕ) → 1 ≤ m → draw number k m < m
below number k m some = answer_below (after number k) m some

sound_demands : (number c : ℕ) → made_under number ≤ 10000
    → Each (IsDemand (made_grammar (made_periods number) c)) (made_demands number)
sound_demands number c cheap =
    let n = made_periods number in
    let under = made_under number in
    let a : IsWork (made_grammar n c) 0 = (record { byte = 97; work = true }, refl, refl) in
    let b : IsWork (made_grammar n c) 1 = (record { byte = 98; work = true }, refl, refl) in (
      sound_demand number 3 4 0 under n c (omega arith) (omega arith) a cheap,
      (sound_demand number (3 + n) 3 1 under n c (omega arith) (omega arith) b cheap, tt),
    )

sound_cells : (number c : ℕ) → made_under number ≤ 10000
    → AreCells (made_grammar (made_periods number) c) (all_cells (made_demands number))
sound_cells number c cheap = record {
  demands = made_demands number;
  each = sound_demands number c cheap;
  once = ((λ e. eqb-false 1 0 refl e, tt), (tt, tt));
  made = refl;
}

pub sound_day : (number : ℕ) → IsSoundInstance (made_instance number)
sound_day number =
    let n = made_periods number in
    let c = made_cost number in
    let few = below number 1 13 (omega arith) in
    let cost = below number 2 11 (omega arith) in
    let under = below number 3 11 (omega arith) in
    record {
      grammar = sound_grammar n c (omega arith) (omega (arith, few)) (omega (arith, cost));
      order = omega arith;
      some = omega arith;
      few = omega arith;
      groups = plain_grammar n c;
      cells = sound_cells number c (omega (arith, under));
    }
