-- The rules of a writable plan are sound, with names and letters as numbers.
use Rattle.std.proofs.Common.{ℕ, ◌<◌, List, [], ◌∷◌, inl, inr, length, map, arith, refl}
use Rattle.std.proofs.lemmas.List.{length-map}
use Rattle.std.proofs.lemmas.Option.{slice_get_within}
use Rattle.model_rosters.specs.Folds.{Each, In}
use Rattle.model_rosters.specs.Sound.{Exists, IsRule}
use Rattle.model_rosters.proofs.EachLemmas.{each_all}
use Rattle.plan_laws.specs.declared.period_plan.NamedLines.{NamedLines}
use Rattle.plan_laws.specs.declared.period_plan.PeriodPlan.{PeriodPlan}
use Rattle.plan_laws.specs.Named.{EachSymbol, NamedRule, Numbers, Symbol, coded, named, to_rule, to_sym}
use Rattle.plan_laws.specs.Names.{Free, Kind}
use Rattle.plan_laws.specs.PeriodShifts.{IsLetter}
use Rattle.plan_names.specs.Gathered.{place}
use Rattle.plan_names.specs.Same.{same}
use Rattle.plan_names.proofs.Gathering.{at_place}
use Rattle.plan_names.proofs.SameNames.{is_same, own_same}
use Rattle.plan_rules.specs.Closed.{names_in}
use Rattle.plan_rules.specs.Grammars.{code_place, numbers_of, plan_codes}
use Rattle.plan_rules.proofs.FineRules.{Fine, IsFineRule}
use Rattle.plan_rules.proofs.WrittenLemmas.{code_at, letter_code}

module _ (p : PeriodPlan) (free : Free) (xs : List NamedLines) (ks : List Kind) where
  abbrev num : Numbers Kind
  num = numbers_of (plan_codes p) ks

  pub place_within : (k : Kind) → In k ks → place same k ks < length ks
  place_within k at = slice_get_within ks (place same k ks) k (at_place same is_same own_same k ks at)

  letter_within : (c : ℕ) → IsLetter p c → code_place c (plan_codes p) < length (plan_codes p)
  letter_within c letter =
      let l = letter_code p c letter in
      let found = code_at c (plan_codes p) l.0 l.1 l.2 in
      slice_get_within (plan_codes p) (code_place c (plan_codes p)) found.0 found.1

  symbols_exist : (ss : List (Symbol Kind)) → EachSymbol (IsLetter p) (Fine p free xs) ss → ((x : Kind) → In x (names_in ss) → In x ks)
      → Each (Exists (length (plan_codes p)) (length ks)) (map (to_sym num) ss)
  symbols_exist [] fine closed = tt
  symbols_exist (coded c ∷ ss) fine closed = (letter_within c fine.0, symbols_exist ss fine.1 closed)
  symbols_exist (named k ∷ ss) fine closed = (place_within k (closed k (inl refl)), symbols_exist ss fine.1 (λ x at. closed x (inr at)))

  pub rule_sound : (k : Kind) (own : NamedRule Kind) → IsFineRule p free xs k own → In k ks → ((x : Kind) → In x (names_in own.right) → In x ks)
      → IsRule (length (plan_codes p)) (length ks) (to_rule num k own)
  rule_sound k own fine at closed =
      let long = length-map own.right (to_sym num) in
      let some = fine.some in
      let eight = fine.eight in
      record {
        left = place_within k at;
        cost = fine.cost;
        some = omega (arith, long, some);
        eight = omega (arith, long, eight);
        symbols = each_all (Exists (length (plan_codes p)) (length ks)) (map (to_sym num) own.right) (symbols_exist own.right fine.symbols closed);
        span = fine.span;
        begins = fine.first;
        ends = fine.last;
      }
