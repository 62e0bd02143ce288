-- A day's grammar without what its groups add is that of its rules, but for the start.
use Rattle.std.proofs.Common.{◌≡◌, ℕ, zero, suc, ◌+◌, ◌-◌, List, [], ◌∷◌, ◌++◌, length, map, take, refl, ap, ◌∙◌, arith, length-append}
use Rattle.std.proofs.lemmas.List.{length-map}
use Rattle.model_rosters.specs.declared.grammar.Grammar.{Grammar}
use Rattle.model_rosters.specs.declared.grammar.Rule.{Rule}
use Rattle.model_rosters.specs.declared.instance.Group.{Group}
use Rattle.model_rosters.specs.Extension.{extended, group_rule}
use Rattle.model_rosters.specs.Names.{added_name}
use Rattle.check_values.specs.group_rules.Plain.{plain_from}

take_front : {X : Type 0} (xs ys : List X) (n : ℕ) → n ≡ length xs → take n (xs ++ ys) ≡ xs
take_front [] ys zero e = refl
take_front [] ys (suc n) e = absurd (omega arith)
take_front (x ∷ xs) ys zero e = absurd (omega arith)
take_front (x ∷ xs) ys (suc n) e = ap (λ zs. x ∷ zs) (take_front xs ys n (omega arith))

take_all : {X : Type 0} (xs : List X) (n : ℕ) → n ≡ length xs → take n xs ≡ xs
take_all [] zero e = refl
take_all [] (suc n) e = absurd (omega arith)
take_all (x ∷ xs) zero e = absurd (omega arith)
take_all (x ∷ xs) (suc n) e = ap (λ zs. x ∷ zs) (take_all xs n (omega arith))

pub plain_none : (g : Grammar) → plain_from g [] g.start ≡ g
plain_none g =
    let names : take (length g.names - 0) g.names ≡ g.names = take_all g.names (length g.names - 0) (omega arith) in
    let rules : take (length g.rules - 0) g.rules ≡ g.rules = take_all g.rules (length g.rules - 0) (omega arith) in
    ap (λ (ns : List (List ℕ)). record g { names = ns; rules = take (length g.rules - 0) g.rules }) names
    ∙ ap (λ (rs : List Rule). record g { rules = rs }) rules

pub plain_extended : (g : Grammar) (x : Group) (gs : List Group) (s : ℕ) → plain_from (extended g (x ∷ gs)) (x ∷ gs) s ≡ record g { start = s }
plain_extended g x gs s =
    let added = map (group_rule (length g.names)) (x ∷ gs) in
    let names = take_front g.names (added_name ∷ []) (length (g.names ++ added_name ∷ []) - 1) (omega (arith, length-append g.names (added_name ∷ []))) in
    let rules = take_front g.rules added (length (g.rules ++ added) - length (x ∷ gs)) (omega (arith, length-append g.rules added, length-map (x ∷ gs) (group_rule (length g.names)))) in
    ap (λ (ns : List (List ℕ)). record g { names = ns; rules = take (length (g.rules ++ added) - length (x ∷ gs)) (g.rules ++ added); start = s }) names
    ∙ ap (λ (rs : List Rule). record g { rules = rs; start = s }) rules
