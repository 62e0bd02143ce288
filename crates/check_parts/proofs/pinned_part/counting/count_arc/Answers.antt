use Rattle.std.proofs.Common.{arith, ℕ, ◌≡◌, ◌<◌, Option, subst}
use Rattle.std.specs.Prelude.{IfSome, map}
use Rattle.model_rosters.specs.arc_laws.OrNodes.{used}
use Rattle.check_parts.specs.pinned_part.Places.{node_place, place_count}
use Rattle.check_parts.specs.pinned_part.Net.{one_or_two}
use Rattle.check_parts.proofs.pinned_part.RowChanges.{counted-one, counted-two}
use Rattle.check_parts.proofs.pinned_part.counting.count_arc.Goals as goal

pub returns-in-Some : goal.returns-in-Some
returns-in-Some c =
    let g = c.args.grammar.now in
    let uses = c.used_places-uses.ensures in
    let places = subst (λ (o : Option ℕ). map (node_place c.args.grammar.now) (used c.args.grammar.now c.args.arc.now) ≡ one_or_two c.used_places-uses.result.first o) c.in-Some.is uses.places in
    let rest : c.in-Some.rest < place_count c.args.grammar.now = subst (λ (o : Option ℕ). IfSome o (λ p. p < place_count c.args.grammar.now)) c.in-Some.is uses.rest in
    counted-two g c.args.arc.now c.args.count c.made_place.result c.used_places-uses.result.first c.args.nodes.now c.add.new.nodes c.take.new.nodes
    (omega (arith, c.made_place.ensures.within, c.requires.length)) (omega (arith, uses.first, c.requires.length)) c.made_place.ensures.place c.add.ensures c.take.ensures
    c.in-Some.rest c.take-in-Some.new.nodes (omega (arith, rest, c.requires.length)) c.take-in-Some.ensures places

pub returns-in_default : goal.returns-in_default
returns-in_default c =
    let g = c.args.grammar.now in
    let uses = c.used_places-uses.ensures in
    let places = subst (λ (o : Option ℕ). map (node_place c.args.grammar.now) (used c.args.grammar.now c.args.arc.now) ≡ one_or_two c.used_places-uses.result.first o) c.in_default.is uses.places in
    counted-one g c.args.arc.now c.args.count c.made_place.result c.used_places-uses.result.first c.args.nodes.now c.add.new.nodes c.take.new.nodes
    (omega (arith, c.made_place.ensures.within, c.requires.length)) (omega (arith, uses.first, c.requires.length)) c.made_place.ensures.place c.add.ensures c.take.ensures places
