use Rattle.std.proofs.Common.{◌≡◌, take, inr, refl, subst, arith}
use Rattle.std.proofs.lemmas.List.{take_all}
use Rattle.model_rosters.specs.Folds.{Each}
use Rattle.tree_ranking.specs.declared.candidate.Candidate.{Candidate}
use Rattle.tree_ranking.specs.Candidates.{Comes}
use Rattle.tree_ranking.proofs.OfferListLemmas.{room-place, offered-put}
use Rattle.tree_ranking.proofs.progress.offer.Goals as goal

pub insert-requires : goal.insert-requires
insert-requires c =
    let within = room-place c.args.room c.place_of-place.result c.args.waiting.now.items c.make_room.new.waiting.items c.make_room.ensures c.place_of-place.ensures.within c.if-place-room.false in
    omega (arith, within)

pub returns : goal.returns
returns c =
    offered-put c.args.room c.place_of-place.result c.args.candidate c.args.waiting.now.items c.make_room.new.waiting.items c.insert.new.self.items c.make_room.ensures c.place_of-place.ensures.within
    c.if-place-room.false c.place_of-place.ensures.before c.place_of-place.ensures.after c.in_ok-insert.ensures.items

pub returns-then-place-room : goal.returns-then-place-room
returns-then-place-room c =
    let items = c.args.waiting.now.items in
    let all : take c.place_of-place.result items ≡ items = take_all c.place_of-place.result items (omega (arith, c.if-place-room.true, c.requires.few)) in
    inr (inr (record {
      same = refl;
      before = subst (Each (λ (d : Candidate). Comes d c.args.candidate)) all c.place_of-place.ensures.before;
      full = omega (arith, c.if-place-room.true, c.requires.few, c.place_of-place.ensures.within);
    }))
