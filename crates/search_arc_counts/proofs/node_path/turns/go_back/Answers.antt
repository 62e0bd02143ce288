use Rattle.search_arc_counts.proofs.node_path.TurnsLemmas.{last-of, turn-inside, turn-order, turn-few}
use Rattle.search_arc_counts.proofs.node_path.turns.go_back.Goals as goal

pub set_back-requires-clause-arc : goal.set_back-requires-clause-arc
set_back-requires-clause-arc c =
    let r = c.requires in
    let h = c.loop-turn.invariant r.0 r.1 r.2 r.3 r.4 in
    turn-inside r.0 r.1 r.2 c.loop-turn.turns.items c.pop.new.self.items c.in-Some.turn h.0 c.loop-turn.arc_box h.1 c.in-Some.ensures.items

pub set_back-requires-clause-order : goal.set_back-requires-clause-order
set_back-requires-clause-order c =
    let r = c.requires in
    let h = c.loop-turn.invariant r.0 r.1 r.2 r.3 r.4 in
    turn-order r.0 r.1 r.2 c.loop-turn.turns.items c.pop.new.self.items c.in-Some.turn h.0 c.loop-turn.arc_box h.1 c.in-Some.ensures.items

pub set_back-requires-clause-few : goal.set_back-requires-clause-few
set_back-requires-clause-few c =
    let r = c.requires in
    let h = c.loop-turn.invariant r.0 r.1 r.2 r.3 r.4 in
    turn-few r.0 r.1 r.2 c.loop-turn.turns.items c.pop.new.self.items c.in-Some.turn h.0 c.loop-turn.arc_box h.1 c.in-Some.ensures.items

pub loop-turn-preserved : goal.loop-turn-preserved
loop-turn-preserved c i v above cuts is =
    let h = c.loop-turn.invariant i v above cuts is in
    let l = last-of i v above c.loop-turn.turns.items c.pop.new.self.items c.in-Some.turn h.0 c.loop-turn.arc_box h.1 c.in-Some.ensures.items in (
      l.shorter,
      record {
        sound = h.1.sound;
        graph = h.1.graph;
        turned = l.others;
        left = c.set_back.ensures.path i v l.shorter l.cut.arc l.cut.side l.cut.b h.1.graph l.is.at (rw l.longer at h.1.left) l.is.was;
      },
    )
