use Rattle.std.proofs.Common.{◌≡◌, ℕ, ◌<◌, ◌-◌, length-append, set, List, [], ◌∷◌, ◌++◌, length, get_or, arith, ap, refl, sym, subst, ◌∙◌}
use Rattle.std.proofs.lemmas.Option.{same_Some, slice_get-get_or}
use Rattle.check_certificates.specs.declared.cert.Node.{Node}
use Rattle.check_certificates.specs.declared.growing_laws.seat.Seat.{Seat}
use Rattle.check_certificates.specs.growing_laws.Seats.{seat_at, HasHalves, IsListing, pushed_halves}
use Rattle.check_certificates.proofs.growing_laws.Preorder.{began, inside, more-left, halves-fit, further, ended}
use Rattle.check_certificates.proofs.growing_laws.listing.list_nodes.Goals as goal

same-at : (xs : List Seat) (k : ℕ) (x : Seat) → k < length xs → x ≡ get_or xs k x → x ≡ seat_at xs k
same-at xs k x lt e = e ∙ same_Some (get_or xs k x) (seat_at xs k) (sym (slice_get-get_or xs k x lt) ∙ slice_get-get_or xs k _ lt)

pub loop-number-init : goal.loop-number-init
loop-number-init c = λ t h.
    let st : c.push.new.self.items ≡ 0 ∷ [] = c.in_ok-push.ensures.items ∙ ap (λ (xs : List ℕ). xs ++ 0 ∷ []) c.new-stack.ensures.items in
    subst (λ (ns : List Node). IsListing (length c.args.seats.items) t c.args.seats.items c.push.new.self.items ns) (sym c.new-nodes.ensures)
    (subst (λ (xs : List ℕ). IsListing (length c.args.seats.items) t c.args.seats.items xs []) (sym st) (began t c.args.seats.items h))

pub index_mut-seat-requires : goal.index_mut-seat-requires
index_mut-seat-requires c =
    let i = inside (length c.args.seats.items) c.requires.tree.0 c.loop-number.seats.items c.loop-number.stack.items c.pop.new.self.items c.loop-number.nodes c.in-Some.number (c.loop-number.invariant c.requires.tree.0 c.requires.tree.1) c.in-Some.ensures.items in
    let k = c.loop-number.seats.ok in
    omega (arith, i, k.0)

pub push_halves-requires : goal.push_halves-requires
push_halves-requires c =
    let i = inside (length c.args.seats.items) c.requires.tree.0 c.loop-number.seats.items c.loop-number.stack.items c.pop.new.self.items c.loop-number.nodes c.in-Some.number (c.loop-number.invariant c.requires.tree.0 c.requires.tree.1) c.in-Some.ensures.items in
    let f = halves-fit (length c.args.seats.items) c.requires.tree.0 c.loop-number.seats.items c.loop-number.stack.items c.pop.new.self.items c.loop-number.nodes c.in-Some.number (c.loop-number.invariant c.requires.tree.0 c.requires.tree.1) c.in-Some.ensures.items in
    let n = (c.loop-number.invariant c.requires.tree.0 c.requires.tree.1).same in
    let few = c.requires.few in
    let h : HasHalves (seat_at c.loop-number.seats.items c.in-Some.number).node (seat_at c.loop-number.seats.items c.in-Some.number).low = f (omega (arith, n, few)) in
    let e = same-at c.loop-number.seats.items c.in-Some.number c.index_mut-seat.result.now i c.index_mut-seat.ensures.value in
    subst (λ (m : Node). HasHalves m c.index_mut-seat.result.now.low) (sym c.replace-node.ensures.value) (subst (λ (s : Seat). HasHalves s.node s.low) (sym e) h)

pub loop-number-smaller : goal.loop-number-smaller
loop-number-smaller c =
    let m = more-left (length c.args.seats.items) c.requires.tree.0 c.loop-number.seats.items c.loop-number.stack.items c.pop.new.self.items c.loop-number.nodes c.in-Some.number (c.loop-number.invariant c.requires.tree.0 c.requires.tree.1) c.in-Some.ensures.items in
    let e : c.push-in-Some.new.self ≡ c.loop-number.nodes ++ c.replace-node.result ∷ [] = c.in_ok-push-2.ensures.ok in
    let n = ap length e in
    let a = length-append c.loop-number.nodes (c.replace-node.result ∷ []) in
    let k : length c.args.seats.items - length c.push-in-Some.new.self < length c.args.seats.items - length c.loop-number.nodes = omega (arith, m, n, a) in
    k

pub loop-number-preserved : goal.loop-number-preserved
loop-number-preserved c = λ t h.
    let is = c.loop-number.invariant t h in
    let i = inside (length c.args.seats.items) t c.loop-number.seats.items c.loop-number.stack.items c.pop.new.self.items c.loop-number.nodes c.in-Some.number is c.in-Some.ensures.items in
    let e = same-at c.loop-number.seats.items c.in-Some.number c.index_mut-seat.result.now i c.index_mut-seat.ensures.value in
    let n : c.replace-node.result ≡ (seat_at c.loop-number.seats.items c.in-Some.number).node = c.replace-node.ensures.value ∙ ap (λ (s : Seat). s.node) e in
    let l : c.index_mut-seat.result.now.low ≡ (seat_at c.loop-number.seats.items c.in-Some.number).low = ap (λ (s : Seat). s.low) e in
    let p : c.push_halves.new.stack.items ≡ pushed_halves c.replace-node.result c.index_mut-seat.result.now.low c.pop.new.self.items = c.in_ok-push_halves.ensures in
    let p2 = p ∙ ap (λ (m : Node). pushed_halves m c.index_mut-seat.result.now.low c.pop.new.self.items) n ∙ ap (λ (m : ℕ). pushed_halves (seat_at c.loop-number.seats.items c.in-Some.number).node m c.pop.new.self.items) l in
    let q : c.push-in-Some.new.self ≡ c.loop-number.nodes ++ c.replace-node.result ∷ [] = c.in_ok-push-2.ensures.ok in
    let q2 = q ∙ ap (λ (m : Node). c.loop-number.nodes ++ m ∷ []) n in
    let seat : Seat = record { node = c.replace-node.new.dest; value = c.index_mut-seat.result.now.value; low = c.index_mut-seat.result.now.low; above = c.index_mut-seat.result.now.above; parent = c.index_mut-seat.result.now.parent; cut = c.index_mut-seat.result.now.cut } in
    let new : List Seat = set c.loop-number.seats.items c.in-Some.number seat in
    let f = further (length c.args.seats.items) t c.loop-number.seats.items c.loop-number.stack.items c.pop.new.self.items c.loop-number.nodes c.in-Some.number is c.in-Some.ensures.items seat in
    subst (λ (ns : List Node). IsListing (length c.args.seats.items) t new c.push_halves.new.stack.items ns) (sym q2)
    (subst (λ (xs : List ℕ). IsListing (length c.args.seats.items) t new xs (c.loop-number.nodes ++ (seat_at c.loop-number.seats.items c.in-Some.number).node ∷ [])) (sym p2) f)

empty : (xs : List ℕ) → length xs ≡ 0 → xs ≡ []
empty [] e = refl
empty (x ∷ xs) e = absurd (omega (arith, e))

pub returns : goal.returns
returns c = λ t h.
    let s = c.in_default.ensures.cases in
    let k = c.loop-number.stack.ok in
    let e : c.loop-number.stack.items ≡ [] = empty c.loop-number.stack.items (omega (arith, s.0, k.0)) in
    ended (length c.args.seats.items) t c.loop-number.seats.items c.loop-number.nodes (subst (λ (xs : List ℕ). IsListing (length c.args.seats.items) t c.loop-number.seats.items xs c.loop-number.nodes) e (c.loop-number.invariant t h))
