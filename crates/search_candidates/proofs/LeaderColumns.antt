-- Cheapest trees of one team after another.
use Rattle.std.proofs.Common.{◌≡◌, ℕ, zero, suc, ◌<◌, ◌+◌, Some, List, [], ◌∷◌, ◌++◌, arith, refl, subst, sym, ap, ◌∙◌, take, append_assoc}
use Rattle.std.specs.Prelude.{slice_get}
use native.Mathlib.Numerals.{add-one}
use Rattle.std.proofs.lemmas.List.{take_more, append-nil}
use Rattle.std.proofs.lemmas.Option.{slice_get_within, get_or_from_slice_get}
use Rattle.model_rosters.specs.declared.grammar.Grammar.{Grammar}
use Rattle.model_rosters.specs.declared.instance.Instance.{Instance}
use Rattle.model_rosters.specs.Room.{RoomView}
use Rattle.model_rosters.specs.Teams.{Team}
use Rattle.model_rosters.specs.Trees.{Parts, done}
use Rattle.tree_pool.specs.Pools.{PoolTree, IsPool, IsGrown}
use Rattle.search_candidates.specs.Leaders.{IsLeader, HoldsLeader, trees_like, numbers_like, AreLed, AreLedAt, Leads}
use Rattle.search_candidates.specs.Rosters.{AreTreesAt}
use Rattle.search_candidates.specs.Spelled.{IsTreeAt}
use Rattle.search_candidates.proofs.PoolNumbers.{entry-kept, entry-is}

like_more : (k c : ℕ) → numbers_like k c ++ c ∷ [] ≡ numbers_like (suc k) c
like_more zero c = refl
like_more (suc k) c = ap (λ (q : List ℕ). c ∷ q) (like_more k c)

pub copies-next : (old mid new : List ℕ) (k c : ℕ) → mid ≡ old ++ numbers_like k c → new ≡ mid ++ c ∷ [] → new ≡ old ++ numbers_like (k + 1) c
copies-next old mid new k c e f = rw (add-one k) (f ∙ ap (λ (q : List ℕ). q ++ c ∷ []) e ∙ append_assoc old (numbers_like k c) (c ∷ []) ∙ ap (λ (q : List ℕ). old ++ q) (like_more k c))

led_next : (i : Instance) (os : List Team) (o : Team) (ts : List Parts) (t : Parts) → (0 < o.least → IsLeader i o t) → AreLed i os ts → AreLed i (os ++ o ∷ []) (ts ++ trees_like o.least t)
led_next i [] o ts t h e = (t, [], h, ap (λ (q : List Parts). q ++ trees_like o.least t) e ∙ sym (append-nil (trees_like o.least t)), refl)
led_next i (q ∷ os) o ts t h led =
    (led.0, led.1 ++ trees_like o.least t, led.2, ap (λ (p : List Parts). p ++ trees_like o.least t) led.3 ∙ append_assoc (trees_like q.least led.0) led.1 (trees_like o.least t), led_next i os o led.1 t h led.4)

module _ (g : Grammar) where
  trees_like_at : (pool : List PoolTree) (c : ℕ) (t : Parts) → IsTreeAt g pool c t → (n : ℕ) → AreTreesAt g pool (numbers_like n c) (trees_like n t)
  trees_like_at pool c t at zero = tt
  trees_like_at pool c t at (suc n) = (at.0, at.1, at.2, trees_like_at pool c t at n)

  trees_more : (old new : List PoolTree) → IsGrown old new → (cs ds : List ℕ) (ts us : List Parts) → AreTreesAt g old cs ts → AreTreesAt g new ds us → AreTreesAt g new (cs ++ ds) (ts ++ us)
  trees_more old new grown [] ds [] us h k = k
  trees_more old new grown [] ds (t ∷ ts) us h k = absurd h
  trees_more old new grown (c ∷ cs) ds [] us h k = absurd h
  trees_more old new grown (c ∷ cs) ds (t ∷ ts) us h k = (h.0, entry-kept old new grown c h.0 h.1, h.2, trees_more old new grown cs ds ts us h.3 k)

module _ (i : Instance) (o : Team) where
  -- a team that needs no employee
  pub leads-none : (pool : List PoolTree) (columns : List ℕ) → o.least ≡ 0 → Leads i pool pool o columns columns
  leads-none pool columns none os led =
      let next = led_next i os o led.0 done (λ k. absurd (omega (arith, k, none))) led.2 in
      let same : led.0 ++ trees_like o.least done ≡ led.0 = ap (λ (n : ℕ). led.0 ++ trees_like n done) none ∙ append-nil led.0 in
      (led.0, led.1, subst (λ (ts : List Parts). AreLed i (os ++ o ∷ []) ts) same next)

  -- one that needs some has a cheapest tree
  pub leads-some : (old new : List PoolTree) → IsPool i.grammar new → IsGrown old new → (room : RoomView) → HoldsLeader i o room → (c : ℕ) (x : PoolTree) → slice_get new c ≡ Some x → x.steps ≡ room.steps
      → (before after : List ℕ) → after ≡ before ++ numbers_like o.least c → Leads i old new o before after
  leads-some old new is grown room holds c x at same before after e os led =
      let t = holds.tree in
      let own = entry-is i.grammar new is c x t at holds.leads.of.day (same ∙ holds.held) in
      let columns = trees_more i.grammar old new grown before (numbers_like o.least c) led.0 (trees_like o.least t) led.1 (trees_like_at i.grammar new c t (x, at, own) o.least) in
      (led.0 ++ trees_like o.least t, subst (λ (q : List ℕ). AreTreesAt i.grammar new q (led.0 ++ trees_like o.least t)) (sym e) columns, led_next i os o led.0 t (λ k. holds.leads) led.2)

-- one team more
pub led-place : (i : Instance) (old new : List PoolTree) (os : List Team) (k : ℕ) (o : Team) (before after : List ℕ) → slice_get os k ≡ Some o → AreLedAt i old (take k os) before → Leads i old new o before after
    → AreLedAt i new (take (k + 1) os) after
led-place i old new os k o before after at led leads =
    subst (λ (q : List Team). AreLedAt i new q after) (sym (take_more os k o (slice_get_within os k o at) ∙ ap (λ (q : Team). take k os ++ q ∷ []) (get_or_from_slice_get os k o o at))) (leads (take k os) led)
