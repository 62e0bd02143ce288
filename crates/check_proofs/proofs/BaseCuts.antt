-- The numbers of base cuts.
use Rattle.std.proofs.Common.{◌≡◌, ℕ, arith, ◌+◌, ◌-◌, ◌≤◌, Bool, true, false, cond, All, List, [], ◌∷◌, length, refl, subst}
use Rattle.std.proofs.lemmas.List.Elements.{All-nil, All-cons, All-append, All-head, All-tail}
use Rattle.std.proofs.lemmas.Bool.{ltb-true}
use Rattle.std.specs.Prelude.{nat_lt}
use Rattle.model_rosters.specs.declared.instance.Side.TheVariants.{Low, High}
use Rattle.check_proofs.specs.Stacks.{AreSmall}
use Rattle.model_rosters.specs.declared.instance.Cut.{Cut}
use Rattle.model_rosters.specs.declared.instance.Group.{Group}
use Rattle.model_rosters.specs.declared.instance.Instance.{Instance}
use Rattle.model_rosters.specs.Cuts.{group_arc, group_cuts, cuts_from, base_cuts}
use Rattle.model_rosters.specs.Folds.{sum_n}
use Rattle.model_rosters.specs.SoundInstance.{IsSoundInstance, HasGroups, IsGroup}

-- the numbers of the base cuts are at most 63
module _ (i : Instance) (heads : i.heads_max ≤ 64) where
  one-small : (t : Bool) (c : Cut) → (t ≡ true → c.b ≤ 63) → AreSmall (cond t (c ∷ []) [])
  one-small true c h = All-cons (λ (x : Cut). x.b ≤ 63) c [] (h refl) (All-nil (λ (x : Cut). x.b ≤ 63))
  one-small false c h = All-nil (λ (x : Cut). x.b ≤ 63)

  group-small : (names r : ℕ) (g : Group) → IsGroup names g → g.heads_max ≤ i.heads_max → AreSmall (group_cuts i r g)
  group-small names r g h most = All-append (λ (x : Cut). x.b ≤ 63) _ _
      (one-small (nat_lt g.heads_max i.heads_max) (record { arc = group_arc i.grammar.periods r; side = Low; b = g.heads_max }) (λ e. let l = ltb-true g.heads_max i.heads_max e in omega arith))
      (one-small (nat_lt 0 g.heads_min) (record { arc = group_arc i.grammar.periods r; side = High; b = g.heads_min - 1 }) (λ e. let l = ltb-true 0 g.heads_min e in omega (arith, h.order)))

  cuts-small : (names r : ℕ) (gs : List Group) → All (IsGroup names) gs → sum_n (λ (g : Group). g.heads_max) gs ≤ i.heads_max → AreSmall (cuts_from i r gs)
  cuts-small names r [] h most = All-nil (λ (x : Cut). x.b ≤ 63)
  cuts-small names r (g ∷ gs) h most = All-append (λ (x : Cut). x.b ≤ 63) (group_cuts i r g) (cuts_from i (r + 1) gs)
      (group-small names r g (All-head (IsGroup names) g gs h) (omega arith)) (cuts-small names (r + 1) gs (All-tail (IsGroup names) g gs h) (omega arith))

pub small-base : (i : Instance) → IsSoundInstance i → AreSmall (base_cuts i)
small-base i sound = by i.groups refl sound.groups
  where
    by : (gs : List Group) → gs ≡ i.groups → HasGroups i gs → AreSmall (base_cuts i)
    by [] e h = subst (λ (xs : List Group). AreSmall (cuts_from i (length i.grammar.rules - length i.groups + 1) xs)) e (All-nil (λ (x : Cut). x.b ≤ 63))
    by (g ∷ gs) e h = cuts-small i sound.few (length h.0.names) (length i.grammar.rules - length i.groups + 1) i.groups h.1.groups.each (omega (arith, h.1.most))
