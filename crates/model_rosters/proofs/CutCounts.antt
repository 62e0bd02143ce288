-- How many cuts every path begins with.
use Rattle.std.proofs.Common.{◌≡◌, ℕ, arith, ◌+◌, ◌-◌, ◌≤◌, Bool, true, false, cond, List, [], ◌∷◌, length, refl}
use Rattle.std.specs.Prelude.{nat_lt}
use Rattle.std.proofs.lemmas.List.{length-append}
use Rattle.model_rosters.specs.declared.instance.Cut.{Cut}
use Rattle.model_rosters.specs.declared.instance.Group.{Group}
use Rattle.model_rosters.specs.declared.instance.Instance.{Instance}
use Rattle.model_rosters.specs.declared.instance.Side.TheVariants.{Low, High}
use Rattle.model_rosters.specs.Cuts.{group_arc, group_cut_count, group_cuts, cuts_from, base_cuts}
use Rattle.model_rosters.specs.Folds.{sum_n}
use Rattle.model_rosters.specs.SoundInstance.{HasGroups, IsSoundInstance}

one_or_none : (b : Bool) (c : Cut) → length (cond b (c ∷ []) []) ≡ cond b 1 0
one_or_none true c = refl
one_or_none false c = refl

group_length : (i : Instance) (r : ℕ) (g : Group) → length (group_cuts i r g) ≡ group_cut_count i.heads_max g
group_length i r g =
    let both = length-append (cond (nat_lt g.heads_max i.heads_max) (low ∷ []) []) (cond (nat_lt 0 g.heads_min) (high ∷ []) []) in
    omega (arith, both, one_or_none (nat_lt g.heads_max i.heads_max) low, one_or_none (nat_lt 0 g.heads_min) high)
  where
    low : Cut
    low = record { arc = group_arc i.grammar.periods r; side = Low; b = g.heads_max }

    high : Cut
    high = record { arc = group_arc i.grammar.periods r; side = High; b = g.heads_min - 1 }

cuts_length : (i : Instance) (r : ℕ) (gs : List Group) → length (cuts_from i r gs) ≡ sum_n (group_cut_count i.heads_max) gs
cuts_length i r [] = refl
cuts_length i r (g ∷ gs) = omega (arith, length-append (group_cuts i r g) (cuts_from i (r + 1) gs), group_length i r g, cuts_length i (r + 1) gs)

pub base_length : (i : Instance) → length (base_cuts i) ≡ sum_n (group_cut_count i.heads_max) i.groups
base_length i = cuts_length i (length i.grammar.rules - length i.groups + 1) i.groups

few : (i : Instance) (gs : List Group) → i.groups ≡ gs → HasGroups i gs → length i.groups ≤ 8
few i [] is h = rw is (omega arith)
few i (g ∷ gs) is h = h.1.groups.few

pub few_groups : (i : Instance) → IsSoundInstance i → length i.groups ≤ 8
few_groups i sound = few i i.groups refl sound.groups
