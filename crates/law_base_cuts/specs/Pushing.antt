-- Between two groups whose cuts are added.
use Rattle.std.specs.Prelude.{ℕ, ◌≡◌, ◌+◌, ◌*◌, ◌≤◌, List, ◌++◌, drop, vec_len, vec_capacity}
use Rattle.std.specs.Global.{Vec}
use Rattle.model_rosters.specs.declared.instance.Cut.{Cut}
use Rattle.model_rosters.specs.declared.instance.Group.{Group}
use Rattle.model_rosters.specs.declared.instance.Instance.{Instance}
use Rattle.model_rosters.specs.Cuts.{cuts_from}

-- a loop that adds the cuts of groups: those of the groups before the place are there
pub record IsPushing (i : Instance) (first : ℕ) (groups : List Group) (place : ℕ)
    (old now : Vec Cut) : Type 0 where
  pub items : now.items ++ cuts_from i (first + place) (drop place groups) ≡ old.items
      ++ cuts_from i first groups
  pub len : vec_len now ≤ vec_len old + 2 * place
  pub room : vec_capacity now ≡ vec_capacity old
