-- What the least sum of the trees tells of their reduced costs.
use Rattle.std.proofs.Common.{◌≡◌, ℕ, ℤ, arith, pos, ◌+ℤ◌, ◌≤ℤ◌, ◌<ℤ◌, ◌+◌, ◌<◌, unsigned_abs, List, length, Option, None, Some, refl, ap, subst, ◌∙◌}
use Rattle.std.proofs.lemmas.Int.{ints}
use Rattle.model_rosters.specs.declared.instance.Cut.{Cut}
use Rattle.model_rosters.specs.declared.instance.Instance.{Instance}
use Rattle.model_rosters.specs.Agreement.{Agree}
use Rattle.model_rosters.specs.Room.{RoomView}
use Rattle.model_rosters.specs.SoundInstance.{IsSoundInstance}
use Rattle.model_rosters.specs.Sums.{PriceView, IsLeast, AtMost, tree_sum}
use Rattle.model_rosters.specs.Trees.{Parts, IsDayTree}
use Rattle.model_rosters.proofs.AgreementLemmas.{tree_same}
use Rattle.model_rosters.specs.tree_laws.LeastTrees.{HasDaySum, HoldsLeastTree}
use Rattle.law_bounds.specs.linear_programs.Program.{reduced}
use Rattle.lp_fractions.specs.Row.{at}
use Rattle.law_bounds.specs.master_laws.Rows.{rows_of}
use Rattle.law_bounds.specs.master_laws.Master.{tree, master}
use Rattle.law_bounds.specs.master_laws.Pricing.{row_view}
use Rattle.law_bounds.specs.master_laws.Rounding.{first_head}
use Rattle.law_bounds.proofs.master_laws.Pricing.{trees_priced}
use Rattle.law_bounds.proofs.master_laws.RowSizes.{row_count}
use Rattle.search_node_columns.specs.Priced.{heads_price, HoldsCheaper, HasNoCheaper}

pub heads_within : (i : Instance) (cuts : List Cut) (n : ℕ) → n ≡ length (rows_of i cuts) → first_head i + 1 < n
heads_within i cuts n h = omega (arith, row_count i cuts)

module _ (i : Instance) (cuts : List Cut) (y : List ℤ) (kappa : ℤ) (sound : IsSoundInstance i) (some : pos 0 <ℤ kappa) (p : PriceView) (agree : Agree i.grammar p (row_view i cuts (at y) (unsigned_abs kappa))) where
  of_tree : Parts → ℤ
  of_tree t = reduced (master i cuts).rows (at y) kappa ((master i cuts).column (tree t))

  sum_is : (t : Parts) → IsDayTree i.grammar t → tree_sum p 1 t ≡ Some (of_tree t +ℤ at y (first_head i) +ℤ at y (first_head i + 1))
  unfolding of_tree
  sum_is t h =
      let k : pos (unsigned_abs kappa) ≡ kappa = omega (arith, ints) in
      let a = tree_same i.grammar p (row_view i cuts (at y) (unsigned_abs kappa)) sound.grammar.rules agree i.grammar.start t h in
      a ∙ trees_priced i cuts (at y) (unsigned_abs kappa) t h ∙ ap (λ (z : ℤ). Some (reduced (master i cuts).rows (at y) z ((master i cuts).column (tree t)) +ℤ at y (first_head i) +ℤ at y (first_head i + 1))) k

  pub none_cheaper : (z : Option ℤ) → IsLeast (IsDayTree i.grammar) (tree_sum p 1) z → AtMost (Some (heads_price i y)) z → HasNoCheaper i cuts y kappa
  unfolding of_tree
  none_cheaper z least enough = record { day = λ t h. by t z enough (subst (λ (o : Option ℤ). AtMost z o) (sum_is t h) (least.least t h)) }
    where
      by : (t : Parts) (z : Option ℤ) → AtMost (Some (heads_price i y)) z → AtMost z (Some (of_tree t +ℤ at y (first_head i) +ℤ at y (first_head i + 1))) → pos 0 ≤ℤ of_tree t
      by t None e l = absurd l
      by t (Some v) e l = plain (of_tree t) (at y (first_head i)) (at y (first_head i + 1)) v e l
        where
          plain : (r a b v : ℤ) → (a +ℤ b) ≤ℤ v → v ≤ℤ (r +ℤ a +ℤ b) → pos 0 ≤ℤ r
          plain r a b v e l = omega (arith, ints)

  pub day_sum : (least : ℤ) → IsLeast (IsDayTree i.grammar) (tree_sum p 1) (Some least) → HasDaySum i.grammar p
  day_sum v least = let a = least.attained in (a.0, a.1, rw a.2 refl)

  pub holds_cheaper : (v : ℤ) (room : RoomView) → IsLeast (IsDayTree i.grammar) (tree_sum p 1) (Some v) → v <ℤ heads_price i y → HoldsLeastTree i.grammar p room
      → HoldsCheaper i cuts y kappa room
  unfolding of_tree
  holds_cheaper v room least cheap holds =
      let a = least.attained in
      let l = holds.least.least a.0 a.1 in
      let l1 = subst (λ (o : Option ℤ). AtMost (tree_sum p 1 holds.tree) o) a.2 l in
      let l2 = subst (λ (o : Option ℤ). AtMost o (Some v)) (sum_is holds.tree holds.of_day) l1 in
      record { tree_of = holds.tree; day = holds.of_day; held = holds.held; cheaper = plain (of_tree holds.tree) (at y (first_head i)) (at y (first_head i + 1)) v l2 cheap }
    where
      plain : (r a b v : ℤ) → (r +ℤ a +ℤ b) ≤ℤ v → v <ℤ (a +ℤ b) → r <ℤ pos 0
      plain r a b v l c = omega (arith, ints)
