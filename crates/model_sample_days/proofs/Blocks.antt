-- The tree of `.aa.`.
use Rattle.std.proofs.Common.{◌≤◌, ◌+◌, ℕ, List, [], ◌∷◌, refl, arith}
use Rattle.model_rosters.specs.declared.grammar.Sym.{Sym}
use Rattle.model_rosters.specs.declared.grammar.Sym.TheVariants.{Code, Name}
use Rattle.model_rosters.specs.Grammar.{Stands}
use Rattle.model_rosters.specs.Trees.{done, letter, uses, Derive, IsTreeOf}
use Rattle.model_sample_days.specs.RestAndWork.{plain, block, rest_and_work, block_tree, IsTreeOfBlock}

stands : (x c : ℕ) (r : List Sym) (i n : ℕ) → 1 ≤ n → 1 ≤ i → i + n ≤ 5 → Stands 4 (plain x c r) i n
stands x c r i n a b d = record { within = d; span = (a, omega arith); first = (b, omega arith); last = (omega arith, omega arith) }

block_stands : Stands 4 block 2 2
block_stands = record { within = omega arith; span = (omega arith, omega arith); first = (omega arith, omega arith); last = (omega arith, omega arith) }

derived : IsTreeOf rest_and_work 0 block_tree
derived =
    let rest : (i : ℕ) → 1 ≤ i → i ≤ 4 → Derive rest_and_work (Name 2 ∷ []) i (uses 8 1 (letter 1 done) done) =
    λ i a b. (plain 2 0 (Code 1 ∷ []), refl, refl, stands 2 0 (Code 1 ∷ []) i 1 (omega arith) a (omega arith), omega arith, refl, (refl, tt), tt) in
    let two : Derive rest_and_work (Name 3 ∷ []) 2 (uses 7 2 (letter 0 (uses 6 1 (letter 0 done) done)) done) = (
      plain 3 1 (Code 0 ∷ Name 3 ∷ []),
      refl,
      refl,
      stands 3 1 _ 2 2 (omega arith) (omega arith) (omega arith),
      omega arith,
      refl,
      (refl, (plain 3 1 (Code 0 ∷ []), refl, refl, stands 3 1 _ 3 1 (omega arith) (omega arith) (omega arith), omega arith, refl, (refl, tt), tt)),
      tt,
    ) in (
      (
        plain 0 0 (Name 2 ∷ Name 1 ∷ Name 2 ∷ []),
        refl,
        refl,
        stands 0 0 _ 1 4 (omega arith) (omega arith) (omega arith),
        omega arith,
        refl,
        (
          plain 2 0 (Code 1 ∷ []),
          refl,
          refl,
          stands 2 0 _ 1 1 (omega arith) (omega arith) (omega arith),
          omega arith,
          refl,
          (refl, tt),
          (block, refl, refl, block_stands, omega arith, refl, two, rest 4 (omega arith) (omega arith)),
        ),
        tt,
      ),
      refl,
    )

pub tree_of_block : IsTreeOfBlock
tree_of_block = record { derives = record { derives = derived; word = refl }; costs = refl; uses = refl; arcs = refl }
