-- Tools after two steps.
use Rattle.std.proofs.Common.{◌≡◌, ◌∙◌, ℕ, ◌<◌, List, arith, ap, length, length-append}
use Rattle.tree_pool.specs.Pools.{PoolTree, IsGrown}
use Rattle.lp_master_rows.specs.declared.search_day.day.Day.{Day}
use Rattle.search_candidates.proofs.PoolNumbers.{grown-more}
use Rattle.search_moves.specs.declared.draft.Draft.{Draft}
use Rattle.search_moves.specs.declared.short_pricing.ShortPricing.{ShortPricing}
use Rattle.search_moves.specs.Drafts.{IsDraft}
use Rattle.search_moves.specs.Tools.{AreColumns, AreTools, StayTools}

-- numbers of trees of a pool are ones of the pool that it has become
pub columns-later : (old new : List PoolTree) (cs : List ℕ) → IsGrown old new → AreColumns old cs → AreColumns new cs
columns-later old new cs grown all k d lt =
    let e = ap length grown.1 ∙ length-append old grown.0 in
    let h = all k d lt in
    omega (arith, e, h)

pub tools-more : (d : Day) (p q r : ShortPricing) (a b c : List PoolTree) → StayTools d p q a b → StayTools d q r b c → StayTools d p r a c
tools-more d p q r a b c h k = record {
  pricing = k.pricing;
  tried = record { are = k.tried.are; grown = grown-more a b c h.tried.grown k.tried.grown };
}

pub tools-later : (d : Day) (p q : ShortPricing) (a b : List PoolTree) (w v : Draft) → AreTools d p a w → StayTools d p q a b → IsDraft d.instance.now (length b) v → AreTools d q b v
tools-later d p q a b w v h k draft = record { day = h.day; pricing = k.pricing; tried = k.tried.are; draft = draft }
