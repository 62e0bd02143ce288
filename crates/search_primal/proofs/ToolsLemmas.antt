-- Workspaces, pools and best rosters after two steps.
use Rattle.std.proofs.Common.{◌≡◌, Option, List, [], arith, sym}
use Rattle.std.proofs.lemmas.List.{append-nil}
use Rattle.model_rosters.specs.declared.instance.Instance.{Instance}
use Rattle.tree_pool.specs.Pools.{PoolTree, IsPool}
use Rattle.lp_master_rows.specs.declared.search_day.day.Day.{Day}
use Rattle.lp_master_rows.specs.search_day.Rooms.{Grows}
use Rattle.search_candidates.specs.declared.roster.Roster.{Roster}
use Rattle.search_candidates.specs.Rosters.{IsGoodRoster}
use Rattle.search_candidates.specs.Offers.{IsBetter}
use Rattle.search_candidates.proofs.PoolNumbers.{grown-more}
use Rattle.std.specs.Prelude.{IfSome}
use Rattle.search_primal.specs.declared.workspace.SearchWorkspace.{SearchWorkspace}
use Rattle.search_primal.specs.Workspaces.{IsWorkspace, AreTools, StayTools, CanFind, HasFound}
use Rattle.search_primal.proofs.BetterRosters.{better-more}

pub grows-more : (d : Day) (a b c : List PoolTree) → Grows d a b → Grows d b c → Grows d a c
grows-more d a b c h k = record { are = k.are; grown = grown-more a b c h.grown k.grown }

-- a pool without trees is one of each day
pub empty-pool : (d : Day) (a : List PoolTree) → a ≡ [] → IsPool d.instance.now.grammar a
empty-pool d a none = rw none (record { trees = λ j x at. absurd (cc); once = λ j k x y at too same. absurd (cc) })

pub same-tools : (d : Day) (a : List PoolTree) (k : SearchWorkspace) → AreTools d a k → StayTools d a a k
same-tools d a k h = record { pool = record { are = h.pool; grown = ([], sym (append-nil a)) }; workspace = h.workspace }

pub tools-later : (d : Day) (a b : List PoolTree) (k : SearchWorkspace) → StayTools d a b k → AreTools d b k
tools-later d a b k h = record { pool = h.pool.are; workspace = h.workspace }

pub more-tools : (d : Day) (a b c : List PoolTree) (k l : SearchWorkspace) → StayTools d a b k → StayTools d b c l → StayTools d a c l
more-tools d a b c k l h m = record { pool = grows-more d a b c h.pool m.pool; workspace = m.workspace }

-- a workspace on which other rosters were tried
pub tried-tools : (d : Day) (a : List PoolTree) (k l : SearchWorkspace) → AreTools d a k → IsWorkspace d l → StayTools d a a l
tried-tools d a k l h m = record { pool = record { are = h.pool; grown = ([], sym (append-nil a)) }; workspace = m }

-- what is as before is no worse
pub same-better : (i : Instance) (best : Option Roster) → IfSome best (IsGoodRoster i) → IsBetter i best best
same-better i best good = record { falls = omega arith; good = good; start = λ h. h }

pub same-find : (d : Day) (a : List PoolTree) (k : SearchWorkspace) (best : Option Roster) → CanFind d a k best → HasFound d a a k best best
same-find d a k best h = record { tools = same-tools d a k h.tools; better = same-better d.instance.now best h.good }

pub find-later : (d : Day) (a b : List PoolTree) (k : SearchWorkspace) (x y : Option Roster) → HasFound d a b k x y → CanFind d b k y
find-later d a b k x y h = record { tools = tools-later d a b k h.tools; good = h.better.good }

pub more-found : (d : Day) (a b c : List PoolTree) (k l : SearchWorkspace) (x y z : Option Roster) → HasFound d a b k x y → HasFound d b c l y z → HasFound d a c l x z
more-found d a b c k l x y z h m = record { tools = more-tools d a b c k l h.tools m.tools; better = better-more d.instance.now x y z h.better m.better }
