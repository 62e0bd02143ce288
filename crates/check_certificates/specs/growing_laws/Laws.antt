-- The laws of a growing tree.
use Rattle.std.specs.Prelude.{ℕ, ◌≡◌, ◌≢◌, ◌≤◌, ◌+◌, ◌*◌, max, cond, nat_eq, Option, List}
use Rattle.model_rosters.specs.declared.grammar.ArcKey.{ArcKey}
use Rattle.model_rosters.specs.declared.instance.Cut.{Cut}
use Rattle.model_rosters.specs.declared.instance.Instance.{Instance}
use Rattle.model_rosters.specs.Arcs.{same_arc}
use Rattle.model_rosters.specs.Folds.{count, Each, In}
use Rattle.check_certificates.specs.declared.cert.Node.TheVariants.{Split}
use Rattle.check_certificates.specs.Nodes.{preorder, Visit, visits}
use Rattle.check_certificates.specs.Kinds.{is_processed, is_unpriced}
use Rattle.check_certificates.specs.certificate_laws.Shown.{Shows}
use Rattle.check_certificates.specs.growing_laws.Grown.{Grown, Leaf, Own, OnTips, OnForks, SomeTip, IsRightLeaf, IsRightOwn, IsLeastBound, leaf_value, proof_of, prices_of, leaf_proof, shown, put, times, leaf_busy, busy, missed}
use Rattle.check_certificates.specs.growing_laws.Boxes.{size, IsOpenBox, IsHalving, IsLooseLeaf, IsOpenLeaf}

-- a tree with right values shows what it says
abbrev pub GrownShows : Type 0
GrownShows =
    (i : Instance) (above : ℕ) (cuts : List Cut) (t : Grown)
    → OnTips (λ up path k l. IsRightLeaf i path l) above cuts t
    → OnForks (λ path a b own. IsRightOwn i path own) cuts t → Shows i cuts (proof_of t) (shown t)

-- what a tree shows is the least bound that a leaf leaves
abbrev pub LeastBound : Type 0
LeastBound = (above : ℕ) (cuts : List Cut) (t : Grown) → IsLeastBound above cuts t (max above (shown t))

-- what holds of the leaves, and of the splits, once a tree stands in place of a leaf
abbrev pub PutTips : Type 1
PutTips =
    (P : ℕ → List Cut → ℕ → Leaf → Type 0) (n : ℕ) (new : Grown) (above : ℕ) (cuts : List Cut) (t : Grown)
    → OnTips (λ up path k l. (k ≡ n → OnTips P up path new) × (k ≢ n → P up path k l)) above cuts t
    → OnTips P above cuts (put n new t)

abbrev pub PutForks : Type 1
PutForks =
    (P : List Cut → ArcKey → ℕ → Option Own → Type 0) (n : ℕ) (new : Grown) (above : ℕ)
    (cuts : List Cut) (t : Grown)
    → OnTips (λ up path k l. k ≡ n → OnForks P path new) above cuts t → OnForks P cuts t
    → OnForks P cuts (put n new t)

-- a tree shows no less once a leaf has a tree in its place that shows no less
abbrev pub PutRises : Type 0
PutRises =
    (n : ℕ) (new : Grown) (above : ℕ) (cuts : List Cut) (t : Grown)
    → OnTips (λ up path k l. k ≡ n → leaf_value l ≤ shown new) above cuts t
    → shown t ≤ shown (put n new t)

-- how often a number stands at a leaf then
abbrev pub PutTimes : Type 0
PutTimes =
    (j n : ℕ) (new t : Grown)
    → times j (put n new t) + cond (nat_eq j n) (times n t) 0 ≡ times j t + times n t * times j new

-- how many nodes are processed then, and how many splits have no prices
abbrev pub PutBusy : Type 0
PutBusy =
    (n m : ℕ) (new : Grown) (above : ℕ) (cuts : List Cut) (t : Grown)
    → OnTips (λ up path k l. k ≡ n → leaf_busy l ≡ m) above cuts t
    → busy (put n new t) + times n t * m ≡ busy t + times n t * busy new

abbrev pub PutMissed : Type 0
PutMissed = (n : ℕ) (new t : Grown) → missed (put n new t) ≡ missed t + times n t * missed new

abbrev pub GrownCounts : Type 0
GrownCounts =
    (t : Grown) → (count is_processed (preorder (proof_of t)) ≡ busy t)
    × (count is_unpriced (preorder (proof_of t)) ≡ missed t)

-- what holds of each node of the certificate
abbrev pub GrownVisits : Type 1
GrownVisits =
    (P : Visit → Type 0) (above : ℕ) (cuts : List Cut) (t : Grown)
    → OnTips (λ up path k l. Each P (visits path (leaf_proof l))) above cuts t
    → OnForks (λ path a b own. P (record { path = path; node = Split a b (prices_of own) })) cuts t
    → Each P (visits cuts (proof_of t))

-- A tree of splits that each leave both halves a count processes fewer nodes than twice the points of its
-- box, and at least one fewer than it might where a search can go on at some leaf.
pub record IsWithin (points above : ℕ) (cuts : List Cut) (t : Grown) : Type 0 where
  pub all : busy t + 1 ≤ 2 * points
  pub more : SomeTip (λ up path k l. IsOpenLeaf l) above cuts t → busy t + 2 ≤ 2 * points

abbrev pub FewNodes : Type 0
FewNodes =
    (most above : ℕ) (listed : List ArcKey) (cuts : List Cut) (t : Grown)
    → ((a : ArcKey) → In a listed → count (same_arc a) listed ≡ 1)
    → IsOpenBox most cuts listed
    → OnForks (IsHalving most listed) cuts t
    → OnTips (λ up path k l. IsLooseLeaf most listed path l) above cuts t
    → IsWithin (size most cuts listed) above cuts t
