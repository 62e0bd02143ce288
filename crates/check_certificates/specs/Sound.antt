-- Sound certificates: one whole tree of nodes, and each number in its range.
use Rattle.std.specs.Prelude.{ℕ, pos, ◌≡◌, ◌≢◌, ◌≤◌, ◌≤ℤ◌, ◌^◌, None, IfSome, List, [], ◌∷◌, length}
use Rattle.model_rosters.specs.declared.grammar.ArcKey.{ArcKey}
use Rattle.model_rosters.specs.declared.instance.Cut.{Cut}
use Rattle.model_rosters.specs.declared.instance.Group.{Group}
use Rattle.model_rosters.specs.declared.instance.Instance.{Instance}
use Rattle.model_rosters.specs.declared.instance.Mult.{Mult}
use Rattle.model_rosters.specs.declared.instance.Prices.{Prices}
use Rattle.model_rosters.specs.declared.instance.Shift.{Shift}
use Rattle.model_rosters.specs.Cuts.{base_cuts}
use Rattle.model_rosters.specs.Folds.{Each}
use Rattle.model_rosters.specs.PriceLimits.{FitPrices}
use Rattle.check_certificates.specs.declared.cert.Cert.{Cert}
use Rattle.check_certificates.specs.declared.cert.Node.{Node}
use Rattle.check_certificates.specs.declared.cert.Node.TheVariants.{Split, Priced, Pinned, Bare}
use Rattle.check_certificates.specs.Nodes.{Proof, preorder, Visit, visits}

-- costs, bounds and prices of shifts are no greater
abbrev pub most_cost : ℕ
most_cost = 2 ^ 40

abbrev pub most_nodes : ℕ
most_nodes = 20001

-- the rules of a rules text are at most 64, and each of at most 8 groups adds one
abbrev pub most_rule : List Group → ℕ
most_rule [] = 64
most_rule (g ∷ gs) = 72

-- five numbers in the ranges of arcs
pub record IsKey (i : Instance) (a : ArcKey) : Type 0 where
  pub first_rule : 1 ≤ a.rule
  pub last_rule : a.rule ≤ most_rule i.groups
  pub suffix : a.suffix ≤ 6
  pub first_start : 1 ≤ a.start
  pub last_start : a.start ≤ 96
  pub least_len : 1 ≤ a.len
  pub most_len : a.len ≤ 96
  pub least_part : 1 ≤ a.part
  pub most_part : a.part ≤ 96

-- the prices fit the instance and the cuts
abbrev pub AreFit : Instance → List Cut → Prices → Type 0
AreFit i cuts p = FitPrices i p.d p.cell p.mult cuts

-- the numbers of a node are in their ranges
abbrev pub IsSoundNode : Instance → List Cut → Node → Type 0
IsSoundNode i cuts (Split a b own) = IsKey i a × (b ≤ 63) × IfSome own (AreFit i cuts)
IsSoundNode i cuts (Priced p) = AreFit i cuts p
IsSoundNode i cuts Pinned = Unit {0}
IsSoundNode i cuts Bare = Unit {0}

abbrev pub IsSoundVisit : Instance → Visit → Type 0
IsSoundVisit i v = IsSoundNode i v.path v.node

-- a multiplier that is listed is at least 1: one that is 0 is left out
abbrev pub ListNoZero : Prices → Type 0
ListNoZero p = Each (λ (m : Mult). pos 1 ≤ℤ m.value) p.mult

-- no multiplier that the node lists is 0
abbrev pub NoneIsZero : Node → Type 0
NoneIsZero (Split a b own) = IfSome own ListNoZero
NoneIsZero (Priced p) = ListNoZero p
NoneIsZero Pinned = Unit {0}
NoneIsZero Bare = Unit {0}

-- the number of a group, or 0 where there are none
abbrev pub IsGroupNumber : List Group → ℕ → Type 0
IsGroupNumber [] n = n ≡ 0
IsGroupNumber (g ∷ gs) n = (1 ≤ n) × (n ≤ length (g ∷ gs))

-- a byte that a word of a text may have
pub record IsWordByte (b : ℕ) : Type 0 where
  pub first : 33 ≤ b
  pub last : b ≤ 126
  pub mark : b ≢ 35

-- a word of a text, of a team of the day
pub record IsSoundShift (i : Instance) (s : Shift) : Type 0 where
  pub some : 1 ≤ length s.word
  pub short : length s.word ≤ 96
  pub bytes : Each IsWordByte s.word
  pub group : IsGroupNumber i.groups s.group
  pub price : s.price ≤ most_cost

-- the nodes are one whole tree of sound nodes
pub record IsSoundProof (i : Instance) (nodes : List Node) (proof : Proof) : Type 0 where
  pub whole : preorder proof ≡ nodes
  pub few : length nodes ≤ most_nodes
  pub each : Each (IsSoundVisit i) (visits (base_cuts i) proof)

-- a sound certificate
pub record IsSoundCert (i : Instance) (c : Cert) : Type 0 where
  pub proof : Proof
  pub nodes : IsSoundProof i c.nodes proof
  pub listed : Each NoneIsZero c.nodes
  pub shifts : Each (IsSoundShift i) c.shifts
  pub few : length c.shifts ≤ 64
  pub none : c.cost ≡ None → c.shifts ≡ []
  pub cost : IfSome c.cost (λ n. n ≤ most_cost)
  pub bound : IfSome c.bound (λ n. n ≤ most_cost)
