-- Steps of a walk over the nodes of a certificate.
use Rattle.std.specs.Prelude.{ℕ, ◌≡◌, ◌+◌, ◌≤◌, ◌<◌, Bool, false, Option, None, List, [], ◌∷◌, take, drop, length, IsTrue}
use Rattle.model_rosters.specs.declared.instance.Cut.{Cut}
use Rattle.model_rosters.specs.declared.instance.Instance.{Instance}
use Rattle.model_rosters.specs.Cuts.{base_cuts}
use Rattle.check_certificates.specs.declared.cert.Node.{Node}
use Rattle.check_certificates.specs.declared.cert.Node.TheVariants.{Split, Priced, Pinned, Bare}
use Rattle.check_certificates.specs.declared.why.Why.{Why}
use Rattle.check_certificates.specs.Nodes.{Proof, preorder, Visit, visits}
use Rattle.check_certificates.specs.Sound.{IsSoundNode, NoneIsZero}
use Rattle.check_proofs.specs.OpenSplits.{path, LeadsTo, MakeVisits, ValueNext, VisitsNext}
use Rattle.check_proofs.specs.Rooms.{AreTablesFor, AreRoomsFor}
use Rattle.check_proofs.specs.declared.walker.Walker.{Walker}
use Rattle.check_proofs.specs.declared.walk.Walk.{Walk}
use Rattle.text_proof_pieces.specs.PieceList.{after_leaf}
use Rattle.check_proofs.specs.Stacks.{StackView, AreSmall, halves_of}
use Rattle.check_proofs.specs.Walked.{IsVisitCause, IsVisitsCause, lesser_cause}

-- the walker was made for the instance
pub record IsWalkerFor (i : Instance) (b : Walker) : Type 0 where
  pub tables : AreTablesFor i.grammar b.tables
  pub rooms : AreRoomsFor i b.rooms
  pub base : b.stack.base ≡ base_cuts i

-- the cuts on the way to the next node
abbrev pub way : StackView → List Cut
way s = path s.base s.splits

-- the next node on its path
abbrev pub next_visit : StackView → Node → Visit
next_visit s node = record { path = way s; node = node }

-- the node may come next: one more split may be open, and the node is sound on its path and lists no
-- multiplier of 0
pub record MayFollow (i : Instance) (s : StackView) (node : Node) : Type 0 where
  pub room : length s.splits < s.most
  pub small : AreSmall (way s)
  pub sound : IsSoundNode i (way s) node
  pub listed : NoneIsZero node

-- the halves that are open after a node: a split opens its Low half, and a leaf ends the halves of
-- which it is the last node
abbrev pub halves_after : Node → List Bool → List Bool
halves_after (Split a b own) halves = false ∷ halves
halves_after (Priced p) halves = after_leaf halves
halves_after Pinned halves = after_leaf halves
halves_after Bare halves = after_leaf halves

-- What a node does to the open splits. It opens one, or ends the innermost half. What the nodes to come
-- lead to then, they lead to with it before them, where it is right; and it makes the first of the
-- visits that it and they make.
pub record IsShown (i : Instance) (old : StackView) (node : Node) (is_right : Bool) (new : StackView)
    (shown : Option ℕ) : Type 0 where
  pub base : new.base ≡ old.base
  pub most : new.most ≡ old.most
  pub deeper : length new.splits ≤ length old.splits + 1
  pub halves : halves_of new.splits ≡ halves_after node (halves_of old.splits)
  pub small : AreSmall (way new)
  pub values : IsTrue is_right → (rest : List Node) (v : ℕ) → ValueNext i old.base shown new.splits rest v
      → LeadsTo i old.base old.splits (node ∷ rest) v
  pub visits : (rest : List Node) (vs : List Visit) → MakeVisits old.base old.splits (node ∷ rest) vs
      → (us : List Visit) × (vs ≡ next_visit old node ∷ us) × VisitsNext old.base shown new.splits rest us

-- a step of the walk: one more node is seen, the first cause of least number stays the first, and what
-- the nodes show is right where there is none
pub record IsStep (i : Instance) (old : StackView) (before : Walk) (node : Node) (new : StackView)
    (after : Walk) : Type 0 where
  pub nodes : after.nodes ≡ before.nodes + 1
  pub why : (own : Option Why) × IsVisitCause i (next_visit old node) (before.nodes + 1) own
      × (after.why ≡ lesser_cause before.why own)
  pub is_right : Bool
  pub none : after.why ≡ None → IsTrue is_right
  pub shows : IsShown i old node is_right new after.shown

-- the nodes before place k were seen: the walk has the first cause among them, what the nodes to come
-- lead to all nodes lead to, and the visits of the tree that are left are those that the nodes to come
-- make
pub record IsWalking (i : Instance) (proof : Proof) (k : ℕ) (stack : StackView) (walk : Walk) : Type 0 where
  pub base : stack.base ≡ base_cuts i
  pub deep : length stack.splits ≤ k
  pub small : AreSmall (way stack)
  pub nodes : walk.nodes ≡ k
  pub why : IsVisitsCause i (take k (visits (base_cuts i) proof)) walk.why
  pub values : walk.why ≡ None → (v : ℕ) → ValueNext i (base_cuts i) walk.shown stack.splits
      (drop k (preorder proof)) v → LeadsTo i (base_cuts i) [] (preorder proof) v
  pub visits : VisitsNext (base_cuts i) walk.shown stack.splits (drop k (preorder proof))
      (drop k (visits (base_cuts i) proof))
