-- The nodes that a text tells are one whole tree in preorder.
use Rattle.std.proofs.Common.{◌≡◌, ℕ, ◌+◌, ◌≤◌, Bool, true, false, List, [], ◌∷◌, ◌++◌, length, Option, refl, sym, ap, ◌∙◌, arith, append_assoc, append-nil, length-append}
use Rattle.std.proofs.lemmas.Bool.{lt-ltb, ne_eqb}
use Rattle.model_rosters.specs.declared.grammar.ArcKey.{ArcKey}
use Rattle.model_rosters.specs.declared.instance.Cut.{Cut}
use Rattle.model_rosters.specs.declared.instance.Instance.{Instance}
use Rattle.model_rosters.specs.declared.instance.Prices.{Prices}
use Rattle.model_rosters.specs.Cuts.{base_cuts}
use Rattle.model_rosters.specs.Folds.{Each}
use Rattle.model_rosters.proofs.EachLemmas.{Each-append}
use Rattle.check_certificates.specs.declared.cert.Node.{Node}
use Rattle.check_certificates.specs.declared.cert.Node.TheVariants.{Split}
use Rattle.check_certificates.specs.Nodes.{Proof, split, preorder, low_cut, high_cut, visits}
use Rattle.check_certificates.specs.Sound.{IsSoundVisit, IsSoundProof}
use Rattle.text_proof_pieces.specs.PieceList.{Place, no_place, wants, after_leaf, leaf_read, split_read}
use Rattle.text_proof_pieces.specs.ToldSound.{SoundNode}

-- a tree at the depth n is sound
abbrev pub SoundTree : Instance → ℕ → Proof → Type 0
SoundTree i n t = (cuts : List Cut) → length cuts ≡ length (base_cuts i) + n → Each (IsSoundVisit i) (visits cuts t)

-- the nodes that are left when the halves that are being read are whole
abbrev pub Rest : Instance → List Bool → List Node → Type 0
Rest i [] ns = ns ≡ []
Rest i (true ∷ halves) ns = Rest i halves ns
Rest i (false ∷ halves) ns = (t : Proof) × (tail : List Node) × (ns ≡ preorder t ++ tail) × SoundTree i (length (false ∷ halves)) t × Rest i halves tail

-- the nodes of one more tree, and those that are left then
abbrev pub Wanted : Instance → List Bool → List Node → Type 0
Wanted i halves ns = (t : Proof) × (tail : List Node) × (ns ≡ preorder t ++ tail) × SoundTree i (length halves) t × Rest i halves tail

-- the nodes that are left where one more is wanted, or none
abbrev pub FillsAt : Instance → Bool → List Bool → List Node → Type 0
FillsAt i true halves ns = Wanted i halves ns
FillsAt i false halves ns = ns ≡ []

-- the nodes that are left where the tree is read so far
abbrev pub Fills : Instance → Place → List Node → Type 0
Fills i p ns = FillsAt i (wants p) p.halves ns

abbrev Due : Instance → List Bool → List Node → Type 0
Due i [] ns = ns ≡ []
Due i (b ∷ halves) ns = Wanted i (b ∷ halves) ns

-- behind a node a further one is due where a split is open
due_from : (i : Instance) (n : ℕ) (halves : List Bool) (ns : List Node) → Fills i (record { nodes = n + 1; halves = halves }) ns → Due i halves ns
due_from i n [] ns f = rw (ne_eqb (n + 1) 0 (λ e. omega (arith, e))) at f
due_from i n (b ∷ halves) ns f = rw (ne_eqb (n + 1) 0 (λ e. omega (arith, e)), lt-ltb 0 (length (b ∷ halves)) (omega arith)) at f

rest_after : (i : Instance) (halves : List Bool) (ns : List Node) → Due i (after_leaf halves) ns → Rest i halves ns
rest_after i [] ns d = d
rest_after i (true ∷ halves) ns d = rest_after i halves ns d
rest_after i (false ∷ halves) ns d = d

-- a leaf is one tree
pub leaf_fills : (i : Instance) (p : Place) (node : Node) (t : Proof) (ns : List Node) → preorder t ≡ node ∷ [] → SoundTree i (length p.halves) t → Fills i (leaf_read p) ns → Wanted i p.halves (node ∷ ns)
leaf_fills i p node t ns e s f =
    let is : node ∷ ns ≡ preorder t ++ ns = rw e refl in
    (t, ns, is, s, rest_after i p.halves ns (due_from i p.nodes (after_leaf p.halves) ns f))

-- a split with its two halves is one tree
pub split_fills : (i : Instance) (p : Place) (a : ArcKey) (b : ℕ) (own : Option Prices) (ns : List Node) → SoundNode i (length p.halves) (Split a b own) → Fills i (split_read p) ns → Wanted i p.halves (Split a b own ∷ ns)
split_fills i p a b own ns s f =
    let low = due_from i p.nodes (false ∷ p.halves) ns f in
    let high = low.4 in
    let t : Proof = split a b own low.0 high.0 in
    let is : Split a b own ∷ ns ≡ preorder t ++ high.1 =
    ap (λ (xs : List Node). Split a b own ∷ xs) (low.2 ∙ ap (λ (xs : List Node). preorder low.0 ++ xs) high.2 ∙ sym (append_assoc (preorder low.0) (preorder high.0) high.1)) in
    let sound : SoundTree i (length p.halves) t = λ cuts e. (
      s.paths cuts e,
      Each-append (IsSoundVisit i) (visits (cuts ++ low_cut a b ∷ []) low.0) (visits (cuts ++ high_cut a b ∷ []) high.0)
          (low.3 (cuts ++ low_cut a b ∷ []) (omega (arith, length-append cuts (low_cut a b ∷ []), e)))
          (high.3 (cuts ++ high_cut a b ∷ []) (omega (arith, length-append cuts (high_cut a b ∷ []), e))),
    ) in
    (t, high.1, is, sound, high.4)

-- the nodes of a whole text are a sound tree
pub whole_proof : (i : Instance) (ns : List Node) → Fills i no_place ns → length ns ≤ 20001 → (t : Proof) × IsSoundProof i ns t
whole_proof i ns f few =
    let all : ns ≡ preorder f.0 = f.2 ∙ ap (λ (xs : List Node). preorder f.0 ++ xs) f.4 ∙ append-nil (preorder f.0) in
    (f.0, record { whole = sym all; few = few; each = f.3 (base_cuts i) (omega arith) })
