-- How many prices and multipliers the nodes of a certificate list.
use Rattle.std.proofs.Common.{◌≡◌, ℕ, arith, ◌+◌, ◌*◌, ◌≤◌, Bool, cond, None, Some, List, [], ◌∷◌, ◌++◌, sym, subst, ◌⊎◌, inl, inr}
use Rattle.model_rosters.specs.declared.instance.Cut.{Cut}
use Rattle.model_rosters.specs.declared.instance.Instance.{Instance}
use Rattle.model_rosters.specs.Cuts.{base_cuts}
use Rattle.model_rosters.specs.Folds.{sum_n, count, Each}
use Rattle.model_rosters.proofs.EachLemmas.{Each-weaker, each_parts}
use Rattle.model_rosters.proofs.arc_laws.FoldsLemmas.{count-append, sum_n-append}
use Rattle.check_certificates.specs.declared.cert.Node.{Node}
use Rattle.check_certificates.specs.declared.cert.Node.TheVariants.{Split, Priced, Pinned, Bare}
use Rattle.check_certificates.specs.Kinds.{is_processed}
use Rattle.check_certificates.specs.Nodes.{Proof, split, priced, pinned, bare, preorder, Visit, visits, low_cut, high_cut}
use Rattle.check_certificates.specs.certificate_laws.Accepted.{bound_number}
use Rattle.text_certificates.specs.Written.{node_values}
use Rattle.search_branch_price.specs.declared.found.Found.{Found}
use Rattle.search_branch_price.specs.Found.{IsFound, IsWhole, IsStoppedRoot, IsFoundNode}
use Rattle.search_days.specs.Texts.{HasFewValues}

-- a node that was processed lists at most so many, and any other lists none
abbrev ListsFew : ℕ → Visit → Type 0
ListsFew most v = node_values v.node ≤ most * cond (is_processed v.node) 1 0

listed-most : (most : ℕ) (cuts : List Cut) (t : Proof) → Each (ListsFew most) (visits cuts t) → sum_n node_values (preorder t) ≤ most * count is_processed (preorder t)
listed-most most cuts (split a b own low high) h =
    let lows : List Node = preorder low in
    let highs : List Node = preorder high in
    let parts = each_parts (ListsFew most) (visits (cuts ++ low_cut a b ∷ []) low) (visits (cuts ++ high_cut a b ∷ []) high) h.1 in
    let first = listed-most most (cuts ++ low_cut a b ∷ []) low parts.0 in
    let second = listed-most most (cuts ++ high_cut a b ∷ []) high parts.1 in
    let here = h.0 in
    let both : most * count is_processed (lows ++ highs) ≡ most * count is_processed lows + most * count is_processed highs = rw (count-append is_processed lows highs) (omega arith) in
    omega (arith, here, first, second, sum_n-append node_values lows highs, both)
listed-most most cuts (priced p) h = let here = h.0 in omega (arith, here)
listed-most most cuts pinned h = omega arith
listed-most most cuts bare h = omega arith

node-few : (i : Instance) (strict : Bool) (bound : ℕ) (v : Visit) (n : Node) → IsFoundNode i strict bound v n → node_values n ≤ 1498 * cond (is_processed n) 1 0
node-few i strict bound v (Split a b None) h = omega arith
node-few i strict bound v (Split a b (Some p)) h = let few = h.0.few in omega (arith, few)
node-few i strict bound v (Priced p) h = let few = h.few in omega (arith, few)
node-few i strict bound v Pinned h = omega arith
node-few i strict bound v Bare h = omega arith

-- the nodes of what a search found list few
pub found-few : (i : Instance) (strict : Bool) (turns : ℕ) (f : Found) → turns ≤ 10000 → IsFound i strict turns f → HasFewValues f.cert
found-few i strict turns f few is = by is.whole
  where
    by : IsWhole i strict turns f is.proof ⊎ IsStoppedRoot turns f → HasFewValues f.cert
    by (inl whole) =
        let bound : ℕ = bound_number i f.cert.bound in
        let each = Each-weaker (λ (v : Visit). IsFoundNode i strict bound v v.node) (ListsFew 1498) (visits (base_cuts i) is.proof) (λ v h. node-few i strict bound v v.node h) whole.each in
        let most = subst (λ (ns : List Node). sum_n node_values ns ≤ 1498 * count is_processed ns) is.nodes (listed-most 1498 (base_cuts i) is.proof each) in
        let processed = is.processed in
        let within = whole.within in
        omega (arith, most, processed, within, few)
    by (inr root) = subst (λ (ns : List Node). sum_n node_values ns ≤ 14980000) (sym root.nodes) (let least = root.few in omega (arith, least))
