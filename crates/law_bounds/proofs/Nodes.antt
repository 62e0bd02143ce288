-- Equal nodes.
use Rattle.std.proofs.Common.{◌≡◌, ℕ, true, refl, ap, ◌∙◌, inl, inr}
use Rattle.std.specs.Prelude.{nat_eq}
use Rattle.std.proofs.lemmas.Bool.{eqb-true, and_parts}
use Rattle.std.proofs.lemmas.Bool.Decides.{eqb_tells}
use Rattle.model_rosters.specs.arc_laws.OrNodes.{OrNode, name, suffix, leaf, same_node}

pub same_node-true : (o x : OrNode) → same_node o x ≡ true → o ≡ x
same_node-true (name x i l) (name y j m) e =
    let a = and_parts _ (nat_eq l m) e in
    let b = and_parts (nat_eq x y) (nat_eq i j) a.0 in
    let h = eqb-true x y b.0 in
    let k = eqb-true i j b.1 in
    let n = eqb-true l m a.1 in
    cc
same_node-true (suffix r k i l) (suffix q n j m) e =
    let a = and_parts _ (nat_eq l m) e in
    let b = and_parts _ (nat_eq i j) a.0 in
    let c = and_parts (nat_eq r q) (nat_eq k n) b.0 in
    let h1 = eqb-true r q c.0 in
    let h2 = eqb-true k n c.1 in
    let h3 = eqb-true i j b.1 in
    let h4 = eqb-true l m a.1 in
    cc
same_node-true (leaf a) (leaf b) e =
    let h = and_parts (nat_eq a.code b.code) (nat_eq a.period b.period) e in
    let c = eqb-true a.code b.code h.0 in
    let p = eqb-true a.period b.period h.1 in
    ap (λ (x : ℕ). leaf (record { code = x; period = a.period })) c ∙ ap (λ (x : ℕ). leaf (record { code = b.code; period = x })) p
same_node-true (name x i l) (suffix q n j m) e = cc
same_node-true (name x i l) (leaf b) e = cc
same_node-true (suffix r k i l) (name y j m) e = cc
same_node-true (suffix r k i l) (leaf b) e = cc
same_node-true (leaf a) (name y j m) e = cc
same_node-true (leaf a) (suffix q n j m) e = cc

eq_refl : (n : ℕ) → nat_eq n n ≡ true
eq_refl n = elim (eqb_tells n n) [
  | inl h ↦ h.0
  | inr h ↦ absurd (h.1 refl)
]

pub same_node-refl : (o : OrNode) → same_node o o ≡ true
same_node-refl (name x i l) = rw (eq_refl x, eq_refl i, eq_refl l) refl
same_node-refl (suffix r k i l) = rw (eq_refl r, eq_refl k, eq_refl i, eq_refl l) refl
same_node-refl (leaf a) = rw (eq_refl a.code, eq_refl a.period) refl
