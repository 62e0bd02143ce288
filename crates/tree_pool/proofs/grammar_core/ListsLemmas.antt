-- The steps of a tree tell the tree, and so do its arcs.
use Rattle.std.proofs.Common.{◌≡◌, ℕ, zero, suc, ◌≤◌, ◌+◌, List, [], ◌∷◌, ◌++◌, Bool, true, false, cond, Some, nat_eq, nat_lt, arith, refl, subst, sym, ap, ◌∙◌, length, append_assoc}
use Rattle.std.proofs.lemmas.Bool.{ltb-false}
use Rattle.std.proofs.lemmas.List.{append-nil}
use Rattle.std.proofs.lemmas.Option.{same_Some}
use Rattle.model_rosters.specs.declared.grammar.ArcKey.{ArcKey}
use Rattle.model_rosters.specs.declared.grammar.Grammar.{Grammar}
use Rattle.model_rosters.specs.declared.grammar.Rule.{Rule}
use Rattle.model_rosters.specs.declared.grammar.Step.{Step}
use Rattle.model_rosters.specs.declared.grammar.Sym.{Sym}
use Rattle.model_rosters.specs.declared.grammar.Sym.TheVariants.{Code, Name}
use Rattle.model_rosters.specs.Grammar.{rule_at}
use Rattle.model_rosters.specs.Sound.{IsSound}
use Rattle.model_rosters.specs.Trees.{Parts, done, letter, uses, span_length, Derive, On, steps}
use Rattle.model_rosters.specs.Arcs.{arcs, parts_arcs}
use Rattle.model_rosters.specs.tree_laws.Laws.{arc_at}
use Rattle.model_rosters.proofs.tree_laws.Rules.{sound-rule}
use Rattle.model_rosters.proofs.tree_laws.ListPushes.{same_head, same_tail}
use Rattle.tree_pool.specs.grammar_core.Lists.{StepsTellTree, ArcsTellTree, ListsTellOneTree}
use Rattle.tree_pool.specs.grammar_core.Walks.{has_arc, own_arcs}
use Rattle.tree_pool.proofs.grammar_core.PartsLemmas.{own_arc}
use Rattle.tree_pool.proofs.grammar_core.ToTreeLemmas.{nothing, or_false, first_key}

-- two uses of one rule number have one rule
one_rule : (g : Grammar) (q r : ℕ) (a b : Rule) → q ≡ r → rule_at g q ≡ Some a → rule_at g r ≡ Some b → b ≡ a
one_rule g q r a b e h k = same_Some b a (sym k ∙ ap (λ (n : ℕ). rule_at g n) (sym e) ∙ h)

-- parts of the same symbols with the same steps are the same parts
pub same-steps : (g : Grammar) (ss : List Sym) (i : ℕ) (t u : Parts) (xs ys : List Step) → Derive g ss i t → Derive g ss i u
    → steps i t ++ xs ≡ steps i u ++ ys → (t ≡ u) × (xs ≡ ys)
same-steps g [] i done done xs ys h k e = (refl, e)
same-steps g (Code c ∷ ss) i (letter d more) (letter d' more') xs ys h k e =
    let r = same-steps g ss (i + 1) more more' xs ys h.1 k.1 e in
    (cc (h.0, k.0, r.0), r.1)
same-steps g (Name x ∷ ss) i (uses q z inner more) (uses q' z' inner' more') xs ys h k e =
    let a : Step = record { rule = q; start = i; len = z } in
    let b : Step = record { rule = q'; start = i; len = z' } in
    let head : a ≡ b = same_head a b ((steps i inner ++ steps (i + z) more) ++ xs) ((steps i inner' ++ steps (i + z') more') ++ ys) e in
    let tail = same_tail a b ((steps i inner ++ steps (i + z) more) ++ xs) ((steps i inner' ++ steps (i + z') more') ++ ys) e in
    let rules : q ≡ q' = ap (λ (s : Step). s.rule) head in
    let lens : z ≡ z' = ap (λ (s : Step). s.len) head in
    let same : k.0 ≡ h.0 = one_rule g q q' h.0 k.0 rules h.1 k.1 in
    let lists : steps i inner ++ (steps (i + z) more ++ xs) ≡ steps i inner' ++ (steps (i + z') more' ++ ys) =
    sym (append_assoc (steps i inner) (steps (i + z) more) xs) ∙ tail ∙ append_assoc (steps i inner') (steps (i + z') more') ys in
    let own = same-steps g h.0.right i inner inner' (steps (i + z) more ++ xs) (steps (i + z') more' ++ ys) h.6 (subst (λ (r : Rule). Derive g r.right i inner') same k.6) lists in
    let others = same-steps g ss (i + z) more more' xs ys h.7 (subst (λ n. Derive g ss (i + n) more') (sym lens) k.7)
    (own.1 ∙ ap (λ n. steps (i + n) more' ++ ys) (sym lens)) in
    (cc (rules, lens, own.0, others.0), others.1)
same-steps g [] i done (letter d more) xs ys h k e = absurd k
same-steps g [] i done (uses q z inner more) xs ys h k e = absurd k
same-steps g [] i (letter d more) u xs ys h k e = absurd h
same-steps g [] i (uses q z inner more) u xs ys h k e = absurd h
same-steps g (Code c ∷ ss) i done u xs ys h k e = absurd h
same-steps g (Code c ∷ ss) i (uses q z inner more) u xs ys h k e = absurd h
same-steps g (Code c ∷ ss) i (letter d more) done xs ys h k e = absurd k
same-steps g (Code c ∷ ss) i (letter d more) (uses q z inner more') xs ys h k e = absurd k
same-steps g (Name x ∷ ss) i done u xs ys h k e = absurd h
same-steps g (Name x ∷ ss) i (letter d more) u xs ys h k e = absurd h
same-steps g (Name x ∷ ss) i (uses q z inner more) done xs ys h k e = absurd k
same-steps g (Name x ∷ ss) i (uses q z inner more) (letter d more') xs ys h k e = absurd k

-- the arcs of two first parts tell their lengths, and what comes after is the same
same_own : (b : Bool) (a c : ArcKey) (xs ys : List ArcKey) → cond b (a ∷ []) [] ++ xs ≡ cond b (c ∷ []) [] ++ ys → (b ≡ true → a ≡ c) × (xs ≡ ys)
same_own true a c xs ys e = (λ h. same_head a c xs ys e, same_tail a c xs ys e)
same_own false a c xs ys e = (λ h. cc, e)

no_more : (ss : List Sym) → length ss ≤ 0 → ss ≡ []
no_more [] h = refl
no_more (s ∷ ss) h = absurd (omega arith)

-- two first parts of so many symbols have one length, by their arcs or as the last of all
same_len : (g : Grammar) (ss : List Sym) (r k i l m z z' : ℕ) (t u : Parts) (b : Bool) → has_arc k m ≡ b → k + 1 + length ss ≡ m → z + span_length t ≡ l → z' + span_length u ≡ l
    → Derive g ss (i + z) t → Derive g ss (i + z') u → (b ≡ true → arc_at r k i l z ≡ arc_at r k i l z') → z ≡ z'
same_len g ss r k i l m z z' t u true h count f f' d d' keys = ap (λ (a : ArcKey). a.part) (keys refl)
same_len g ss r k i l m z z' t u false h count f f' d d' keys =
    let last : m ≤ k + 1 = ltb-false (k + 1) m (or_false (nat_eq k 0) (nat_lt (k + 1) m) h) in
    let none : ss ≡ [] = no_more ss (omega (arith, last, count)) in
    let a = nothing g ss (i + z) (span_length t) t none (d, refl) in
    let c = nothing g ss (i + z') (span_length u) u none (d', refl) in
    omega (arith, a, c, f, f')

-- parts of the same symbols on one span with the same arcs are the same parts
pub same-arcs : (g : Grammar) → IsSound g → (ss : List Sym) (r k i l : ℕ) (t u : Parts) (xs ys : List ArcKey) → On g ss i l t → On g ss i l u
    → parts_arcs r k i t ++ xs ≡ parts_arcs r k i u ++ ys → (t ≡ u) × (xs ≡ ys)
same-arcs g sound [] r k i l done done xs ys h j e = (refl, e)
same-arcs g sound (Code c ∷ ss) r k i l (letter d more) (letter d' more') xs ys h j e =
    let m = k + 1 + length ss in
    let own = own_arc g r k i 1 l m (i + 1) ss more refl h.1 h.0.1 in
    let own' = own_arc g r k i 1 l m (i + 1) ss more' refl j.1 j.0.1 in
    let lists : own_arcs (k + 1 + length ss) (arc_at r k i l 1) ++ (parts_arcs r (suc k) (i + 1) more ++ xs) ≡ own_arcs (k + 1 + length ss) (arc_at r k i l 1) ++ (parts_arcs r (suc k) (i + 1) more' ++ ys) =
    sym (append_assoc (own_arcs (k + 1 + length ss) (arc_at r k i l 1)) (parts_arcs r (suc k) (i + 1) more) xs)
    ∙ ap (λ zs. (zs ++ parts_arcs r (suc k) (i + 1) more) ++ xs) (sym own) ∙ e ∙ ap (λ zs. (zs ++ parts_arcs r (suc k) (i + 1) more') ++ ys) own'
    ∙ append_assoc (own_arcs (k + 1 + length ss) (arc_at r k i l 1)) (parts_arcs r (suc k) (i + 1) more') ys in
    let after = same_own (has_arc k m) (arc_at r k i l 1) (arc_at r k i l 1) (parts_arcs r (suc k) (i + 1) more ++ xs) (parts_arcs r (suc k) (i + 1) more' ++ ys) lists in
    let s = same-arcs g sound ss r (suc k) (i + 1) (span_length more) more more' xs ys (h.0.1, refl) (j.0.1, omega (arith, h.1, j.1)) after.1 in
    (cc (h.0.0, j.0.0, s.0), s.1)
same-arcs g sound (Name x ∷ ss) r k i l (uses q z inner more) (uses q' z' inner' more') xs ys h j e =
    let m = k + 1 + length ss in
    let own = own_arc g r k i z l m (i + z) ss more refl h.1 h.0.7 in
    let own' = own_arc g r k i z' l m (i + z') ss more' refl j.1 j.0.7 in
    let lists : own_arcs (k + 1 + length ss) (arc_at r k i l z) ++ ((parts_arcs q 0 i inner ++ parts_arcs r (suc k) (i + z) more) ++ xs)
    ≡ own_arcs (k + 1 + length ss) (arc_at r k i l z') ++ ((parts_arcs q' 0 i inner' ++ parts_arcs r (suc k) (i + z') more') ++ ys) =
    sym (append_assoc (own_arcs (k + 1 + length ss) (arc_at r k i l z)) (parts_arcs q 0 i inner ++ parts_arcs r (suc k) (i + z) more) xs)
    ∙ ap (λ zs. (zs ++ (parts_arcs q 0 i inner ++ parts_arcs r (suc k) (i + z) more)) ++ xs) (sym own) ∙ e
    ∙ ap (λ zs. (zs ++ (parts_arcs q' 0 i inner' ++ parts_arcs r (suc k) (i + z') more')) ++ ys) own'
    ∙ append_assoc (own_arcs (k + 1 + length ss) (arc_at r k i l z')) (parts_arcs q' 0 i inner' ++ parts_arcs r (suc k) (i + z') more') ys in
    let after = same_own (has_arc k m) (arc_at r k i l z) (arc_at r k i l z') ((parts_arcs q 0 i inner ++ parts_arcs r (suc k) (i + z) more) ++ xs)
    ((parts_arcs q' 0 i inner' ++ parts_arcs r (suc k) (i + z') more') ++ ys) lists in
    let lens : z ≡ z' = same_len g ss r k i l m z z' more more' (has_arc k m) refl refl h.1 j.1 h.0.7 j.0.7 after.0 in
    let rest : parts_arcs q 0 i inner ++ (parts_arcs r (suc k) (i + z) more ++ xs) ≡ parts_arcs q' 0 i inner' ++ (parts_arcs r (suc k) (i + z') more' ++ ys) =
    sym (append_assoc (parts_arcs q 0 i inner) (parts_arcs r (suc k) (i + z) more) xs) ∙ after.1 ∙ append_assoc (parts_arcs q' 0 i inner') (parts_arcs r (suc k) (i + z') more') ys in
    let key = first_key g q i z h.0.0.right inner (sound-rule g sound q h.0.0 h.0.1).some (h.0.6, h.0.5) in
    let key' = first_key g q' i z' j.0.0.right inner' (sound-rule g sound q' j.0.0 j.0.1).some (j.0.6, j.0.5) in
    let firsts : arc_at q 0 i z key.0 ∷ (key.1 ++ (parts_arcs r (suc k) (i + z) more ++ xs)) ≡ arc_at q' 0 i z' key'.0 ∷ (key'.1 ++ (parts_arcs r (suc k) (i + z') more' ++ ys)) =
    ap (λ zs. zs ++ (parts_arcs r (suc k) (i + z) more ++ xs)) (sym key.2) ∙ rest ∙ ap (λ zs. zs ++ (parts_arcs r (suc k) (i + z') more' ++ ys)) key'.2 in
    let rules : q ≡ q' = ap (λ (a : ArcKey). a.rule)
    (same_head (arc_at q 0 i z key.0) (arc_at q' 0 i z' key'.0) (key.1 ++ (parts_arcs r (suc k) (i + z) more ++ xs)) (key'.1 ++ (parts_arcs r (suc k) (i + z') more' ++ ys)) firsts) in
    let same : j.0.0 ≡ h.0.0 = one_rule g q q' h.0.0 j.0.0 rules h.0.1 j.0.1 in
    let inside = same-arcs g sound h.0.0.right q 0 i z inner inner' (parts_arcs r (suc k) (i + z) more ++ xs) (parts_arcs r (suc k) (i + z') more' ++ ys) (h.0.6, h.0.5)
    (subst (λ (w : Rule). Derive g w.right i inner') same j.0.6, j.0.5 ∙ sym lens) (rest ∙ ap (λ n. parts_arcs n 0 i inner' ++ (parts_arcs r (suc k) (i + z') more' ++ ys)) (sym rules)) in
    let others = same-arcs g sound ss r (suc k) (i + z) (span_length more) more more' xs ys (h.0.7, refl) (subst (λ n. Derive g ss (i + n) more') (sym lens) j.0.7, omega (arith, h.1, j.1, lens))
    (inside.1 ∙ ap (λ n. parts_arcs r (suc k) (i + n) more' ++ ys) (sym lens)) in
    (cc (rules, lens, inside.0, others.0), others.1)
same-arcs g sound [] r k i l done (letter d more) xs ys h j e = absurd j.0
same-arcs g sound [] r k i l done (uses q z inner more) xs ys h j e = absurd j.0
same-arcs g sound [] r k i l (letter d more) u xs ys h j e = absurd h.0
same-arcs g sound [] r k i l (uses q z inner more) u xs ys h j e = absurd h.0
same-arcs g sound (Code c ∷ ss) r k i l done u xs ys h j e = absurd h.0
same-arcs g sound (Code c ∷ ss) r k i l (uses q z inner more) u xs ys h j e = absurd h.0
same-arcs g sound (Code c ∷ ss) r k i l (letter d more) done xs ys h j e = absurd j.0
same-arcs g sound (Code c ∷ ss) r k i l (letter d more) (uses q z inner more') xs ys h j e = absurd j.0
same-arcs g sound (Name x ∷ ss) r k i l done u xs ys h j e = absurd h.0
same-arcs g sound (Name x ∷ ss) r k i l (letter d more) u xs ys h j e = absurd h.0
same-arcs g sound (Name x ∷ ss) r k i l (uses q z inner more) done xs ys h j e = absurd j.0
same-arcs g sound (Name x ∷ ss) r k i l (uses q z inner more) (letter d more') xs ys h j e = absurd j.0

-- a tree of a name has a first step, which tells its start and its name
root_step : (g : Grammar) (x i l : ℕ) (t : Parts) → On g (Name x ∷ []) i l t
    → (step : Step) × (more : List Step) × (rule : Rule) × (steps i t ≡ step ∷ more) × (step.start ≡ i) × (rule_at g step.rule ≡ Some rule) × (rule.left ≡ x)
root_step g x i l (uses q z inner rest) h = (record { rule = q; start = i; len = z }, steps i inner ++ steps (i + z) rest, h.0.0, refl, refl, h.0.1, h.0.2)
root_step g x i l done h = absurd h.0
root_step g x i l (letter d rest) h = absurd h.0

-- two trees with the same steps are one tree
pub steps_tell : StepsTellTree
steps_tell g i j t u a b e =
    let p = root_step g a.name i a.len t a.on in
    let q = root_step g b.name j b.len u b.on in
    let head : p.0 ≡ q.0 = same_head p.0 q.0 p.1 q.1 (sym p.3 ∙ e ∙ q.3) in
    let starts : j ≡ i = sym q.4 ∙ ap (λ (s : Step). s.start) (sym head) ∙ p.4 in
    let rules : q.2 ≡ p.2 = one_rule g p.0.rule q.0.rule p.2 q.2 (ap (λ (s : Step). s.rule) head) p.5 q.5 in
    let names : b.name ≡ a.name = sym q.6 ∙ ap (λ (r : Rule). r.left) rules ∙ p.6 in
    let other : Derive g (Name a.name ∷ []) i u = subst (λ n. Derive g (Name n ∷ []) i u) names (subst (λ n. Derive g (Name b.name ∷ []) n u) starts b.on.0) in
    (same-steps g (Name a.name ∷ []) i t u [] [] a.on.0 other (append-nil (steps i t) ∙ e ∙ ap (λ n. steps n u) starts ∙ sym (append-nil (steps i u)))).0

-- a tree of a name has a first arc, which tells its span and its name
root_key : (g : Grammar) → IsSound g → (x i l : ℕ) (t : Parts) → On g (Name x ∷ []) i l t
    → (key : ArcKey) × (more : List ArcKey) × (rule : Rule) × (arcs i t ≡ key ∷ more) × (key.start ≡ i) × (key.len ≡ l) × (rule_at g key.rule ≡ Some rule) × (rule.left ≡ x)
root_key g sound x i l (uses q z inner done) h =
    let k = first_key g q i z h.0.0.right inner (sound-rule g sound q h.0.0 h.0.1).some (h.0.6, h.0.5) in
    (arc_at q 0 i z k.0, k.1, h.0.0, k.2, refl, omega (arith, h.1), h.0.1, h.0.2)
root_key g sound x i l (uses q z inner (letter d rest)) h = absurd h.0.7
root_key g sound x i l (uses q z inner (uses q' z' inner' rest)) h = absurd h.0.7
root_key g sound x i l done h = absurd h.0
root_key g sound x i l (letter d rest) h = absurd h.0

-- the arcs of a tree are those of a last part
last_arcs : (g : Grammar) (x i l : ℕ) (t : Parts) → On g (Name x ∷ []) i l t → parts_arcs 0 (suc zero) i t ≡ arcs i t
last_arcs g x i l (uses q z inner done) h = append-nil (parts_arcs q 0 i inner)
last_arcs g x i l (uses q z inner (letter d rest)) h = absurd h.0.7
last_arcs g x i l (uses q z inner (uses q' z' inner' rest)) h = absurd h.0.7
last_arcs g x i l done h = absurd h.0
last_arcs g x i l (letter d rest) h = absurd h.0

-- two trees of a sound grammar with the same arcs are one tree
pub arcs_tell : ArcsTellTree
arcs_tell g i j t u sound a b e =
    let p = root_key g sound a.name i a.len t a.on in
    let q = root_key g sound b.name j b.len u b.on in
    let head : p.0 ≡ q.0 = same_head p.0 q.0 p.1 q.1 (sym p.3 ∙ e ∙ q.3) in
    let starts : j ≡ i = sym q.4 ∙ ap (λ (k : ArcKey). k.start) (sym head) ∙ p.4 in
    let lens : b.len ≡ a.len = sym q.5 ∙ ap (λ (k : ArcKey). k.len) (sym head) ∙ p.5 in
    let rules : q.2 ≡ p.2 = one_rule g p.0.rule q.0.rule p.2 q.2 (ap (λ (k : ArcKey). k.rule) head) p.6 q.6 in
    let names : b.name ≡ a.name = sym q.7 ∙ ap (λ (r : Rule). r.left) rules ∙ p.7 in
    let other : On g (Name a.name ∷ []) i a.len u =
    subst (λ n. On g (Name a.name ∷ []) i n u) lens (subst (λ n. On g (Name n ∷ []) i b.len u) names (subst (λ n. On g (Name b.name ∷ []) n b.len u) starts b.on)) in
    let lists = last_arcs g a.name i a.len t a.on ∙ e ∙ ap (λ n. arcs n u) starts ∙ sym (last_arcs g a.name i a.len u other) in
    (same-arcs g sound (Name a.name ∷ []) 0 (suc zero) i a.len t u [] [] a.on other (ap (λ zs. zs ++ []) lists)).0

-- the lists that are made tell the tree that they were made from
pub one_tree : ListsTellOneTree
one_tree = record {
  arcs_of_steps = λ g uses keys i j t u sound made a b e f. arcs_tell g i j t u sound a b (sym (made i t a e) ∙ f);
  steps_of_arcs = λ g keys uses i j t u sound made a b e f. steps_tell g i j t u a b (sym (made i t a e) ∙ f);
}
