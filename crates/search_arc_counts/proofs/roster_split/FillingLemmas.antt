-- Taking an arc writes its rule use and opens the nodes that it uses.
use Rattle.std.proofs.Common.{◌≡◌, ℕ, arith, ◌+◌, ◌*◌, cond, List, [], ◌∷◌, ◌++◌, refl, ap, sym, subst, ◌∙◌, append_assoc}
use Rattle.model_rosters.specs.declared.grammar.ArcKey.{ArcKey}
use Rattle.model_rosters.specs.declared.grammar.Grammar.{Grammar}
use Rattle.model_rosters.specs.declared.grammar.Step.{Step}
use Rattle.model_rosters.specs.Trees.{Parts, done, letter, steps}
use Rattle.model_rosters.specs.Folds.{count, In}
use Rattle.model_rosters.specs.Arcs.{same_arc}
use Rattle.model_rosters.specs.arc_laws.OrNodes.{OrNode, name, suffix, leaf, same_node, made, used}
use Rattle.model_rosters.specs.arc_laws.Balance.{made_sum, used_sum}
use Rattle.model_rosters.proofs.arc_laws.FoldsLemmas.{count-append, sum_n-same}
use Rattle.model_rosters.specs.arc_laws.AtNodes.{IsAt, start_of, steps_of}
use Rattle.model_rosters.proofs.arc_laws.AtNodesLemmas.{made_start}
use Rattle.search_arc_counts.specs.roster_split.Nodes.{arcs_at, IsInner, push_inner, stack_after}
use Rattle.search_arc_counts.specs.roster_split.Owing.{Owes}
use Rattle.search_arc_counts.specs.roster_split.Filling.{AllAt, all_steps, all_arcs, Filled, Walking}
use Rattle.search_arc_counts.proofs.roster_split.Shape.{Shape}
use Rattle.search_arc_counts.proofs.roster_split.NodesLemmas.{KidsAt, kid_arcs, kid_steps, built, Uses, uses_one, uses_two, uses-some}
use Rattle.search_arc_counts.proofs.roster_split.TakenCounts.{taken, taken-is}
use Rattle.search_arc_counts.proofs.roster_split.OwingLemmas.{Chosen, owes-kids, inner-leaf}

-- numbers that are the same are owed the same
pub owes-same : (g : Grammar) (listed : List ArcKey) (value other : ArcKey → ℕ) (pending : List OrNode) → ((a : ArcKey) → value a ≡ other a) → Owes g listed value pending → Owes g listed other pending
owes-same g listed value other pending same owes = record { each = λ o inner. at o inner }
  where
    at : (o : OrNode) → IsInner o → made_sum g listed other o ≡ used_sum g listed other o + count (same_node o) pending
    at o inner =
        let e = owes.each o inner in
        let m = sum_n-same (λ a. value a * cond (same_node o (made g a)) 1 0) (λ a. other a * cond (same_node o (made g a)) 1 0) listed (λ a h. ap (λ (n : ℕ). n * cond (same_node o (made g a)) 1 0) (same a)) in
        let u = sum_n-same (λ a. value a * count (same_node o) (used g a)) (λ a. other a * count (same_node o) (used g a)) listed (λ a h. ap (λ (n : ℕ). n * count (same_node o) (used g a)) (same a)) in
        omega (arith, e, m, u)

module _ (g : Grammar) where
  -- letters are not owed
  owes-stack : (listed : List ArcKey) (value : ArcKey → ℕ) (os rest pending : List OrNode) → Owes g listed value (os ++ (rest ++ pending)) → Owes g listed value (stack_after os rest ++ pending)
  owes-stack listed value os rest pending owes = record { each = λ q inner. let e = owes.each q inner in let s = same q inner os in omega (arith, e, s) }
    where
      pushed : (q : OrNode) → IsInner q → (o : OrNode) (xs : List OrNode) → count (same_node q) (push_inner o xs ++ pending) ≡ cond (same_node q o) 1 0 + count (same_node q) (xs ++ pending)
      pushed q inner (name x i l) xs = refl
      pushed q inner (suffix r k i l) xs = refl
      pushed q inner (leaf l) xs = let z : ◌≡◌ {A = ℕ} (cond (same_node q (leaf l)) 1 0) 0 = rw (inner-leaf q l inner) refl in omega (arith, z)

      same : (q : OrNode) → IsInner q → (os : List OrNode) → count (same_node q) (stack_after os rest ++ pending) ≡ count (same_node q) (os ++ (rest ++ pending))
      same q inner [] = refl
      same q inner (o ∷ os) = let p = pushed q inner o (stack_after os rest) in let s = same q inner os in omega (arith, p, s)

  -- what stands at the top node, or at a letter that was not pushed, and what stands at the others
  record Top (o : OrNode) (rest : List OrNode) (ts : List Parts) : Type 0 where
    pub tree : Parts
    pub others : List Parts
    pub at : IsAt g o tree
    pub all : AllAt g rest others
    pub written : all_steps (push_inner o rest) ts ≡ steps (start_of o) tree ++ all_steps rest others
    pub listed : all_arcs (push_inner o rest) ts ≡ arcs_at o tree ++ all_arcs rest others

  top : (o : OrNode) (rest : List OrNode) (ts : List Parts) → AllAt g (push_inner o rest) ts → Top o rest ts
  top (leaf l) rest ts h = record { tree = letter l.code done; others = ts; at = ((refl, tt), omega arith); all = h; written = refl; listed = refl }
  top (name x i l) rest [] h = absurd h
  top (suffix r k i l) rest [] h = absurd h
  top (name x i l) rest (t ∷ ts) h = record { tree = t; others = ts; at = h.0; all = h.1; written = refl; listed = refl }
  top (suffix r k i l) rest (t ∷ ts) h = record { tree = t; others = ts; at = h.0; all = h.1; written = refl; listed = refl }

  record Kids (ks rest : List OrNode) (ts : List Parts) : Type 0 where
    pub first : Parts
    pub second : Parts
    pub others : List Parts
    pub kids : KidsAt g ks first second
    pub all : AllAt g rest others
    pub written : all_steps (stack_after ks rest) ts ≡ kid_steps ks first second ++ all_steps rest others
    pub listed : all_arcs (stack_after ks rest) ts ≡ kid_arcs ks first second ++ all_arcs rest others

  kids-of : (ks rest : List OrNode) (ts : List Parts) → Uses g ks → AllAt g (stack_after ks rest) ts → Kids ks rest ts
  kids-of ks rest ts (uses_one o e) h = subst (λ (xs : List OrNode). Kids xs rest ts) (sym e) one
    where
      one : Kids (o ∷ []) rest ts
      one =
          let t = top o rest ts (subst (λ (xs : List OrNode). AllAt g (stack_after xs rest) ts) e h) in
          record { first = t.tree; second = done; others = t.others; kids = t.at; all = t.all; written = t.written; listed = t.listed }
  kids-of ks rest ts (uses_two o q e) h = subst (λ (xs : List OrNode). Kids xs rest ts) (sym e) both
    where
      both : Kids (o ∷ q ∷ []) rest ts
      both =
          let t = top o (push_inner q rest) ts (subst (λ (xs : List OrNode). AllAt g (stack_after xs rest) ts) e h) in
          let u = top q rest t.others t.all in
          record {
            first = t.tree;
            second = u.tree;
            others = u.others;
            kids = (t.at, u.at);
            all = u.all;
            written = t.written ∙ ap (λ (xs : List Step). steps (start_of o) t.tree ++ xs) u.written ∙ sym (append_assoc (steps (start_of o) t.tree) (steps (start_of q) u.tree) (all_steps rest u.others));
            listed = t.listed ∙ ap (λ (xs : List ArcKey). arcs_at o t.tree ++ xs) u.listed ∙ sym (append_assoc (arcs_at o t.tree) (arcs_at q u.tree) (all_arcs rest u.others));
          }

  module _ (listed : List ArcKey) (shapes : (a : ArcKey) → In a listed → Shape g a) (once : (a : ArcKey) → In a listed → count (same_arc a) listed ≡ 1) where
    -- one arc further
    pub advance : (root : OrNode) (old now next : ArcKey → ℕ) (o : OrNode) (rest pending : List OrNode) (steps_done : List Step) → Walking g listed root old now (o ∷ rest) pending steps_done
        → (c : Chosen g listed shapes once now o) → ((a : ArcKey) → taken c.arc now a ≡ next a) → Walking g listed root old next (stack_after (used g c.arc) rest) pending (steps_done ++ steps_of c.arc)
    advance root old now next o rest pending steps_done w c same = record {
      owes = owes-same g listed (taken c.arc now) next (stack_after (used g c.arc) rest ++ pending) same
          (owes-stack listed (taken c.arc now) (used g c.arc) rest pending (owes-kids g listed shapes once now o (rest ++ pending) w.owes c));
      fills = λ ts h. fill ts h;
    }
      where
        fill : (ts : List Parts) → AllAt g (stack_after (used g c.arc) rest) ts → Filled g root old next (stack_after (used g c.arc) rest) (steps_done ++ steps_of c.arc) ts
        fill ts h =
            let k = kids-of (used g c.arc) rest ts (uses-some g c.arc (shapes c.arc c.is)) h in
            let b = built g c.arc (shapes c.arc c.is) k.first k.second k.kids in
            let at : IsAt g o b.whole = subst (λ (q : OrNode). IsAt g q b.whole) c.makes b.on in
            let f = w.fills (b.whole ∷ k.others) (at, k.all) in
            let start : start_of o ≡ c.arc.start = ap start_of (sym c.makes) ∙ made_start g c.arc.rule c.arc.suffix c.arc.start c.arc.len in
            let here : steps (start_of o) b.whole ≡ steps_of c.arc ++ kid_steps (used g c.arc) k.first k.second = ap (λ (n : ℕ). steps n b.whole) start ∙ b.written in
            let arcs_here : arcs_at o b.whole ≡ c.arc ∷ kid_arcs (used g c.arc) k.first k.second = subst (λ (q : OrNode). arcs_at q b.whole ≡ c.arc ∷ kid_arcs (used g c.arc) k.first k.second) c.makes b.listed in
            record {
              whole = f.whole;
              on = f.on;
              written = f.written
                  ∙ ap (λ (xs : List Step). steps_done ++ (xs ++ all_steps rest k.others)) here
                  ∙ ap (λ (xs : List Step). steps_done ++ xs) (append_assoc (steps_of c.arc) (kid_steps (used g c.arc) k.first k.second) (all_steps rest k.others) ∙ ap (λ (xs : List Step). steps_of c.arc ++ xs) (sym k.written))
                  ∙ sym (append_assoc steps_done (steps_of c.arc) (all_steps (stack_after (used g c.arc) rest) ts));
              counts = λ a.
                  let x = f.counts a in
                  let y = count-append (same_arc a) (arcs_at o b.whole) (all_arcs rest k.others) in
                  let z = ap (λ (xs : List ArcKey). count (same_arc a) xs) arcs_here in
                  let u = ap (λ (xs : List ArcKey). count (same_arc a) xs) k.listed in
                  let v = count-append (same_arc a) (kid_arcs (used g c.arc) k.first k.second) (all_arcs rest k.others) in
                  let t = taken-is c.arc now c.some a in
                  let r = same a in
                  omega (arith, x, y, z, u, v, t, r);
            }
