-- Trees are taken one by one.
use Rattle.std.proofs.Common.{◌≡◌, ℕ, zero, suc, arith, ◌+◌, ◌-◌, ◌≤◌, List, [], ◌∷◌, ◌++◌, None, Some, map, refl, ap, sym, subst, ◌∙◌, inl, length-append}
use Rattle.std.specs.Prelude.{slice_get, slice_index}
use Rattle.std.proofs.lemmas.Option.{same_Some}
use Rattle.model_rosters.specs.declared.grammar.ArcKey.{ArcKey}
use Rattle.model_rosters.specs.declared.grammar.Step.{Step}
use Rattle.model_rosters.specs.Trees.{Parts, IsDayTree, steps}
use Rattle.model_rosters.specs.Folds.{In, count}
use Rattle.model_rosters.specs.Arcs.{arcs, same_arc}
use Rattle.model_rosters.specs.Cuts.{arcs_of, arc_count}
use Rattle.model_rosters.proofs.EachLemmas.{Each-append, in-get}
use Rattle.model_rosters.specs.arc_laws.OrNodes.{same_node, made, root_of}
use Rattle.model_rosters.specs.arc_laws.Counts.{root_count}
use Rattle.model_rosters.proofs.arc_laws.FoldsLemmas.{count-append}
use Rattle.tree_graph.specs.Graphs.{GraphView, IsRoot, places}
use Rattle.search_arc_counts.specs.roster_split.Owing.{Owes}
use Rattle.search_arc_counts.specs.roster_split.Nodes.{copies}
use Rattle.search_arc_counts.proofs.roster_split.BalancedLemmas.{start-owes, none-left}
use Rattle.tree_graph.proofs.PlacesLemmas.{place-sum}
use Rattle.search_arc_counts.specs.roster_split.Counts.{count_of}
use Rattle.search_arc_counts.specs.roster_split.Taking.{AsksTree, TakesTree}
use Rattle.search_arc_counts.specs.roster_split.Evens.{HasCounts}
use Rattle.search_arc_counts.specs.roster_split.Splits.{HasBalance, IsSplit, IsSplitting}
use Rattle.search_arc_counts.specs.roster_split.Counts.{sum_at}
use Rattle.search_arc_counts.proofs.roster_split.Places.{count-at}

map-snoc : {A B : Type 0} (f : A → B) (xs : List A) (x : A) → map f (xs ++ x ∷ []) ≡ map f xs ++ f x ∷ []
map-snoc f [] x = refl
map-snoc f (y ∷ xs) x = ap (λ zs. f y ∷ zs) (map-snoc f xs x)

-- what balanced counts are
pub counts-of : (v : GraphView) (counts : List ℕ) → HasBalance v counts → HasCounts v counts
counts-of v counts asked = record { g = asked.g; sound = asked.sound; graph = asked.graph; each = asked.each }

module _ (v : GraphView) (counts : List ℕ) (asked : HasBalance v counts) where
  -- no tree at all
  pub no-trees : v.root ≡ None → IsSplit asked.g v counts []
  no-trees none = record { trees = []; uses = refl; are = record { day = tt; number = sym (nothing v.arcs (λ a h. no_arc a h)); counts = λ a h. absurd (no_arc a h) } }
    where
      no_arc : (a : ArcKey) → In a v.arcs → ⊥
      no_arc a h = let r = in-get v.arcs a h in let is = asked.graph.arcs.sound r.0 a r.1 in subst (λ (o : _). IsRoot asked.g v.nodes o) none asked.graph.root is.0 is.1

      nothing : (xs : List ArcKey) → ((a : ArcKey) → In a xs → ⊥) → root_count asked.g xs (count_of v.arcs counts) ≡ 0
      nothing [] h = refl
      nothing (x ∷ xs) h = absurd (h x (inl refl))

  module _ (root : ℕ) (is_root : v.root ≡ Some root) where
    pub root-at : slice_get v.nodes root ≡ Some (root_of asked.g)
    root-at = subst (λ (o : _). IsRoot asked.g v.nodes o) is_root asked.graph.root

    module _ (makers : List ℕ) (are : slice_get v.makers root ≡ Some makers) where
      makers-are : makers ≡ places (λ a. same_node (root_of asked.g) (made asked.g a)) v.arcs
      makers-are = same_Some makers _ (sym are ∙ asked.graph.makers root (root_of asked.g) root-at)

      root-sum : sum_at counts makers ≡ root_count asked.g v.arcs (count_of v.arcs counts)
      root-sum = ap (λ (xs : List ℕ). sum_at counts xs) makers-are
          ∙ place-sum (λ a. same_node (root_of asked.g) (made asked.g a)) (λ q. slice_index counts q) (count_of v.arcs counts) 0 v.arcs
          (λ j x e. let s : 0 + j ≡ j = omega arith in ap (λ (q : ℕ). slice_index counts q) s ∙ sym (count-at v.arcs counts asked.graph.arcs.once j x e))

      pub began : (total : ℕ) → total ≡ sum_at counts makers → IsSplitting asked.g v counts counts [] total total
      began total e = record {
        trees = [];
        uses = refl;
        day = tt;
        number = omega arith;
        taken = λ a. omega arith;
        each = asked.each;
        owes = subst (λ (k : ℕ). Owes asked.g v.arcs (count_of v.arcs counts) (copies k (root_of asked.g))) (sym (e ∙ root-sum))
            (start-owes asked.g v.arcs asked.sound asked.graph.arcs (count_of v.arcs counts) asked.balanced);
      }

      abbrev pub asks : (now : List ℕ) (written : List (List Step)) (total left : ℕ) → IsSplitting asked.g v counts now written total left → 1 ≤ left → AsksTree v now root
      asks now written total left s some = record { g = asked.g; sound = asked.sound; graph = asked.graph; at = root-at; each = s.each; pending = copies (left - 1) (root_of asked.g); owes = by left some s.owes }
        where
          by : (left : ℕ) → 1 ≤ left → Owes asked.g v.arcs (count_of v.arcs now) (copies left (root_of asked.g)) → Owes asked.g v.arcs (count_of v.arcs now) (root_of asked.g ∷ copies (left - 1) (root_of asked.g))
          by zero h o = absurd (omega (arith, h))
          by (suc n) h o = let e : suc n - 1 ≡ n = omega arith in subst (λ (k : ℕ). Owes asked.g v.arcs (count_of v.arcs now) (root_of asked.g ∷ copies k (root_of asked.g))) (sym e) o

      pub further : (now : List ℕ) (written : List (List Step)) (total left : ℕ) (s : IsSplitting asked.g v counts now written total left) (some : 1 ≤ left) (new : List ℕ) (uses : List Step)
          → TakesTree asked.g v (copies (left - 1) (root_of asked.g)) now new uses → IsSplitting asked.g v counts new (written ++ uses ∷ []) total (left - 1)
      further now written total left s some new uses t = record {
        trees = s.trees ++ t.tree ∷ [];
        uses = ap (λ (xs : List (List Step)). xs ++ uses ∷ []) s.uses ∙ ap (λ (x : List Step). map (steps 1) s.trees ++ x ∷ []) t.uses ∙ sym (map-snoc (steps 1) s.trees t.tree);
        day = Each-append (IsDayTree asked.g) s.trees (t.tree ∷ []) s.day (t.day, tt);
        number = let n = s.number in let a = length-append s.trees (t.tree ∷ []) in omega (arith, n, a, some);
        taken = λ a. let x = s.taken a in let y = t.counts a in let z = counted a s.trees in omega (arith, x, y, z);
        each = t.each;
        owes = t.owes;
      }
        where
          counted : (a : ArcKey) (ts : List Parts) → arc_count a (ts ++ t.tree ∷ []) ≡ arc_count a ts + count (same_arc a) (arcs 1 t.tree)
          counted a [] = let c = count-append (same_arc a) (arcs 1 t.tree) [] in omega (arith, c)
          counted a (u ∷ ts) = let c = count-append (same_arc a) (arcs 1 u) (arcs_of (ts ++ t.tree ∷ [])) in let d = count-append (same_arc a) (arcs 1 u) (arcs_of ts) in omega (arith, c, d, counted a ts)

      pub ended : (now : List ℕ) (written : List (List Step)) (total : ℕ) → total ≡ sum_at counts makers → IsSplitting asked.g v counts now written total 0 → IsSplit asked.g v counts written
      ended now written total e s = record {
        trees = s.trees;
        uses = s.uses;
        are = record {
          day = s.day;
          number = let n = s.number in let r = root-sum in omega (arith, n, r, e);
          counts = λ a h. let z = none-left asked.g v.arcs asked.sound asked.graph.arcs (count_of v.arcs now) s.owes a h in let x = s.taken a in omega (arith, z, x);
        };
      }
