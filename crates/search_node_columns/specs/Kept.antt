-- What is kept goes on.
use Rattle.std.specs.Prelude.{ℕ, [], ◌++◌}
use mathlib.Core.Path.{sym, refl, ap, ◌∙◌}
use mathlib.Core.List.{append_assoc, append-nil}
use Rattle.law_bounds.specs.master_laws.Master.{MasterKey}
use Rattle.search_node_columns.specs.Columns.{NodeState, Lists, IsKept}

pub kept-same : (a : NodeState) → IsKept a a
kept-same a = record {
  instance = refl;
  cuts = refl;
  graph = refl;
  pool = (
    [],
    sym
        (append-nil a.pool),
  );
  lists = λ j k h. h;
}

pub kept-chain : (a b c : NodeState) → IsKept a b → IsKept b c → IsKept a c
kept-chain a b c h k = record {
  instance = h.instance ∙ k.instance;
  cuts = h.cuts ∙ k.cuts;
  graph = h.graph ∙ k.graph;
  pool = (
    h.pool.0 ++ k.pool.0,
    k.pool.1 ∙ ap
        (λ xs. xs ++ k.pool.0) h.pool.1 ∙ append_assoc a.pool h.pool.0 k.pool.0,
  );
  lists = λ j x l. k.lists j x (h.lists j x l);
}

pub kept-still : (a b : NodeState) (j : ℕ) (k : MasterKey) → IsKept a b → Lists a j k → Lists b j k
kept-still a b j k h l = h.lists j k l
