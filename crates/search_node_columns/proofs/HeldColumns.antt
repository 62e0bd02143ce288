-- Listed columns, and what keeps them.
use Rattle.std.proofs.Common.{◌≡◌, ℕ, zero, suc, arith, pos, ◌<◌, ◌≤◌, List, [], ◌∷◌, ◌++◌, length, get_or, Option, None, Some, refl, sym, ap, ◌∙◌, subst, ◌⊎◌, inl, inr, All, length-append}
use Rattle.std.specs.Prelude.{slice_get, IfSome, IfNone}
use Rattle.std.proofs.lemmas.Option.{same_Some, none-some, slice_get_within, slice_get_cases}
use Rattle.model_rosters.specs.declared.instance.Cut.{Cut}
use Rattle.model_rosters.specs.declared.instance.Instance.{Instance}
use Rattle.model_rosters.specs.Trees.{Parts, IsDayTree, steps}
use Rattle.model_rosters.specs.PriceRooms.{IsRoomFor}
use Rattle.law_bounds.specs.master_laws.Rows.{rows_of, number_at}
use Rattle.law_bounds.specs.master_laws.Master.{MasterKey, tree}
use Rattle.tree_pool.specs.grammar_core.Lists.{IsSpanTree}
use Rattle.tree_pool.proofs.grammar_core.ListsLemmas.{steps_tell}
use Rattle.lp_fractions.specs.pivot_rows.Columns.{IsColumn}
use Rattle.tree_pool.specs.Pools.{PoolTree, IsPool, IsGrown, IsPoolTree}
use Rattle.search_node_columns.specs.declared.workspace.Kind.{Kind}
use Rattle.search_node_columns.specs.declared.workspace.Kind.TheVariants.{Missing, Beyond, OfTree}
use Rattle.search_node_columns.specs.declared.workspace.Held.{Held}
use Rattle.search_node_columns.specs.declared.workspace.ColumnWorkspace.{ColumnWorkspace}
use Rattle.search_node_columns.specs.Columns.{IsKey, Tells, IsHeld, AreHeld, IsWorkspace, HasKey, HasMore}

-- ---- trees
pub tree_held : (i : Instance) (cuts : List Cut) (pool : List PoolTree) (h : Held) (j : ℕ) (x : PoolTree) → h.kind ≡ OfTree j → slice_get pool j ≡ Some x → IsPool i.grammar pool
    → ((t : Parts) → IsPoolTree i.grammar t x → IsColumn (length (rows_of i cuts)) (number_at (λ r. pos (r.brings t)) (rows_of i cuts)) h.places) → h.cost ≡ pos x.cost
    → IsHeld i cuts pool h
tree_held i cuts pool h j x kind at pool_is places cost_is = record {
  some = let t = pool_is.trees j x at in (tree t.0, subst (λ (k : Kind). IsKey i.grammar pool k (tree t.0)) (sym kind) (x, at, t.0, t.1, refl));
  tells = λ k key. tells k (subst (λ (k' : Kind). IsKey i.grammar pool k' k) kind key);
}
  where
    tells : (k : MasterKey) → IsKey i.grammar pool (OfTree j) k → Tells i cuts h k
    tells k key =
        let same : key.0 ≡ x = same_Some key.0 x (sym key.1 ∙ at) in
        let is : IsPoolTree i.grammar key.2 x = subst (λ (y : PoolTree). IsPoolTree i.grammar key.2 y) same key.3 in
        subst (λ (k' : MasterKey). Tells i cuts h k') (sym key.4)
        record { belongs = is.day; places = places key.2 is; cost = cost_is ∙ ap pos is.cost }

-- there is an item at each place of a list
pub there : {A : Type 0} (xs : List A) (n : ℕ) → n < length xs → (x : A) × (slice_get xs n ≡ Some x)
there {A = A} xs n h = by (slice_get_cases xs n).1
  where
    by : ((x : A) × (n < length xs) × (slice_get xs n ≡ Some x) × (get_or xs n x ≡ x)) ⊎ ((length xs ≤ n) × (slice_get xs n ≡ None)) → (x : A) × (slice_get xs n ≡ Some x)
    by (inl w) = (w.0, w.2)
    by (inr w) = absurd (omega (arith, w.0))

-- ---- a pool that has grown
-- an item stays at its place where others come behind
pub stays : {A : Type 0} (xs ys : List A) (n : ℕ) (x : A) → slice_get xs n ≡ Some x → slice_get (xs ++ ys) n ≡ Some x
stays [] ys n x h = absurd (none-some x h)
stays (a ∷ xs) ys zero x h = h
stays (a ∷ xs) ys (suc n) x h = stays xs ys n x h

pub key_stays : (i : Instance) (old new : List PoolTree) (kind : Kind) (k : MasterKey) → IsGrown old new → IsKey i.grammar old kind k → IsKey i.grammar new kind k
key_stays i old new (Missing r) k g h = h
key_stays i old new (Beyond r) k g h = h
key_stays i old new (OfTree j) k g h = (h.0, subst (λ (xs : List PoolTree). slice_get xs j ≡ Some h.0) (sym g.1) (stays old g.0 j h.0 h.1), h.2, h.3, h.4)

-- what has a key in the grown pool has it in the old one, where it has some key there
pub key_was : (i : Instance) (old new : List PoolTree) (kind : Kind) (k : MasterKey) → IsGrown old new → (some : (l : MasterKey) × IsKey i.grammar old kind l) → IsKey i.grammar new kind k → IsKey i.grammar old kind k
key_was i old new (Missing r) k g some h = h
key_was i old new (Beyond r) k g some h = h
key_was i old new (OfTree j) k g some h =
    let o = some.1 in
    let n : slice_get new j ≡ Some o.0 = subst (λ (xs : List PoolTree). slice_get xs j ≡ Some o.0) (sym g.1) (stays old g.0 j o.0 o.1) in
    let same : h.0 ≡ o.0 = same_Some h.0 o.0 (sym h.1 ∙ n) in
    (o.0, o.1, h.2, subst (λ (x : PoolTree). IsPoolTree i.grammar h.2 x) same h.3, h.4)

pub held_stays : (i : Instance) (cuts : List Cut) (old new : List PoolTree) (h : Held) → IsGrown old new → IsHeld i cuts old h → IsHeld i cuts new h
held_stays i cuts old new h g is = record {
  some = (is.some.0, key_stays i old new h.kind is.some.0 g is.some.1);
  tells = λ k key. is.tells k (key_was i old new h.kind k g is.some key);
}

-- ---- one column more
pub pushed : {A : Type 0} (xs : List A) (y : A) (n : ℕ) (x : A) → slice_get (xs ++ y ∷ []) n ≡ Some x → (slice_get xs n ≡ Some x) ⊎ ((n ≡ length xs) × (x ≡ y))
pushed [] y zero x h = inr (refl, sym (same_Some y x h))
pushed [] y (suc n) x h = absurd (none-some x h)
pushed (a ∷ xs) y zero x h = inl h
pushed (a ∷ xs) y (suc n) x h = by (pushed xs y n x h)
  where
    by : (slice_get xs n ≡ Some x) ⊎ ((n ≡ length xs) × (x ≡ y)) → (slice_get xs n ≡ Some x) ⊎ ((suc n ≡ suc (length xs)) × (x ≡ y))
    by (inl e) = inl e
    by (inr e) = inr (ap suc e.0, e.1)

pub pushed_last : {A : Type 0} (xs : List A) (y : A) → slice_get (xs ++ y ∷ []) (length xs) ≡ Some y
pushed_last [] y = refl
pushed_last (x ∷ xs) y = pushed_last xs y

pub held_grow : (i : Instance) (cuts : List Cut) (old new : List PoolTree) (held : List Held) → IsGrown old new → AreHeld i cuts old held → AreHeld i cuts new held
held_grow i cuts old new held g are = record { each = λ j h at. held_stays i cuts old new h g (are.each j h at); units = are.units; beyonds = are.beyonds }

pub held_push : (i : Instance) (cuts : List Cut) (pool : List PoolTree) (held : List Held) (h : Held) → AreHeld i cuts pool held → IsHeld i cuts pool h → AreHeld i cuts pool (held ++ h ∷ [])
held_push i cuts pool held h are is = record {
  each = λ j x at. each j x (pushed held h j x at);
  units = λ r l. let u = are.units r l in (u.0, stays held (h ∷ []) r u.0 u.1, u.2);
  beyonds = λ r l b. let u = are.beyonds r l b in (u.0, u.1, stays held (h ∷ []) u.0 u.1 u.2, u.3);
}
  where
    each : (j : ℕ) (x : Held) → (slice_get held j ≡ Some x) ⊎ ((j ≡ length held) × (x ≡ h)) → IsHeld i cuts pool x
    each j x (inl at) = are.each j x at
    each j x (inr e) = subst (λ (y : Held). IsHeld i cuts pool y) (sym e.1) is

pub wanted_push : (wanted : List ℕ) (held : List Held) (h : Held) → All (λ (j : ℕ). j < length held) wanted → All (λ (j : ℕ). j < length (held ++ h ∷ [])) wanted
wanted_push wanted held h all = λ k d l. let x = all k d l in let e = length-append held (h ∷ []) in omega arith

-- a workspace whose rooms are as large, with other listed columns and a pool that has grown
pub workspace_after : (i : Instance) (cuts : List Cut) (old new : List PoolTree) (d e : ColumnWorkspace) → IsWorkspace i cuts old d → AreHeld i cuts new e.held
    → All (λ (j : ℕ). j < length e.held) e.wanted → IsRoomFor e.prices i → e.prices.most ≡ d.prices.most → e.tree.most ≡ d.tree.most
    → length e.numbers.items ≡ length d.numbers.items → IsWorkspace i cuts new e
workspace_after i cuts old new d e is held wanted room most limit numbers = record {
  held = held;
  wanted = wanted;
  prices = room;
  few = rw most is.few;
  tree = limit ∙ is.tree;
  numbers = numbers ∙ is.numbers;
}

span_tree : (i : Instance) (t : Parts) → IsDayTree i.grammar t → IsSpanTree i.grammar 1 t
span_tree i t day = record { name = i.grammar.start; len = i.grammar.periods; on = day }

-- the key of a tree that has just been listed
pub listed_key : (i : Instance) (pool : List PoolTree) (held : List Held) (h : Held) (n : ℕ) (x : PoolTree) (t : Parts) → h.kind ≡ OfTree n → slice_get pool n ≡ Some x
    → IsPool i.grammar pool → IsDayTree i.grammar t → x.steps ≡ steps 1 t → HasKey i.grammar pool (held ++ h ∷ []) (length held) (tree t)
listed_key i pool held h n x t kind at pool_is day e =
    let u = pool_is.trees n x at in
    let same : u.0 ≡ t = sym (steps_tell i.grammar 1 1 t u.0 (span_tree i t day) (span_tree i u.0 u.1.day) (sym e ∙ u.1.steps)) in
    record { one = h; at = pushed_last held h; key = subst (λ (k : Kind). IsKey i.grammar pool k (tree t)) (sym kind) (x, at, t, subst (λ (w : Parts). IsPoolTree i.grammar w x) same u.1, refl) }

-- what is listed stays listed
pub keys_kept : (i : Instance) (old new : List PoolTree) (held more : List Held) (j : ℕ) (k : MasterKey) → IsGrown old new → HasMore held more
    → HasKey i.grammar old held j k → HasKey i.grammar new more j k
keys_kept i old new held more j k g m key =
    let at = subst (λ (hs : List Held). slice_get hs j ≡ Some key.one) (sym m.1) (stays held m.0 j key.one key.at) in
    record { one = key.one; at = at; key = key_stays i old new key.one.kind k g key.key }

pub listed_below : (i : Instance) (pool : List PoolTree) (held : List Held) (j : ℕ) (k : MasterKey) → HasKey i.grammar pool held j k → j < length held
listed_below i pool held j k key = slice_get_within held j key.one key.at

pub some_map : {A : Type 0} (o : Option A) (P Q : A → Type 0) → ((a : A) → P a → Q a) → IfSome o P → IfSome o Q
some_map None P Q f h = tt
some_map (Some a) P Q f h = f a h

pub none_map : {A : Type 0} (o : Option A) (P Q : Type 0) → (P → Q) → IfNone o P → IfNone o Q
none_map None P Q f h = f h
none_map (Some a) P Q f h = tt
