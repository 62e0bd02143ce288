-- The nodes and what joins them, one arc after another.
use Rattle.std.proofs.Common.{◌≡◌, ℕ, suc, arith, ◌+◌, ◌-◌, ◌<◌, ◌≤◌, Bool, true, false, cond, List, [], ◌∷◌, ◌++◌, Some, All, length, refl, sym, ap, subst, ◌∙◌, ◌⊎◌, inl, inr, true≢false, length-append, append_assoc, drop}
use Rattle.std.specs.Prelude.{slice_get}
use Rattle.std.proofs.lemmas.Option.{same_Some, slice_get_within}
use Rattle.std.proofs.lemmas.List.Elements.{All-push, All-append, All-weaker, All-nil}
use Rattle.model_rosters.specs.declared.grammar.ArcKey.{ArcKey}
use Rattle.model_rosters.specs.declared.grammar.Grammar.{Grammar}
use Rattle.model_rosters.specs.declared.grammar.Sym.{Sym}
use Rattle.model_rosters.specs.declared.grammar.Sym.TheVariants.{Code, Name}
use Rattle.model_rosters.proofs.tree_laws.ListPushes.{push-kept, push-here, push-cases}
use Rattle.model_rosters.specs.arc_laws.OrNodes.{OrNode, name, suffix, leaf, same_node, right_of, made, symbol_node, rest_node, used_by, used}
use Rattle.model_rosters.specs.arc_laws.AtNodes.{start_of}
use Rattle.tree_graph.specs.declared.kid.Kid.{Kid}
use Rattle.tree_graph.specs.declared.kid.Kid.TheVariants.{Nothing, Letter, Node}
use Rattle.tree_graph.specs.declared.rows.Entry.{Entry}
use Rattle.tree_graph.specs.Graphs.{places_from, places, is_among, IsKid, AreKids}
use Rattle.tree_graph.specs.Lists.{items_of}
use Rattle.tree_graph.specs.Linked.{AddsNode, uses_of, AreLinked}
use Rattle.tree_graph.proofs.ListsLemmas.{items-append, item-own, item-other}
use Rattle.tree_graph.proofs.ArcUsesLemmas.{same-node, own-node, other-node, is_inner, made-inner}

module _ {A : Type 0} (p : A → Bool) where
  places-push : (k : ℕ) (xs : List A) (x : A) → places_from k p (xs ++ x ∷ []) ≡ places_from k p xs ++ cond (p x) ((k + length xs) ∷ []) []
  places-push k [] x = let e : k + 0 ≡ k = omega arith in ap (λ (n : ℕ). cond (p x) (n ∷ []) []) (sym e)
  places-push k (y ∷ xs) x =
      let e : k + 1 + length xs ≡ k + length (y ∷ xs) = omega arith in
      by (p y) (places-push (k + 1) xs x ∙ ap (λ (n : ℕ). places_from (k + 1) p xs ++ cond (p x) (n ∷ []) []) e)
    where
      by : (b : Bool) → places_from (k + 1) p (xs ++ x ∷ []) ≡ places_from (k + 1) p xs ++ cond (p x) ((k + length (y ∷ xs)) ∷ []) []
          → cond b (k ∷ places_from (k + 1) p (xs ++ x ∷ [])) (places_from (k + 1) p (xs ++ x ∷ [])) ≡ cond b (k ∷ places_from (k + 1) p xs) (places_from (k + 1) p xs) ++ cond (p x) ((k + length (y ∷ xs)) ∷ []) []
      by true e = ap (λ (ns : List ℕ). k ∷ ns) e
      by false e = e

  places-next : (xs : List A) (x : A) → places p (xs ++ x ∷ []) ≡ places p xs ++ cond (p x) (length xs ∷ []) []
  places-next xs x = let e : 0 + length xs ≡ length xs = omega arith in places-push 0 xs x ∙ ap (λ (n : ℕ). places p xs ++ cond (p x) (n ∷ []) []) e

  places-none : (k : ℕ) (xs : List A) → ((n : ℕ) (x : A) → slice_get xs n ≡ Some x → p x ≡ false) → places_from k p xs ≡ []
  places-none k [] h = refl
  places-none k (x ∷ xs) h = let e = h 0 x refl in rw e (places-none (k + 1) xs (λ n y f. h (suc n) y f))

-- no entry has a row so high
items-none : (m : ℕ) (es : List Entry) → All (λ (e : Entry). e.row < m) es → items_of m es ≡ []
items-none m [] h = refl
items-none m (e ∷ es) h =
    items-append m (e ∷ []) es
    ∙ ap (λ (xs : List ℕ). xs ++ items_of m es) (item-other m e (λ q. absurd (omega (arith, q, h 0 e (omega arith)))))
    ∙ items-none m es (λ k d l. h (suc k) d (omega (arith, l)))

start-of : (s : Sym) (i l : ℕ) → start_of (symbol_node s i l) ≡ i
start-of (Code c) i l = refl
start-of (Name x) i l = refl

used-apart : (g : Grammar) (a : ArcKey) (u v : OrNode) → 1 ≤ a.part → used g a ≡ u ∷ v ∷ [] → u ≡ v → ⊥
used-apart g a u v some e same = by (drop a.suffix (right_of g a.rule)) e
  where
    first : (x y : OrNode) (xs ys : List OrNode) → x ∷ xs ≡ y ∷ ys → x ≡ y
    first x y xs ys e = cc

    second : (x y : OrNode) (xs ys : List OrNode) → x ∷ xs ≡ y ∷ ys → xs ≡ ys
    second x y xs ys e = cc

    late : (ss : List Sym) → rest_node ss a.rule (suc a.suffix) (a.start + a.part) (a.len - a.part) ≡ v ∷ [] → start_of v ≡ a.start + a.part
    late [] f = cc
    late (s ∷ []) f = sym (ap start_of (first _ _ _ _ f)) ∙ start-of s (a.start + a.part) (a.len - a.part)
    late (s ∷ x ∷ ss) f = sym (ap start_of (first _ _ _ _ f))

    by : (ss : List Sym) → used_by ss a ≡ u ∷ v ∷ [] → ⊥
    by [] f = cc
    by (s ∷ ss) f =
        let early = sym (ap start_of (first _ _ _ _ f)) ∙ start-of s a.start a.part in
        let after = late ss (second _ _ _ _ f) in
        absurd (omega (arith, early, after, ap start_of same, some))

module _ (listed : List OrNode) (once : (n m : ℕ) (o : OrNode) → slice_get listed n ≡ Some o → slice_get listed m ≡ Some o → n ≡ m) (m : ℕ) (o : OrNode) (at : slice_get listed m ≡ Some o) (num : ℕ) where
  node-use : (n : ℕ) (u : OrNode) → slice_get listed n ≡ Some u → items_of m (uses_of (Node n) num) ≡ cond (same_node o u) (num ∷ []) []
  node-use n u e = by (same_node o u) refl
    where
      by : (b : Bool) → same_node o u ≡ b → items_of m (record { row = n; item = num } ∷ []) ≡ cond b (num ∷ []) []
      by true f = item-own m (record { row = n; item = num }) (once n m o (e ∙ ap Some (sym (same-node o u f))) at)
      by false f =
          item-other m (record { row = n; item = num })
          (λ q. absurd (true≢false (sym (own-node o) ∙ subst (λ (y : OrNode). same_node o y ≡ false) (same_Some u o (sym e ∙ ap (slice_get listed) q ∙ at)) f)))

  one-use : is_inner o ≡ true → (u : OrNode) (kid : Kid) → IsKid listed u kid → items_of m (uses_of kid num) ≡ cond (same_node o u) (num ∷ []) []
  one-use inner (leaf l) kid h =
      ap (λ (k : Kid). items_of m (uses_of k num)) h
      ∙ sym (ap (λ (b : Bool). cond b (num ∷ []) []) (other-node o (leaf l) (λ e. true≢false (sym inner ∙ ap is_inner e))))
  one-use inner (name x i l) kid h = ap (λ (k : Kid). items_of m (uses_of k num)) h.1 ∙ node-use h.0 (name x i l) h.2
  one-use inner (suffix r k i l) kid h = ap (λ (k : Kid). items_of m (uses_of k num)) h.1 ∙ node-use h.0 (suffix r k i l) h.2

  pub both-uses : is_inner o ≡ true → (us : List OrNode) (kids : Kid × Kid) → AreKids listed us kids → ((u v : OrNode) → us ≡ u ∷ v ∷ [] → u ≡ v → ⊥)
      → items_of m (uses_of kids.0 num) ++ items_of m (uses_of kids.1 num) ≡ cond (is_among o us) (num ∷ []) []
  both-uses inner [] kids h apart = absurd h
  both-uses inner (u ∷ []) kids h apart =
      let none : items_of m (uses_of kids.1 num) ≡ [] = ap (λ (k : Kid). items_of m (uses_of k num)) h.1 in
      let e = one-use inner u kids.0 h.0 in
      rw (e, none) (by (same_node o u))
    where
      by : (b : Bool) → cond b (num ∷ []) [] ++ [] ≡ cond (cond b true false) (num ∷ []) []
      by true = refl
      by false = refl
  both-uses inner (u ∷ v ∷ []) kids h apart =
      let e = one-use inner u kids.0 h.0 in
      let f = one-use inner v kids.1 h.1 in
      rw (e, f) (by (same_node o u) (same_node o v) refl refl)
    where
      by : (a b : Bool) → same_node o u ≡ a → same_node o v ≡ b → cond a (num ∷ []) [] ++ cond b (num ∷ []) [] ≡ cond (cond a true (cond b true false)) (num ∷ []) []
      by true true p q = absurd (apart u v refl (sym (same-node o u p) ∙ same-node o v q))
      by true false p q = refl
      by false true p q = refl
      by false false p q = refl
  both-uses inner (u ∷ v ∷ w ∷ us) kids h apart = absurd h

-- a node that is used and not listed is none of the kids
kid-listed : (listed : List OrNode) (o u : OrNode) (kid : Kid) → IsKid listed u kid → is_inner o ≡ true → o ≡ u → (n : ℕ) × (slice_get listed n ≡ Some o)
kid-listed listed o (leaf l) kid h inner e = absurd (true≢false (sym inner ∙ ap is_inner e))
kid-listed listed o (name x i l) kid h inner e = (h.0, h.2 ∙ ap Some (sym e))
kid-listed listed o (suffix r k i l) kid h inner e = (h.0, h.2 ∙ ap Some (sym e))

among-listed : (listed : List OrNode) (o : OrNode) → is_inner o ≡ true → ((n : ℕ) → slice_get listed n ≡ Some o → ⊥) → (us : List OrNode) (kids : Kid × Kid) → AreKids listed us kids → is_among o us ≡ false
among-listed listed o inner none [] kids h = absurd h
among-listed listed o inner none (u ∷ []) kids h =
    let a = other-node o u (λ e. let k = kid-listed listed o u kids.0 h.0 inner e in none k.0 k.1) in
    rw a refl
among-listed listed o inner none (u ∷ v ∷ []) kids h =
    let a = other-node o u (λ e. let k = kid-listed listed o u kids.0 h.0 inner e in none k.0 k.1) in
    let b = other-node o v (λ e. let k = kid-listed listed o v kids.1 h.1 inner e in none k.0 k.1) in
    rw (a, b) refl
among-listed listed o inner none (u ∷ v ∷ w ∷ us) kids h = absurd h

kid-kept : (old new : List OrNode) → ((n : ℕ) (o : OrNode) → slice_get old n ≡ Some o → slice_get new n ≡ Some o) → (u : OrNode) (kid : Kid) → IsKid old u kid → IsKid new u kid
kid-kept old new keep (leaf l) kid h = h
kid-kept old new keep (name x i l) kid h = (h.0, h.1, keep h.0 (name x i l) h.2)
kid-kept old new keep (suffix r k i l) kid h = (h.0, h.1, keep h.0 (suffix r k i l) h.2)

kids-kept : (old new : List OrNode) → ((n : ℕ) (o : OrNode) → slice_get old n ≡ Some o → slice_get new n ≡ Some o) → (us : List OrNode) (kids : Kid × Kid) → AreKids old us kids → AreKids new us kids
kids-kept old new keep [] kids h = h
kids-kept old new keep (u ∷ []) kids h = (kid-kept old new keep u kids.0 h.0, h.1)
kids-kept old new keep (u ∷ v ∷ []) kids h = (kid-kept old new keep u kids.0 h.0, kid-kept old new keep v kids.1 h.1)
kids-kept old new keep (u ∷ v ∷ w ∷ us) kids h = h

-- the rows of the uses of an arc
kid-rows : (listed : List OrNode) (u : OrNode) (kid : Kid) (num : ℕ) → IsKid listed u kid → All (λ (e : Entry). e.row < length listed) (uses_of kid num)
kid-rows listed (leaf l) kid num h = subst (λ (k : Kid). All (λ (e : Entry). e.row < length listed) (uses_of k num)) (sym h) (All-nil _)
kid-rows listed (name x i l) kid num h =
    subst (λ (k : Kid). All (λ (e : Entry). e.row < length listed) (uses_of k num)) (sym h.1)
    (All-push (λ (e : Entry). e.row < length listed) [] (record { row = h.0; item = num }) (All-nil _) (slice_get_within listed h.0 (name x i l) h.2))
kid-rows listed (suffix r j i l) kid num h =
    subst (λ (k : Kid). All (λ (e : Entry). e.row < length listed) (uses_of k num)) (sym h.1)
    (All-push (λ (e : Entry). e.row < length listed) [] (record { row = h.0; item = num }) (All-nil _) (slice_get_within listed h.0 (suffix r j i l) h.2))

nothing-rows : (listed : List OrNode) (kid : Kid) (num : ℕ) → kid ≡ Nothing → All (λ (e : Entry). e.row < length listed) (uses_of kid num)
nothing-rows listed kid num h = subst (λ (k : Kid). All (λ (e : Entry). e.row < length listed) (uses_of k num)) (sym h) (All-nil _)

kids-rows : (listed us : List OrNode) (kids : Kid × Kid) (num : ℕ) → AreKids listed us kids → All (λ (e : Entry). e.row < length listed) (uses_of kids.0 num) × All (λ (e : Entry). e.row < length listed) (uses_of kids.1 num)
kids-rows listed [] kids num h = absurd h
kids-rows listed (u ∷ []) kids num h = (kid-rows listed u kids.0 num h.0, nothing-rows listed kids.1 num h.1)
kids-rows listed (u ∷ v ∷ []) kids num h = (kid-rows listed u kids.0 num h.0, kid-rows listed v kids.1 num h.1)
kids-rows listed (u ∷ v ∷ w ∷ us) kids num h = absurd h

uses-few : (kid : Kid) (num : ℕ) → length (uses_of kid num) ≤ 1
uses-few Nothing num = omega arith
uses-few (Letter c i) num = omega arith
uses-few (Node n) num = omega arith

pub linked-none : (g : Grammar) → AreLinked g [] [] [] [] [] [] []
linked-none g = record {
  nodes = record { made = λ n o e. cc; once = λ n m o e f. cc };
  few = omega arith;
  one_each = refl;
  made_by = λ p a e. cc;
  first_each = refl;
  rest_each = refl;
  kids = λ p a e. cc;
  makers = λ n o e. cc;
  users = λ n o e. cc;
  maker_rows = All-nil _;
  user_rows = All-nil _;
  few_makers = omega arith;
  few_users = omega arith;
}

module _ (g : Grammar) (arcs : List ArcKey) (listed : List OrNode) (numbers : List ℕ) (firsts rests : List Kid) (me ue : List Entry) (h : AreLinked g arcs listed numbers firsts rests me ue)
    (a : ArcKey) (some : 1 ≤ a.part) (kids : Kid × Kid) (are : AreKids listed (used g a) kids) (more : List OrNode) (n : ℕ) (adds : AddsNode listed (made g a) more n) where
  keep : (m : ℕ) (o : OrNode) → slice_get listed m ≡ Some o → slice_get more m ≡ Some o
  keep m o e = by adds
    where
      by : AddsNode listed (made g a) more n → slice_get more m ≡ Some o
      by (inl k) = ap (λ (os : List OrNode). slice_get os m) k.0 ∙ e
      by (inr k) = ap (λ (os : List OrNode). slice_get os m) k.0 ∙ push-kept listed (made g a) o m e

  number-at : slice_get more n ≡ Some (made g a)
  number-at = by adds
    where
      by : AddsNode listed (made g a) more n → slice_get more n ≡ Some (made g a)
      by (inl k) = keep n (made g a) k.1
      by (inr k) = ap (λ (os : List OrNode). slice_get os n) k.0 ∙ ap (slice_get (listed ++ made g a ∷ [])) k.1 ∙ push-here listed (made g a)

  -- a node was there, or is new and is the one that the arc makes
  cases : (m : ℕ) (o : OrNode) → slice_get more m ≡ Some o → (slice_get listed m ≡ Some o) ⊎ ((m ≡ length listed) × (o ≡ made g a) × ((q : ℕ) → slice_get listed q ≡ Some o → ⊥))
  cases m o e = by adds
    where
      by : AddsNode listed (made g a) more n → (slice_get listed m ≡ Some o) ⊎ ((m ≡ length listed) × (o ≡ made g a) × ((q : ℕ) → slice_get listed q ≡ Some o → ⊥))
      by (inl k) = inl (sym (ap (λ (os : List OrNode). slice_get os m) k.0) ∙ e)
      by (inr k) = pick (push-cases listed (made g a) o m (sym (ap (λ (os : List OrNode). slice_get os m) k.0) ∙ e))
        where
          pick : (slice_get listed m ≡ Some o) ⊎ ((m ≡ length listed) × (o ≡ made g a)) → (slice_get listed m ≡ Some o) ⊎ ((m ≡ length listed) × (o ≡ made g a) × ((q : ℕ) → slice_get listed q ≡ Some o → ⊥))
          pick (inl f) = inl f
          pick (inr f) = inr (f.0, f.1, λ q e2. k.2 q (e2 ∙ ap Some f.1))

  once : (p q : ℕ) (o : OrNode) → slice_get more p ≡ Some o → slice_get more q ≡ Some o → p ≡ q
  once p q o e f = by (cases p o e) (cases q o f)
    where
      by : (slice_get listed p ≡ Some o) ⊎ ((p ≡ length listed) × (o ≡ made g a) × ((q : ℕ) → slice_get listed q ≡ Some o → ⊥))
          → (slice_get listed q ≡ Some o) ⊎ ((q ≡ length listed) × (o ≡ made g a) × ((q : ℕ) → slice_get listed q ≡ Some o → ⊥)) → p ≡ q
      by (inl x) (inl y) = h.nodes.once p q o x y
      by (inl x) (inr y) = absurd (y.2 p x)
      by (inr x) (inl y) = absurd (x.2 q y)
      by (inr x) (inr y) = x.0 ∙ sym y.0

  inner : (m : ℕ) (o : OrNode) → slice_get more m ≡ Some o → is_inner o ≡ true
  inner m o e = by (cases m o e)
    where
      by : (slice_get listed m ≡ Some o) ⊎ ((m ≡ length listed) × (o ≡ made g a) × ((q : ℕ) → slice_get listed q ≡ Some o → ⊥)) → is_inner o ≡ true
      by (inl x) = let k = h.nodes.made m o x in subst (λ (y : OrNode). is_inner y ≡ true) k.3 (made-inner g k.1)
      by (inr x) = subst (λ (y : OrNode). is_inner y ≡ true) (sym x.1) (made-inner g a)

  longer : length listed ≤ length more
  longer = by adds
    where
      by : AddsNode listed (made g a) more n → length listed ≤ length more
      by (inl k) = let e = ap length k.0 in omega (arith, e)
      by (inr k) = let e = ap length k.0 in omega (arith, e, length-append listed (made g a ∷ []))

  grown : length more ≤ length listed + 1
  grown = by adds
    where
      by : AddsNode listed (made g a) more n → length more ≤ length listed + 1
      by (inl k) = let e = ap length k.0 in omega (arith, e)
      by (inr k) = let e = ap length k.0 in omega (arith, e, length-append listed (made g a ∷ []))

  abbrev entry : Entry
  entry = record { row = n; item = length numbers }

  abbrev makes : OrNode → ArcKey → Bool
  makes o b = same_node o (made g b)

  abbrev uses : OrNode → ArcKey → Bool
  uses o b = is_among o (used g b)

  -- the arcs before that make the node
  old-makers : (m : ℕ) (o : OrNode) → slice_get more m ≡ Some o → items_of m me ≡ places (makes o) arcs
  old-makers m o e = by (cases m o e)
    where
      by : (slice_get listed m ≡ Some o) ⊎ ((m ≡ length listed) × (o ≡ made g a) × ((q : ℕ) → slice_get listed q ≡ Some o → ⊥)) → items_of m me ≡ places (makes o) arcs
      by (inl x) = h.makers m o x
      by (inr x) =
          items-none m me (subst (λ (l : ℕ). All (λ (e : Entry). e.row < l) me) (sym x.0) h.maker_rows)
          ∙ sym (places-none (makes o) 0 arcs (λ p b f. other-node o (made g b) (λ s. let k = h.made_by p b f in x.2 k.0 (k.2 ∙ ap Some (sym s)))))

  old-users : (m : ℕ) (o : OrNode) → slice_get more m ≡ Some o → items_of m ue ≡ places (uses o) arcs
  old-users m o e = by (cases m o e)
    where
      by : (slice_get listed m ≡ Some o) ⊎ ((m ≡ length listed) × (o ≡ made g a) × ((q : ℕ) → slice_get listed q ≡ Some o → ⊥)) → items_of m ue ≡ places (uses o) arcs
      by (inl x) = h.users m o x
      by (inr x) =
          items-none m ue (subst (λ (l : ℕ). All (λ (e : Entry). e.row < l) ue) (sym x.0) h.user_rows)
          ∙ sym (places-none (uses o) 0 arcs (λ p b f. let k = h.kids p b f in among-listed listed o (inner m o e) x.2 (used g b) k.0 k.3))

  -- the arc itself, where it makes the node
  new-maker : (m : ℕ) (o : OrNode) → slice_get more m ≡ Some o → items_of m (entry ∷ []) ≡ cond (makes o a) (length numbers ∷ []) []
  new-maker m o e = by (makes o a) refl
    where
      by : (b : Bool) → makes o a ≡ b → items_of m (entry ∷ []) ≡ cond b (length numbers ∷ []) []
      by true f = item-own m entry (once n m o (number-at ∙ ap Some (sym (same-node o (made g a) f))) e)
      by false f =
          item-other m entry
          (λ q. absurd (true≢false (sym (own-node o) ∙ subst (λ (y : OrNode). same_node o y ≡ false) (same_Some (made g a) o (sym number-at ∙ ap (slice_get more) q ∙ e)) f)))

  rows-kept : (es : List Entry) → All (λ (e : Entry). e.row < length listed) es → All (λ (e : Entry). e.row < length more) es
  rows-kept es f = All-weaker (λ (e : Entry). e.row < length listed) (λ (e : Entry). e.row < length more) (λ e l. omega (arith, l, longer)) es f

  -- one arc more is linked
  pub linked-more : AreLinked g (arcs ++ a ∷ []) more (numbers ++ n ∷ []) (firsts ++ kids.0 ∷ []) (rests ++ kids.1 ∷ []) (me ++ record { row = n; item = length numbers } ∷ []) ((ue ++ uses_of kids.0 (length numbers)) ++ uses_of kids.1 (length numbers))
  linked-more = record {
    nodes = record {
      made = λ m o e. made-at m o (cases m o e);
      once = once;
    };
    few = omega (arith, h.few, grown, length-append arcs (a ∷ []));
    one_each = omega (arith, h.one_each, length-append arcs (a ∷ []), length-append numbers (n ∷ []));
    made_by = λ p b e. number p b (push-cases arcs a b p e);
    first_each = omega (arith, h.first_each, length-append arcs (a ∷ []), length-append firsts (kids.0 ∷ []));
    rest_each = omega (arith, h.rest_each, length-append arcs (a ∷ []), length-append rests (kids.1 ∷ []));
    kids = λ p b e. kids-of p b (push-cases arcs a b p e);
    makers = λ m o e.
        items-append m me (entry ∷ [])
        ∙ ap (λ (xs : List ℕ). xs ++ items_of m (entry ∷ [])) (old-makers m o e)
        ∙ ap (λ (xs : List ℕ). places (makes o) arcs ++ xs) (new-maker m o e)
        ∙ ap (λ (k : ℕ). places (makes o) arcs ++ cond (makes o a) (k ∷ []) []) h.one_each
        ∙ sym (places-next (makes o) arcs a);
    users = λ m o e.
        items-append m (ue ++ uses_of kids.0 (length numbers)) (uses_of kids.1 (length numbers))
        ∙ ap (λ (xs : List ℕ). xs ++ items_of m (uses_of kids.1 (length numbers))) (items-append m ue (uses_of kids.0 (length numbers)))
        ∙ append_assoc (items_of m ue) (items_of m (uses_of kids.0 (length numbers))) (items_of m (uses_of kids.1 (length numbers)))
        ∙ ap (λ (xs : List ℕ). xs ++ (items_of m (uses_of kids.0 (length numbers)) ++ items_of m (uses_of kids.1 (length numbers)))) (old-users m o e)
        ∙ ap (λ (xs : List ℕ). places (uses o) arcs ++ xs) (both-uses more once m o e (length numbers) (inner m o e) (used g a) kids (kids-kept listed more keep (used g a) kids are) (λ u v. used-apart g a u v some))
        ∙ ap (λ (k : ℕ). places (uses o) arcs ++ cond (uses o a) (k ∷ []) []) h.one_each
        ∙ sym (places-next (uses o) arcs a);
    maker_rows = All-push (λ (e : Entry). e.row < length more) me entry (rows-kept me h.maker_rows) (slice_get_within more n (made g a) number-at);
    user_rows =
        let own = kids-rows listed (used g a) kids (length numbers) are in
        All-append (λ (e : Entry). e.row < length more) (ue ++ uses_of kids.0 (length numbers)) (uses_of kids.1 (length numbers))
        (All-append (λ (e : Entry). e.row < length more) ue (uses_of kids.0 (length numbers)) (rows-kept ue h.user_rows) (rows-kept _ own.0))
        (rows-kept _ own.1);
    few_makers = omega (arith, h.few_makers, length-append arcs (a ∷ []), length-append me (entry ∷ []));
    few_users = omega (arith, h.few_users, length-append arcs (a ∷ []), length-append (ue ++ uses_of kids.0 (length numbers)) (uses_of kids.1 (length numbers)), length-append ue (uses_of kids.0 (length numbers)), uses-few kids.0 (length numbers), uses-few kids.1 (length numbers));
  }
    where
      made-at : (m : ℕ) (o : OrNode) → (slice_get listed m ≡ Some o) ⊎ ((m ≡ length listed) × (o ≡ made g a) × ((q : ℕ) → slice_get listed q ≡ Some o → ⊥))
          → (p : ℕ) × (b : ArcKey) × (slice_get (arcs ++ a ∷ []) p ≡ Some b) × (made g b ≡ o)
      made-at m o (inl x) = let k = h.nodes.made m o x in (k.0, k.1, push-kept arcs a k.1 k.0 k.2, k.3)
      made-at m o (inr x) = (length arcs, a, push-here arcs a, sym x.1)

      number : (p : ℕ) (b : ArcKey) → (slice_get arcs p ≡ Some b) ⊎ ((p ≡ length arcs) × (b ≡ a)) → (k : ℕ) × (slice_get (numbers ++ n ∷ []) p ≡ Some k) × (slice_get more k ≡ Some (made g b))
      number p b (inl e) = let k = h.made_by p b e in (k.0, push-kept numbers n k.0 p k.1, keep k.0 (made g b) k.2)
      number p b (inr e) = (n, ap (slice_get (numbers ++ n ∷ [])) (e.0 ∙ sym h.one_each) ∙ push-here numbers n, number-at ∙ ap (λ (x : ArcKey). Some (made g x)) (sym e.1))

      kids-of : (p : ℕ) (b : ArcKey) → (slice_get arcs p ≡ Some b) ⊎ ((p ≡ length arcs) × (b ≡ a)) → (k : Kid × Kid) × (slice_get (firsts ++ kids.0 ∷ []) p ≡ Some k.0) × (slice_get (rests ++ kids.1 ∷ []) p ≡ Some k.1) × AreKids more (used g b) k
      kids-of p b (inl e) = let k = h.kids p b e in (k.0, push-kept firsts kids.0 k.0.0 p k.1, push-kept rests kids.1 k.0.1 p k.2, kids-kept listed more keep (used g b) k.0 k.3)
      kids-of p b (inr e) = (
        kids,
        ap (slice_get (firsts ++ kids.0 ∷ [])) (e.0 ∙ sym h.first_each) ∙ push-here firsts kids.0,
        ap (slice_get (rests ++ kids.1 ∷ [])) (e.0 ∙ sym h.rest_each) ∙ push-here rests kids.1,
        subst (λ (x : ArcKey). AreKids more (used g x) kids) (sym e.1) (kids-kept listed more keep (used g a) kids are),
      )

  -- the same, each list under its new name
  pub linked-done : (num : ℕ) → num ≡ length numbers → (numbers2 : List ℕ) → numbers2 ≡ numbers ++ n ∷ [] → (firsts2 : List Kid) → firsts2 ≡ firsts ++ kids.0 ∷ [] → (rests2 : List Kid) → rests2 ≡ rests ++ kids.1 ∷ []
      → (me2 : List Entry) → me2 ≡ me ++ record { row = n; item = num } ∷ [] → (mid ue2 : List Entry) → mid ≡ ue ++ uses_of kids.0 num → ue2 ≡ mid ++ uses_of kids.1 num
      → AreLinked g (arcs ++ a ∷ []) more numbers2 firsts2 rests2 me2 ue2
  linked-done num e numbers2 f firsts2 p rests2 o me2 q mid ue2 r s = rw (f, p, o, q, s, r, e) linked-more
