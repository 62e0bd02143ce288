-- Marks are added, each one true, and what was closed stays so.
use Rattle.std.proofs.Common.{◌≡◌, ◌≢◌, ℕ, ℤ, zero, suc, pos, ◌<◌, ◌≤◌, ◌+◌, ◌-◌, ◌*◌, Bool, true, false, List, [], ◌∷◌, Option, None, Some, arith, refl, subst, sym, ap, ◌∙◌, ◌⊎◌, inl, inr, length, set, get_or, drop, replicate, get_or-set_other, get_or-set_same}
use Rattle.std.specs.Prelude.{slice_get, IsTrue, ◌↔◌}
use Rattle.std.specs.Option.{is_some}
use Rattle.std.proofs.lemmas.Nat.{mul-add-lt, mul-le}
use Rattle.std.proofs.lemmas.List.{length-set}
use Rattle.std.proofs.lemmas.Option.{same_Some, slice_get_within}
use Rattle.model_rosters.specs.declared.grammar.Grammar.{Grammar}
use Rattle.model_rosters.specs.declared.grammar.Sym.{Sym}
use Rattle.model_rosters.specs.declared.grammar.Sym.TheVariants.{Code, Name}
use Rattle.model_rosters.specs.Grammar.{InDay}
use Rattle.model_rosters.specs.Trees.{Parts, done, letter, uses}
use Rattle.model_rosters.specs.Sums.{IsLeast, AtMost, parts_sum, tree_sum, arc_sum}
use Rattle.tree_span_cells.specs.Places.{shorter, place_of}
use Rattle.tree_span_cells.proofs.FormRows.{place-within, place-before, place-apart, shorter-next}
use Rattle.model_rosters.proofs.tree_laws.PartLoop.{less_or_same}
use Rattle.model_rosters.proofs.tree_laws.Rules.{rule_at-within}
use Rattle.tree_span_cells.specs.declared.slot.Layout.{Layout}
use Rattle.tree_span_cells.specs.declared.slot.Slot.{Slot}
use Rattle.tree_span_cells.specs.declared.slot.Slot.TheVariants.{OfName, OfSuffix}
use Rattle.tree_span_cells.specs.Cells.{place, cell_count, name_slot, suffix_slot, IsLayoutOf, FitsCells}
use Rattle.tree_span_arcs.specs.Marks.{free_view, TreesStand, mark, SymbolMarked, RestMarked, SplitMarked, SplitsMarked, PartsClosed, RuleClosed, SlotClosed, SlotStands, AreTrue, ClosedFrom, Adds}
use Rattle.model_rosters.specs.Sound.{IsSound}
use Rattle.tree_span_cells.specs.Chains.{IsFirstRule}
use Rattle.tree_span_arcs.specs.Flags.{IsFree}
use Rattle.tree_span_cells.proofs.CellsLemmas.{same-row, day_of}
use Rattle.tree_span_cells.proofs.Slots.{name_slot-within}

free-arc : (t : Parts) (r k i m : ℕ) → arc_sum free_view r k i m t ≡ pos 0
free-arc done r zero i m = refl
free-arc done r (suc k) i m = refl
free-arc (letter c rest) r zero i m = refl
free-arc (letter c rest) r (suc k) i m = refl
free-arc (uses q n inner rest) r zero i m = refl
free-arc (uses q n inner rest) r (suc k) i m = refl

-- under free prices all parts have the sum 0
pub free-parts : (t : Parts) (r k i : ℕ) → parts_sum free_view r k i t ≡ Some (pos 0)
free-parts done r k i = refl
free-parts (letter c rest) r k i = rw (free-arc rest r k i 1, free-parts rest r (suc k) (i + 1)) refl
free-parts (uses q n inner rest) r k i = rw (free-parts inner q 0 i, free-arc rest r k i n, free-parts rest r (suc k) (i + n)) refl

-- so have all trees
pub free-tree : (t : Parts) (i : ℕ) → tree_sum free_view i t ≡ Some (pos 0)
free-tree done i = refl
free-tree (letter c rest) i = refl
free-tree (uses q n inner rest) i = rw (free-parts inner q 0 i) refl

-- so a least sum is 0 where it is there
pub least-free : (P : Parts → Type 0) (sum : Parts → Option ℤ) (v : Option ℤ) → IsLeast P sum v → ((t : Parts) → sum t ≡ Some (pos 0)) → IsFree v
least-free P sum None h all = tt
least-free P sum (Some z) h all = let a = h.attained in same_Some z (pos 0) (sym a.2 ∙ all a.0)

-- so flags can hold the least sums of all slots
pub flags-fit : (g : Grammar) (lay : Layout) → IsLayoutOf g lay → FitsCells g free_view lay IsFree
flags-fit g lay fits s i l (OfName x) v at least within = least-free _ _ v least (λ t. free-tree t i)
flags-fit g lay fits s i l (OfSuffix x) v at least within =
    let h = fits.parted s x at in
    least-free _ _ v (least h.rule h.at) (λ t. free-parts t x.rule x.from i)

-- where all have a sum, there is a least sum where there is one of them
pub some-least : (P : Parts → Type 0) (sum : Parts → Option ℤ) (v : Option ℤ) → IsLeast P sum v → ((t : Parts) → sum t ≡ Some (pos 0)) → (t : Parts) × P t → (z : ℤ) × (v ≡ Some z)
some-least P sum (Some z) h all t = (z, refl)
some-least P sum None h all t = absurd (subst (λ (q : Option ℤ). AtMost None q) (all t.0) (h.least t.0 t.1))

-- and only there
pub least-some : (P : Parts → Type 0) (sum : Parts → Option ℤ) (v : Option ℤ) (z : ℤ) → IsLeast P sum v → v ≡ Some z → (t : Parts) × P t
least-some P sum None z h e = cc
least-some P sum (Some y) z h e = (h.attained.0, h.attained.1)

-- so an answer whether there is a least sum tells whether there is one of them
pub some-told : (P : Parts → Type 0) (sum : Parts → Option ℤ) (v : Option ℤ) (b : Bool) → b ≡ is_some v → IsLeast P sum v → ((t : Parts) → sum t ≡ Some (pos 0))
    → IsTrue b ↔ ((t : Parts) × P t)
some-told P sum None b e h all = (λ k. let q : is_some {T = ℤ} None ≡ true = sym e ∙ k in cc, λ t. let z = some-least P sum None h all t in cc)
some-told P sum (Some z) b e h all = (λ k. (h.attained.0, h.attained.1), λ t. rw e refl)

module _ (g : Grammar) (lay : Layout) where
  -- none added
  pub adds-none : (n : ℕ) (ms : List Bool) → Adds g lay n ms ms
  adds-none n ms = record { count = refl; kept = λ q h. h; same = λ q h. refl; truth = λ h. h }

  -- one addition after another
  pub adds-more : (n : ℕ) (a b c : List Bool) → Adds g lay n a b → Adds g lay n b c → Adds g lay n a c
  adds-more n a b c h k = record {
    count = k.count ∙ h.count;
    kept = λ q e. k.kept q (h.kept q e);
    same = λ q e. k.same q e ∙ h.same q e;
    truth = λ e. k.truth (h.truth e);
  }

  -- what is added before a place is added before a later one
  pub adds-up : (m n : ℕ) (a b : List Bool) → m ≤ n → Adds g lay m a b → Adds g lay n a b
  adds-up m n a b le h = record { count = h.count; kept = h.kept; same = λ q e. h.same q (omega (arith, e, le)); truth = h.truth }

  module _ (n : ℕ) (a b : List Bool) (adds : Adds g lay n a b) where
    -- what was marked stays so
    pub symbol-kept : (s : Sym) (i l : ℕ) → SymbolMarked lay a s i l → SymbolMarked lay b s i l
    symbol-kept (Code c) i l h = h
    symbol-kept (Name x) i l h = adds.kept (place lay (name_slot lay x) i l) h

    pub rest-kept : (r k : ℕ) (ss : List Sym) (i l : ℕ) → RestMarked lay a r k ss i l → RestMarked lay b r k ss i l
    rest-kept r k [] i l h = h
    rest-kept r k (s ∷ []) i l h = symbol-kept s i l h
    rest-kept r k (s ∷ x ∷ ss) i l h = adds.kept (place lay (suffix_slot lay r k) i l) h

    pub split-kept : (r k : ℕ) (s : Sym) (ss : List Sym) (i m n : ℕ) → SplitMarked g lay a r k s ss i m n → SplitMarked g lay b r k s ss i m n
    split-kept r k s ss i m n h one two = let o = h one two in (symbol-kept s i m o.0, rest-kept r (k + 1) ss (i + m) n o.1)

    pub splits-kept : (r k : ℕ) (s : Sym) (ss : List Sym) (i l end : ℕ) → SplitsMarked g lay a r k s ss i l end → SplitsMarked g lay b r k s ss i l end
    splits-kept r k s ss i l end h m one less = split-kept r k s ss i m (l - m) (h m one less)

    -- one length more of a first part
    pub splits-next : (r k : ℕ) (s : Sym) (ss : List Sym) (i l m : ℕ) → SplitsMarked g lay a r k s ss i l m → SplitMarked g lay b r k s ss i m (l - m)
        → SplitsMarked g lay b r k s ss i l (m + 1)
    splits-next r k s ss i l m h new j one less = go (less_or_same j m less)
      where
        go : (j < m) ⊎ (j ≡ m) → SplitMarked g lay b r k s ss i j (l - j)
        go (inl lt) = split-kept r k s ss i j (l - j) (h j one lt)
        go (inr e) = subst (λ (q : ℕ). SplitMarked g lay b r k s ss i q (l - q)) (sym e) new

    -- and what was closed
    pub parts-kept : (r k : ℕ) (ss : List Sym) (i l : ℕ) → PartsClosed g lay a r k ss i l → PartsClosed g lay b r k ss i l
    parts-kept r k [] i l h = h
    parts-kept r k (s ∷ []) i l h = symbol-kept s i l h
    parts-kept r k (s ∷ x ∷ ss) i l h = splits-kept r k s (x ∷ ss) i l l h

    pub rule-kept : (x i l r : ℕ) → RuleClosed g lay a x i l r → RuleClosed g lay b x i l r
    rule-kept x i l r h rule at left stands = parts-kept r 0 rule.right i l (h rule at left stands)

    -- one rule more
    pub rules-next : (x i l m n : ℕ) → IsFirstRule g x (m + 1) n → ((r : ℕ) → r < m → RuleClosed g lay a x i l r) → RuleClosed g lay b x i l m → (r : ℕ) → r < n → RuleClosed g lay b x i l r
    rules-next x i l m n first h new r less = go (below r m)
      where
        below : (r m : ℕ) → (r < m) ⊎ ((r ≡ m) ⊎ (m + 1 ≤ r))
        below r m = grind arith

        go : (r < m) ⊎ ((r ≡ m) ⊎ (m + 1 ≤ r)) → RuleClosed g lay b x i l r
        go (inl lt) = rule-kept x i l r (h r lt)
        go (inr (inl e)) = subst (λ (q : ℕ). RuleClosed g lay b x i l q) (sym e) new
        go (inr (inr le)) = λ rule at left stands. absurd (first.others r rule le less at left)

    pub slot-kept : (what : Slot) (i l : ℕ) → SlotClosed g lay a what i l → SlotClosed g lay b what i l
    slot-kept (OfName x) i l h = λ r. rule-kept x i l r (h r)
    slot-kept (OfSuffix s) i l h = λ rule at. parts-kept s.rule s.from (drop s.from rule.right) i l (h rule at)

    -- what was closed from a place on stays so where marks are added before it
    pub closed-kept : ClosedFrom g lay a n → ClosedFrom g lay b n
    closed-kept h s i l what here day at marked =
        slot-kept what i l (h s i l what here day at (sym (adds.same (place lay s i l) at) ∙ marked))

  module _ (fits : IsLayoutOf g lay) where
    -- a slot on a span has a place
    pub place-inside : (s i l : ℕ) → s < length lay.slots.items → InDay g.periods i l → place lay s i l < cell_count lay
    place-inside s i l lt day =
        let q = mul-add-lt (place_of lay.spans i l) (length lay.slots.items) s (shorter lay.spans lay.spans) (place-within lay.spans i l (day_of g free_view lay fits i l day)) lt in
        omega (arith, q)

    -- one mark more, of what stands
    pub adds-one : (ms : List Bool) (s i l n : ℕ) (what : Slot) → slice_get lay.slots.items s ≡ Some what → InDay g.periods i l → length ms ≡ cell_count lay
        → SlotStands g what i l → place lay s i l < n → Adds g lay n ms (set ms (place lay s i l) true)
    adds-one ms s i l n what here day room stands before = record {
      count = length-set ms (place lay s i l) true;
      kept = kept;
      same = λ q le. let ne : q ≢ place lay s i l = omega (arith, le, before) in get_or-set_other ms (place lay s i l) q true false ne;
      truth = truth;
    }
      where
        inside : place lay s i l < length ms
        inside = let q = place-inside s i l (slice_get_within lay.slots.items s what here) day in omega (arith, q, room)

        same_or_not : (a b : ℕ) → (a ≡ b) ⊎ (a ≢ b)
        same_or_not a b = grind arith

        kept : (q : ℕ) → get_or ms q false ≡ true → get_or (set ms (place lay s i l) true) q false ≡ true
        kept q h = elim (same_or_not q (place lay s i l)) [
          | inl e ↦ rw (e, get_or-set_same ms (place lay s i l) true false inside) refl
          | inr e ↦ get_or-set_other ms (place lay s i l) q true false e ∙ h
        ]

        truth : AreTrue g lay ms → AreTrue g lay (set ms (place lay s i l) true)
        truth all t j m other there' day' marked = go (same_or_not (place lay t j m) (place lay s i l))
          where
            go : (place lay t j m ≡ place lay s i l) ⊎ (place lay t j m ≢ place lay s i l) → SlotStands g other j m
            go (inr ne) = all t j m other there' day' (sym (get_or-set_other ms (place lay s i l) (place lay t j m) true false ne) ∙ marked)
            go (inl eq) =
                let row = same-row (length lay.slots.items) (place_of lay.spans j m) t (place_of lay.spans i l) s
                (slice_get_within lay.slots.items t other there') (slice_get_within lay.slots.items s what here) eq in
                let sp = place-apart lay.spans j m i l (day_of g free_view lay fits j m day') (day_of g free_view lay fits i l day) row.0 in
                let es : t ≡ s = row.1 in
                let w : other ≡ what = same_Some other what (sym there' ∙ ap (λ (q : ℕ). slice_get lay.slots.items q) es ∙ here) in
                rw (w, sp.0, sp.1) stands

    -- and it is there
    pub mark-one : (ms : List Bool) (s i l : ℕ) → s < length lay.slots.items → InDay g.periods i l → length ms ≡ cell_count lay
        → mark lay (set ms (place lay s i l) true) s i l ≡ true
    mark-one ms s i l lt day room =
        let q = place-inside s i l lt day in
        get_or-set_same ms (place lay s i l) true false (omega (arith, q, room))

    -- the cells of a shorter span come before those of a longer one
    pub span-before : (s i l j m : ℕ) → InDay g.periods i l → InDay g.periods j m → m < l → place lay (length lay.slots.items) j m ≤ place lay s i l
    span-before s i l j m day there' less =
        let b = place-before lay.spans j m i l (day_of g free_view lay fits j m there') (day_of g free_view lay fits i l day) less in
        let c : (place_of lay.spans j m + 1) * length lay.slots.items ≤ place_of lay.spans i l * length lay.slots.items =
        mul-le (place_of lay.spans j m + 1) (length lay.slots.items) (place_of lay.spans i l) (length lay.slots.items) (omega (arith, b)) (omega arith) in
        omega (arith, c)

  -- all rules closed make the name closed
  pub rules-closed : (ms : List Bool) (x i l : ℕ) → ((r : ℕ) → r ≤ length g.rules → RuleClosed g lay ms x i l r) → SlotClosed g lay ms (OfName x) i l
  rules-closed ms x i l h = λ r rule at left stands. h r (rule_at-within g r rule at).1 rule at left stands

  module _ (fits : IsLayoutOf g lay) where
    -- beyond the last place nothing is marked
    pub closed-beyond : (ms : List Bool) → ClosedFrom g lay ms (cell_count lay)
    closed-beyond ms s i l what here day at marked =
        absurd (omega (arith, at, place-inside fits s i l (slice_get_within lay.slots.items s what here) day))

    -- one place more, from the last to the first
    pub closed-next : (a b : List Bool) (s i l : ℕ) → s < length lay.slots.items → InDay g.periods i l → Adds g lay (place lay s i l) a b → ClosedFrom g lay a (place lay s i l + 1)
        → ((what : Slot) → slice_get lay.slots.items s ≡ Some what → mark lay b s i l ≡ true → SlotClosed g lay b what i l) → ClosedFrom g lay b (place lay s i l)
    closed-next a b s i l lt day adds after new t j m what here there' at marked =
        go (less_or_same (place lay s i l) (place lay t j m) (omega (arith, at)))
      where
        go : (place lay s i l < place lay t j m) ⊎ (place lay s i l ≡ place lay t j m) → SlotClosed g lay b what j m
        go (inl less) =
            closed-kept (place lay s i l + 1) a b (adds-up (place lay s i l) (place lay s i l + 1) a b (omega arith) adds) after t j m what here there' (omega (arith, less)) marked
        go (inr eq) =
            let row = same-row (length lay.slots.items) (place_of lay.spans i l) s (place_of lay.spans j m) t lt (slice_get_within lay.slots.items t what here) eq in
            let sp = place-apart lay.spans i l j m (day_of g free_view lay fits i l day) (day_of g free_view lay fits j m there') row.0 in
            let here2 : slice_get lay.slots.items s ≡ Some what = ap (λ (q : ℕ). slice_get lay.slots.items q) row.1 ∙ here in
            let marked2 : mark lay b s i l ≡ true = ap (λ (q : ℕ). get_or b q false) eq ∙ marked in
            let got : SlotClosed g lay b what i l = new what here2 marked2 in
            rw (← sp.0, ← sp.1) got

  -- where nothing is marked, all marks are true
  pub none-true : (ms : List Bool) (n : ℕ) → ms ≡ replicate n false → AreTrue g lay ms
  none-true ms n e s i l what here day marked = absurd (unmarked ms n (place lay s i l) e marked)
    where
      unmarked : (ms : List Bool) (n q : ℕ) → ms ≡ replicate n false → get_or ms q false ≡ true → ⊥
      unmarked ms n q e h = let f : get_or (replicate n false) q false ≡ true = ap (λ (xs : List Bool). get_or xs q false) (sym e) ∙ h in all_false n q f
        where
          all_false : (n q : ℕ) → get_or (replicate n false) q false ≡ true → ⊥
          all_false zero q h = cc
          all_false (suc n) zero h = cc
          all_false (suc n) (suc q) h = all_false n q h

  -- the start name on the day, marked alone, is true
  pub root-true : IsLayoutOf g lay → IsSound g → (blank new : List Bool) (n : ℕ) → blank ≡ replicate n false
      → ((m : ℕ) → place lay (name_slot lay g.start) 1 g.periods < m → Adds g lay m blank new) → AreTrue g lay new
  root-true fits sound blank new n e adds =
      let day : InDay g.periods 1 g.periods = record { begins = omega arith; some = sound.some_period; within = omega arith } in
      let inside = place-inside fits (name_slot lay g.start) 1 g.periods (name_slot-within g lay fits g.start sound.start) day in
      (adds (cell_count lay) inside).truth (none-true blank n e)

-- each arc of a tree of the day is one of the instance
pub day-stands : (g : Grammar) → TreesStand g (Name g.start) 1 g.periods
day-stands g t h a has = (t, h, has)

-- the last span of a length stands right before the first one of the next
pub row-before : (n i l : ℕ) → i ≡ 1 → l ≤ n → 1 ≤ place_of n i l → place_of n (n + 2 - l) (l - 1) ≡ place_of n i l - 1
row-before n i zero first fits some = let e = ap (λ (q : ℕ). q - 1) first in absurd (omega (arith, some, e))
row-before n i (suc zero) first fits some = let e = ap (λ (q : ℕ). q - 1) first in absurd (omega (arith, some, e))
row-before n i (suc (suc l)) first fits some =
    let next = shorter-next n (suc l) (omega arith) in
    let one : suc (suc l) - 1 ≡ suc l = omega arith in
    let two : suc (suc l) - 1 - 1 ≡ l = omega arith in
    let three : suc l - 1 ≡ l = omega arith in
    let a = ap (shorter n) one in
    let b = ap (shorter n) two in
    let c = ap (shorter n) three in
    omega (arith, next, a, b, c, first, fits, some)

-- the whole day is the last span
pub day-last : (n : ℕ) → 1 ≤ n → place_of n 1 n ≡ shorter n n - 1
day-last n one = let next = shorter-next n n one in omega (arith, next, one)
