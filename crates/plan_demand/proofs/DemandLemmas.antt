-- Needs, bounds and groups, item by item.
use Rattle.std.proofs.Common.{◌≡◌, ℕ, zero, suc, ◌+◌, ◌<◌, ◌≤◌, ◌⊎◌, inl, inr, List, [], ◌∷◌, ◌++◌, length, take, get_or, map, refl, sym, ap, ◌∙◌, arith, append_assoc, append-nil, add-one}
use Rattle.std.proofs.lemmas.List.{take_more}
use Rattle.model_rosters.specs.declared.grammar.Grammar.{Grammar}
use Rattle.model_rosters.specs.declared.instance.Group.{Group}
use Rattle.text_demand_lines.specs.declared.draft.Bound.{Bound}
use Rattle.text_demand_lines.specs.declared.draft.Need as draft
use Rattle.plan_meaning.specs.declared.forecast.Column.{Column}
use Rattle.plan_meaning.specs.declared.forecast.Forecast.{Forecast}
use Rattle.plan_meaning.specs.declared.plan.Need as plan
use Rattle.plan_meaning.specs.declared.plan.Plan.{Plan}
use Rattle.plan_meaning.specs.declared.plan.Staff.{Staff}
use Rattle.plan_meaning.specs.Rosters.{Asked, asked, numbers_from}
use Rattle.plan_demand.specs.declared.side.Side.{Side}
use Rattle.plan_demand.specs.Demands.{bound_of, bounds_by, group_of, groups_by, need_of, needs_by, side_of}

-- ---- periods

-- one more number
pub numbers_more : (f : ℕ → ℕ) (n k : ℕ) → map f (numbers_from n (suc k)) ≡ map f (numbers_from n k) ++ f (n + k) ∷ []
numbers_more f n zero = ap (λ (m : ℕ). f m ∷ []) (omega arith)
numbers_more f n (suc k) =
    let last : n + 1 + k ≡ n + suc k = omega arith in
    ap (λ (ms : List ℕ). f n ∷ ms) (numbers_more f (n + 1) k)
    ∙ ap (λ (m : ℕ). f n ∷ (map f (numbers_from (n + 1) k) ++ f m ∷ [])) last

-- one more count
pub count_more : (f : ℕ → ℕ) (k : ℕ) (old new : List ℕ) → old ≡ map f (numbers_from 0 k) → new ≡ old ++ f k ∷ [] → new ≡ map f (numbers_from 0 (k + 1))
count_more f k old new before is =
    let last : k ≡ 0 + k = omega arith in
    is ∙ ap (λ (ms : List ℕ). ms ++ f k ∷ []) before
    ∙ ap (λ (m : ℕ). map f (numbers_from 0 k) ++ f m ∷ []) last ∙ sym (numbers_more f 0 k)
    ∙ ap (λ (m : ℕ). map f (numbers_from 0 m)) (sym (add-one k))

-- ---- needs with their columns

abbrev pub asked-of : plan.Need → Column → Asked
asked-of n c = record { need = n; column = c }

-- one more need line with its column
pub asked_more : (ns : List plan.Need) (cs : List Column) (i : ℕ) (n : plan.Need) (c : Column) → i < length ns → i < length cs → n ≡ get_or ns i n → c ≡ get_or cs i c
    → asked (take (suc i) ns) (take (suc i) cs) ≡ asked (take i ns) (take i cs) ++ asked-of n c ∷ []
asked_more [] cs i n c ln lc en ec = absurd (omega (arith, ln))
asked_more (m ∷ ns) [] i n c ln lc en ec = absurd (omega (arith, lc))
asked_more (m ∷ ns) (d ∷ cs) zero n c ln lc en ec =
    ap (λ (k : plan.Need). asked-of k d ∷ []) (sym en) ∙ ap (λ (k : Column). asked-of n k ∷ []) (sym ec)
asked_more (m ∷ ns) (d ∷ cs) (suc i) n c ln lc en ec =
    ap (λ (xs : List Asked). asked-of m d ∷ xs) (asked_more ns cs i n c (omega (arith, ln)) (omega (arith, lc)) en ec)

-- no more where one of both lists is over
pub asked_all : (ns : List plan.Need) (cs : List Column) (i : ℕ) → (length ns ≤ i) ⊎ (length cs ≤ i) → asked (take i ns) (take i cs) ≡ asked ns cs
asked_all [] cs i h = none i
  where
    none : (k : ℕ) → asked (take k []) (take k cs) ≡ []
    none zero = refl
    none (suc k) = refl
asked_all (n ∷ ns) [] zero h = refl
asked_all (n ∷ ns) [] (suc i) h = refl
asked_all (n ∷ ns) (c ∷ cs) zero h = absurd (over h)
  where
    over : (length (n ∷ ns) ≤ 0) ⊎ (length (c ∷ cs) ≤ 0) → ⊥
    over (inl l) = omega (arith, l)
    over (inr l) = omega (arith, l)
asked_all (n ∷ ns) (c ∷ cs) (suc i) h = ap (λ (xs : List Asked). asked-of n c ∷ xs) (asked_all ns cs i (less h))
  where
    less : (length (n ∷ ns) ≤ suc i) ⊎ (length (c ∷ cs) ≤ suc i) → (length ns ≤ i) ⊎ (length cs ≤ i)
    less (inl l) = inl (omega (arith, l))
    less (inr l) = inr (omega (arith, l))

-- ---- lists that go item by item

pub needs_behind : (g : Grammar) (p : Plan) (f : Forecast) (xs : List Asked) (a : Asked) → needs_by g p f (xs ++ a ∷ []) ≡ needs_by g p f xs ++ need_of g p f a ∷ []
needs_behind g p f [] a = refl
needs_behind g p f (x ∷ xs) a = ap (λ (ns : List draft.Need). need_of g p f x ∷ ns) (needs_behind g p f xs a)

abbrev pub bounds-of : Grammar → Plan → Forecast → Side → Asked → List Bound
bounds-of g p f side a = bound_of g p f side a.need.code (side_of side a.column)

pub bounds_behind : (g : Grammar) (p : Plan) (f : Forecast) (side : Side) (xs : List Asked) (a : Asked) → bounds_by g p f side (xs ++ a ∷ []) ≡ bounds_by g p f side xs ++ bounds-of g p f side a
bounds_behind g p f side [] a = append-nil (bounds-of g p f side a)
bounds_behind g p f side (x ∷ xs) a =
    ap (λ (bs : List Bound). bounds-of g p f side x ++ bs) (bounds_behind g p f side xs a)
    ∙ sym (append_assoc (bounds-of g p f side x) (bounds_by g p f side xs) (bounds-of g p f side a))

pub groups_behind : (g : Grammar) (ss : List Staff) (s : Staff) → groups_by g (ss ++ s ∷ []) ≡ groups_by g ss ++ group_of g s s.name
groups_behind g [] s = append-nil (group_of g s s.name)
groups_behind g (x ∷ ss) s =
    ap (λ (gs : List Group). group_of g x x.name ++ gs) (groups_behind g ss s)
    ∙ sym (append_assoc (group_of g x x.name) (groups_by g ss) (group_of g s s.name))

-- ---- steps of loops

pub need_more : (g : Grammar) (p : Plan) (f : Forecast) (ns : List plan.Need) (cs : List Column) (i : ℕ) (n : plan.Need) (c : Column) (old new : List draft.Need)
    → i < length ns → i < length cs → n ≡ get_or ns i n → c ≡ get_or cs i c
    → old ≡ needs_by g p f (asked (take i ns) (take i cs)) → new ≡ old ++ need_of g p f (asked-of n c) ∷ []
    → new ≡ needs_by g p f (asked (take (i + 1) ns) (take (i + 1) cs))
need_more g p f ns cs i n c old new ln lc en ec before is =
    is ∙ ap (λ (xs : List draft.Need). xs ++ need_of g p f (asked-of n c) ∷ []) before
    ∙ sym (needs_behind g p f (asked (take i ns) (take i cs)) (asked-of n c))
    ∙ ap (needs_by g p f) (sym (asked_more ns cs i n c ln lc en ec))
    ∙ ap (λ (k : ℕ). needs_by g p f (asked (take k ns) (take k cs))) (sym (add-one i))

pub bound_more : (g : Grammar) (p : Plan) (f : Forecast) (side : Side) (ns : List plan.Need) (cs : List Column) (i : ℕ) (n : plan.Need) (c : Column) (old new : List Bound)
    → i < length ns → i < length cs → n ≡ get_or ns i n → c ≡ get_or cs i c
    → old ≡ bounds_by g p f side (asked (take i ns) (take i cs)) → new ≡ old ++ bound_of g p f side n.code (side_of side c)
    → new ≡ bounds_by g p f side (asked (take (i + 1) ns) (take (i + 1) cs))
bound_more g p f side ns cs i n c old new ln lc en ec before is =
    is ∙ ap (λ (xs : List Bound). xs ++ bound_of g p f side n.code (side_of side c)) before
    ∙ sym (bounds_behind g p f side (asked (take i ns) (take i cs)) (asked-of n c))
    ∙ ap (bounds_by g p f side) (sym (asked_more ns cs i n c ln lc en ec))
    ∙ ap (λ (k : ℕ). bounds_by g p f side (asked (take k ns) (take k cs))) (sym (add-one i))

pub group_more : (g : Grammar) (ss : List Staff) (i : ℕ) (s : Staff) (old new : List Group)
    → i < length ss → s ≡ get_or ss i s → old ≡ groups_by g (take i ss) → new ≡ old ++ group_of g s s.name → new ≡ groups_by g (take (i + 1) ss)
group_more g ss i s old new within at before is =
    is ∙ ap (λ (gs : List Group). gs ++ group_of g s s.name) before ∙ sym (groups_behind g (take i ss) s)
    ∙ ap (groups_by g) (sym (take_more ss i s within ∙ ap (λ (y : Staff). take i ss ++ y ∷ []) (sym at)))
