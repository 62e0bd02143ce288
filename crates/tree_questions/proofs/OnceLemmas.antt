-- Each question has one answer.
use Rattle.std.proofs.Common.{◌≡◌, ◌⊎◌, inl, inr, ℕ, pos, ◌+◌, ◌-◌, ◌≤◌, ◌==◌, Bool, true, false, Option, None, Some, List, [], ◌∷◌, ◌++◌, length, arith, refl, sym, ap, subst, ◌∙◌}
use Rattle.std.specs.Prelude.{codes}
use Rattle.std.proofs.lemmas.Int.{ints}
use Rattle.model_rosters.specs.declared.grammar.CodeDef.{CodeDef}
use Rattle.model_rosters.specs.declared.grammar.Grammar.{Grammar}
use Rattle.model_rosters.specs.Folds.{Each, In}
use Rattle.model_rosters.specs.Shifts.{IsShift, IsPrice}
use Rattle.model_rosters.specs.Trees.{Parts, IsDayTree}
use Rattle.model_rosters.proofs.ComesFirstLemmas.{first_one_way}
use Rattle.text_lines.specs.Numbers.{number_text}
use Rattle.text_lines.specs.Written.{written}
use Rattle.tree_pool.specs.grammar_core.Lists.{IsSpanTree}
use Rattle.tree_pool.proofs.grammar_core.ListsLemmas.{steps_tell}
use Rattle.tree_ranking.specs.declared.ranking.Ranked.{Ranked}
use Rattle.tree_ranking.specs.Ranking.{use_numbers, RankedBefore, IsRankedTree, AreAscending, IsRanking}
use Rattle.tree_questions.specs.Codes.{SaysCode, price_lines}
use Rattle.tree_questions.specs.Fitting.{SaysWhere, SaysPeriod, FitsAnswer, FitsWith, at_words, least_line}
use Rattle.tree_questions.specs.Fitting as fitting
use Rattle.tree_questions.specs.Lines.{Line, AreLines}
use Rattle.tree_questions.specs.Next.{AreNextLines, LongestText, NextAnswer}
use Rattle.tree_questions.specs.Next as next
use Rattle.tree_questions.specs.Once.{OneNextAnswer, OneFitsAnswer, OneRankedAnswer}
use Rattle.tree_questions.specs.Prices.{cost_view}
use Rattle.tree_questions.specs.Ranked.{SaysTree, IsTreesText, RankedAnswer, tree_line, count_line}
use Rattle.tree_questions.specs.Ranked as ranked
use Rattle.tree_questions.specs.Shifts.{IsLeastOf, IsLeastPrice, Fits, Begins, any_code}

-- ---- lines

module _ {A : Type 0} (Says : ℕ → A → List Line → Type 0) (once : (j : ℕ) (x : A) (a b : List Line) → Says j x a → Says j x b → a ≡ b) where
  lines_once : (k : ℕ) (xs : List A) (ls ms : List Line) → AreLines Says k xs ls → AreLines Says k xs ms → ls ≡ ms
  lines_once k [] ls ms h m = h ∙ sym m
  lines_once k (x ∷ xs) ls ms h m =
      let own = once k x h.0 m.0 h.2 m.2 in
      let rest = lines_once (k + 1) xs h.1 m.1 h.3 m.3 in
      h.4 ∙ ap (λ (l : List Line). l ++ h.1) own ∙ ap (λ (l : List Line). m.0 ++ l) rest ∙ sym m.4

shift_of : (g : Grammar) (w : List ℕ) (price : ℕ) → IsPrice g g.start w price → IsShift g g.start w
shift_of g w price is = (is.attained.0, is.attained.1)

price_once : (g : Grammar) (P : List ℕ → Type 0) (p q : Option ℕ) → IsLeastPrice g P p → IsLeastPrice g P q → p ≡ q
price_once g P None None h k = refl
price_once g P None (Some q) h k = absurd (h k.attained.0 k.attained.1 (shift_of g k.attained.0 q k.attained.2))
price_once g P (Some p) None h k = absurd (k h.attained.0 h.attained.1 (shift_of g h.attained.0 p h.attained.2))
price_once g P (Some p) (Some q) h k =
    let a = h.least k.attained.0 q k.attained.1 k.attained.2 in
    let b = k.least h.attained.0 p h.attained.1 h.attained.2 in
    ap (λ (n : ℕ). Some n) (omega (arith, a, b))

code_once : (g : Grammar) (front : Line) (P : ℕ → List ℕ → Type 0) (j : ℕ) (d : CodeDef) (a b : List Line) → SaysCode g front (P d.byte) d.byte a → SaysCode g front (P d.byte) d.byte b → a ≡ b
code_once g front P j d a b h k = h.2 ∙ ap (price_lines front d.byte) (price_once g (P d.byte) h.0 k.0 h.1 k.1) ∙ sym k.2

-- ---- the codes that may come next

longest_once : (g : Grammar) (prefix : List ℕ) (a b : List ℕ) → LongestText g prefix a → LongestText g prefix b → a ≡ b
longest_once g prefix a b (next.longest k x h e) (next.longest j y m f) =
    let low = h.longest j m.within m.begins in
    let high = m.longest k h.within h.begins in
    let same : k ≡ j = omega (arith, low, high) in
    e ∙ ap (λ (n : ℕ). written ((codes "longest" ∷ number_text (pos n) ∷ []) ∷ [])) same ∙ sym f
longest_once g prefix a b (next.longest k x h e) (next.no_shift y m f) = absurd (m h.begins.0 h.begins.1)
longest_once g prefix a b (next.no_shift x h e) (next.longest j y m f) = absurd (h m.begins.0 m.begins.1)
longest_once g prefix a b (next.no_shift x h e) (next.no_shift y m f) = e ∙ sym f

pub one-next : OneNextAnswer
one-next g prefix s t a b h k = by s t a b h k
  where
    lines : (ls ms : List Line) → AreNextLines g prefix ls → AreNextLines g prefix ms → ls ≡ ms
    lines ls ms h k =
        lines_once (λ (j : ℕ) (d : CodeDef). SaysCode g (codes "code" ∷ []) (Begins (prefix ++ d.byte ∷ [])) d.byte)
        (code_once g (codes "code" ∷ []) (λ b. Begins (prefix ++ b ∷ []))) 0 g.codes ls ms h k

    by : (s t : ℕ) (a b : List ℕ) → NextAnswer g prefix s a → NextAnswer g prefix t b → (s ≡ t) × (a ≡ b)
    by s t a b (next.some ls x h n e) (next.some ms y k m f) = (refl, e ∙ ap written (lines ls ms h k) ∙ sym f)
    by s t a b (next.some ls x h n e) (next.none y k m) = absurd (n (lines ls [] h k))
    by s t a b (next.none x h n) (next.some ms y k m f) = absurd (m (lines ms [] k h))
    by s t a b (next.none x h n) (next.none y k m) = (refl, longest_once g prefix a b n m)

-- ---- the shifts that fit

pub one-fits : OneFitsAnswer
one-fits g pattern s t a b h k = by s t a b h k
  where
    where_once : (i : ℕ) (t : Bool) (a b : List Line) → SaysWhere t g pattern i a → SaysWhere t g pattern i b → a ≡ b
    where_once i true a b h k =
        lines_once (λ (j : ℕ) (d : CodeDef). SaysCode g (at_words i) (FitsWith pattern i d.byte) d.byte) (code_once g (at_words i) (FitsWith pattern i)) 0 g.codes a b h k
    where_once i false a b h k = h ∙ sym k

    lines : (ls ms : List Line) → AreLines (SaysPeriod g pattern) 1 pattern ls → AreLines (SaysPeriod g pattern) 1 pattern ms → ls ≡ ms
    lines ls ms h k = lines_once (SaysPeriod g pattern) (λ i x a b h k. where_once i (x == any_code) a b h k) 1 pattern ls ms h k

    least : (p q : ℕ) → IsLeastOf g (Fits pattern) p → IsLeastOf g (Fits pattern) q → p ≡ q
    least p q h k = let e : Some p ≡ Some q = price_once g (Fits pattern) (Some p) (Some q) h k in cc

    by : (s t : ℕ) (a b : List ℕ) → FitsAnswer g pattern s a → FitsAnswer g pattern t b → (s ≡ t) × (a ≡ b)
    by s t a b (fitting.some p ls x h n e) (fitting.some q ms y k m f) =
        (refl, e ∙ ap (λ (i : ℕ). written (least_line i ∷ ls)) (least p q h k) ∙ ap (λ (l : List Line). written (least_line q ∷ l)) (lines ls ms n m) ∙ sym f)
    by s t a b (fitting.some p ls x h n e) (fitting.none y k f) = absurd (k h.attained.0 h.attained.1 (shift_of g h.attained.0 p h.attained.2))
    by s t a b (fitting.none x h e) (fitting.some q ms y k m f) = absurd (h k.attained.0 k.attained.1 (shift_of g k.attained.0 q k.attained.2))
    by s t a b (fitting.none x h e) (fitting.none y k f) = (refl, e ∙ sym f)

-- ---- rankings

not_both : (a b : Ranked) → RankedBefore a b → RankedBefore b a → ⊥
not_both a b (inl h) (inl k) = absurd (omega (arith, ints, h, k))
not_both a b (inl h) (inr k) = absurd (omega (arith, ints, h, k.0))
not_both a b (inr h) (inl k) = absurd (omega (arith, ints, h.0, k))
not_both a b (inr h) (inr k) = first_one_way (use_numbers a.tree) (use_numbers b.tree) h.1 k.1

each_in : (P : Ranked → Type 0) (xs : List Ranked) (x : Ranked) → Each P xs → In x xs → P x
each_in P [] x h k = absurd k
each_in P (y ∷ ys) x h (inl e) = subst P (sym e) h.0
each_in P (y ∷ ys) x h (inr k) = each_in P ys x h.1 k

-- the first ones, at most so many, of what meets D
record Firsts (D : Ranked → Type 0) (most : ℕ) (rs : List Ranked) : Type 0 where
  each : Each D rs
  ascending : AreAscending rs
  complete : (r : Ranked) → D r → In r rs ⊎ (Each (λ q. RankedBefore q r) rs × (length rs ≡ most))
  few : length rs ≤ most

each_both : (P Q : Ranked → Type 0) (xs : List Ranked) → Each P xs → Each Q xs → Each (λ x. P x × Q x) xs
each_both P Q [] h k = tt
each_both P Q (x ∷ xs) h k = ((h.0, k.0), each_both P Q xs h.1 k.1)

-- without its first one
others : (D : Ranked → Type 0) (most : ℕ) (r : Ranked) (rs : List Ranked) → Firsts D most (r ∷ rs) → Firsts (λ x. D x × RankedBefore r x) (most - 1) rs
others D most r rs h = record {
  each = each_both D (RankedBefore r) rs h.each.1 h.ascending.0;
  ascending = h.ascending.1;
  complete = λ x d. by x d.1 (h.complete x d.0);
  few = let f = h.few in omega (arith, f);
}
  where
    by : (x : Ranked) → RankedBefore r x → In x (r ∷ rs) ⊎ (Each (λ q. RankedBefore q x) (r ∷ rs) × (length (r ∷ rs) ≡ most)) → In x rs ⊎ (Each (λ q. RankedBefore q x) rs × (length rs ≡ most - 1))
    by x before (inl (inl e)) = let own : RankedBefore r r = subst (λ (y : Ranked). RankedBefore r y) e before in absurd (not_both r r own own)
    by x before (inl (inr k)) = inl k
    by x before (inr k) = let e = k.1 in inr (k.0.1, omega (arith, e))

same_first : (D : Ranked → Type 0) (most : ℕ) (r q : Ranked) (rs qs : List Ranked) → Firsts D most (r ∷ rs) → Firsts D most (q ∷ qs) → r ≡ q
same_first D most r q rs qs h k = by (k.complete r h.each.0)
  where
    later : RankedBefore q r → r ≡ q
    later before = absurd (no_way (h.complete q k.each.0))
      where
        no_way : In q (r ∷ rs) ⊎ (Each (λ x. RankedBefore x q) (r ∷ rs) × (length (r ∷ rs) ≡ most)) → ⊥
        no_way (inl (inl e)) = let own : RankedBefore q q = subst (λ (y : Ranked). RankedBefore q y) (sym e) before in not_both q q own own
        no_way (inl (inr i)) = not_both q r before (each_in (RankedBefore r) rs q h.ascending.0 i)
        no_way (inr a) = not_both q r before a.0.0

    by : In r (q ∷ qs) ⊎ (Each (λ x. RankedBefore x r) (q ∷ qs) × (length (q ∷ qs) ≡ most)) → r ≡ q
    by (inl (inl e)) = e
    by (inl (inr i)) = later (each_in (RankedBefore q) qs r k.ascending.0 i)
    by (inr a) = later a.0.0

firsts_once : (D : Ranked → Type 0) (most : ℕ) (rs qs : List Ranked) → Firsts D most rs → Firsts D most qs → rs ≡ qs
firsts_once D most [] [] h k = refl
firsts_once D most [] (q ∷ qs) h k = by (h.complete q k.each.0)
  where
    by : ⊥ ⊎ (Unit {0} × (0 ≡ most)) → [] ≡ q ∷ qs
    by (inl e) = absurd e
    by (inr e) = let f = k.few in absurd (omega (arith, e.1, f))
firsts_once D most (r ∷ rs) [] h k = by (k.complete r h.each.0)
  where
    by : ⊥ ⊎ (Unit {0} × (0 ≡ most)) → r ∷ rs ≡ []
    by (inl e) = absurd e
    by (inr e) = let f = h.few in absurd (omega (arith, e.1, f))
firsts_once D most (r ∷ rs) (q ∷ qs) h k =
    let same = same_first D most r q rs qs h k in
    let own = others D most r rs h in
    let other = subst (λ (x : Ranked). Firsts (λ y. D y × RankedBefore x y) (most - 1) qs) (sym same) (others D most q qs k) in
    let rest = firsts_once (λ x. D x × RankedBefore r x) (most - 1) rs qs own other in
    ap (λ (x : Ranked). x ∷ rs) same ∙ ap (λ (xs : List Ranked). q ∷ xs) rest

ranking_once : (g : Grammar) (most : ℕ) (rs qs : List Ranked) → IsRanking g (cost_view g) most rs → IsRanking g (cost_view g) most qs → rs ≡ qs
ranking_once g most rs qs h k =
    firsts_once (IsRankedTree g (cost_view g)) most rs qs
    (record { each = h.of_day; ascending = h.ascending; complete = h.complete; few = h.few })
    (record { each = k.of_day; ascending = k.ascending; complete = k.complete; few = k.few })

some_tree : (g : Grammar) (rs : List Ranked) → Each (IsRankedTree g (cost_view g)) rs → (rs ≡ [] → ⊥) → (t : Parts) × IsDayTree g t
some_tree g [] h there = absurd (there refl)
some_tree g (r ∷ rs) h there = (h.0.tree, h.0.of_day)

pub one-ranked : OneRankedAnswer
one-ranked g most s t a b h k = by s t a b h k
  where
    tree_once : (j : ℕ) (r : Ranked) (a b : List Line) → SaysTree g j r a → SaysTree g j r b → a ≡ b
    tree_once j r a b h k =
        let own : IsSpanTree g 1 h.0 = record { name = g.start; len = g.periods; on = h.1 } in
        let other : IsSpanTree g 1 k.0 = record { name = g.start; len = g.periods; on = k.1 } in
        let same = steps_tell g 1 1 h.0 k.0 own other (sym h.2 ∙ k.2) in
        h.3 ∙ ap (λ (t : Parts). tree_line g j t ∷ []) same ∙ sym k.3

    lines : (rs : List Ranked) (ls ms : List Line) → AreLines (SaysTree g) 1 rs ls → AreLines (SaysTree g) 1 rs ms → ls ≡ ms
    lines rs ls ms h k = lines_once (SaysTree g) tree_once 1 rs ls ms h k

    texts : (rs qs : List Ranked) (a b : List ℕ) → rs ≡ qs → IsTreesText g rs a → IsTreesText g qs b → a ≡ b
    texts rs qs a b same h k =
        let moved = subst (λ (xs : List Ranked). IsTreesText g xs a) same h in
        moved.text ∙ ap (λ (ls : List Line). written (count_line (length qs) ∷ ls)) (lines qs moved.lines k.lines moved.each k.each) ∙ sym k.text

    by : (s t : ℕ) (a b : List ℕ) → RankedAnswer g most s a → RankedAnswer g most t b → (s ≡ t) × (a ≡ b)
    by s t a b (ranked.some rs x h n e) (ranked.some qs y k m f) = (refl, texts rs qs a b (ranking_once g most rs qs h k) n m)
    by s t a b (ranked.some rs x h n e) (ranked.none y k f) = let tree = some_tree g rs h.of_day e in absurd (k tree.0 tree.1)
    by s t a b (ranked.none x h e) (ranked.some qs y k m f) = let tree = some_tree g qs k.of_day f in absurd (h tree.0 tree.1)
    by s t a b (ranked.none x h e) (ranked.none y k f) = (refl, e ∙ sym f)
