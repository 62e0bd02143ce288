-- The tests of names and rules tell what is the same.
use Rattle.std.proofs.Common.{◌≡◌, ℕ, zero, suc, Bool, true, false, ◌&&◌, not, cond, nat_eq, Option, None, Some, List, [], ◌∷◌, refl, sym, ap, ◌∙◌, subst}
use Rattle.std.proofs.lemmas.Bool.{eq-eqb, eqb-true}
use lib.Pointwise.{pointwise, pointwise_decides}
use Rattle.model_rosters.specs.declared.grammar.Window.{Window}
use Rattle.plan_laws.specs.declared.period_plan.Activity.{Activity}
use Rattle.plan_laws.specs.declared.period_plan.NamedLines.{NamedLines}
use Rattle.plan_laws.specs.declared.period_plan.PeriodDuty.{PeriodDuty}
use Rattle.plan_laws.specs.declared.period_plan.PeriodPart.{PeriodPart}
use Rattle.plan_laws.specs.declared.period_plan.PeriodPart.TheVariants.{Pausing, Working}
use Rattle.plan_laws.specs.Named.{NamedRule, Symbol, coded, named}
use Rattle.plan_laws.specs.Names.{Kind, at, run, block, free_one, any_list, open_list, from, other, work, rest, off, step, steps, lead, duty, day, start, whole}
use Rattle.plan_names.specs.Same.{same_bool, same_window, same_times, same_activity, same_set, same_part, same_frame, same_bounds, same_duty, same_lines, same_one, same_line, Shape, shape_of, same_head, same_tail, same_shape, same, same_symbol, same_rule}

both : (a b : Bool) → (a && b) ≡ true → (a ≡ true) × (b ≡ true)
both true b h = (refl, h)
both false b h = absurd (never h)
  where
    never : false ≡ true → ⊥
    never e = cc

all_true : (a b : Bool) → a ≡ true → b ≡ true → (a && b) ≡ true
all_true true b e f = f
all_true false b e f = e

-- the test decides
abbrev Decides : {K : Type 0} → (K → K → Bool) → Type 0
Decides {K} E = (x y : K) → (E x y ≡ true → x ≡ y) × (x ≡ y → E x y ≡ true)

decides : {K : Type 0} (E : K → K → Bool) → ((x y : K) → E x y ≡ true → x ≡ y) → ((x : K) → E x x ≡ true) → Decides E
decides E is own = λ x y. (is x y, λ e. subst (λ z. E x z ≡ true) e (own x))

own_nat : (n : ℕ) → nat_eq n n ≡ true
own_nat n = eq-eqb n n refl

nat_decides : Decides nat_eq
nat_decides = decides nat_eq (λ x y. eqb-true x y) own_nat

is_bool : (a b : Bool) → same_bool a b ≡ true → a ≡ b
is_bool true true h = refl
is_bool true false h = sym h
is_bool false true h = h
is_bool false false h = refl

own_bool : (a : Bool) → same_bool a a ≡ true
own_bool true = refl
own_bool false = refl

is_window : (a b : Window) → same_window a b ≡ true → a ≡ b
is_window a b h =
    let p = both (nat_eq a.lo b.lo) (nat_eq a.hi b.hi) h in
    let lo = eqb-true a.lo b.lo p.0 in
    let hi = eqb-true a.hi b.hi p.1 in
    λ i. record { lo = lo i; hi = hi i }

own_window : (a : Window) → same_window a a ≡ true
own_window a = all_true (nat_eq a.lo a.lo) (nat_eq a.hi a.hi) (own_nat a.lo) (own_nat a.hi)

never : false ≡ true → ⊥
never e = cc

is_times : (a b : Option Window) → same_times a b ≡ true → a ≡ b
is_times None None h = refl
is_times None (Some b) h = absurd (never h)
is_times (Some a) None h = absurd (never h)
is_times (Some a) (Some b) h = ap Some (is_window a b h)

own_times : (a : Option Window) → same_times a a ≡ true
own_times None = refl
own_times (Some a) = own_window a

is_activity : (a b : Activity) → same_activity a b ≡ true → a ≡ b
is_activity a b h =
    let p = both (nat_eq a.code b.code && same_bool a.work b.work && nat_eq a.least b.least && nat_eq a.greatest b.greatest) (nat_eq a.amount b.amount) h in
    let q = both (nat_eq a.code b.code && same_bool a.work b.work && nat_eq a.least b.least) (nat_eq a.greatest b.greatest) p.0 in
    let r = both (nat_eq a.code b.code && same_bool a.work b.work) (nat_eq a.least b.least) q.0 in
    let s = both (nat_eq a.code b.code) (same_bool a.work b.work) r.0 in
    let code = eqb-true a.code b.code s.0 in
    let works = is_bool a.work b.work s.1 in
    let least = eqb-true a.least b.least r.1 in
    let greatest = eqb-true a.greatest b.greatest q.1 in
    let amount = eqb-true a.amount b.amount p.1 in
    λ i. record { code = code i; work = works i; least = least i; greatest = greatest i; amount = amount i }

own_activity : (a : Activity) → same_activity a a ≡ true
own_activity a =
    all_true (nat_eq a.code a.code && same_bool a.work a.work && nat_eq a.least a.least && nat_eq a.greatest a.greatest) (nat_eq a.amount a.amount)
    (all_true (nat_eq a.code a.code && same_bool a.work a.work && nat_eq a.least a.least) (nat_eq a.greatest a.greatest)
    (all_true (nat_eq a.code a.code && same_bool a.work a.work) (nat_eq a.least a.least)
    (all_true (nat_eq a.code a.code) (same_bool a.work a.work) (own_nat a.code) (own_bool a.work)) (own_nat a.least)) (own_nat a.greatest)) (own_nat a.amount)

pub set_decides : Decides same_set
set_decides = pointwise_decides (decides same_activity is_activity own_activity)

is_part : (a b : PeriodPart) → same_part a b ≡ true → a ≡ b
is_part (Working s) (Working t) h = ap Working ((set_decides s t).0 h)
is_part (Working s) (Pausing b begin) h = absurd (never h)
is_part (Pausing a begin) (Working t) h = absurd (never h)
is_part (Pausing a begin) (Pausing b times) h =
    let p = both (same_activity a b) (same_times begin times) h in
    let one = is_activity a b p.0 in
    let two = is_times begin times p.1 in
    λ i. Pausing (one i) (two i)

own_part : (a : PeriodPart) → same_part a a ≡ true
own_part (Working s) = (set_decides s s).1 refl
own_part (Pausing a begin) = all_true (same_activity a a) (same_times begin begin) (own_activity a) (own_times begin)

parts_decide : Decides (pointwise same_part)
parts_decide = pointwise_decides (decides same_part is_part own_part)

is_duty : (d e : PeriodDuty) → same_duty d e ≡ true → d ≡ e
is_duty d e h =
    let p = both (same_frame d e) (same_bounds d e) h in
    let t = both (same_window d.length e.length && nat_eq d.cost e.cost) (pointwise same_part d.parts e.parts) p.0 in
    let u = both (same_window d.length e.length) (nat_eq d.cost e.cost) t.0 in
    let q = both (same_window d.begin e.begin && same_window d.end e.end && same_window d.stretch e.stretch) (nat_eq d.plus e.plus) p.1 in
    let r = both (same_window d.begin e.begin && same_window d.end e.end) (same_window d.stretch e.stretch) q.0 in
    let s = both (same_window d.begin e.begin) (same_window d.end e.end) r.0 in
    let long = is_window d.length e.length u.0 in
    let cost = eqb-true d.cost e.cost u.1 in
    let parts = (parts_decide d.parts e.parts).0 t.1 in
    let begin = is_window d.begin e.begin s.0 in
    let end = is_window d.end e.end s.1 in
    let stretch = is_window d.stretch e.stretch r.1 in
    let plus = eqb-true d.plus e.plus q.1 in
    λ i. record { length = long i; cost = cost i; parts = parts i; begin = begin i; end = end i; stretch = stretch i; plus = plus i }

own_frame : (d : PeriodDuty) → same_frame d d ≡ true
own_frame d =
    all_true (same_window d.length d.length && nat_eq d.cost d.cost) (pointwise same_part d.parts d.parts)
    (all_true (same_window d.length d.length) (nat_eq d.cost d.cost) (own_window d.length) (own_nat d.cost)) ((parts_decide d.parts d.parts).1 refl)

own_bounds : (d : PeriodDuty) → same_bounds d d ≡ true
own_bounds d =
    all_true (same_window d.begin d.begin && same_window d.end d.end && same_window d.stretch d.stretch) (nat_eq d.plus d.plus)
    (all_true (same_window d.begin d.begin && same_window d.end d.end) (same_window d.stretch d.stretch)
    (all_true (same_window d.begin d.begin) (same_window d.end d.end) (own_window d.begin) (own_window d.end)) (own_window d.stretch)) (own_nat d.plus)

own_duty : (d : PeriodDuty) → same_duty d d ≡ true
own_duty d = all_true (same_frame d d) (same_bounds d d) (own_frame d) (own_bounds d)

is_lines : (x y : NamedLines) → same_lines x y ≡ true → x ≡ y
is_lines x y h =
    let p = both (pointwise nat_eq x.name y.name) (pointwise same_duty x.lines y.lines) h in
    let name = (pointwise_decides nat_decides x.name y.name).0 p.0 in
    let lines = (pointwise_decides (decides same_duty is_duty own_duty) x.lines y.lines).0 p.1 in
    λ i. record { name = name i; lines = lines i }

own_lines : (x : NamedLines) → same_lines x x ≡ true
own_lines x = all_true (pointwise nat_eq x.name x.name) (pointwise same_duty x.lines x.lines)
    ((pointwise_decides nat_decides x.name x.name).1 refl) ((pointwise_decides (decides same_duty is_duty own_duty) x.lines x.lines).1 refl)

is_one : (a b : Option Activity) → same_one a b ≡ true → a ≡ b
is_one None None h = refl
is_one None (Some b) h = absurd (never h)
is_one (Some a) None h = absurd (never h)
is_one (Some a) (Some b) h = ap Some (is_activity a b h)

own_one : (a : Option Activity) → same_one a a ≡ true
own_one None = refl
own_one (Some a) = own_activity a

is_line : (a b : Option NamedLines) → same_line a b ≡ true → a ≡ b
is_line None None h = refl
is_line None (Some b) h = absurd (never h)
is_line (Some a) None h = absurd (never h)
is_line (Some a) (Some b) h = ap Some (is_lines a b h)

own_line : (a : Option NamedLines) → same_line a a ≡ true
own_line None = refl
own_line (Some a) = own_lines a

all_lines_decide : Decides (pointwise same_lines)
all_lines_decide = pointwise_decides (decides same_lines is_lines own_lines)

is_shape : (x y : Shape) → same_shape x y ≡ true → x ≡ y
is_shape x y h =
    let p = both (same_head x y) (same_tail x y) h in
    let s = both (nat_eq x.form y.form && nat_eq x.plus y.plus) (same_set x.set y.set) p.0 in
    let t = both (nat_eq x.form y.form) (nat_eq x.plus y.plus) s.0 in
    let q = both (same_one x.one y.one && same_times x.window y.window && same_line x.line y.line) (pointwise same_lines x.lines y.lines) p.1 in
    let r = both (same_one x.one y.one && same_times x.window y.window) (same_line x.line y.line) q.0 in
    let u = both (same_one x.one y.one) (same_times x.window y.window) r.0 in
    let form = eqb-true x.form y.form t.0 in
    let plus = eqb-true x.plus y.plus t.1 in
    let set = (set_decides x.set y.set).0 s.1 in
    let one = is_one x.one y.one u.0 in
    let window = is_times x.window y.window u.1 in
    let line = is_line x.line y.line r.1 in
    let lines = (all_lines_decide x.lines y.lines).0 q.1 in
    λ i. record { form = form i; plus = plus i; set = set i; one = one i; window = window i; line = line i; lines = lines i }

own_head : (x : Shape) → same_head x x ≡ true
own_head x =
    all_true (nat_eq x.form x.form && nat_eq x.plus x.plus) (same_set x.set x.set)
    (all_true (nat_eq x.form x.form) (nat_eq x.plus x.plus) (own_nat x.form) (own_nat x.plus)) ((set_decides x.set x.set).1 refl)

own_tail : (x : Shape) → same_tail x x ≡ true
own_tail x =
    all_true (same_one x.one x.one && same_times x.window x.window && same_line x.line x.line) (pointwise same_lines x.lines x.lines)
    (all_true (same_one x.one x.one && same_times x.window x.window) (same_line x.line x.line)
    (all_true (same_one x.one x.one) (same_times x.window x.window) (own_one x.one) (own_times x.window)) (own_line x.line))
    ((all_lines_decide x.lines x.lines).1 refl)

own_shape : (x : Shape) → same_shape x x ≡ true
own_shape x = all_true (same_head x x) (same_tail x x) (own_head x) (own_tail x)

-- a name back from its shape
abbrev no_activity : Activity
no_activity = record { code = 0; work = false; least = 0; greatest = 0; amount = 0 }

abbrev the_one : Shape → Activity
the_one x = elim x.one [ None ↦ no_activity | Some a ↦ a ]

abbrev the_window : Shape → Window
the_window x = elim x.window [ None ↦ whole | Some w ↦ w ]

abbrev the_name : Shape → List ℕ
the_name x = elim x.line [ None ↦ [] | Some y ↦ y.name ]

abbrev the_lines : Shape → List PeriodDuty
the_lines x = elim x.line [ None ↦ [] | Some y ↦ y.lines ]

abbrev by_form : ℕ → List Kind → Kind
by_form n [] = off
by_form zero (k ∷ ks) = k
by_form (suc n) (k ∷ ks) = by_form n ks

abbrev back : Shape → Kind
back x = by_form x.form
    (at x.plus (the_one x) ∷ run x.plus (the_one x) ∷ block x.plus (the_one x) ∷ free_one x.plus x.set ∷ any_list x.plus x.set ∷ open_list x.plus x.set
    ∷ from x.plus x.set (the_one x) ∷ other x.plus x.set (the_one x) ∷ work x.plus x.set (the_window x) ∷ rest x.plus (the_one x) x.window
    ∷ off ∷ step ∷ steps ∷ lead ∷ duty (the_name x) (the_lines x) ∷ day (the_name x) (the_lines x) ∷ start x.lines ∷ [])

kept_name : (k : Kind) → back (shape_of k) ≡ k
kept_name (at r a) = refl
kept_name (run r a) = refl
kept_name (block r a) = refl
kept_name (free_one r s) = refl
kept_name (any_list r s) = refl
kept_name (open_list r s) = refl
kept_name (from r s a) = refl
kept_name (other r s a) = refl
kept_name (work r s long) = refl
kept_name (rest r a begin) = refl
kept_name off = refl
kept_name step = refl
kept_name steps = refl
kept_name lead = refl
kept_name (duty name ds) = refl
kept_name (day name ds) = refl
kept_name (start xs) = refl

pub is_same : (j k : Kind) → same j k ≡ true → j ≡ k
is_same j k h = sym (kept_name j) ∙ ap back (is_shape (shape_of j) (shape_of k) h) ∙ kept_name k

pub own_same : (k : Kind) → same k k ≡ true
own_same k = own_shape (shape_of k)

is_symbol : (a b : Symbol Kind) → same_symbol a b ≡ true → a ≡ b
is_symbol (coded a) (coded b) h = ap coded (eqb-true a b h)
is_symbol (coded a) (named k) h = absurd (never h)
is_symbol (named j) (coded b) h = absurd (never h)
is_symbol (named j) (named k) h = ap named (is_same j k h)

own_symbol : (a : Symbol Kind) → same_symbol a a ≡ true
own_symbol (coded a) = own_nat a
own_symbol (named k) = own_same k

pub is_rule : (a b : NamedRule Kind) → same_rule a b ≡ true → a ≡ b
is_rule a b h =
    let p = both (nat_eq a.cost b.cost && pointwise same_symbol a.right b.right && same_window a.span b.span && same_window a.first b.first) (same_window a.last b.last) h in
    let q = both (nat_eq a.cost b.cost && pointwise same_symbol a.right b.right && same_window a.span b.span) (same_window a.first b.first) p.0 in
    let r = both (nat_eq a.cost b.cost && pointwise same_symbol a.right b.right) (same_window a.span b.span) q.0 in
    let s = both (nat_eq a.cost b.cost) (pointwise same_symbol a.right b.right) r.0 in
    let cost = eqb-true a.cost b.cost s.0 in
    let right = (pointwise_decides (decides same_symbol is_symbol own_symbol) a.right b.right).0 s.1 in
    let span = is_window a.span b.span r.1 in
    let first = is_window a.first b.first q.1 in
    let last = is_window a.last b.last p.1 in
    λ i. record { cost = cost i; right = right i; span = span i; first = first i; last = last i }

pub own_rule : (a : NamedRule Kind) → same_rule a a ≡ true
own_rule a =
    all_true (nat_eq a.cost a.cost && pointwise same_symbol a.right a.right && same_window a.span a.span && same_window a.first a.first) (same_window a.last a.last)
    (all_true (nat_eq a.cost a.cost && pointwise same_symbol a.right a.right && same_window a.span a.span) (same_window a.first a.first)
    (all_true (nat_eq a.cost a.cost && pointwise same_symbol a.right a.right) (same_window a.span a.span)
    (all_true (nat_eq a.cost a.cost) (pointwise same_symbol a.right a.right) (own_nat a.cost) ((pointwise_decides (decides same_symbol is_symbol own_symbol) a.right a.right).1 refl))
    (own_window a.span)) (own_window a.first)) (own_window a.last)
