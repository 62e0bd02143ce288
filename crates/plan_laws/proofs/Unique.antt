-- A word has at most one reading by a duty line: its time off at both ends, its parts as the greatest runs of work and of
-- one pause, and its blocks as the greatest runs of one code.
use Rattle.std.proofs.Common.{◌≡◌, ◌≢◌, ℕ, ◌≤◌, ◌+◌, ◌-◌, ◌*◌, Bool, true, false, not, IsTrue, List, [], ◌∷◌, ◌++◌, length, arith, refl, subst, sym, ap, ◌∙◌, length-append, append_assoc, inl, inr}
use Rattle.model_rosters.specs.declared.grammar.Window.{Window}
use Rattle.model_rosters.specs.Folds.{In, Each, sum_n}
use Rattle.plan_laws.specs.declared.period_plan.Activity.{Activity}
use Rattle.plan_laws.specs.declared.period_plan.PeriodDuty.{PeriodDuty}
use Rattle.plan_laws.specs.declared.period_plan.PeriodPart.{PeriodPart}
use Rattle.plan_laws.specs.declared.period_plan.PeriodPlan.{PeriodPlan}
use Rattle.plan_laws.specs.declared.period_plan.PeriodPart.TheVariants.{Pausing, Working}
use Rattle.plan_laws.specs.PeriodShifts.{word_cost, change_cost, Alone, Block, IsBlock, joined, Differ, AreParts, IsShiftBy, IsLine}
use Rattle.plan_laws.specs.Readings.{blocks_of, IsReadablePart, AreOther, Alternate, IsReadable, ReadingLaw}
use Rattle.plan_laws.proofs.Trees.{each_in}
use Rattle.plan_laws.proofs.Sides.{all_each}
use Rattle.plan_laws.proofs.Words.{each_side}
use Rattle.plan_laws.proofs.Ties.{changes_of, duty_price}

-- the list does not begin so
abbrev BeginsNot : {A : Type 0} → (A → Type 0) → List A → Type 0
BeginsNot P [] = Unit {0}
BeginsNot P (x ∷ xs) = P x → ⊥

heads : {A : Type 0} (x y : A) (xs ys : List A) → x ∷ xs ≡ y ∷ ys → x ≡ y
heads x y xs ys e = cc

tails : {A : Type 0} (x y : A) (xs ys : List A) → x ∷ xs ≡ y ∷ ys → xs ≡ ys
tails x y xs ys e = cc

same_list : {A : Type 0} (x y : A) (xs ys : List A) → x ≡ y → xs ≡ ys → x ∷ xs ≡ y ∷ ys
same_list x y xs ys e f = cc

-- a list has one greatest begin of items that meet P
one_cut : {A : Type 0} (P : A → Type 0) (u v s t : List A) → u ++ v ≡ s ++ t → Each P u → Each P s → BeginsNot P v → BeginsNot P t → (u ≡ s) × (v ≡ t)
one_cut P [] v [] t e hu hs hv ht = (refl, e)
one_cut {A = A} P [] v (y ∷ s) t e hu hs hv ht = absurd (subst (λ (z : List A). BeginsNot P z) e hv hs.0)
one_cut {A = A} P (x ∷ u) v [] t e hu hs hv ht = absurd (subst (λ (z : List A). BeginsNot P z) (sym e) ht hu.0)
one_cut P (x ∷ u) v (y ∷ s) t e hu hs hv ht =
    let r = one_cut P u v s t (tails x y (u ++ v) (s ++ t) e) hu.1 hs.1 hv ht in
    (same_list x y u s (heads x y (u ++ v) (s ++ t) e) r.0, r.1)

clash : (v : Bool) → IsTrue v → IsTrue (not v) → ⊥
clash true f n = cc
clash false f n = cc

abbrev block_of : Activity → List ℕ → Block
block_of a w = record { activity = a; word = w }

same_block : (b d : Block) → b.activity ≡ d.activity → b.word ≡ d.word → b ≡ d
same_block b d e f = ap (λ (x : Activity). block_of x b.word) e ∙ ap (λ (v : List ℕ). block_of d.activity v) f

joined-append : (bs ds : List Block) → joined (bs ++ ds) ≡ joined bs ++ joined ds
joined-append [] ds = refl
joined-append (b ∷ bs) ds = ap (λ (v : List ℕ). b.word ++ v) (joined-append bs ds) ∙ sym (append_assoc b.word (joined bs) (joined ds))

-- the first block has another code
abbrev FirstNot : ℕ → List Block → Type 0
FirstNot c [] = Unit {0}
FirstNot c (d ∷ ds) = d.activity.code ≢ c

first_not : (b : Block) (bs : List Block) → Differ (b ∷ bs) → FirstNot b.activity.code bs
first_not b [] h = tt
first_not b (d ∷ ds) h = h.0

later : (b : Block) (bs : List Block) → Differ (b ∷ bs) → Differ bs
later b [] h = tt
later b (d ∷ ds) h = h.1

differ_side : (g ds : List Block) → Differ g → Differ ds → ((x : Block) → In x g → FirstNot x.activity.code ds) → Differ (g ++ ds)
differ_side [] ds h k f = k
differ_side (b ∷ []) [] h k f = tt
differ_side (b ∷ []) (d ∷ ds) h k f = (f b (inl refl), k)
differ_side (b ∷ c ∷ bs) ds h k f = (h.0, differ_side (c ∷ bs) ds h.1 k (λ x at. f x (inr at)))

-- words that are one and begin with letters of one code have this code
first_code : (a b : ℕ) (u v s t : List ℕ) → u ++ v ≡ s ++ t → Alone a u → 1 ≤ length u → Alone b s → 1 ≤ length s → a ≡ b
first_code a b [] v s t e h more k some = absurd (omega arith)
first_code a b (x ∷ u) v [] t e h more k some = absurd (omega arith)
first_code a b (x ∷ u) v (y ∷ s) t e h more k some = sym h.0 ∙ (heads x y (u ++ v) (s ++ t) e ∙ k.0)

-- all the parts' blocks
abbrev flat : List (List Block) → List Block
flat [] = []
flat (g ∷ gs) = g ++ flat gs

module _ (p : PeriodPlan) where
  -- a block of a line, with a letter
  record IsRun (b : Block) : Type 0 where
    line : IsLine p b.activity
    alone : Alone b.activity.code b.word
    some : 1 ≤ length b.word

  same_activity : (a b : Activity) → IsLine p a → IsLine p b → a.code ≡ b.code → a ≡ b
  same_activity a b one two e = two.only a one.one e

  begins_other : (c : ℕ) (ds : List Block) → Each IsRun ds → FirstNot c ds → BeginsNot (λ (x : ℕ). x ≡ c) (joined ds)
  begins_other c [] all ne = tt
  begins_other c (d ∷ ds) all ne = go d.word all.0.alone all.0.some
    where
      go : (w : List ℕ) → Alone d.activity.code w → 1 ≤ length w → BeginsNot (λ (x : ℕ). x ≡ c) (w ++ joined ds)
      go [] h some = absurd (omega arith)
      go (x ∷ w) h some = λ e. ne (sym h.0 ∙ e)

  no_runs : (d : Block) (ds : List Block) → IsRun d → [] ≡ joined (d ∷ ds) → ⊥
  no_runs d ds h e = let len : 0 ≡ length (d.word ++ joined ds) = ap length e in omega (arith, len, h.some, length-append d.word (joined ds))

  -- a word has one list of blocks whose neighbours differ
  one_list : (bs ds : List Block) → Each IsRun bs → Each IsRun ds → Differ bs → Differ ds → joined bs ≡ joined ds → bs ≡ ds
  one_list [] [] hb hd fb fd e = refl
  one_list [] (d ∷ ds) hb hd fb fd e = absurd (no_runs d ds hd.0 e)
  one_list (b ∷ bs) [] hb hd fb fd e = absurd (no_runs b bs hb.0 (sym e))
  one_list (b ∷ bs) (d ∷ ds) hb hd fb fd e =
      let code : b.activity.code ≡ d.activity.code = first_code b.activity.code d.activity.code b.word (joined bs) d.word (joined ds) e hb.0.alone hb.0.some hd.0.alone hd.0.some in
      let act : b.activity ≡ d.activity = same_activity b.activity d.activity hb.0.line hd.0.line code in
      let cut = one_cut (λ (x : ℕ). x ≡ b.activity.code) b.word (joined bs) d.word (joined ds) e hb.0.alone
      (subst (λ (n : ℕ). Alone n d.word) (sym code) hd.0.alone)
      (begins_other b.activity.code bs hb.1 (first_not b bs fb))
      (begins_other b.activity.code ds hd.1 (subst (λ (n : ℕ). FirstNot n ds) (sym code) (first_not d ds fd))) in
      same_list b d bs ds (same_block b d act cut.0) (one_list bs ds hb.1 hd.1 (later b bs fb) (later d ds fd) cut.1)

  -- the blocks of a part
  abbrev IsGroup : PeriodPart → List Block → Type 0
  IsGroup (Working s) g = (1 ≤ length g) × Each (λ (b : Block). IsRun b × IsTrue b.activity.work) g × Differ g
  IsGroup (Pausing a begin) g = (u : List ℕ) × (g ≡ block_of a u ∷ []) × IsRun (block_of a u) × IsTrue (not a.work)

  abbrev AreGroups : List PeriodPart → List (List Block) → Type 0
  AreGroups [] [] = Unit {0}
  AreGroups [] (g ∷ gs) = ⊥
  AreGroups (x ∷ xs) [] = ⊥
  AreGroups (x ∷ xs) (g ∷ gs) = IsGroup x g × AreGroups xs gs

  groups : (r : ℕ) (long : Window) (xs : List PeriodPart) (i : ℕ) (w : List ℕ) (c : ℕ) (m : AreParts p r long xs i w c) → Each (IsReadablePart p) xs → AreGroups xs (blocks_of p r long xs i w c m)
  groups r long [] i w c m u = tt
  groups r long (Working s ∷ xs) i w c m u =
      let bs = m.6.first ∷ m.6.others in
      ((omega arith, all_each _ bs (λ b at_bs. each b (each_in (IsBlock s) b bs m.6.blocks.lawful at_bs)), m.6.blocks.differ), groups r long xs (i + length m.0) m.1 m.3 m.7 u.1)
    where
      each : (b : Block) → IsBlock s b → IsRun b × IsTrue b.activity.work
      each b h =
          let a = each_in (λ (a : Activity). IsLine p a × IsTrue a.work) b.activity s u.0 h.one in
          (record { line = a.0; alone = h.alone.alone; some = omega (arith, a.0.some, h.alone.least) }, a.1)
  groups r long (Pausing a begin ∷ xs) i w c m u =
      ((m.0, refl, record { line = u.0.0; alone = m.6.alone.alone; some = omega (arith, u.0.0.some, m.6.alone.least) }, u.0.1), groups r long xs (i + length m.0) m.1 m.3 m.7 u.1)

  -- the word is its blocks side by side
  spelled : (r : ℕ) (long : Window) (xs : List PeriodPart) (i : ℕ) (w : List ℕ) (c : ℕ) (m : AreParts p r long xs i w c) → w ≡ joined (flat (blocks_of p r long xs i w c m))
  spelled r long [] i w c m = m.0
  spelled r long (Working s ∷ xs) i w c m =
      let gs = blocks_of p r long xs (i + length m.0) m.1 m.3 m.7 in
      let bs = m.6.first ∷ m.6.others in
      let rest : m.0 ++ m.1 ≡ m.0 ++ joined (flat gs) = ap (λ (v : List ℕ). m.0 ++ v) (spelled r long xs (i + length m.0) m.1 m.3 m.7) in
      let own : m.0 ++ joined (flat gs) ≡ joined bs ++ joined (flat gs) = ap (λ (v : List ℕ). v ++ joined (flat gs)) m.6.blocks.word in
      m.4 ∙ (rest ∙ (own ∙ sym (joined-append bs (flat gs))))
  spelled r long (Pausing a begin ∷ xs) i w c m =
      m.4 ∙ ap (λ (v : List ℕ). m.0 ++ v) (spelled r long xs (i + length m.0) m.1 m.3 m.7)

  changes_same : (r : ℕ) (long : Window) (xs : List PeriodPart) (i : ℕ) (w : List ℕ) (c : ℕ) (m : AreParts p r long xs i w c)
      → changes_of p r long xs i w c m ≡ sum_n (λ (g : List Block). length g - 1) (blocks_of p r long xs i w c m)
  unfolding changes_of
  changes_same r long [] i w c m = refl
  changes_same r long (Working s ∷ xs) i w c m = omega (arith, changes_same r long xs (i + length m.0) m.1 m.3 m.7)
  changes_same r long (Pausing a begin ∷ xs) i w c m = omega (arith, changes_same r long xs (i + length m.0) m.1 m.3 m.7)

  abbrev IsOf : PeriodPart → Block → Type 0
  IsOf (Working s) b = IsTrue b.activity.work
  IsOf (Pausing a begin) b = (b.activity ≡ a) × IsTrue (not b.activity.work)

  -- a block of a part
  record InGroup (x : PeriodPart) (b : Block) : Type 0 where
    run : IsRun b
    kind : IsOf x b

  in_group : (x : PeriodPart) (g : List Block) (b : Block) → IsGroup x g → In b g → InGroup x b
  in_group (Working s) g b h at_g = let r = each_in (λ (b : Block). IsRun b × IsTrue b.activity.work) b g h.1 at_g in record { run = r.0; kind = r.1 }
  in_group (Pausing a begin) g b h at_g = go (subst (λ (z : List Block). In b z) h.1 at_g)
    where
      go : In b (block_of a h.0 ∷ []) → InGroup (Pausing a begin) b
      go (inl e) = subst (λ (x : Block). InGroup (Pausing a begin) x) (sym e) (record { run = h.2; kind = (refl, h.3) })
      go (inr e) = absurd e

  runs_of : (x : PeriodPart) (g : List Block) → IsGroup x g → Each IsRun g
  runs_of x g h = all_each _ g (λ b at_g. (in_group x g b h at_g).run)

  differ_of : (x : PeriodPart) (g : List Block) → IsGroup x g → Differ g
  differ_of (Working s) g h = h.2
  differ_of (Pausing a begin) g h = subst (λ (z : List Block). Differ z) (sym h.1) tt

  some_of : (x : PeriodPart) (g : List Block) → IsGroup x g → 1 ≤ length g
  some_of (Working s) g h = h.0
  some_of (Pausing a begin) g h = let len : length g ≡ 1 = ap length h.1 in omega (arith, len)

  -- blocks of neighbouring parts have different codes
  apart : (x y : PeriodPart) (b d : Block) → AreOther x y → InGroup x b → InGroup y d → d.activity.code ≢ b.activity.code
  apart (Working s) (Working t) b d o h k = absurd o
  apart (Working s) (Pausing a begin) b d o h k = λ e. clash d.activity.work (subst (λ (z : Activity). IsTrue z.work) (sym (same_activity d.activity b.activity k.run.line h.run.line e)) h.kind) k.kind.1
  apart (Pausing a begin) (Working s) b d o h k = λ e. clash b.activity.work (subst (λ (z : Activity). IsTrue z.work) (same_activity d.activity b.activity k.run.line h.run.line e) k.kind) h.kind.1
  apart (Pausing a begin) (Pausing c start) b d o h k = λ e. o (sym (ap (λ (z : Activity). z.code) k.kind.0) ∙ (e ∙ ap (λ (z : Activity). z.code) h.kind.0))

  next_apart : (x : PeriodPart) (xs : List PeriodPart) (gs : List (List Block)) (b : Block) → Alternate (x ∷ xs) → InGroup x b → AreGroups xs gs → FirstNot b.activity.code (flat gs)
  next_apart x [] [] b o h k = tt
  next_apart x [] (g ∷ gs) b o h k = absurd k
  next_apart x (y ∷ ys) [] b o h k = absurd k
  next_apart x (y ∷ ys) (g ∷ gs) b o h k = go g k.0
    where
      go : (g : List Block) → IsGroup y g → FirstNot b.activity.code (g ++ flat gs)
      go [] m = absurd (omega (arith, some_of y [] m))
      go (d ∷ ds) m = apart x y b d o.0 h (in_group y (d ∷ ds) d m (inl refl))

  rest_of : (x : PeriodPart) (xs : List PeriodPart) → Alternate (x ∷ xs) → Alternate xs
  rest_of x [] o = tt
  rest_of x (y ∷ xs) o = o.1

  flat_runs : (xs : List PeriodPart) (gs : List (List Block)) → AreGroups xs gs → Each IsRun (flat gs)
  flat_runs [] [] h = tt
  flat_runs [] (g ∷ gs) h = absurd h
  flat_runs (x ∷ xs) [] h = absurd h
  flat_runs (x ∷ xs) (g ∷ gs) h = each_side IsRun g (flat gs) (runs_of x g h.0) (flat_runs xs gs h.1)

  flat_differ : (xs : List PeriodPart) (gs : List (List Block)) → Alternate xs → AreGroups xs gs → Differ (flat gs)
  flat_differ [] [] o h = tt
  flat_differ [] (g ∷ gs) o h = absurd h
  flat_differ (x ∷ xs) [] o h = absurd h
  flat_differ (x ∷ xs) (g ∷ gs) o h =
      differ_side g (flat gs) (differ_of x g h.0) (flat_differ xs gs (rest_of x xs o) h.1)
      (λ b at_g. next_apart x xs gs b o (in_group x g b h.0 at_g) h.1)

  flat_some : (xs : List PeriodPart) (gs : List (List Block)) → 1 ≤ length xs → AreGroups xs gs → 1 ≤ length (joined (flat gs))
  flat_some [] gs some h = absurd (omega arith)
  flat_some (x ∷ xs) [] some h = absurd h
  flat_some (x ∷ xs) (g ∷ gs) some h = go g h.0
    where
      go : (g : List Block) → IsGroup x g → 1 ≤ length (joined (g ++ flat gs))
      go [] m = absurd (omega (arith, some_of x [] m))
      go (d ∷ ds) m = let r = (in_group x (d ∷ ds) d m (inl refl)).run in omega (arith, r.some, length-append d.word (joined (ds ++ flat gs)))

  abbrev Works : Block → Type 0
  Works b = IsTrue b.activity.work

  -- behind work stands no work
  no_work : (s : List Activity) (xs : List PeriodPart) (gs : List (List Block)) → Alternate (Working s ∷ xs) → AreGroups xs gs → BeginsNot Works (flat gs)
  no_work s [] [] o h = tt
  no_work s [] (g ∷ gs) o h = absurd h
  no_work s (x ∷ xs) [] o h = absurd h
  no_work s (Working t ∷ xs) (g ∷ gs) o h = absurd o.0
  no_work s (Pausing a begin ∷ xs) (g ∷ gs) o h = subst (λ (z : List Block). BeginsNot Works (z ++ flat gs)) (sym h.0.1) (λ t. clash a.work t h.0.3)

  cut_group : (x : PeriodPart) (xs : List PeriodPart) (g h : List Block) (gs hs : List (List Block)) → Alternate (x ∷ xs) → IsGroup x g → AreGroups xs gs → IsGroup x h → AreGroups xs hs
      → g ++ flat gs ≡ h ++ flat hs → (g ≡ h) × (flat gs ≡ flat hs)
  cut_group (Working s) xs g h gs hs o m ms n ns e =
      one_cut Works g (flat gs) h (flat hs) e (works g m) (works h n) (no_work s xs gs o ms) (no_work s xs hs o ns)
    where
      works : (g : List Block) → IsGroup (Working s) g → Each Works g
      works g m = all_each _ g (λ b at_g. (in_group (Working s) g b m at_g).kind)
  cut_group (Pausing a begin) xs g h gs hs o m ms n ns e =
      let left : g ++ flat gs ≡ block_of a m.0 ∷ flat gs = ap (λ (z : List Block). z ++ flat gs) m.1 in
      let right : h ++ flat hs ≡ block_of a n.0 ∷ flat hs = ap (λ (z : List Block). z ++ flat hs) n.1 in
      let same : block_of a m.0 ∷ flat gs ≡ block_of a n.0 ∷ flat hs = sym left ∙ (e ∙ right) in
      let one : block_of a m.0 ≡ block_of a n.0 = heads (block_of a m.0) (block_of a n.0) (flat gs) (flat hs) same in
      (m.1 ∙ (ap (λ (b : Block). b ∷ []) one ∙ sym n.1), tails (block_of a m.0) (block_of a n.0) (flat gs) (flat hs) same)

  -- the blocks fall to the parts in one way
  one_grouping : (xs : List PeriodPart) (gs hs : List (List Block)) → Alternate xs → AreGroups xs gs → AreGroups xs hs → flat gs ≡ flat hs → gs ≡ hs
  one_grouping [] [] [] o m n e = refl
  one_grouping [] (g ∷ gs) hs o m n e = absurd m
  one_grouping [] [] (h ∷ hs) o m n e = absurd n
  one_grouping (x ∷ xs) [] hs o m n e = absurd m
  one_grouping (x ∷ xs) (g ∷ gs) [] o m n e = absurd n
  one_grouping (x ∷ xs) (g ∷ gs) (h ∷ hs) o m n e =
      let c = cut_group x xs g h gs hs o m.0 m.1 n.0 n.1 e in
      same_list g h gs hs c.0 (one_grouping xs gs hs (rest_of x xs o) m.1 n.1 c.1)

  -- no letter of a duty is time off
  on_duty : (bs : List Block) → ((a : Activity) → In a p.activities → a.code ≢ p.off) → Each IsRun bs → Each (λ (x : ℕ). x ≢ p.off) (joined bs)
  on_duty [] off h = tt
  on_duty (b ∷ bs) off h = each_side (λ (x : ℕ). x ≢ p.off) b.word (joined bs) (letters b.word h.0.alone) (on_duty bs off h.1)
    where
      letters : (w : List ℕ) → Alone b.activity.code w → Each (λ (x : ℕ). x ≢ p.off) w
      letters [] k = tt
      letters (x ∷ w) k = ((λ e. off b.activity h.0.line.one (sym k.0 ∙ e)), letters w k.1)

  begins_on : (u v : List ℕ) → 1 ≤ length u → Each (λ (x : ℕ). x ≢ p.off) u → BeginsNot (λ (x : ℕ). x ≡ p.off) (u ++ v)
  begins_on [] v some h = absurd (omega arith)
  begins_on (x ∷ u) v some h = h.0

  begins_off : (v : List ℕ) → Alone p.off v → BeginsNot (λ (x : ℕ). x ≢ p.off) v
  begins_off [] h = tt
  begins_off (x ∷ v) h = λ ne. ne h.0

  -- what a shift's reading comes to
  record Read (d : PeriodDuty) (w : List ℕ) (c : ℕ) (h : IsShiftBy p d w c) (gs : List (List Block)) : Type 0 where
    groups : AreGroups d.parts gs
    word : h.work ≡ joined (flat gs)
    some : 1 ≤ length h.work
    on : Each (λ (x : ℕ). x ≢ p.off) h.work
    price : c ≡ d.cost + (word_cost p d.plus (1 + length h.before) h.work + sum_n (λ (g : List Block). length g - 1) gs * change_cost p)

  read : (d : PeriodDuty) (w : List ℕ) (c : ℕ) (h : IsShiftBy p d w c) → IsReadable p d → Read d w c h (blocks_of p d.plus d.stretch d.parts (1 + length h.before) h.work h.duty.paid h.duty.parts)
  read d w c h u =
      let i = 1 + length h.before in
      let gs = blocks_of p d.plus d.stretch d.parts i h.work h.duty.paid h.duty.parts in
      let g = groups d.plus d.stretch d.parts i h.work h.duty.paid h.duty.parts u.parts in
      let word : h.work ≡ joined (flat gs) = spelled d.plus d.stretch d.parts i h.work h.duty.paid h.duty.parts in
      let len : length h.work ≡ length (joined (flat gs)) = ap length word in
      record {
        groups = g;
        word = word;
        some = omega (arith, len, flat_some d.parts gs u.some g);
        on = subst (λ (v : List ℕ). Each (λ (x : ℕ). x ≢ p.off) v) (sym word) (on_duty (flat gs) u.off (flat_runs d.parts gs g));
        price = duty_price p d i h.work c h.duty
            ∙ ap (λ (n : ℕ). d.cost + (word_cost p d.plus i h.work + n * change_cost p)) (changes_same d.plus d.stretch d.parts i h.work h.duty.paid h.duty.parts);
      }

pub reading_law : ReadingLaw
reading_law = λ p d u w c e h k.
    let gs = blocks_of p d.plus d.stretch d.parts (1 + length h.before) h.work h.duty.paid h.duty.parts in
    let hs = blocks_of p d.plus d.stretch d.parts (1 + length k.before) k.work k.duty.paid k.duty.parts in
    let m = read p d w c h u in
    let n = read p d w e k u in
    let ends = one_cut (λ (x : ℕ). x ≡ p.off) h.before (h.work ++ h.after) k.before (k.work ++ k.after) (sym h.word ∙ k.word) h.off.0 k.off.0
    (begins_on p h.work h.after m.some m.on) (begins_on p k.work k.after n.some n.on) in
    let middle = one_cut (λ (x : ℕ). x ≢ p.off) h.work h.after k.work k.after ends.1 m.on n.on (begins_off p h.after h.off.1) (begins_off p k.after k.off.1) in
    let lists : flat gs ≡ flat hs = one_list p (flat gs) (flat hs) (flat_runs p d.parts gs m.groups) (flat_runs p d.parts hs n.groups)
    (flat_differ p d.parts gs u.alternate m.groups) (flat_differ p d.parts hs u.alternate n.groups) (sym m.word ∙ (middle.0 ∙ n.word)) in
    let blocks : gs ≡ hs = one_grouping p d.parts gs hs u.alternate m.groups n.groups lists in
    let letters : word_cost p d.plus (1 + length h.before) h.work ≡ word_cost p d.plus (1 + length k.before) k.work
    = ap (λ (v : List ℕ). word_cost p d.plus (1 + length v) h.work) ends.0 ∙ ap (λ (v : List ℕ). word_cost p d.plus (1 + length k.before) v) middle.0 in
    let changes : sum_n (λ (g : List Block). length g - 1) gs * change_cost p ≡ sum_n (λ (g : List Block). length g - 1) hs * change_cost p
    = ap (λ (x : List (List Block)). sum_n (λ (g : List Block). length g - 1) x * change_cost p) blocks in
    record {
      before = ends.0;
      work = middle.0;
      after = middle.1;
      blocks = blocks;
      price = omega (arith, m.price, n.price, letters, changes);
    }
