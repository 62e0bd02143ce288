-- The walks back from arcs to steps, part by part.
use Rattle.std.proofs.Common.{◌≡◌, ℕ, zero, suc, ◌<◌, ◌≤◌, ◌+◌, ◌-◌, ◌||◌, min, List, [], ◌∷◌, ◌++◌, Bool, true, false, cond, Some, nat_eq, nat_lt, arith, refl, subst, sym, ap, ◌∙◌, length, drop, get_or, append_assoc, length-append}
use Rattle.std.proofs.lemmas.Bool.{ltb-false}
use Rattle.std.proofs.lemmas.List.{append-nil, drop_all}
use Rattle.std.proofs.lemmas.Option.{same_Some}
use Rattle.model_rosters.specs.declared.grammar.ArcKey.{ArcKey}
use Rattle.model_rosters.specs.declared.grammar.Grammar.{Grammar}
use Rattle.model_rosters.specs.declared.grammar.Rule.{Rule}
use Rattle.model_rosters.specs.declared.grammar.Step.{Step}
use Rattle.model_rosters.specs.declared.grammar.Sym.{Sym}
use Rattle.model_rosters.specs.declared.grammar.Sym.TheVariants.{Code, Name}
use Rattle.model_rosters.specs.Grammar.{rule_at}
use Rattle.model_rosters.specs.Sound.{IsSound}
use Rattle.model_rosters.specs.Trees.{Parts, done, letter, uses, Derive, On, steps}
use Rattle.model_rosters.specs.Arcs.{arcs, parts_arcs}
use Rattle.model_rosters.specs.tree_laws.Laws.{arc_at}
use Rattle.model_rosters.proofs.tree_laws.Rules.{sound-rule}
use Rattle.model_rosters.proofs.tree_laws.ListPushes.{same_head}
use Rattle.tree_pool.specs.declared.grammar_core.suffix.Suffix.{Suffix}
use Rattle.tree_pool.specs.grammar_core.Walks.{has_arc, AsksTree, AsksParts, TurnsTree, TurnsParts}
use Rattle.tree_pool.proofs.grammar_core.PartsLemmas.{Split}
use Rattle.tree_pool.proofs.grammar_core.ToItemsLemmas.{after, whole, parted}

-- what is told of the arc that was taken for a first part, if it has one
pub record Takes (m : ℕ) (x : Suffix) (xs : List ArcKey) (part : ℕ) (mid : List ArcKey) : Type 0 where
  pub own : has_arc x.from m ≡ true → (key : ArcKey) (rest : List ArcKey) → xs ≡ key ∷ rest → (part ≡ key.part) × (mid ≡ rest)
  pub none : has_arc x.from m ≡ false → (part ≡ x.len) × (mid ≡ xs)

-- no symbols derive no letter
pub nothing : (g : Grammar) (ss : List Sym) (i n : ℕ) (t : Parts) → ss ≡ [] → On g ss i n t → n ≡ 0
nothing g ss i n t e h = by t (subst (λ (zs : List Sym). On g zs i n t) e h)
  where
    by : (u : Parts) → On g [] i n u → n ≡ 0
    by done k = sym k.1
    by (letter d rest) k = absurd k.0
    by (uses q z inner rest) k = absurd k.0

pub or_false : (a b : Bool) → (a || b) ≡ false → b ≡ false
or_false true b e = cc
or_false false b e = e

module _ (g : Grammar) (rule : Rule) (x : Suffix) (s : Sym) (lt : x.from < length rule.right) (is : s ≡ get_or rule.right x.from (Code 0)) where
  module _ (t : Parts) (on : On g (drop x.from rule.right) x.start x.len t) (rest xs : List ArcKey) (e : xs ≡ parts_arcs x.rule x.from x.start t ++ rest)
      (part : ℕ) (mid : List ArcKey) (takes : Takes (length rule.right) x xs part mid) where
    record Taken (size : ℕ) (p : Split g s (drop (x.from + 1) rule.right) x.rule x.from (length rule.right) x.start x.len t size) : Type 0 where
      pub size_is : size ≡ part
      pub left : mid ≡ arcs x.start p.head ++ (parts_arcs x.rule (x.from + 1) (x.start + size) p.tail ++ rest)
      pub fewer : length mid + 1 ≤ length xs + min x.from 1

    taken : (b : Bool) (size : ℕ) (p : Split g s (drop (x.from + 1) rule.right) x.rule x.from (length rule.right) x.start x.len t size) → has_arc x.from (length rule.right) ≡ b → Taken size p
    taken true size p h =
        let more = arcs x.start p.head ++ parts_arcs x.rule (x.from + 1) (x.start + size) p.tail in
        let key = arc_at x.rule x.from x.start x.len size in
        let all : xs ≡ key ∷ ((arcs x.start p.head ++ parts_arcs x.rule (x.from + 1) (x.start + size) p.tail) ++ rest) =
        e ∙ ap (λ ys. ys ++ rest) (p.arcs_of ∙ ap (λ (b : Bool). cond b (arc_at x.rule x.from x.start x.len size ∷ []) [] ++ (arcs x.start p.head ++ parts_arcs x.rule (x.from + 1) (x.start + size) p.tail)) h) in
        let k = takes.own h key (more ++ rest) all in
        let count = ap length all in
        let left = ap length k.1 in
        record {
          size_is = sym k.0;
          left = k.1 ∙ append_assoc (arcs x.start p.head) (parts_arcs x.rule (x.from + 1) (x.start + size) p.tail) rest;
          fewer = omega (arith, count, left);
        }
    taken false size p h =
        let all : xs ≡ (arcs x.start p.head ++ parts_arcs x.rule (x.from + 1) (x.start + size) p.tail) ++ rest =
        e ∙ ap (λ ys. ys ++ rest) (p.arcs_of ∙ ap (λ (b : Bool). cond b (arc_at x.rule x.from x.start x.len size ∷ []) [] ++ (arcs x.start p.head ++ parts_arcs x.rule (x.from + 1) (x.start + size) p.tail)) h) in
        let k = takes.none h in
        let last : length rule.right ≤ x.from + 1 = ltb-false (x.from + 1) (length rule.right) (or_false (nat_eq x.from 0) (nat_lt (x.from + 1) (length rule.right)) h) in
        let empty = nothing g (drop (x.from + 1) rule.right) (x.start + size) p.others_len p.tail (drop_all (x.from + 1) rule.right last) p.others in
        let left = ap length k.1 in
        let later = not_first x.from (length rule.right) h in
        record {
          size_is = omega (arith, p.fits, empty, k.0);
          left = k.1 ∙ all ∙ append_assoc (arcs x.start p.head) (parts_arcs x.rule (x.from + 1) (x.start + size) p.tail) rest;
          fewer = omega (arith, left, later);
        }
      where
        not_first : (k m : ℕ) → has_arc k m ≡ false → 1 ≤ k
        not_first zero m h = cc
        not_first (suc k) m h = omega arith

    -- the first part is as long as its arc tells
    pub arcs-part : (p : Split g s (drop (x.from + 1) rule.right) x.rule x.from (length rule.right) x.start x.len t part)
        × (mid ≡ arcs x.start p.head ++ (parts_arcs x.rule (x.from + 1) (x.start + part) p.tail ++ rest)) × (length mid + 1 ≤ length xs + min x.from 1)
    arcs-part =
        let q = parted g rule x s lt is t on in
        let k = taken (has_arc x.from (length rule.right)) q.0 q.1 refl in
        to q.0 q.1 k.size_is k.left k.fewer
      where
        to : (size : ℕ) (p : Split g s (drop (x.from + 1) rule.right) x.rule x.from (length rule.right) x.start x.len t size) → size ≡ part
            → mid ≡ arcs x.start p.head ++ (parts_arcs x.rule (x.from + 1) (x.start + size) p.tail ++ rest) → length mid + 1 ≤ length xs + min x.from 1
            → (p : Split g s (drop (x.from + 1) rule.right) x.rule x.from (length rule.right) x.start x.len t part)
            × (mid ≡ arcs x.start p.head ++ (parts_arcs x.rule (x.from + 1) (x.start + part) p.tail ++ rest)) × (length mid + 1 ≤ length xs + min x.from 1)
        to size p same left fewer = subst (λ (n : ℕ). (p : Split g s (drop (x.from + 1) rule.right) x.rule x.from (length rule.right) x.start x.len t n)
            × (mid ≡ arcs x.start p.head ++ (parts_arcs x.rule (x.from + 1) (x.start + n) p.tail ++ rest)) × (length mid + 1 ≤ length xs + min x.from 1)) same (p, left, fewer)

    -- the arcs left after its tree are those of the other parts
    pub arcs-left : {Y : Type 0} (to : ℕ → Parts → List Y) (old new : List Y) (ys : List ArcKey) → TurnsTree g s arcs to mid old ys new
        → (ys ≡ parts_arcs x.rule (x.from + 1) (x.start + part) arcs-part.0.tail ++ rest) × (new ≡ old ++ to x.start arcs-part.0.head)
    arcs-left to old new ys turns = turns x.start part arcs-part.0.head (parts_arcs x.rule (x.from + 1) (x.start + part) arcs-part.0.tail ++ rest) arcs-part.0.first arcs-part.1

    -- so the steps of the parts are added in preorder
    pub arcs-turned : (y : Suffix) (old two three : List Step) (ys zs : List ArcKey) → y ≡ after x part
        → TurnsTree g s arcs steps mid old ys two
        → TurnsParts g rule y (parts_arcs y.rule y.from y.start) (steps y.start) ys two zs three
        → (zs ≡ rest) × (three ≡ old ++ steps x.start t)
    arcs-turned y old two three ys zs same turns others =
        let left = arcs-left steps old two ys turns in
        let rests : TurnsParts g rule (after x part) (parts_arcs x.rule (x.from + 1) (x.start + part)) (steps (x.start + part)) ys two zs three =
        subst (λ (w : Suffix). TurnsParts g rule w (parts_arcs w.rule w.from w.start) (steps w.start) ys two zs three) same others in
        let size : arcs-part.0.others_len ≡ x.len - part = omega (arith, arcs-part.0.fits) in
        let r = rests arcs-part.0.tail rest (subst (λ (n : ℕ). On g (drop (x.from + 1) rule.right) (x.start + part) n arcs-part.0.tail) size arcs-part.0.others) left.0 in (
          r.0,
          r.1 ∙ ap (λ zs. zs ++ steps (x.start + part) arcs-part.0.tail) left.1 ∙ rw (arcs-part.0.steps_of) (append_assoc old (steps x.start arcs-part.0.head) (steps (x.start + part) arcs-part.0.tail)),
        )

  module _ (xs : List ArcKey) (asks : AsksParts g rule x (parts_arcs x.rule x.from x.start) xs) (part : ℕ) (mid : List ArcKey) (takes : Takes (length rule.right) x xs part mid) where
    -- the arcs that come next are those of a tree of the symbol
    pub arcs-asks_tree : AsksTree g s arcs mid
    arcs-asks_tree =
        let p = arcs-part asks.tree asks.on asks.rest xs asks.is part mid takes in
        record {
          sound = asks.sound;
          start = x.start;
          len = part;
          tree = p.0.head;
          on = p.0.first;
          rest = parts_arcs x.rule (x.from + 1) (x.start + part) p.0.tail ++ asks.rest;
          is = p.1;
        }

    -- the first part is no longer than all parts
    pub arcs-part_within : part ≤ x.len
    arcs-part_within = let p = arcs-part asks.tree asks.on asks.rest xs asks.is part mid takes in omega (arith, p.0.fits)

    -- the first part of a rule takes an arc
    pub arcs-part_fewer : length mid + 1 ≤ length xs + min x.from 1
    arcs-part_fewer = (arcs-part asks.tree asks.on asks.rest xs asks.is part mid takes).2

    -- and after it come those of the other parts
    pub arcs-asks_parts : {Y : Type 0} (to : ℕ → Parts → List Y) (old new : List Y) (ys : List ArcKey) (y : Suffix) → y ≡ after x part
        → TurnsTree g s arcs to mid old ys new → AsksParts g rule y (parts_arcs y.rule y.from y.start) ys
    arcs-asks_parts to old new ys y same turns =
        let p = arcs-part asks.tree asks.on asks.rest xs asks.is part mid takes in
        let size : p.0.others_len ≡ x.len - part = omega (arith, p.0.fits) in
        let left = arcs-left asks.tree asks.on asks.rest xs asks.is part mid takes to old new ys turns in
        let rests : AsksParts g rule (after x part) (parts_arcs x.rule (x.from + 1) (x.start + part)) ys = record {
          sound = asks.sound;
          at = asks.at;
          within = omega (arith, lt);
          day = omega (arith, asks.day, p.0.fits);
          tree = p.0.tail;
          on = subst (λ (n : ℕ). On g (drop (x.from + 1) rule.right) (x.start + part) n p.0.tail) size p.0.others;
          rest = asks.rest;
          is = left.0;
        } in
        subst (λ (w : Suffix). AsksParts g rule w (parts_arcs w.rule w.from w.start) ys) (sym same) rests

    -- the walk goes on with no more arcs
    pub arcs-fewer : {Y : Type 0} (to : ℕ → Parts → List Y) (old new : List Y) (ys : List ArcKey) → TurnsTree g s arcs to mid old ys new → length ys ≤ length mid
    arcs-fewer to old new ys turns =
        let p = arcs-part asks.tree asks.on asks.rest xs asks.is part mid takes in
        let left = arcs-left asks.tree asks.on asks.rest xs asks.is part mid takes to old new ys turns in
        let all = ap length p.1 in
        let some = ap length left.0 in
        omega (arith, all, some, length-append (arcs x.start p.0.head) (parts_arcs x.rule (x.from + 1) (x.start + part) p.0.tail ++ asks.rest))

-- the rule use whose first arc is given
abbrev pub step_of : ArcKey → Step
step_of key = record { rule = key.rule; start = key.start; len = key.len }

-- the first arc of the parts of a rule use tells the use
pub first_key : (g : Grammar) (q i z : ℕ) (ss : List Sym) (inner : Parts) → 1 ≤ length ss → On g ss i z inner
    → (size : ℕ) × (more : List ArcKey) × (parts_arcs q 0 i inner ≡ arc_at q 0 i z size ∷ more)
first_key g q i z [] inner some h = absurd (omega arith)
first_key g q i z (Code c ∷ ss) (letter d rest) some h = (1, parts_arcs q 1 (i + 1) rest, ap (λ n. arc_at q 0 i n 1 ∷ parts_arcs q 1 (i + 1) rest) h.1)
first_key g q i z (Code c ∷ ss) done some h = absurd h.0
first_key g q i z (Code c ∷ ss) (uses r n own rest) some h = absurd h.0
first_key g q i z (Name c ∷ ss) (uses r n own rest) some h =
    (n, parts_arcs r 0 i own ++ parts_arcs q 1 (i + n) rest, ap (λ m. arc_at q 0 i m n ∷ (parts_arcs r 0 i own ++ parts_arcs q 1 (i + n) rest)) h.1)
first_key g q i z (Name c ∷ ss) done some h = absurd h.0
first_key g q i z (Name c ∷ ss) (letter d rest) some h = absurd h.0

module _ (g : Grammar) (sound : IsSound g) (rule : Rule) (key : ArcKey) (at : rule_at g key.rule ≡ Some rule) where
  -- a tree of a name is a rule use and the parts of its right side
  use_inner : (n i l : ℕ) (t : Parts) (xs rest ys : List ArcKey) → On g (Name n ∷ []) i l t → xs ≡ arcs i t ++ rest → xs ≡ key ∷ ys
      → (inner : Parts) × On g rule.right key.start key.len inner × (key.start + key.len ≤ 97) × (xs ≡ parts_arcs key.rule 0 key.start inner ++ rest)
      × (steps i t ≡ step_of key ∷ (steps key.start inner ++ []))
  use_inner n i l (uses q z inner done) xs rest ys h e f =
      let some = (sound-rule g sound q h.0.0 h.0.1).some in
      let k = first_key g q i z h.0.0.right inner some (h.0.6, h.0.5) in
      let joined : key ∷ ys ≡ arc_at q 0 i z k.0 ∷ (k.1 ++ rest) = sym f ∙ e ∙ ap (λ zs. zs ++ rest) k.2 in
      let head : key ≡ arc_at q 0 i z k.0 = same_head key (arc_at q 0 i z k.0) ys (k.1 ++ rest) joined in
      let starts : key.start ≡ i = ap (λ (w : ArcKey). w.start) head in
      let lens : key.len ≡ z = ap (λ (w : ArcKey). w.len) head in
      let rules : key.rule ≡ q = ap (λ (w : ArcKey). w.rule) head in
      let same : h.0.0 ≡ rule = same_Some h.0.0 rule (sym h.0.1 ∙ ap (λ (r : ℕ). rule_at g r) (sym rules) ∙ at) in
      (inner, rw (starts, lens) (subst (λ (r : Rule). Derive g r.right i inner) same h.0.6, h.0.5), omega (arith, h.0.3.within, sound.few_periods, starts, lens), rw (starts, rules) e, rw (starts, lens, rules) refl)
  use_inner n i l (uses q z inner (letter d more)) xs rest ys h e f = absurd h.0.7
  use_inner n i l (uses q z inner (uses q' z' inner' more)) xs rest ys h e f = absurd h.0.7
  use_inner n i l done xs rest ys h e f = absurd h.0
  use_inner n i l (letter d more) xs rest ys h e f = absurd h.0

  -- the arcs are those of these parts
  pub key-asks : (n : ℕ) (xs ys : List ArcKey) (y : Suffix) → y ≡ whole (step_of key) → xs ≡ key ∷ ys → AsksTree g (Name n) arcs xs
      → AsksParts g rule y (parts_arcs y.rule y.from y.start) xs
  key-asks n xs ys y same e asks =
      let u = use_inner n asks.start asks.len asks.tree xs asks.rest ys asks.on asks.is e in
      let rests : AsksParts g rule (whole (step_of key)) (parts_arcs key.rule 0 key.start) xs = record { sound = sound; at = at; within = omega arith; day = u.2; tree = u.0; on = u.1; rest = asks.rest; is = u.3 } in
      subst (λ (w : Suffix). AsksParts g rule w (parts_arcs w.rule w.from w.start) xs) (sym same) rests

  -- and the step and the steps of these parts are the steps of the tree
  pub key-turned : (n : ℕ) (xs ys zs : List ArcKey) (old one new : List Step) (y : Suffix) → y ≡ whole (step_of key) → xs ≡ key ∷ ys → one ≡ old ++ step_of key ∷ []
      → TurnsParts g rule y (parts_arcs y.rule y.from y.start) (steps y.start) xs one zs new → TurnsTree g (Name n) arcs steps xs old zs new
  key-turned n xs ys zs old one new y same e push turns i l t rest h f =
      let u = use_inner n i l t xs rest ys h f e in
      let rests : TurnsParts g rule (whole (step_of key)) (parts_arcs key.rule 0 key.start) (steps key.start) xs one zs new =
      subst (λ (w : Suffix). TurnsParts g rule w (parts_arcs w.rule w.from w.start) (steps w.start) xs one zs new) same turns in
      let r = rests u.0 rest u.1 u.3 in
      (r.0, r.1 ∙ ap (λ zs. zs ++ steps key.start u.0) push ∙ append_assoc old (step_of key ∷ []) (steps key.start u.0) ∙ ap (λ zs. old ++ zs) (ap (λ zs. step_of key ∷ zs) (sym (append-nil (steps key.start u.0))) ∙ sym u.4))
