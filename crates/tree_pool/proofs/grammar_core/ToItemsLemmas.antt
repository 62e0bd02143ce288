-- The walks down a tree, part by part.
use Rattle.std.proofs.Common.{◌≡◌, ℕ, suc, ◌<◌, ◌≤◌, ◌+◌, ◌-◌, List, [], ◌∷◌, ◌++◌, Some, arith, refl, subst, sym, ap, ◌∙◌, length, drop, get_or, append_assoc, length-append, length-drop, drop-cons}
use Rattle.std.proofs.lemmas.List.{append-nil}
use Rattle.std.proofs.lemmas.Option.{same_Some}
use Rattle.model_rosters.specs.declared.grammar.ArcKey.{ArcKey}
use Rattle.model_rosters.specs.declared.grammar.Grammar.{Grammar}
use Rattle.model_rosters.specs.declared.grammar.Rule.{Rule}
use Rattle.model_rosters.specs.declared.grammar.Step.{Step}
use Rattle.model_rosters.specs.declared.grammar.Sym.{Sym}
use Rattle.model_rosters.specs.declared.grammar.Sym.TheVariants.{Code, Name}
use Rattle.model_rosters.specs.Grammar.{rule_at}
use Rattle.model_rosters.specs.Sound.{IsSound}
use Rattle.model_rosters.specs.Trees.{Parts, done, letter, uses, Derive, On, steps}
use Rattle.model_rosters.specs.Arcs.{arcs, parts_arcs}
use Rattle.model_rosters.specs.tree_laws.Laws.{arc_at}
use Rattle.model_rosters.proofs.tree_laws.Rules.{sound-rule}
use Rattle.model_rosters.proofs.tree_laws.ListPushes.{same_head, same_tail}
use Rattle.tree_pool.specs.declared.grammar_core.suffix.Suffix.{Suffix}
use Rattle.tree_pool.specs.grammar_core.Walks.{own_arcs, next_len, AsksTree, AsksParts, TurnsTree, TurnsParts}
use Rattle.tree_pool.proofs.grammar_core.PartsLemmas.{Split, split}

-- what follows a first part of so many periods
abbrev pub after : Suffix → ℕ → Suffix
after x part = record { rule = x.rule; from = x.from + 1; start = x.start + part; len = x.len - part }

-- the next steps tell how long the tree of a symbol is
next_len-is : (g : Grammar) (s : Sym) (i l : ℕ) (t : Parts) (xs rest : List Step) → On g (s ∷ []) i l t → xs ≡ steps i t ++ rest → next_len s xs ≡ l
next_len-is g (Code c) i l (letter d done) xs rest h e = h.1
next_len-is g (Code c) i l (letter d (letter d' more)) xs rest h e = absurd h.0.1
next_len-is g (Code c) i l (letter d (uses q z inner more)) xs rest h e = absurd h.0.1
next_len-is g (Code c) i l done xs rest h e = absurd h.0
next_len-is g (Code c) i l (uses q z inner more) xs rest h e = absurd h.0
next_len-is g (Name c) i l (uses q z inner done) xs rest h e = ap (next_len (Name c)) e ∙ omega (arith, h.1)
next_len-is g (Name c) i l (uses q z inner (letter d more)) xs rest h e = absurd h.0.7
next_len-is g (Name c) i l (uses q z inner (uses q' z' inner' more)) xs rest h e = absurd h.0.7
next_len-is g (Name c) i l done xs rest h e = absurd h.0
next_len-is g (Name c) i l (letter d more) xs rest h e = absurd h.0

module _ (g : Grammar) (rule : Rule) (x : Suffix) (s : Sym) (lt : x.from < length rule.right) (is : s ≡ get_or rule.right x.from (Code 0)) where
  opened : drop x.from rule.right ≡ s ∷ drop (x.from + 1) rule.right
  opened =
      let next : x.from + 1 ≡ suc x.from = omega arith in
      rw (is, next) (drop-cons rule.right x.from (Code 0) lt)

  -- the parts of the suffix in two
  pub parted : (t : Parts) → On g (drop x.from rule.right) x.start x.len t
      → (size : ℕ) × Split g s (drop (x.from + 1) rule.right) x.rule x.from (length rule.right) x.start x.len t size
  parted t on = split g s (drop (x.from + 1) rule.right) x.rule x.from (length rule.right) x.start x.len t (omega (arith, length-drop (x.from + 1) rule.right, lt))
      (subst (λ ss. On g ss x.start x.len t) opened on)

  -- a rule has no more than eight symbols
  pub from_below : IsSound g → rule_at g x.rule ≡ Some rule → x.from < 8
  from_below sound at = omega (arith, (sound-rule g sound x.rule rule at).eight, lt)

  module _ (t : Parts) (on : On g (drop x.from rule.right) x.start x.len t) (rest : List Step) (xs : List Step) (e : xs ≡ steps x.start t ++ rest) where
    steps_apart : (size : ℕ) (p : Split g s (drop (x.from + 1) rule.right) x.rule x.from (length rule.right) x.start x.len t size)
        → xs ≡ steps x.start p.head ++ (steps (x.start + size) p.tail ++ rest)
    steps_apart size p = e ∙ ap (λ ys. ys ++ rest) p.steps_of ∙ append_assoc (steps x.start p.head) (steps (x.start + size) p.tail) rest

    size_is : (size : ℕ) → Split g s (drop (x.from + 1) rule.right) x.rule x.from (length rule.right) x.start x.len t size → size ≡ next_len s xs
    size_is size p = sym (next_len-is g s x.start size p.head xs (steps (x.start + size) p.tail ++ rest) p.first (steps_apart size p))

    -- the first part is as long as the next steps tell
    pub steps-part : Split g s (drop (x.from + 1) rule.right) x.rule x.from (length rule.right) x.start x.len t (next_len s xs)
    steps-part = let p = parted t on in
        subst (λ size. Split g s (drop (x.from + 1) rule.right) x.rule x.from (length rule.right) x.start x.len t size) (size_is p.0 p.1) p.1

    -- the steps left after its tree are those of the other parts
    pub steps-left : {Y : Type 0} (to : ℕ → Parts → List Y) (old new : List Y) (ys : List Step) → TurnsTree g s steps to xs old ys new
        → (ys ≡ steps (x.start + next_len s xs) steps-part.tail ++ rest) × (new ≡ old ++ to x.start steps-part.head)
    steps-left to old new ys turns = turns x.start (next_len s xs) steps-part.head (steps (x.start + next_len s xs) steps-part.tail ++ rest) steps-part.first (steps_apart (next_len s xs) steps-part)

    -- so the arcs of the parts are added in preorder
    pub steps-turned : (y : Suffix) (old one two three : List ArcKey) (ys zs : List Step) → y ≡ after x (next_len s xs)
        → one ≡ old ++ own_arcs (length rule.right) (arc_at x.rule x.from x.start x.len (next_len s xs))
        → TurnsTree g s steps arcs xs one ys two
        → TurnsParts g rule y (steps y.start) (parts_arcs y.rule y.from y.start) ys two zs three
        → (zs ≡ rest) × (three ≡ old ++ parts_arcs x.rule x.from x.start t)
    steps-turned y old one two three ys zs same own turns others =
        let p = steps-part in
        let left = steps-left arcs one two ys turns in
        let rests : TurnsParts g rule (after x (next_len s xs)) (steps (x.start + next_len s xs)) (parts_arcs x.rule (x.from + 1) (x.start + next_len s xs)) ys two zs three =
        subst (λ (w : Suffix). TurnsParts g rule w (steps w.start) (parts_arcs w.rule w.from w.start) ys two zs three) same others in
        let size : steps-part.others_len ≡ x.len - next_len s xs = omega (arith, p.fits) in
        let r = rests p.tail rest (subst (λ (n : ℕ). On g (drop (x.from + 1) rule.right) (x.start + next_len s xs) n p.tail) size p.others) left.0 in (
          r.0,
          r.1 ∙ ap (λ zs. zs ++ parts_arcs x.rule (x.from + 1) (x.start + next_len s xs) p.tail) (left.1 ∙ ap (λ zs. zs ++ arcs x.start p.head) own)
              ∙ rw (p.arcs_of) (simp append_assoc),
        )

  module _ (xs : List Step) (asks : AsksParts g rule x (steps x.start) xs) where
    abbrev own_part : Split g s (drop (x.from + 1) rule.right) x.rule x.from (length rule.right) x.start x.len asks.tree (next_len s xs)
    own_part = steps-part asks.tree asks.on asks.rest xs asks.is

    -- the steps that come next are those of a tree of the symbol
    pub steps-asks_tree : AsksTree g s steps xs
    steps-asks_tree = let p = own_part in
        record {
          sound = asks.sound;
          start = x.start;
          len = next_len s xs;
          tree = p.head;
          on = p.first;
          rest = steps (x.start + next_len s xs) p.tail ++ asks.rest;
          is = steps_apart asks.tree asks.on asks.rest xs asks.is (next_len s xs) p;
        }

    -- the first part is no longer than all parts
    pub steps-part_within : next_len s xs ≤ x.len
    steps-part_within = omega (arith, own_part.fits)

    -- and after it come those of the other parts
    pub steps-asks_parts : {Y : Type 0} (to : ℕ → Parts → List Y) (old new : List Y) (ys : List Step) (y : Suffix) → y ≡ after x (next_len s xs)
        → TurnsTree g s steps to xs old ys new → AsksParts g rule y (steps y.start) ys
    steps-asks_parts to old new ys y same turns =
        let p = own_part in
        let size : p.others_len ≡ x.len - next_len s xs = omega (arith, p.fits) in
        let left = steps-left asks.tree asks.on asks.rest xs asks.is to old new ys turns in
        let rests : AsksParts g rule (after x (next_len s xs)) (steps (x.start + next_len s xs)) ys = record {
          sound = asks.sound;
          at = asks.at;
          within = omega (arith, lt);
          day = omega (arith, asks.day, p.fits);
          tree = p.tail;
          on = subst (λ (n : ℕ). On g (drop (x.from + 1) rule.right) (x.start + next_len s xs) n p.tail) size p.others;
          rest = asks.rest;
          is = left.0;
        } in
        subst (λ (w : Suffix). AsksParts g rule w (steps w.start) ys) (sym same) rests

    -- the walk goes on with no more steps
    pub steps-fewer : {Y : Type 0} (to : ℕ → Parts → List Y) (old new : List Y) (ys : List Step) → TurnsTree g s steps to xs old ys new → length ys ≤ length xs
    steps-fewer to old new ys turns =
        let p = own_part in
        let left = steps-left asks.tree asks.on asks.rest xs asks.is to old new ys turns in
        let all = ap length (steps_apart asks.tree asks.on asks.rest xs asks.is (next_len s xs) p) in
        let some = ap length left.0 in
        omega (arith, all, some, length-append (steps x.start p.head) (steps (x.start + next_len s xs) p.tail ++ asks.rest))

-- the rule use of a step, as its whole right side
abbrev pub whole : Step → Suffix
whole step = record { rule = step.rule; from = 0; start = step.start; len = step.len }

module _ (g : Grammar) (sound : IsSound g) (rule : Rule) (step : Step) (at : rule_at g step.rule ≡ Some rule) where
  -- a tree of a name is a rule use and the parts of its right side
  pub use_inner : (n i l : ℕ) (t : Parts) (xs rest ys : List Step) → On g (Name n ∷ []) i l t → xs ≡ steps i t ++ rest → xs ≡ step ∷ ys
      → (inner : Parts) × On g rule.right step.start step.len inner × (step.start + step.len ≤ 97) × (ys ≡ steps step.start inner ++ rest) × (arcs i t ≡ parts_arcs step.rule 0 step.start inner)
  use_inner n i l (uses q z inner done) xs rest ys h e f =
      let own : Step = record { rule = q; start = i; len = z } in
      let joined : step ∷ ys ≡ own ∷ ((steps i inner ++ []) ++ rest) = sym f ∙ e in
      let head : step ≡ own = same_head step own ys ((steps i inner ++ []) ++ rest) joined in
      let tail : ys ≡ (steps i inner ++ []) ++ rest = same_tail step own ys ((steps i inner ++ []) ++ rest) joined in
      let starts : step.start ≡ i = ap (λ (w : Step). w.start) head in
      let lens : step.len ≡ z = ap (λ (w : Step). w.len) head in
      let rules : step.rule ≡ q = ap (λ (w : Step). w.rule) head in
      let same : h.0.0 ≡ rule = same_Some h.0.0 rule (sym h.0.1 ∙ ap (λ (r : ℕ). rule_at g r) (sym rules) ∙ at) in
      (inner, rw (starts, lens) (subst (λ (r : Rule). Derive g r.right i inner) same h.0.6, h.0.5), omega (arith, h.0.3.within, sound.few_periods, starts, lens), rw starts (tail ∙ ap (λ zs. zs ++ rest) (append-nil (steps i inner))), rw (starts, rules) refl)
  use_inner n i l (uses q z inner (letter d more)) xs rest ys h e f = absurd h.0.7
  use_inner n i l (uses q z inner (uses q' z' inner' more)) xs rest ys h e f = absurd h.0.7
  use_inner n i l done xs rest ys h e f = absurd h.0
  use_inner n i l (letter d more) xs rest ys h e f = absurd h.0

  -- the steps after it are those of these parts
  pub use-asks : (n : ℕ) (xs ys : List Step) (y : Suffix) → y ≡ whole step → xs ≡ step ∷ ys → AsksTree g (Name n) steps xs → AsksParts g rule y (steps y.start) ys
  use-asks n xs ys y same e asks =
      let u = use_inner n asks.start asks.len asks.tree xs asks.rest ys asks.on asks.is e in
      let rests : AsksParts g rule (whole step) (steps step.start) ys = record { sound = sound; at = at; within = omega arith; day = u.2; tree = u.0; on = u.1; rest = asks.rest; is = u.3 } in
      subst (λ (w : Suffix). AsksParts g rule w (steps w.start) ys) (sym same) rests

  -- and the arcs of these parts are the arcs of the tree
  pub use-turned : (n : ℕ) (xs ys zs : List Step) (old new : List ArcKey) (y : Suffix) → y ≡ whole step → xs ≡ step ∷ ys
      → TurnsParts g rule y (steps y.start) (parts_arcs y.rule y.from y.start) ys old zs new → TurnsTree g (Name n) steps arcs xs old zs new
  use-turned n xs ys zs old new y same e turns i l t rest h f =
      let u = use_inner n i l t xs rest ys h f e in
      let rests : TurnsParts g rule (whole step) (steps step.start) (parts_arcs step.rule 0 step.start) ys old zs new =
      subst (λ (w : Suffix). TurnsParts g rule w (steps w.start) (parts_arcs w.rule w.from w.start) ys old zs new) same turns in
      let r = rests u.0 rest u.1 u.3 in
      (r.0, r.1 ∙ ap (λ zs. old ++ zs) (sym u.4))
