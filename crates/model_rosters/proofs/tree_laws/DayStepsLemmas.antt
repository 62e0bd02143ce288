-- The first step of the parts of a name and of others, and what follows it.
use Rattle.std.proofs.Common.{◌≡◌, ℕ, ◌+◌, ◌≤◌, List, ◌∷◌, ◌++◌, Some, length, refl, sym, ap, subst, ◌∙◌, arith, append_assoc, length-append}
use Rattle.std.proofs.lemmas.Option.{same_Some}
use Rattle.model_rosters.specs.declared.grammar.Grammar.{Grammar}
use Rattle.model_rosters.specs.declared.grammar.Rule.{Rule}
use Rattle.model_rosters.specs.declared.grammar.Step.{Step}
use Rattle.model_rosters.specs.declared.grammar.Sym.{Sym}
use Rattle.model_rosters.specs.declared.grammar.Sym.TheVariants.{Name}
use Rattle.model_rosters.specs.Grammar.{rule_at}
use Rattle.model_rosters.specs.Trees.{Parts, done, letter, uses, Derive, steps}
use Rattle.model_rosters.specs.Room.{RoomView}
use Rattle.model_rosters.specs.Sums.{PriceView}
use Rattle.model_rosters.specs.tree_laws.DaySteps.{AsksParts, AreDaySteps}
use Rattle.model_rosters.proofs.tree_laws.ListPushes.{same_head, same_tail}
use Rattle.model_rosters.specs.tree_laws.LeastTrees.{HoldsLeastTree}

module _ (g : Grammar) where
  -- what the first step tells of the parts of a name and of others
  pub record Opened (ss : List Sym) (t : Parts) (step : Step) (below rest : List Step) : Type 0 where
    pub rule : Rule
    pub at : rule_at g step.rule ≡ Some rule
    pub inner : Parts
    pub more : Parts
    pub inside : Derive g rule.right step.start inner
    pub others : Derive g ss (step.start + step.len) more
    pub is : below ≡ steps step.start inner ++ (steps (step.start + step.len) more ++ rest)
    pub tree : t ≡ uses step.rule step.len inner more

  module _ (x : ℕ) (ss : List Sym) (step : Step) (xs below : List Step) (first : xs ≡ step ∷ below) where
    pub open_first : (i : ℕ) (t : Parts) (rest : List Step) → Derive g (Name x ∷ ss) i t → xs ≡ steps i t ++ rest → Opened ss t step below rest
    open_first i (uses q n inner more) rest h e =
        let own : Step = record { rule = q; start = i; len = n } in
        let joined : step ∷ below ≡ own ∷ ((steps i inner ++ steps (i + n) more) ++ rest) = sym first ∙ e in
        let one : own ≡ step = sym (same_head step own below ((steps i inner ++ steps (i + n) more) ++ rest) joined) in
        let tail = same_tail step own below ((steps i inner ++ steps (i + n) more) ++ rest) joined in
        let whole : Opened ss (uses q n inner more) own below rest = record {
          rule = h.0;
          at = h.1;
          inner = inner;
          more = more;
          inside = h.6;
          others = h.7;
          is = tail ∙ append_assoc (steps i inner) (steps (i + n) more) rest;
          tree = refl;
        } in
        subst (λ (s : Step). Opened ss (uses q n inner more) s below rest) one whole
    open_first i done rest h e = absurd h
    open_first i (letter d more) rest h e = absurd h

    abbrev own : (a : AsksParts g (Name x ∷ ss) xs) → Opened ss a.tree step below a.rest
    own a = open_first a.start a.tree a.rest a.derive a.is

    module _ (rule : Rule) (at : rule_at g step.rule ≡ Some rule) where
      pub inside-of : (t : Parts) (rest : List Step) (o : Opened ss t step below rest) → Derive g rule.right step.start o.inner
      inside-of t rest o = subst (λ (r : Rule). Derive g r.right step.start o.inner) (same_Some o.rule rule (sym o.at ∙ at)) o.inside

      -- the steps below it begin with those of the parts of its right side
      pub name-inner : AsksParts g (Name x ∷ ss) xs → AsksParts g rule.right below
      name-inner a = let o = own a in
          record {
            start = step.start;
            tree = o.inner;
            derive = inside-of a.tree a.rest o;
            rest = steps (step.start + step.len) o.more ++ a.rest;
            is = o.is;
          }

      -- what is left where the steps of the right side's parts are taken
      module _ (left : List Step) (taken : (i : ℕ) (t : Parts) (rest : List Step) → Derive g rule.right i t → below ≡ steps i t ++ rest → left ≡ rest) where
        -- then come those of the others
        pub name-others : AsksParts g (Name x ∷ ss) xs → AsksParts g ss left
        name-others a = let o = own a in
            record {
              start = step.start + step.len;
              tree = o.more;
              derive = o.others;
              rest = a.rest;
              is = taken step.start o.inner (steps (step.start + step.len) o.more ++ a.rest) (inside-of a.tree a.rest o) o.is;
            }

        -- which are fewer
        pub name-fewer : AsksParts g (Name x ∷ ss) xs → length left ≤ length below
        name-fewer a =
            let o = own a in
            let others = steps (step.start + step.len) o.more ++ a.rest in
            let r = taken step.start o.inner others (inside-of a.tree a.rest o) o.is in
            omega (arith, ap length r, ap length o.is, length-append (steps step.start o.inner) others)

-- the room holds the steps of a tree of the day
pub day-steps : (g : Grammar) (p : PriceView) (room : RoomView) → HoldsLeastTree g p room → AreDaySteps g room.steps
day-steps g p room h = (h.tree, h.of_day, h.held)
