-- Marks of what the arcs of a day tell.
use Rattle.std.proofs.Common.{◌≡◌, ℕ, zero, suc, arith, ◌+◌, ◌*◌, ◌-◌, ◌≤◌, ◌<◌, Bool, List, [], ◌∷◌, Option, None, Some, length, drop, get_or, refl, sym, ap, subst, ◌∙◌, ◌⊎◌, inl, inr, length-drop}
use Rattle.std.specs.Prelude.{◌↔◌, ◌≢◌}
use Rattle.model_rosters.specs.declared.grammar.ArcKey.{ArcKey}
use Rattle.model_rosters.specs.declared.grammar.Grammar.{Grammar}
use Rattle.model_rosters.specs.declared.grammar.Rule.{Rule}
use Rattle.model_rosters.specs.declared.grammar.Sym.{Sym}
use Rattle.model_rosters.specs.Grammar.{rule_at}
use Rattle.model_rosters.specs.Folds.{In}
use Rattle.model_rosters.specs.Arcs.{Letter, IsArc}
use Rattle.model_rosters.proofs.tree_laws.Symbols.{here, here_last}
use Rattle.model_rosters.specs.arc_laws.OrNodes.{OrNode, name, suffix, leaf, left_of, right_of, symbol_node, rest_node, used_by, used}
use Rattle.model_rosters.proofs.arc_laws.BalanceLemmas.{right_of-is}
use Rattle.tree_span_arcs.specs.Ahead.{IsAhead}
use Rattle.tree_span_arcs.specs.Order.{IsNextArc}
use Rattle.tree_span_arcs.proofs.AheadLemmas.{first-ahead, try-next}
use Rattle.tree_findings.specs.declared.used.Used.{Used}
use Rattle.tree_findings.specs.Used.{UsesRule, UsesName, UsesCode, HasLetter}
use Rattle.tree_findings.specs.Marks.{IsSet, Sets, IsMarkOf, IsCodeOf, TellsRule, TellsName, TellsDay, TellsUsed, TellsLetter, TellsCode, AreMarked, HasRoom, IsFresh, SetsArc, IsMarkedTo, IsUseOf}
use Rattle.tree_findings.proofs.UsedLemmas.{rule-told, rule-shown, letter-told, letter-shown}

eq_or_not : (q p : ℕ) → (q ≡ p) ⊎ (q ≡ p → ⊥)
eq_or_not zero zero = inl refl
eq_or_not zero (suc p) = inr (λ e. absurd (omega (arith, e)))
eq_or_not (suc q) zero = inr (λ e. absurd (omega (arith, e)))
eq_or_not (suc q) (suc p) = elim (eq_or_not q p) [ inl e ↦ inl (omega (arith, e)) | inr f ↦ inr (λ e. f (omega (arith, e))) ]

-- marks that tell the same
pub sets-same : (told other : ℕ → Type 0) (old new : List Bool) → ((q : ℕ) → told q → other q) → ((q : ℕ) → other q → told q) → Sets told old new → Sets other old new
sets-same told other old new to from h = record {
  count = h.count;
  each = λ q. (λ k. there q ((h.each q).0 k), λ k. (h.each q).1 (back q k));
}
  where
    there : (q : ℕ) → IsSet old q ⊎ told q → IsSet old q ⊎ other q
    there q (inl k) = inl k
    there q (inr k) = inr (to q k)

    back : (q : ℕ) → IsSet old q ⊎ other q → IsSet old q ⊎ told q
    back q (inl k) = inl k
    back q (inr k) = inr (from q k)

-- nothing is marked
pub sets-none : (told : ℕ → Type 0) (old : List Bool) → ((q : ℕ) → told q → ⊥) → Sets told old old
sets-none told old none = record { count = refl; each = λ q. (λ k. inl k, λ k. back q k) }
  where
    back : (q : ℕ) → IsSet old q ⊎ told q → IsSet old q
    back q (inl k) = k
    back q (inr k) = absurd (none q k)

-- marks of two things
pub sets-then : (first second : ℕ → Type 0) (old mid new : List Bool) → Sets first old mid → Sets second mid new → Sets (λ q. first q ⊎ second q) old new
sets-then first second old mid new h k = record {
  count = k.count ∙ h.count;
  each = λ q. (λ s. there q ((k.each q).0 s), λ s. (k.each q).1 (back q s));
}
  where
    after : (q : ℕ) → IsSet old q ⊎ first q → IsSet old q ⊎ (first q ⊎ second q)
    after q (inl s) = inl s
    after q (inr s) = inr (inl s)

    there : (q : ℕ) → IsSet mid q ⊎ second q → IsSet old q ⊎ (first q ⊎ second q)
    there q (inl s) = after q ((h.each q).0 s)
    there q (inr s) = inr (inr s)

    back : (q : ℕ) → IsSet old q ⊎ (first q ⊎ second q) → IsSet mid q ⊎ second q
    back q (inl s) = inl ((h.each q).1 (inl s))
    back q (inr (inl s)) = inl ((h.each q).1 (inr s))
    back q (inr (inr s)) = inr s

-- the marks of what an arc uses, by its symbols
module _ (g : Grammar) (a : ArcKey) (mark : OrNode → ℕ → Type 0) (old new : List Bool) where
  pub used-one : (o : OrNode) → used g a ≡ o ∷ [] → Sets (mark o) old new → Sets (TellsUsed g mark a) old new
  used-one o e h = sets-same (mark o) (TellsUsed g mark a) old new to from h
    where
      to : (q : ℕ) → mark o q → TellsUsed g mark a q
      to q m = (o, subst (λ (os : List OrNode). In o os) (sym e) (inl refl), m)

      pick : (q : ℕ) (p : OrNode) → In p (o ∷ []) → mark p q → mark o q
      pick q p (inl same) m = subst (λ (k : OrNode). mark k q) same m
      pick q p (inr none) m = absurd none

      from : (q : ℕ) → TellsUsed g mark a q → mark o q
      from q t = pick q t.0 (subst (λ (os : List OrNode). In t.0 os) e t.1) t.2

  pub used-both : (o p : OrNode) → used g a ≡ o ∷ p ∷ [] → Sets (λ q. mark o q ⊎ mark p q) old new → Sets (TellsUsed g mark a) old new
  used-both o p e h = sets-same (λ q. mark o q ⊎ mark p q) (TellsUsed g mark a) old new to from h
    where
      to : (q : ℕ) → mark o q ⊎ mark p q → TellsUsed g mark a q
      to q (inl m) = (o, subst (λ (os : List OrNode). In o os) (sym e) (inl refl), m)
      to q (inr m) = (p, subst (λ (os : List OrNode). In p os) (sym e) (inr (inl refl)), m)

      pick : (q : ℕ) (k : OrNode) → In k (o ∷ p ∷ []) → mark k q → mark o q ⊎ mark p q
      pick q k (inl same) m = inl (subst (λ (n : OrNode). mark n q) same m)
      pick q k (inr (inl same)) m = inr (subst (λ (n : OrNode). mark n q) same m)
      pick q k (inr (inr none)) m = absurd none

      from : (q : ℕ) → TellsUsed g mark a q → mark o q ⊎ mark p q
      from q t = pick q t.0 (subst (λ (os : List OrNode). In t.0 os) e t.1) t.2

module _ (g : Grammar) (a : ArcKey) (rule : Rule) (at : rule_at g a.rule ≡ Some rule) (xs : List Sym) (right : xs ≡ rule.right) (d s : Sym) (first : get_or xs a.suffix d ≡ s) where
  all : drop a.suffix (right_of g a.rule) ≡ drop a.suffix xs
  all = ap (drop a.suffix) (right_of-is g a.rule rule at ∙ sym right)

  begun : a.suffix < length xs → used g a ≡ symbol_node s a.start a.part ∷ rest_node (drop (suc a.suffix) xs) a.rule (suc a.suffix) (a.start + a.part) (a.len - a.part)
  begun l = ap (λ (ss : List Sym). used_by ss a) (all ∙ here xs a.suffix d s l first)

  only : a.suffix + 1 ≡ length xs → used g a ≡ symbol_node s a.start a.part ∷ []
  only l = ap (λ (ss : List Sym). used_by ss a) (all ∙ here_last xs a.suffix d s l first)

  more : a.suffix + 2 < length xs → used g a ≡ symbol_node s a.start a.part ∷ suffix a.rule (suc a.suffix) (a.start + a.part) (a.len - a.part) ∷ []
  more l = begun (omega (arith, l)) ∙ ap (λ (os : List OrNode). symbol_node s a.start a.part ∷ os) (by (drop (suc a.suffix) xs) (omega (arith, length-drop (suc a.suffix) xs, l)))
    where
      by : (ss : List Sym) → 2 ≤ length ss → rest_node ss a.rule (suc a.suffix) (a.start + a.part) (a.len - a.part) ≡ suffix a.rule (suc a.suffix) (a.start + a.part) (a.len - a.part) ∷ []
      by [] n = absurd (omega (arith, n))
      by (y ∷ []) n = absurd (omega (arith, n))
      by (y ∷ z ∷ ss) n = refl

  -- two symbols are left
  pub two-used : (x : Sym) → a.suffix + 2 ≡ length xs → get_or xs (a.suffix + 1) d ≡ x → used g a ≡ symbol_node s a.start a.part ∷ symbol_node x (a.start + a.part) (a.len - a.part) ∷ []
  two-used x l e =
      let n : suc a.suffix ≡ a.suffix + 1 = omega arith in
      let rest : drop (suc a.suffix) xs ≡ x ∷ [] = here_last xs (suc a.suffix) d x (omega (arith, l)) (ap (λ (k : ℕ). get_or xs k d) n ∙ e) in
      begun (omega (arith, l)) ∙ ap (λ (ss : List Sym). symbol_node s a.start a.part ∷ rest_node ss a.rule (suc a.suffix) (a.start + a.part) (a.len - a.part)) rest

  -- one is left, or more than two
  pub first-sets : (mark : OrNode → ℕ → Type 0) (old new : List Bool) → ((r k i l q : ℕ) → mark (suffix r k i l) q → ⊥) → a.suffix < length xs → a.suffix + 2 ≢ length xs
      → Sets (mark (symbol_node s a.start a.part)) old new → Sets (TellsUsed g mark a) old new
  first-sets mark old new none within other h = by (eq_or_not (a.suffix + 1) (length xs))
    where
      by : (a.suffix + 1 ≡ length xs) ⊎ (a.suffix + 1 ≡ length xs → ⊥) → Sets (TellsUsed g mark a) old new
      by (inl e) = used-one g a mark old new (symbol_node s a.start a.part) (only e) h
      by (inr f) =
          let o = symbol_node s a.start a.part in
          let p = suffix a.rule (suc a.suffix) (a.start + a.part) (a.len - a.part) in
          let l : a.suffix + 2 < length xs = three f in
          used-both g a mark old new o p (more l)
          (sets-same (mark o) (λ q. mark o q ⊎ mark p q) old new (λ q m. inl m) (λ q m. elim m [ inl k ↦ k | inr k ↦ absurd (none a.rule (suc a.suffix) (a.start + a.part) (a.len - a.part) q k) ]) h)
        where
          three : (a.suffix + 1 ≡ length xs → ⊥) → a.suffix + 2 < length xs
          three f = let f' : a.suffix + 1 ≢ length xs = f in omega (arith, within, other, f')

-- one step of the walk
module _ (g : Grammar) (tells : ArcKey → ℕ → Type 0) where
  marked-first : (r : Option ArcKey) (flags : List Bool) → ((q : ℕ) → IsSet flags q → ⊥) → IsNextArc g None r → AreMarked g tells r flags
  marked-first r flags fresh n = record {
    sound = λ q s. absurd (fresh q s);
    whole = λ a is. inr (first-ahead g r n a is);
  }

  marked-next : (a : ArcKey) (r : Option ArcKey) (old new : List Bool) → IsArc g a → AreMarked g tells (Some a) old → Sets (tells a) old new → IsNextArc g (Some a) r → AreMarked g tells r new
  marked-next a r old new is h sets n = record {
    sound = λ q s. sound q ((sets.each q).0 s);
    whole = try-next g (λ x. (q : ℕ) → tells x q → IsSet new q) a r whole (λ q t. (sets.each q).1 (inr t)) n;
  }
    where
      sound : (q : ℕ) → IsSet old q ⊎ tells a q → (b : ArcKey) × IsArc g b × tells b q
      sound q (inl s) = h.sound q s
      sound q (inr t) = (a, is, t)

      more : (x : ArcKey) → ((q : ℕ) → tells x q → IsSet old q) ⊎ IsAhead (Some a) x → ((q : ℕ) → tells x q → IsSet new q) ⊎ IsAhead (Some a) x
      more x (inl f) = inl (λ q t. (sets.each q).1 (inl (f q t)))
      more x (inr b) = inr b

      whole : (x : ArcKey) → IsArc g x → ((q : ℕ) → tells x q → IsSet new q) ⊎ IsAhead (Some a) x
      whole x is = more x (h.whole x is)

  -- at the end exactly what the arcs tell is marked
  marked-end : (flags : List Bool) → AreMarked g tells None flags → (q : ℕ) → IsSet flags q ↔ ((a : ArcKey) × IsArc g a × tells a q)
  marked-end flags h q = (λ s. h.sound q s, λ t. by t (h.whole t.0 t.1))
    where
      by : (t : (a : ArcKey) × IsArc g a × tells a q) → ((q : ℕ) → tells t.0 q → IsSet flags q) ⊎ ⊥ → IsSet flags q
      by t (inl f) = f q t.2
      by t (inr none) = absurd none

pub walk-first : (g : Grammar) (u : Used) (r : Option ArcKey) → HasRoom u → IsFresh u → IsNextArc g None r → IsMarkedTo g r u
walk-first g u r room fresh n = record {
  room = room;
  rules = marked-first g TellsRule r u.rules.items fresh.rules n;
  names = marked-first g (TellsName g) r u.names.items fresh.names n;
  days = marked-first g (TellsDay g) r u.days.items fresh.days n;
  codes = marked-first g (TellsCode g) r u.codes.items fresh.codes n;
  letters = marked-first g (TellsLetter g) r u.letters.items fresh.letters n;
}

pub sets-room : (g : Grammar) (a : ArcKey) (old new : Used) → HasRoom old → SetsArc g a old new → HasRoom new
sets-room g a old new room sets = record {
  rules = sets.rules.count ∙ room.rules;
  names = sets.names.count ∙ room.names;
  days = sets.days.count ∙ room.days;
  codes = sets.codes.count ∙ room.codes;
  letters = sets.letters.count ∙ room.letters;
}

pub walk-next : (g : Grammar) (a : ArcKey) (old new : Used) (r : Option ArcKey) → IsArc g a → IsMarkedTo g (Some a) old → SetsArc g a old new → IsNextArc g (Some a) r → IsMarkedTo g r new
walk-next g a old new r is h sets n = record {
  room = sets-room g a old new h.room sets;
  rules = marked-next g TellsRule a r old.rules.items new.rules.items is h.rules sets.rules n;
  names = marked-next g (TellsName g) a r old.names.items new.names.items is h.names sets.names n;
  days = marked-next g (TellsDay g) a r old.days.items new.days.items is h.days sets.days n;
  codes = marked-next g (TellsCode g) a r old.codes.items new.codes.items is h.codes sets.codes n;
  letters = marked-next g (TellsLetter g) a r old.letters.items new.letters.items is h.letters sets.letters n;
}

module _ (g : Grammar) where
  rule_use : (q : ℕ) → ((a : ArcKey) × IsArc g a × TellsRule a q) → UsesRule g q
  rule_use q t = subst (λ (r : ℕ). UsesRule g r) (sym t.2) (rule-shown g t.0 t.1)

  name_use : (q : ℕ) → ((a : ArcKey) × IsArc g a × TellsName g a q) → UsesName g q
  name_use q t = (t.0.rule, rule-shown g t.0 t.1, t.2)

  name_told : (q : ℕ) → UsesName g q → (a : ArcKey) × IsArc g a × TellsName g a q
  name_told q h = let a = rule-told g h.0 h.1 in (a.0, a.1, h.2 ∙ ap (left_of g) a.2)

  letters_same : (l : Letter) (c p : ℕ) → l.period < 256 → p < 256 → c * 256 + p ≡ l.code * 256 + l.period → l ≡ record { code = c; period = p }
  letters_same l c p small little e =
      let f : l.code ≡ c = omega (arith, small, little, e) in
      let h : l.period ≡ p = omega (arith, small, little, e) in
      both l.code c l.period p f h
    where
      both : (x y i j : ℕ) → x ≡ y → i ≡ j → ◌≡◌ {A = Letter} (record { code = x; period = i }) (record { code = y; period = j })
      both x y i j e f = cc

  letter_use : (c p : ℕ) → p < 256 → ((a : ArcKey) × IsArc g a × TellsLetter g a (c * 256 + p)) → HasLetter g (record { code = c; period = p })
  letter_use c p little t = by t.2.0 t.2.1 t.2.2
    where
      by : (o : OrNode) → In o (used g t.0) → IsMarkOf o (c * 256 + p) → HasLetter g (record { code = c; period = p })
      by (name x i l) h m = absurd m
      by (suffix r k i l) h m = absurd m
      by (leaf l) h m = subst (λ (k : Letter). HasLetter g k) (letters_same l c p m.0 little m.1) (letter-shown g l t.0 t.1 h)

  letter_told : (c p : ℕ) → p < 256 → HasLetter g (record { code = c; period = p }) → (a : ArcKey) × IsArc g a × TellsLetter g a (c * 256 + p)
  letter_told c p little h =
      let l : Letter = record { code = c; period = p } in
      let a = letter-told g l h in
      (a.0, a.1, (leaf l, a.2, (little, refl)))

  code_use : (c : ℕ) → ((a : ArcKey) × IsArc g a × TellsCode g a c) → UsesCode g c
  code_use c t = by t.2.0 t.2.1 t.2.2
    where
      by : (o : OrNode) → In o (used g t.0) → IsCodeOf o c → UsesCode g c
      by (name x i l) h m = absurd m
      by (suffix r k i l) h m = absurd m
      by (leaf l) h m = subst (λ (k : ℕ). UsesCode g k) (sym m) (l.period, letter-shown g l t.0 t.1 h)

  code_told : (c : ℕ) → UsesCode g c → (a : ArcKey) × IsArc g a × TellsCode g a c
  code_told c h =
      let l : Letter = record { code = c; period = h.0 } in
      let a = letter-told g l h.1 in
      (a.0, a.1, (leaf l, a.2, refl))

  -- at the end of the walk exactly what the trees use is marked
  pub walk-end : (u : Used) → IsMarkedTo g None u → IsUseOf g u
  walk-end u h = record {
    rules = λ q. let e = marked-end g TellsRule u.rules.items h.rules q in (λ s. rule_use q (e.0 s), λ t. e.1 (rule-told g q t));
    names = λ q. let e = marked-end g (TellsName g) u.names.items h.names q in (λ s. name_use q (e.0 s), λ t. e.1 (name_told q t));
    days = λ q. marked-end g (TellsDay g) u.days.items h.days q;
    codes = λ q. let e = marked-end g (TellsCode g) u.codes.items h.codes q in (λ s. code_use q (e.0 s), λ t. e.1 (code_told q t));
    letters = λ c p little. let e = marked-end g (TellsLetter g) u.letters.items h.letters (c * 256 + p) in (λ s. letter_use c p little (e.0 s), λ t. e.1 (letter_told c p little t));
  }
