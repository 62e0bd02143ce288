-- The lengths of what names and suffixes derive.
use Rattle.std.proofs.Common.{◌≡◌, ℕ, suc, ◌<◌, ◌≤◌, ◌+◌, List, [], ◌∷◌, Bool, true, false, None, Some, arith, length, drop, get_or, replicate, subst, sym, ap, ◌∙◌, ◌⊎◌, inl, inr}
use Rattle.std.specs.Prelude.{slice_get, IsTrue, ◌↔◌}
use Rattle.std.proofs.lemmas.List.{length-replicate, get_or-replicate}
use Rattle.std.proofs.lemmas.Option.{same_Some, slice_get_within, slice_get-get_or}
use Rattle.model_rosters.specs.declared.grammar.Grammar.{Grammar}
use Rattle.model_rosters.specs.declared.grammar.Rule.{Rule}
use Rattle.model_rosters.specs.declared.grammar.Sym.{Sym}
use Rattle.model_rosters.specs.declared.grammar.Sym.TheVariants.{Code, Name}
use Rattle.model_rosters.specs.Grammar.{rule_at}
use Rattle.model_rosters.specs.Sound.{IsSound}
use Rattle.model_rosters.specs.Sums.{PriceView, SymbolLeast, PartsLeast, parts_sum, tree_sum}
use Rattle.model_rosters.specs.Trees.{done, letter, uses, On, span_length}
use Rattle.model_rosters.proofs.tree_laws.LeastValues.{IsLeast-empty}
use Rattle.model_rosters.proofs.tree_laws.Rules.{rule_at-within, sound-symbol}
use Rattle.model_rosters.proofs.tree_laws.Symbols.{here}
use Rattle.tree_span_cells.specs.declared.lengths.Lengths.{Lengths}
use Rattle.tree_span_cells.specs.declared.slot.Slot.{Slot}
use Rattle.tree_span_cells.specs.declared.slot.Slot.TheVariants.{OfName, OfSuffix}
use Rattle.tree_span_cells.specs.Cells.{SlotLeast}
use Rattle.tree_span_cells.specs.Lengths.{IsAmong, Hold, HoldNames, HoldRule, HoldRules, HoldSlot, NamesWithin}

-- what is true exactly where a test is does not hold where the test fails
pub not-there : (v : Bool) (P : Type 0) → (IsTrue v ↔ P) → v ≡ false → P → ⊥
not-there true P told e h = cc
not-there false P told e h = let t : false ≡ true = told.1 h in cc

module _ (g : Grammar) where
  -- no symbols derive nothing
  pub hold-nothing : (b : Lengths) → b.least ≡ 0 → Hold g [] b
  hold-nothing b e i done h few = record { low = omega (arith, e); high = omega arith }
  hold-nothing b e i (letter d rest) h few = absurd h
  hold-nothing b e i (uses r n inner rest) h few = absurd h

  -- a symbol and those that follow it
  pub hold-then : (s : Sym) (ss : List Sym) (a b both : Lengths)
      → ((l m : ℕ) → l + m ≤ 96 → IsAmong a l → IsAmong b m → IsAmong both (l + m)) → Hold g (s ∷ []) a → Hold g ss b → Hold g (s ∷ ss) both
  hold-then (Code c) ss a b both sum ha hb i done h few = absurd h
  hold-then (Code c) ss a b both sum ha hb i (uses r n inner rest) h few = absurd h
  hold-then (Code c) ss a b both sum ha hb i (letter d rest) h few =
      sum 1 (span_length rest) few (ha i (letter d done) (h.0, tt) (omega arith)) (hb (i + 1) rest h.1 (omega (arith, few)))
  hold-then (Name x) ss a b both sum ha hb i done h few = absurd h
  hold-then (Name x) ss a b both sum ha hb i (letter d rest) h few = absurd h
  hold-then (Name x) ss a b both sum ha hb i (uses r n inner rest) h few =
      let e : n + 0 ≡ n = omega arith in
      let first = ha i (uses r n inner done) (h.0, h.1, h.2, h.3, h.4, h.5, h.6, tt) (omega (arith, few)) in
      sum n (span_length rest) few (subst (λ (q : ℕ). IsAmong a q) e first) (hb (i + n) rest h.7 (omega (arith, few)))

  -- the symbols from one on
  pub hold-step : (ss : List Sym) (k : ℕ) (s : Sym) (a b both : Lengths) → k < length ss → get_or ss k (Code 0) ≡ s
      → ((l m : ℕ) → l + m ≤ 96 → IsAmong a l → IsAmong b m → IsAmong both (l + m)) → Hold g (s ∷ []) a → Hold g (drop (suc k) ss) b → Hold g (drop k ss) both
  hold-step ss k s a b both lt at sum ha hb =
      subst (λ (q : List Sym). Hold g q both) (sym (here ss k (Code 0) s lt at)) (hold-then s (drop (suc k) ss) a b both sum ha hb)

  -- the trees of a name are uses of its rules
  pub hold-name : (x : ℕ) (b : Lengths) → HoldRules g x (length g.rules) b → Hold g (Name x ∷ []) b
  hold-name x b hold i done h few = absurd h
  hold-name x b hold i (letter d rest) h few = absurd h
  hold-name x b hold i (uses r n inner (letter d rest)) h few = absurd h.7
  hold-name x b hold i (uses r n inner (uses r' n' inner' rest)) h few = absurd h.7
  hold-name x b hold i (uses r n inner done) h few =
      let e : span_length inner ≡ n = h.5 in
      let z : span_length inner ≡ n + 0 = omega (arith, e) in
      let small : span_length inner ≤ 96 = omega (arith, few, e) in
      subst (λ (q : ℕ). IsAmong b q) z
      (hold r h.0 (rule_at-within g r h.0 h.1).1 h.1 h.2 i inner h.6 (rw e h.3.span) small)

  -- one rule more
  pub rules-next : (x n : ℕ) (now : Rule) (a b both : Lengths) → rule_at g (n + 1) ≡ Some now → HoldRules g x n a → (now.left ≡ x → HoldRule g now b)
      → ((l : ℕ) → IsAmong a l → IsAmong both l) → ((l : ℕ) → IsAmong b l → IsAmong both l) → HoldRules g x (n + 1) both
  rules-next x n now a b both at before more left right r rule le here own = by (last_or_not r le)
    where
      last_or_not : (r : ℕ) → r ≤ n + 1 → (r ≤ n) ⊎ (r ≡ n + 1)
      last_or_not r le = grind arith

      by : (r ≤ n) ⊎ (r ≡ n + 1) → HoldRule g rule both
      by (inl low) = λ i t h window few. left (span_length t) (before r rule low here own i t h window few)
      by (inr last) =
          let same : now ≡ rule = same_Some now rule (sym at ∙ ap (rule_at g) (sym last) ∙ here) in
          subst (λ (q : Rule). HoldRule g q both) same (λ i t h window few. right (span_length t) (more (rw same own) i t h window few))

  -- the names of a rule's right side
  pub names-in-rule : IsSound g → (r : ℕ) (rule : Rule) (n : ℕ) → rule_at g r ≡ Some rule → length g.names ≡ n → NamesWithin rule.right n
  names-in-rule sound r rule n at e k x lt is =
      let w : x < length g.names = sound-symbol g sound r k rule (Name x) (drop (suc k) rule.right) at (here rule.right k (Code 0) (Name x) lt is) in
      subst (λ (q : ℕ). x < q) e w

  -- all lengths are those of each name
  pub hold-all : (bs : List Lengths) (n : ℕ) (a : Lengths) → bs ≡ replicate n a → ((l : ℕ) → l ≤ 96 → IsAmong a l) → HoldNames g bs
  hold-all bs n a made all x b at i t h few = subst (λ (q : Lengths). IsAmong q (span_length t)) same (all (span_length t) few)
    where
      read : slice_get (replicate n a) x ≡ Some b
      read = subst (λ (q : List Lengths). slice_get q x ≡ Some b) made at

      within : x < n
      within = subst (λ (q : ℕ). x < q) (length-replicate n a) (slice_get_within (replicate n a) x b read)

      same : a ≡ b
      same = same_Some a b (ap Some (sym (get_or-replicate n x a a within)) ∙ sym (slice_get-get_or (replicate n a) x a (slice_get_within (replicate n a) x b read)) ∙ read)

  -- there is no least sum at another length
  pub no-parts : (p : PriceView) (r k : ℕ) (ss : List Sym) (i l : ℕ) (b : Lengths) → Hold g ss b → l ≤ 96 → (IsAmong b l → ⊥) → PartsLeast g p r k ss i l None
  no-parts p r k ss i l b hold few none =
      IsLeast-empty (On g ss i l) (parts_sum p r k i) (λ t h. none (subst (λ (q : ℕ). IsAmong b q) h.1 (hold i t h.0 (omega (arith, few, h.1)))))

  pub no-trees : (p : PriceView) (x i l : ℕ) (b : Lengths) → Hold g (Name x ∷ []) b → l ≤ 96 → (IsAmong b l → ⊥) → SymbolLeast g p (Name x) i l None
  no-trees p x i l b hold few none =
      IsLeast-empty (On g (Name x ∷ []) i l) (tree_sum p i) (λ t h. none (subst (λ (q : ℕ). IsAmong b q) h.1 (hold i t h.0 (omega (arith, few, h.1)))))

  pub no-sums : (p : PriceView) (w : Slot) (i l : ℕ) (b : Lengths) → HoldSlot g w b → l ≤ 96 → (IsAmong b l → ⊥) → SlotLeast g p w i l None
  no-sums p (OfName x) i l b hold few none = no-trees p x i l b hold few none
  no-sums p (OfSuffix s) i l b hold few none = λ rule at. no-parts p s.rule s.from (drop s.from rule.right) i l b (hold rule at) few none
