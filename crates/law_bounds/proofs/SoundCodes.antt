-- The codes, the rules' symbols and the cells of a sound instance exist.
use Rattle.std.proofs.Common.{◌≡◌, ℕ, arith, ◌+◌, ◌≤◌, ◌<◌, Option, None, Some, List, [], ◌∷◌, length, false, ap, subst, sym, ◌∙◌, ◌⊎◌, inl, inr}
use Rattle.std.specs.Prelude.{slice_get}
use Rattle.std.proofs.lemmas.Option.{slice_get-get_or}
use Rattle.model_rosters.specs.declared.grammar.CodeDef.{CodeDef}
use Rattle.model_rosters.specs.declared.grammar.Grammar.{Grammar}
use Rattle.model_rosters.specs.declared.grammar.Sym.{Sym}
use Rattle.model_rosters.specs.declared.grammar.Sym.TheVariants.{Code, Name}
use Rattle.model_rosters.specs.declared.instance.Cell.{Cell}
use Rattle.model_rosters.specs.Folds.{Each}
use Rattle.model_rosters.specs.Sound.{Exists, IsSound}
use Rattle.model_rosters.specs.Coverage.{code_byte}
use Rattle.model_rosters.specs.Demands.{PeriodDemand, Demand, IsDemand, AreCells, cells_from, all_cells}
use Rattle.model_rosters.proofs.EachLemmas.{all_each, Each-append}
use Rattle.model_rosters.proofs.tree_laws.Rules.{sound-rule}
use Rattle.law_bounds.proofs.ReadyInstances.{IsCode, IsSymbol, HasCodes}

code_at : (g : Grammar) (c : ℕ) → c < length g.codes → IsCode g c
code_at g c h = (_, slice_get-get_or g.codes c (record { byte = 0; work = false }) h)

symbols_are : (g : Grammar) (ss : List Sym) → Each (Exists (length g.codes) (length g.names)) ss → Each (IsSymbol g) ss
symbols_are g [] h = tt
symbols_are g (Code c ∷ ss) h = (code_at g c h.0, symbols_are g ss h.1)
symbols_are g (Name x ∷ ss) h = (tt, symbols_are g ss h.1)

byte_at : (g : Grammar) (c : ℕ) (d : CodeDef) → slice_get g.codes c ≡ Some d → code_byte g c ≡ d.byte
byte_at g c d e = ap (λ (o : Option CodeDef). elim o as (λ v. ℕ) [ None ↦ 0 | Some d ↦ d.byte ]) e

pub has-codes : (g : Grammar) → IsSound g → HasCodes g
has-codes g sound = record {
  symbols = λ r rule at. symbols_are g rule.right (all_each (Exists (length g.codes) (length g.names)) rule.right (sound-rule g sound r rule at).symbols);
  apart = λ c d hc hd e. pick c d hc hd e (order c d);
}
  where
    order : (c d : ℕ) → (c ≡ d) ⊎ ((c < d) ⊎ (d < c))
    order c d = grind arith

    pick : (c d : ℕ) → (hc : IsCode g c) → (hd : IsCode g d) → code_byte g c ≡ code_byte g d → (c ≡ d) ⊎ ((c < d) ⊎ (d < c)) → c ≡ d
    pick c d hc hd e (inl same) = same
    pick c d hc hd e (inr (inl less)) = absurd (sound.codes.apart c d hc.0 hd.0 less hc.1 hd.1 (sym (byte_at g c hc.0 hc.1) ∙ e ∙ byte_at g d hd.0 hd.1))
    pick c d hc hd e (inr (inr less)) = absurd (sound.codes.apart d c hd.0 hc.0 less hd.1 hc.1 (sym (byte_at g d hd.0 hd.1) ∙ sym e ∙ byte_at g c hc.0 hc.1))

abbrev IsPlaced : Grammar → Cell → Type 0
IsPlaced g c = IsCode g c.code × (1 ≤ c.period)

module _ (g : Grammar) where
  from_placed : (d : Demand) (k : ℕ) (ps : List PeriodDemand) → IsCode g d.code → 1 ≤ k → Each (IsPlaced g) (cells_from d k ps)
  from_placed d k [] code h = tt
  from_placed d k (p ∷ ps) code h = ((code, h), from_placed d (k + 1) ps code (omega arith))

  all_placed : (ds : List Demand) → Each (IsDemand g) ds → Each (IsPlaced g) (all_cells ds)
  all_placed [] h = tt
  all_placed (d ∷ ds) h =
      Each-append (IsPlaced g) (cells_from d 1 d.periods) (all_cells ds) (from_placed d 1 d.periods (h.0.work.0, h.0.work.1) (omega arith)) (all_placed ds h.1)

  pub cells-placed : (cells : List Cell) → AreCells g cells → Each (λ (c : Cell). IsCode g c.code × (1 ≤ c.period)) cells
  cells-placed cells h = subst (λ (cs : List Cell). Each (IsPlaced g) cs) (sym h.made) (all_placed h.demands h.each)
