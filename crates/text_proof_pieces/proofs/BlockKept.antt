-- What the lines of a price block keep.
use Rattle.std.proofs.Common.{◌≡◌, ℕ, ℤ, pos, ◌+◌, ◌-◌, ◌<◌, ◌≤◌, ◌^◌, leb, eqb, ◌&&◌, List, [], ◌∷◌, ◌++◌, length, Some, Ok, refl, sym, ap, ◌∙◌, arith, subst, length-append}
use Rattle.std.specs.Prelude.{codes, unsigned_abs, slice_get, ◌≤ℤ◌}
use Rattle.std.specs.Str.{bytes_eq}
use Rattle.std.proofs.lemmas.Bool.{and_parts}
use Rattle.std.proofs.lemmas.Int.{ints}
use Rattle.model_rosters.specs.declared.instance.Cut.{Cut}
use Rattle.model_rosters.specs.declared.instance.Instance.{Instance}
use Rattle.model_rosters.specs.declared.instance.Mult.{Mult}
use Rattle.model_rosters.specs.Folds.{Each}
use Rattle.model_rosters.specs.PriceLimits.{IsMult, AreRising, FitPrices}
use Rattle.model_rosters.proofs.Mults.{nonzero-le}
use Rattle.model_rosters.specs.SoundInstance.{IsSoundInstance}
use Rattle.model_rosters.specs.Sums.{Within}
use Rattle.model_rosters.proofs.EachLemmas.{each_all, Each-push, Each-weaker}
use Rattle.text_lines.specs.Steps.{each}
use Rattle.text_proof_pieces.specs.Fields.{number_at, signed_at}
use Rattle.text_proof_pieces.specs.PriceLines.{due_byte, price_step, price_line, mult_cut, last_cut, mult_of, mult_line}
use Rattle.text_proof_pieces.proofs.FieldsKept.{IsDenominator, signed_within}
use Rattle.text_lines.proofs.FieldsLemmas.{number_within}
use Rattle.text_lines.proofs.ListLemmas.{same_number, fewer}
use Rattle.text_lines.proofs.StepsLemmas.{same_ok, bind_ok, passed, held, each_keeps}
use Rattle.text_proof_pieces.proofs.PriceBlock.{AreWhole, none_whole, one_line_whole}

-- the prices and multipliers so far, under so many cuts
pub record Block (i : Instance) (cuts : ℕ) (cs : List ℤ) (ms : List Mult) : Type 0 where
  pub whole : AreWhole i.grammar.periods (length i.cells) (length cs)
  pub each : Each (Within (2 ^ 80)) cs
  pub few : length ms ≤ 1500
  pub mults : Each (IsMult cuts) ms
  pub listed : Each (λ (m : Mult). pos 1 ≤ℤ m.value) ms
  pub rising : AreRising ms
  pub last : Each (λ (m : Mult). m.cut ≤ last_cut ms) ms

pub block_none : (i : Instance) (cuts : ℕ) → Block i cuts [] []
block_none i cuts = record { whole = none_whole i.grammar.periods (length i.cells) 0 refl; each = tt; few = omega arith; mults = tt; listed = tt; rising = tt; last = tt }

within : (z : ℤ) → unsigned_abs z ≤ 2 ^ 80 → Within (2 ^ 80) z
within z h = record { low = omega (arith, ints); high = omega (arith, ints) }

price_keeps : (k : ℕ) (old new : List ℤ) (w : List ℕ) → Each (Within (2 ^ 80)) old → price_step k old w ≡ Ok new → Each (Within (2 ^ 80)) new
price_keeps k old new w s e =
    let b = bind_ok (signed_at k w) _ _ e in
    subst (Each (Within (2 ^ 80))) (same_ok (old ++ b.0 ∷ []) new b.2) (Each-push (Within (2 ^ 80)) old b.0 s (within b.0 (signed_within k w b.0 b.1)))

one_each : (k : ℕ) (old new : List ℤ) (ws : List (List ℕ)) → each (price_step k) old ws ≡ Ok new → length new ≡ length old + length ws
one_each k old new [] e = ap length (sym (same_ok old new e)) ∙ omega arith
one_each k old new (w ∷ ws) e =
    let first = bind_ok (price_step k old w) (λ (u : List ℤ). each (price_step k) u ws) new e in
    let b = bind_ok (signed_at k w) _ _ first.1 in
    let more : length first.0 ≡ length old + 1 = ap length (sym (same_ok (old ++ b.0 ∷ []) first.0 b.2)) ∙ length-append old (b.0 ∷ []) in
    omega (arith, more, one_each k first.0 new ws first.2)

pub block_price : (i : Instance) (cuts k : ℕ) (cs ds : List ℤ) (ms : List Mult) (ws : List (List ℕ)) → IsSoundInstance i → Block i cuts cs ms → length cs < length i.cells
    → price_line k i cs ws ≡ Ok ds → Block i cuts ds ms
unfolding price_line
block_price i cuts k cs ds ms [] s b lt e = absurd cc
block_price i cuts k cs ds ms (w ∷ []) s b lt e = absurd cc
block_price i cuts k cs ds ms (w ∷ c ∷ vs) s b lt e =
    let p = held (bytes_eq w (codes "price") && bytes_eq c (due_byte i (length cs) ∷ []) && eqb (length vs) i.grammar.periods) _ _ _ e in
    let form = and_parts (bytes_eq w (codes "price") && bytes_eq c (due_byte i (length cs) ∷ [])) (eqb (length vs) i.grammar.periods) p.0 in
    let n : length vs ≡ i.grammar.periods = same_number (length vs) i.grammar.periods form.1 in
    let long : length ds ≡ length cs + i.grammar.periods = one_each k cs ds vs p.1 ∙ ap (λ (m : ℕ). length cs + m) n in
    record {
      whole = one_line_whole i (length cs) (length ds) s b.whole lt long;
      each = each_keeps (price_step k) (Each (Within (2 ^ 80))) (price_keeps k) cs ds vs b.each p.1;
      few = b.few;
      mults = b.mults;
      listed = b.listed;
      rising = b.rising;
      last = b.last;
    }

get_last : (ms : List Mult) (m : Mult) → slice_get (ms ++ m ∷ []) (length ms) ≡ Some m
get_last [] m = refl
get_last (x ∷ ms) m = get_last ms m

pub last_is : (ms : List Mult) (m : Mult) → last_cut (ms ++ m ∷ []) ≡ m.cut
last_is ms m =
    let at : length (ms ++ m ∷ []) - 1 ≡ length ms = omega (arith, length-append ms (m ∷ [])) in
    ap (λ (n : ℕ). mult_cut (slice_get (ms ++ m ∷ []) n)) at ∙ ap mult_cut (get_last ms m)

rising_more : (ms : List Mult) (m : Mult) (top : ℕ) → AreRising ms → Each (λ (n : Mult). n.cut ≤ top) ms → top < m.cut → AreRising (ms ++ m ∷ [])
rising_more [] m top r h lt = (tt, tt)
rising_more (x ∷ ms) m top r h lt =
    let more : x.cut < m.cut = omega (arith, h.0, lt) in
    (Each-push (λ (n : Mult). x.cut < n.cut) ms m r.0 more, rising_more ms m top r.1 h.1 lt)

mult_keeps : (i : Instance) (cuts : ℕ) (cs : List ℤ) (ms : List Mult) (m : Mult) → Block i cuts cs ms → length ms < 1500 → last_cut ms < m.cut → IsMult cuts m → pos 1 ≤ℤ m.value → Block i cuts cs (ms ++ m ∷ [])
mult_keeps i cuts cs ms m b few more is some = record {
  whole = b.whole;
  each = b.each;
  few = omega (arith, length-append ms (m ∷ []));
  mults = Each-push (IsMult cuts) ms m b.mults is;
  listed = Each-push (λ (n : Mult). pos 1 ≤ℤ n.value) ms m b.listed some;
  rising = rising_more ms m (last_cut ms) b.rising b.last more;
  last = rw (last_is ms m) (Each-push (λ (n : Mult). n.cut ≤ m.cut) ms m (Each-weaker (λ (n : Mult). n.cut ≤ last_cut ms) (λ (n : Mult). n.cut ≤ m.cut) ms (λ n h. omega (arith, h, more)) b.last) (omega arith));
}

pub block_mult : (i : Instance) (cuts k : ℕ) (cs : List ℤ) (ms ns : List Mult) (ws : List (List ℕ)) → Block i cuts cs ms → mult_line k cuts ms ws ≡ Ok ns → Block i cuts cs ns
unfolding mult_line mult_of
block_mult i cuts k cs ms ns [] b e = absurd cc
block_mult i cuts k cs ms ns (w ∷ []) b e = absurd cc
block_mult i cuts k cs ms ns (w ∷ j ∷ []) b e = absurd cc
block_mult i cuts k cs ms ns (w ∷ j ∷ v ∷ []) b e =
    let p = passed (leb 1500 (length ms)) _ _ _ e in
    let cut = bind_ok (number_at k (last_cut ms + 1) cuts j) _ _ p.1 in
    let value = bind_ok (number_at k 1 (2 ^ 80) v) _ _ cut.2 in
    let wc = number_within _ _ (last_cut ms + 1) cuts cut.0 j cut.1 in
    let wv = number_within _ _ 1 (2 ^ 80) value.0 v value.1 in
    let m : Mult = record { cut = cut.0; value = pos value.0 } in
    let least : last_cut ms + 1 ≤ cut.0 = wc.0 in
    let some : 1 ≤ value.0 = wv.0 in
    let most : value.0 ≤ 2 ^ 80 = wv.1 in
    let is : IsMult cuts m = record { first = omega (arith, least); last = wc.1; least = omega (arith, ints); most = omega (arith, ints, most) } in
    subst (Block i cuts cs) (same_ok (ms ++ m ∷ []) ns value.2) (mult_keeps i cuts cs ms m b (fewer (length ms) 1500 p.0) (omega (arith, least)) is (omega (arith, ints, some)))
block_mult i cuts k cs ms ns (w ∷ j ∷ v ∷ x ∷ ws) b e = absurd cc

-- a whole block fits the cuts
pub block_fits : (i : Instance) (cuts : List Cut) (n d : ℕ) (cs : List ℤ) (ms : List Mult) → length cuts ≡ n → Block i n cs ms → length i.cells ≤ length cs → IsDenominator d → FitPrices i d cs ms cuts
block_fits i cuts n d cs ms e b all den = record {
  positive = den.0;
  small = den.1;
  cells = omega (arith, b.whole.within);
  each = each_all (Within (2 ^ 80)) cs b.each;
  few = let few = nonzero-le ms in omega (arith, few, b.few);
  mults = rw e (each_all (IsMult n) ms b.mults);
  rising = b.rising;
}
