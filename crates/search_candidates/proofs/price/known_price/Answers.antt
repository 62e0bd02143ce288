use Rattle.std.proofs.Common.{◌≡◌, ◌∙◌, ◌<◌, ap, sym, subst, arith, refl, inl, inr, ℕ, zero, suc, List, [], ◌∷◌, length, get_or}
use Rattle.std.proofs.lemmas.Slice.Eq.{slice_eq-Decides}
use Rattle.std.specs.Cmp.{unsigned_Decides}
use Rattle.model_rosters.specs.declared.instance.Shift.{Shift}
use Rattle.model_rosters.specs.Folds.{In}
use Rattle.search_candidates.proofs.price.known_price.Goals as goal

in_place : (xs : List Shift) (k : ℕ) (d : Shift) → k < length xs → In (get_or xs k d) xs
in_place [] k d h = absurd (omega arith)
in_place (x ∷ xs) zero d h = inl refl
in_place (x ∷ xs) (suc k) d h = inr (in_place xs k d (omega arith))

record_of : (s : Shift) (g p : ℕ) (w : List ℕ) → s.group ≡ g → s.word ≡ w → p ≡ s.price
    → s ≡ record { group = g; word = w; price = p }
record_of s g p w e f h =
    ap (λ (x : ℕ). record { group = x; word = s.word; price = s.price }) e
    ∙ ap (λ (x : List ℕ). record { group = g; word = x; price = s.price }) f
    ∙ ap (λ (x : ℕ). record { group = g; word = w; price = x }) (sym h)

pub returns-then-eq : goal.returns-then-eq
returns-then-eq c =
    let same : c.word.result.now ≡ c.args.word.now =
    (slice_eq-Decides unsigned_Decides c.word.result.now c.args.word.now c.eq.result c.eq.ensures).0 c.if-eq.true in
    let own = record_of c.shift-item.result c.args.group c.price.result c.args.word.now
    (sym c.group.ensures ∙ c.if-group.true) (sym c.word.ensures ∙ same) c.price.ensures in
    subst (λ (s : Shift). In s c.args.known.now) (sym c.shift-item.is ∙ own)
    (in_place c.args.known.now c.loop-shift.shift-index c.shift-item.result c.loop-shift-test.true)
