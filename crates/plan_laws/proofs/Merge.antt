-- Touching blocks of a free activity are one longer block: a loose list of blocks has the word of a list whose
-- neighbours differ, of no more blocks.
use Rattle.std.proofs.Common.{◌≡◌, ◌≢◌, ◌⊎◌, ℕ, ◌≤◌, ◌+◌, Bool, true, false, IsTrue, eqb, List, [], ◌∷◌, ◌++◌, length, arith, refl, subst, sym, ap, ◌∙◌, length-append, append_assoc, inl, inr}
use Rattle.std.proofs.lemmas.Bool.Decides.{eqb_tells}
use Rattle.model_rosters.specs.Folds.{In, Each}
use Rattle.plan_laws.specs.declared.period_plan.Activity.{Activity}
use Rattle.plan_laws.specs.PeriodShifts.{Alone, Block, IsBlock, joined, Differ}
use Rattle.plan_laws.specs.Names.{Loose}
use Rattle.plan_laws.proofs.Words.{Alone-append}

-- a list of blocks that begins with this code, has this word, and no neighbours of one code
pub record Merged (s : List Activity) (code : ℕ) (w : List ℕ) (n : ℕ) : Type 0 where
  pub first : Block
  pub others : List Block
  pub lawful : Each (IsBlock s) (first ∷ others)
  pub differ : Differ (first ∷ others)
  pub word : w ≡ joined (first ∷ others)
  pub begins : first.activity.code ≡ code
  pub fewer : length others ≤ n

module _ (t : Activity → Bool) (s : List Activity) (most : ℕ) (long : (x : Activity) → In x s → IsTrue (t x) → most ≤ x.greatest) where
  -- only the code of the first block counts
  begins_same : (b d : Block) (bs : List Block) → b.activity.code ≡ d.activity.code → Differ (b ∷ bs) → Differ (d ∷ bs)
  begins_same b d [] e h = tt
  begins_same b d (x ∷ bs) e h = (subst (λ (n : ℕ). x.activity.code ≢ n) e h.0, h.1)

  pub merge : (bs : List Block) (b : Block) → Each (IsBlock s) (b ∷ bs) → Loose t (b ∷ bs) → length (joined (b ∷ bs)) ≤ most
      → Merged s b.activity.code (joined (b ∷ bs)) (length bs)
  merge [] b lawful loose short = record { first = b; others = []; lawful = lawful; differ = tt; word = refl; begins = refl; fewer = omega arith }
  merge (d ∷ ds) b lawful loose short =
      let r = merge ds d lawful.1 loose.1 (omega (arith, short, length-append b.word (joined (d ∷ ds)))) in
      go r (eqb_tells r.first.activity.code b.activity.code) loose.0
    where
      go : (r : Merged s d.activity.code (joined (d ∷ ds)) (length ds))
          → ((eqb r.first.activity.code b.activity.code ≡ true) × (r.first.activity.code ≡ b.activity.code)) ⊎ ((eqb r.first.activity.code b.activity.code ≡ false) × (r.first.activity.code ≢ b.activity.code))
          → (IsTrue (t b.activity)) ⊎ (d.activity.code ≢ b.activity.code) → Merged s b.activity.code (joined (b ∷ d ∷ ds)) (length (d ∷ ds))
      go r (inr ne) k = record {
        first = b;
        others = r.first ∷ r.others;
        lawful = (lawful.0, r.lawful);
        differ = (ne.1, r.differ);
        word = ap (λ (v : List ℕ). b.word ++ v) r.word;
        begins = refl;
        fewer = omega (arith, r.fewer);
      }
      go r (inl e) (inr ne) = absurd (ne (sym r.begins ∙ e.1))
      go r (inl e) (inl free) =
          let own = b.activity in
          let all : Alone own.code r.first.word = subst (λ (n : ℕ). Alone n r.first.word) e.1 r.lawful.0.alone.alone in
          let len = length-append b.word r.first.word in
          let whole : length (joined (b ∷ d ∷ ds)) ≡ length b.word + length (joined (d ∷ ds)) = length-append b.word (joined (d ∷ ds)) in
          let rest : length (joined (d ∷ ds)) ≡ length r.first.word + length (joined r.others) = ap length r.word ∙ length-append r.first.word (joined r.others) in
          record {
            first = record { activity = own; word = b.word ++ r.first.word };
            others = r.others;
            lawful = (
              record {
                one = lawful.0.one;
                alone = record {
                  alone = Alone-append own.code b.word r.first.word lawful.0.alone.alone all;
                  least = omega (arith, lawful.0.alone.least, len);
                  greatest = omega (arith, len, whole, rest, short, long own lawful.0.one free);
                };
              },
              r.lawful.1,
            );
            differ = begins_same r.first (record { activity = own; word = b.word ++ r.first.word }) r.others e.1 r.differ;
            word = ap (λ (v : List ℕ). b.word ++ v) r.word ∙ sym (append_assoc b.word r.first.word (joined r.others));
            begins = refl;
            fewer = omega (arith, r.fewer);
          }

  -- neighbours that differ may stand in a loose list
  pub loose : (bs : List Block) → Differ bs → Loose t bs
  loose [] h = tt
  loose (b ∷ []) h = tt
  loose (b ∷ d ∷ bs) h = (inr h.0, loose (d ∷ bs) h.1)
