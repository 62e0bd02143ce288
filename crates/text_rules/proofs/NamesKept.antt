-- A name that is read keeps the names sound.
use Rattle.std.proofs.Common.{◌≡◌, ℕ, ◌+◌, ◌<◌, ◌≤◌, Bool, true, false, cond, max, Ok, List, [], ◌∷◌, ◌++◌, length, refl, sym, ap, ◌∙◌, arith, inl, inr, leb, length-append, subst}
use Rattle.std.specs.Str.{bytes_eq}
use Rattle.std.proofs.lemmas.Bool.{ltb-true}
use Rattle.std.proofs.lemmas.Slice.Eq.{bytes_eq-Decides}
use Rattle.model_rosters.specs.Names.{is_name}
use Rattle.text_rules.specs.declared.place.Place.{Place}
use Rattle.text_rules.specs.declared.fault.Limit.TheVariants as limits
use Rattle.text_rules.specs.declared.fault.RulesFault.TheVariants.{TooMany}
use Rattle.text_rules.specs.Names.{Named, has_name, place_of, name_at}
use Rattle.text_rules.specs.Drafts.{AreNamed}
use Rattle.text_lines.proofs.StepsLemmas.{passed, same_ok, err, ok}
use Rattle.text_rules.proofs.Places.{any_place}
use Rattle.text_lines.proofs.ListLemmas.{last_or_before, apart_more, none_passes, fewer, not_false}

-- what reading a name leaves
pub record IsNumbered (old : Named) (r : Named × ℕ) : Type 0 where
  pub named : AreNamed r.0
  pub there : r.1 < length r.0.texts
  pub order : r.1 ≤ length old.texts
  pub counted : max (length old.texts) (r.1 + 1) ≡ length r.0.texts

known : (ns : Named) (w : List ℕ) → AreNamed ns → has_name ns.texts w ≡ true → IsNumbered ns (ns, place_of ns.texts w)
known ns w s h =
    let lt : place_of ns.texts w < length ns.texts = ltb-true _ _ (sym (any_place (λ (n : List ℕ). bytes_eq w n) ns.texts) ∙ h) in
    record { named = s; there = lt; order = omega arith; counted = omega arith }

new : (at : Place) (ns : Named) (w : List ℕ) → AreNamed ns → is_name w ≡ true → has_name ns.texts w ≡ false → length ns.texts < 32 → IsNumbered ns (record { texts = ns.texts ++ w ∷ []; places = ns.places ++ at ∷ [] }, length ns.texts)
new at ns w s name h few =
    let len : length (ns.texts ++ w ∷ []) ≡ length ns.texts + 1 = length-append ns.texts (w ∷ []) in
    let len' : length (ns.places ++ at ∷ []) ≡ length ns.places + 1 = length-append ns.places (at ∷ []) in
    record {
      named = record {
        few = omega (arith, len);
        names = λ x n g. elim (last_or_before ns.texts w n x g) [
          | inl old ↦ s.names x n old
          | inr last ↦ ap is_name (sym last.1) ∙ name
        ];
        apart = apart_more (λ (n : List ℕ). n) ns.texts w s.apart (λ k a g same. let no = none_passes (λ (n : List ℕ). bytes_eq w n) ns.texts h k a g in let yes : bytes_eq w a ≡ true = (bytes_eq-Decides w a).1 (sym same) in absurd cc);
        places = omega (arith, len, len', s.places);
      };
      there = omega (arith, len);
      order = omega arith;
      counted = omega (arith, len);
    }

pub name_keeps : (at : Place) (ns : Named) (w : List ℕ) (r : Named × ℕ) → AreNamed ns → name_at at ns w ≡ Ok r → IsNumbered ns r
unfolding name_at
name_keeps at ns w r s e =
    let a = passed _ _ _ _ e in
    by (has_name ns.texts w) refl (not_false _ a.0) a.1
  where
    by : (t : Bool) → has_name ns.texts w ≡ t → is_name w ≡ true → cond t (ok (ns, place_of ns.texts w)) (cond (leb 32 (length ns.texts)) (err (TooMany at.line limits.Names 32)) (ok (record { texts = ns.texts ++ w ∷ []; places = ns.places ++ at ∷ [] }, length ns.texts))) ≡ ok r → IsNumbered ns r
    by true h name q = subst (IsNumbered ns) (same_ok _ _ q) (known ns w s h)
    by false h name q =
        let b = passed _ _ _ _ q in
        subst (IsNumbered ns) (same_ok _ _ b.1) (new at ns w s name h (fewer _ _ b.0))
