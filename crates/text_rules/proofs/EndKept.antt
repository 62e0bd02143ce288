-- What the end of a text leaves: a sound grammar, if its names have ranks.
use Rattle.std.proofs.Common.{◌≡◌, ℕ, ◌+◌, ◌<◌, ◌≤◌, Bool, true, false, cond, List, [], ◌∷◌, length, get_or, Option, Some, None, Ok, refl, sym, ap, ◌∙◌, arith, inl, inr, ltb, subst}
use Rattle.std.specs.Prelude.{slice_get, IfSome}
use Rattle.std.specs.Str.{bytes_eq}
use Rattle.std.proofs.lemmas.Bool.{ltb-true, cases_eq}
use Rattle.std.proofs.lemmas.Option.{slice_get-get_or}
use Rattle.model_rosters.specs.declared.grammar.Rule.{Rule}
use Rattle.model_rosters.specs.Names.{is_name, added_name}
use Rattle.model_rosters.specs.Sound.{has_rule}
use Rattle.text_rules.specs.declared.fault.RulesFault.TheVariants.{TooLong}
use Rattle.text_rules.specs.Steps.{◌>>=◌}
use Rattle.text_rules.specs.declared.draft.Draft.{Draft}
use Rattle.text_rules.specs.declared.draft.Parsed.{Parsed}
use Rattle.text_rules.specs.declared.place.Place.{Place}
use Rattle.text_rules.specs.Names.{has_name, place_of}
use Rattle.text_rules.specs.RulesOf.{unruled, all_ruled, some_periods, some_start, parsed, finish, draft_of, parsed_of}
use Rattle.text_rules.specs.Drafts.{IsDraft, IsParsed}
use Rattle.text_lines.proofs.StepsLemmas.{held, passed, bind_ok, same_ok}
use Rattle.text_rules.proofs.Places.{any_place}
use Rattle.text_rules.proofs.LinesKept.{draft_keeps}

pub all_have_rules : (rules : List Rule) (x : ℕ) (ps : List Place) → unruled rules x ps ≡ None → (y : ℕ) → x ≤ y → y < x + length ps → has_rule rules y ≡ true
all_have_rules rules x [] e y ge lt = absurd (omega arith)
all_have_rules rules x (p ∷ ps) e y ge lt = by (has_rule rules x) refl e (λ q ne. all_have_rules rules (x + 1) ps q y (omega (arith, ne)) (omega arith))
  where
    by : (t : Bool) → has_rule rules x ≡ t → cond t (unruled rules (x + 1) ps) (Some p) ≡ None → (unruled rules (x + 1) ps ≡ None → (x ≡ y → ⊥) → has_rule rules y ≡ true) → has_rule rules y ≡ true
    by false h q more = absurd cc
    by true h q more = elim (cases_eq x y) [
      | inl same ↦ ap (has_rule rules) (sym same) ∙ h
      | inr other ↦ more q other
    ]

star : is_name added_name ≡ false
unfolding is_name
star = refl

not_added : (ns : List (List ℕ)) → ((x : ℕ) (name : List ℕ) → slice_get ns x ≡ Some name → is_name name ≡ true) → (i : ℕ) (d : List ℕ) → i < length ns → get_or ns i d ≡ added_name → ⊥
not_added ns names i d lt same =
    let yes : is_name added_name ≡ true = ap is_name (sym same) ∙ names i (get_or ns i d) (slice_get-get_or ns i d lt) in
    let no : is_name added_name ≡ false = star in
    absurd cc

is_parsed : (d : Draft) (periods start : ℕ) → IsDraft d → (1 ≤ periods) × (periods ≤ 96) → unruled d.rules.rules 0 d.rules.names.places ≡ None → start < length d.rules.names.texts → IsParsed (parsed d periods start)
is_parsed d periods start s within ruled lt =
    let r = s.rules in
    let few : length d.rules.names.texts ≤ 32 = r.names.few in
    record {
      names = record { few = omega arith; rules = r.each };
      plain = record { few_names = few; few_rules = r.few; spelled = not_added d.rules.names.texts r.names.names };
      places = r.names.places;
      sound = λ rank ranked. record {
        some_period = within.0;
        few_periods = within.1;
        codes = s.codes;
        names = record {
          few = omega arith;
          each = λ x name e. inl (r.names.names x name e);
          apart = r.names.apart;
          ruled = λ x h. all_have_rules d.rules.rules 0 d.rules.names.places ruled x (omega arith) (omega (arith, h, r.names.places));
          ordered = r.ordered;
        };
        few_rules = omega (arith, r.few);
        rules = r.each;
        start = lt;
        ranks = (rank, ranked);
      };
    }

the_periods : (o : Option ℕ) (n : ℕ) → some_periods o ≡ Ok n → o ≡ Some n
the_periods None n e = absurd cc
the_periods (Some m) n e = ap (λ (x : ℕ). Some x) (same_ok m n e)

none_unruled : (o : Option Place) (u : Unit) → all_ruled o ≡ Ok u → o ≡ None
none_unruled None u e = refl
none_unruled (Some p) u e = absurd cc

finish_keeps : (d : Draft) (p : Parsed) → IsDraft d → finish d ≡ Ok p → IsParsed p
unfolding finish
finish_keeps d p s e =
    let periods = bind_ok (some_periods d.periods) _ _ e in
    let start = bind_ok (some_start d.start) _ _ periods.2 in
    let ruled = bind_ok (all_ruled (unruled d.rules.rules 0 d.rules.names.places)) _ _ start.2 in
    let there = held (has_name d.rules.names.texts start.0.name) _ _ _ ruled.2 in
    let Within : Option ℕ → Type 0 = λ (o : Option ℕ). IfSome o (λ (n : ℕ). (1 ≤ n) × (n ≤ 96)) in
    let within = subst Within (the_periods d.periods periods.0 periods.1) s.periods in
    let lt : place_of d.rules.names.texts start.0.name < length d.rules.names.texts = ltb-true _ _ (sym (any_place (λ (n : List ℕ). bytes_eq start.0.name n) d.rules.names.texts) ∙ there.0) in
    subst IsParsed (same_ok _ _ there.1) (is_parsed d periods.0 (place_of d.rules.names.texts start.0.name) s within (none_unruled _ ruled.0 ruled.1) lt)

pub parsed_keeps : (text : List ℕ) (p : Parsed) → parsed_of text ≡ Ok p → IsParsed p
unfolding parsed_of
parsed_keeps text p e =
    let short = passed (ltb 1048576 (length text)) TooLong (draft_of text >>= finish) p e in
    let d = bind_ok (draft_of text) finish p short.1 in
    finish_keeps d.0 p (draft_keeps text d.0 d.1) d.2
