-- Commands that store a text and then say an answer.
use Rattle.std.proofs.Common.{◌≡◌, ◌≢◌, ◌≤◌, ℕ, Bool, true, false, true≢false, List, [], ◌∷◌, Option, None, Some, arith, refl, sym, subst, ◌∙◌, ◌⊎◌, inl, inr}
use Rattle.std.specs.Prelude.{IfSome, IsSomeAnd, IsTrue}
use Rattle.std.specs.FinMap as fin
use Rattle.command_shelf.specs.Shelf.{Texts, Told, AgreesElsewhere, one_more}
use Rattle.command_shelf.specs.Stores.{may_replace, may_store}
use Rattle.command_answers.specs.Fetch.{IsFetch, NoAnswer}
use Rattle.command_answers.specs.Reader.{HoldsAll, MayStore, Said, SaidLittle, IsReader}
use Rattle.command_searches.specs.Writer.{Answers, Keeps, IsStored, IsUnstored, StoredAllowed, WroteLittle, IsWriter, IsAsked, IsTurnedDown, StoresNothing}
use Rattle.command_answers.proofs.Readers.{more_faults, no_more, others_held, quiet_now}

pub keeps_same : (old new : Option Texts) → new ≡ old → Keeps old new
keeps_same None new e = tt
keeps_same (Some t) new e = rw e (λ name may. refl)

pub keeps_joined : (a b c : Option Texts) → Keeps a b → Keeps b c → Keeps a c
keeps_joined None b c h k = tt
keeps_joined (Some t) None c h k = absurd h
keeps_joined (Some t) (Some u) None h k = absurd k
keeps_joined (Some t) (Some u) (Some v) h k =
    λ name may. k name (subst (λ (o : Option (List ℕ)). may_replace o ≡ false) (sym (h name may)) may) ∙ h name may

-- one call of the shelf that stores
pub keeps_stored : (name : List ℕ) (old new : Option Texts) → IfSome old (λ texts. may_store texts name ≡ false → new ≡ old) → IfSome old (λ texts. IsSomeAnd new (AgreesElsewhere name texts)) → Keeps old new
keeps_stored name None new kept others = tt
keeps_stored name (Some t) None kept others = absurd others
keeps_stored name (Some t) (Some u) kept others = λ other may. at (may_store t name) refl other may
  where
    at : (b : Bool) → may_store t name ≡ b → (other : List ℕ) → may_store t other ≡ false → fin.get u other ≡ fin.get t other
    at true e other may = others other (λ same. true≢false (sym e ∙ subst (λ (n : List ℕ). may_store t n ≡ false) same may))
    at false e other may =
        let held : Some u ≡ Some t = kept e in
        let one : u ≡ t = cc in
        rw one refl

module _ (A B : Answers) (each : (status : ℕ) (output : List ℕ) (stored : Option (List ℕ)) → A status output stored → B status output stored) where
  little : (name : List ℕ) (ended : ℕ) (before after : Told) (old new : List ℕ) → WroteLittle A name ended before after old new → WroteLittle B name ended before after old new
  little name ended before after old new (inl same) = inl same
  little name ended before after old new (inr f) = inr (record { status = f.status; output = f.output; stored = f.stored; answers = each f.status f.output f.stored f.answers; front = f.front; rest = f.rest; whole = f.whole; said = f.said; held = f.held })

  fronts : (name : List ℕ) (ended : ℕ) (before after : Told) (old new : Option (List ℕ)) → IfSome old (λ said. IsSomeAnd new (WroteLittle A name ended before after said)) → IfSome old (λ said. IsSomeAnd new (WroteLittle B name ended before after said))
  fronts name ended before after None new h = tt
  fronts name ended before after (Some said) None h = absurd h
  fronts name ended before after (Some said) (Some now) h = little name ended before after said now h

  left : (name : List ℕ) (before after : Option Texts) → (after ≡ before) ⊎ StoredAllowed A name before after → (after ≡ before) ⊎ StoredAllowed B name before after
  left name before after (inl same) = inl same
  left name before after (inr s) = inr (record { status = s.status; output = s.output; stored = s.stored; answers = each s.status s.output s.stored s.answers; held = s.held })

  -- more answers are allowed, and more names are asked for
  pub widen : (ms ns : List (List ℕ)) (name : List ℕ) (before after : Told) (status : ℕ) → (HoldsAll before.held ms → HoldsAll before.held ns) → IsWriter A ns name before after status → IsWriter B ms name before after status
  widen ms ns name before after status more w = record {
    others = w.others;
    kept = w.kept;
    answer = λ six seven. let a = w.answer six seven in (a.0, a.1, each status a.0 a.1 a.2, a.3, a.4);
    front = fronts name status before after before.said after.said w.front;
    memory = λ seven. left name before.held after.held (w.memory seven);
    never_falls = w.never_falls;
    cause = w.cause;
    steady = λ steady holds may few. w.steady steady (more holds) may few;
  }

unchanged : (name : List ℕ) (old new : Option Texts) → new ≡ old → IfSome old (λ texts. IsSomeAnd new (AgreesElsewhere name texts))
unchanged name None new e = tt
unchanged name (Some t) new e = rw e (λ other ne. refl)

module _ (A : ℕ → List ℕ → Type 0) (name : List ℕ) (ended : ℕ) (before after : Told) (same : after.held ≡ before.held) where
  reader_little : (old new : List ℕ) → SaidLittle A old new → WroteLittle (StoresNothing A) name ended before after old new
  reader_little old new (inl e) = inl e
  reader_little old new (inr f) = inr (record { status = f.status; output = f.output; stored = None; answers = (f.answers, refl); front = f.front; rest = f.rest; whole = f.whole; said = f.said; held = inl same })

  reader_fronts : (old new : Option (List ℕ)) → IfSome old (λ said. IsSomeAnd new (SaidLittle A said)) → IfSome old (λ said. IsSomeAnd new (WroteLittle (StoresNothing A) name ended before after said))
  reader_fronts None new h = tt
  reader_fronts (Some said) None h = absurd h
  reader_fronts (Some said) (Some now) h = reader_little said now h

-- a command that stores nothing
pub as_writer : (A : ℕ → List ℕ → Type 0) (names : List (List ℕ)) (name : List ℕ) (before after : Told) (status : ℕ) → IsReader A names before after status → IsWriter (StoresNothing A) names name before after status
as_writer A names name before after status r = record {
  others = unchanged name before.held after.held r.held;
  kept = keeps_same before.held after.held r.held;
  answer = λ six seven. let a = r.answer six seven in (a.0, None, (a.1, refl), a.2, r.held);
  front = reader_fronts A name status before after r.held before.said after.said r.front;
  memory = λ seven. inl r.held;
  never_falls = r.never_falls;
  cause = r.cause;
  steady = λ steady holds may few. r.steady steady holds few;
}

no_answer : (B : Answers) (status : ℕ) (output : List ℕ) (stored : Option (List ℕ)) → StoresNothing NoAnswer status output stored → B status output stored
no_answer B status output stored h = absurd h.0

-- a text that was not fetched
pub refused_fetch : (B : Answers) (asked : List ℕ) (names : List (List ℕ)) (name : List ℕ) (before after : Told) (status : ℕ) → (HoldsAll before.held names → HoldsAll before.held (asked ∷ []))
    → IsReader NoAnswer (asked ∷ []) before after status → IsWriter B names name before after status
refused_fetch B asked names name before after status more r =
    widen (StoresNothing NoAnswer) B (no_answer B) names (asked ∷ []) name before after status more (as_writer NoAnswer (asked ∷ []) name before after status r)

module _ (A : Answers) (name : List ℕ) (before middle after : Told) (held : middle.held ≡ before.held) where
  stored_since : (stored : Option (List ℕ)) → IsStored middle.held after.held name stored → IsStored before.held after.held name stored
  stored_since stored h = subst (λ (x : Option Texts). IsStored x after.held name stored) held h

  held_since : (ended : ℕ) (stored : Option (List ℕ)) → IsStored middle.held after.held name stored ⊎ IsUnstored middle.held after.held ended
      → IsStored before.held after.held name stored ⊎ IsUnstored before.held after.held ended
  held_since ended stored (inl h) = inl (stored_since stored h)
  held_since ended stored (inr u) = inr (record { six = u.six; same = u.same ∙ held })

  little_since : (ended : ℕ) (old new : List ℕ) → WroteLittle A name ended middle after old new → WroteLittle A name ended before after old new
  little_since ended old new (inl e) = inl e
  little_since ended old new (inr f) =
      inr (record { status = f.status; output = f.output; stored = f.stored; answers = f.answers; front = f.front; rest = f.rest; whole = f.whole; said = f.said; held = held_since ended f.stored f.held })

  fronts_since : (ended : ℕ) (old new : Option (List ℕ)) → IfSome old (λ said. IsSomeAnd new (WroteLittle A name ended middle after said)) → IfSome old (λ said. IsSomeAnd new (WroteLittle A name ended before after said))
  fronts_since ended None new h = tt
  fronts_since ended (Some said) None h = absurd h
  fronts_since ended (Some said) (Some now) h = little_since ended said now h

  left_since : (after.held ≡ middle.held) ⊎ StoredAllowed A name middle.held after.held → (after.held ≡ before.held) ⊎ StoredAllowed A name before.held after.held
  left_since (inl same) = inl (same ∙ held)
  left_since (inr s) = inr (record { status = s.status; output = s.output; stored = s.stored; answers = s.answers; held = stored_since s.stored s.held })

-- a command that goes on after what stored and said nothing
since : (A : Answers) (ms ns : List (List ℕ)) (name : List ℕ) (before middle after : Told) (status : ℕ) → middle.held ≡ before.held → middle.said ≡ before.said → before.faults ≤ middle.faults
    → (IsTrue before.steady → HoldsAll before.held ms → MayStore name before.held → IsTrue middle.steady × HoldsAll middle.held ns × (middle.faults ≡ before.faults))
    → IsWriter A ns name middle after status → IsWriter A ms name before after status
since A ms ns name before middle after status held said less calm w = record {
  others = subst (λ (x : Option Texts). IfSome x (λ texts. IsSomeAnd after.held (AgreesElsewhere name texts))) held w.others;
  kept = subst (λ (x : Option Texts). Keeps x after.held) held w.kept;
  answer = λ six seven. let a = w.answer six seven in (a.0, a.1, a.2, subst (λ (old : Option (List ℕ)). Said old after.said a.0) said a.3, stored_since A name before middle after held a.1 a.4);
  memory = λ seven. left_since A name before middle after held (w.memory seven);
  front = fronts_since A name before middle after held status before.said after.said (subst (λ (old : Option (List ℕ)). IfSome old (λ said. IsSomeAnd after.said (WroteLittle A name status middle after said))) said w.front);
  never_falls = let more = w.never_falls in omega (arith, less, more);
  cause = λ six. more_faults before.faults middle.faults after.faults less (w.cause six);
  steady = λ steady holds may few.
      let now = calm steady holds may in
      let same = now.2 in
      w.steady now.0 now.1 (subst (λ (h : Option Texts). MayStore name h) (sym held) may) (omega (arith, few, same));
}

-- a command that goes on after it fetched a text
pub after_fetch : (A : Answers) (asked : List ℕ) (names : List (List ℕ)) (name : List ℕ) (before middle after : Told) (status : ℕ) (text : List ℕ) → IsFetch asked before middle text → IsWriter A names name middle after status
    → IsWriter A (asked ∷ names) name before after status
after_fetch A asked names name before middle after status text f w =
    since A (asked ∷ names) names name before middle after status f.held f.said f.never_falls
    (λ steady holds may. (
      f.stays_steady steady,
      subst (λ (h : Option Texts). HoldsAll h names) (sym f.held) (others_held before.held asked names holds),
      quiet_now asked names before.held before.faults middle.faults (f.quiet steady) holds,
    )) w

-- a command that goes on after it asked whether its text may be stored
pub after_asked : (A : Answers) (name : List ℕ) (before middle after : Told) (status : ℕ) → IsAsked (MayStore name) before middle → IsWriter A [] name middle after status → IsWriter A [] name before after status
after_asked A name before middle after status a w =
    since A [] [] name before middle after status a.held a.said a.never_falls
    (λ steady holds may. (a.stays_steady steady, subst (λ (h : Option Texts). HoldsAll h []) (sym a.held) holds, a.quiet steady may)) w

pub no_answer_yet : (B : Type 0) (status : ℕ) → (status ≡ 6) ⊎ (status ≡ 7) → status ≢ 6 → status ≢ 7 → B
no_answer_yet B status (inl e) six seven = absurd (six e)
no_answer_yet B status (inr e) six seven = absurd (seven e)

silent : (A : Answers) (name : List ℕ) (ended : ℕ) (before after : Told) (old new : Option (List ℕ)) → new ≡ old → IfSome old (λ said. IsSomeAnd new (WroteLittle A name ended before after said))
silent A name ended before after None new e = tt
silent A name ended before after (Some said) new e = rw e (inl refl)

-- a command whose text may not be stored
pub turned_down : (A : Answers) (name : List ℕ) (before after : Told) (status : ℕ) → IsTurnedDown (MayStore name) before after status → IsWriter A [] name before after status
turned_down A name before after status r = record {
  others = unchanged name before.held after.held r.asked.held;
  kept = keeps_same before.held after.held r.asked.held;
  answer = λ six seven. no_answer_yet _ status r.refused six seven;
  front = silent A name status before after before.said after.said r.asked.said;
  memory = λ seven. inl r.asked.held;
  never_falls = r.asked.never_falls;
  cause = r.cause;
  steady = λ steady holds may few six. no_more before.faults few (subst (λ (n : ℕ). one_more before.faults ≤ n) (r.asked.quiet steady may) (r.cause six));
}
