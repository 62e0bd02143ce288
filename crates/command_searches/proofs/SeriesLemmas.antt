-- Commands that store several texts and then say an answer.
use Rattle.std.proofs.Common.{◌≡◌, ℕ, ◌≤◌, ◌<◌, ◌-◌, ◌^◌, List, [], ◌∷◌, ◌++◌, Option, None, Some, arith, refl, sym, ap, subst, ◌∙◌, inl, inr}
use Rattle.std.specs.Prelude.{IfSome, IsSomeAnd, IsTrue}
use Rattle.std.specs.FinMap as fin
use Rattle.command_shelf.specs.Shelf.{Texts, Told, one_more}
use Rattle.command_answers.specs.Fetch.{IsFetch, NoAnswer}
use Rattle.command_answers.specs.Reader.{HoldsAll, Said, SaidLittle, IsReader}
use Rattle.command_searches.specs.Series.{Entry, with_entries, End, answered, broken_off, SeriesAnswers, AreStored, StoredSome, StoredOnly, SaidSome, IsSeriesWriter, StoresNoEntry, IsStoredBy, BreaksOff, MayStoreAfter, IsBrokenOff}
use Rattle.command_searches.specs.Writer.{Keeps, IsAsked, IsTurnedDown}
use Rattle.command_searches.proofs.Writers.{keeps_joined, keeps_same, no_answer_yet}
use Rattle.command_answers.proofs.Readers.{more_faults, others_held, quiet_now, no_more}

module _ (A B : SeriesAnswers) (each : (e : End) (entries : List Entry) → A e entries → B e entries) where
  some : (old new : Texts) → StoredSome A old new → StoredSome B old new
  some old new (inl same) = inl same
  some old new (inr f) = inr (record { end = f.end; entries = f.entries; allowed = each f.end f.entries f.allowed; held = f.held })

  somes : (old new : Option Texts) → IfSome old (λ texts. IsSomeAnd new (StoredSome A texts)) → IfSome old (λ texts. IsSomeAnd new (StoredSome B texts))
  somes None new h = tt
  somes (Some texts) None h = absurd h
  somes (Some texts) (Some now) h = some texts now h

  only : (old new : Texts) → StoredOnly A old new → StoredOnly B old new
  only old new (inl same) = inl same
  only old new (inr w) = inr (record { end = w.end; entries = w.entries; allowed = each w.end w.entries w.allowed; held = w.held })

  onlys : (old new : Option Texts) → IfSome old (λ texts. IsSomeAnd new (StoredOnly A texts)) → IfSome old (λ texts. IsSomeAnd new (StoredOnly B texts))
  onlys None new h = tt
  onlys (Some texts) None h = absurd h
  onlys (Some texts) (Some now) h = only texts now h

  little : (before after : Told) (old new : List ℕ) → SaidSome A before after old new → SaidSome B before after old new
  little before after old new (inl same) = inl same
  little before after old new (inr f) =
      inr (record { status = f.status; output = f.output; entries = f.entries; allowed = each (answered f.status f.output) f.entries f.allowed; front = f.front; rest = f.rest; whole = f.whole; said = f.said; held = f.held })

  fronts : (before after : Told) (old new : Option (List ℕ)) → IfSome old (λ said. IsSomeAnd new (SaidSome A before after said)) → IfSome old (λ said. IsSomeAnd new (SaidSome B before after said))
  fronts before after None new h = tt
  fronts before after (Some said) None h = absurd h
  fronts before after (Some said) (Some now) h = little before after said now h

  -- more answers are allowed, and more names are asked for and may be stored under
  pub widen : (ms ns : List (List ℕ)) (wide may : Option Texts → Type 0) (before after : Told) (status : ℕ) → (HoldsAll before.held ms → HoldsAll before.held ns) → (wide before.held → may before.held)
      → IsSeriesWriter A ns may before after status → IsSeriesWriter B ms wide before after status
  widen ms ns wide may before after status more room w = record {
    held = somes before.held after.held w.held;
    memory = λ seven. onlys before.held after.held (w.memory seven);
    kept = w.kept;
    answer = λ six seven. let a = w.answer six seven in (a.0, a.1, each (answered status a.0) a.1 a.2, a.3, a.4);
    front = fronts before after before.said after.said w.front;
    never_falls = w.never_falls;
    cause = w.cause;
    steady = λ steady holds free few. w.steady steady (more holds) (room free) few;
  }

-- nothing was stored
unchanged : (P : Texts → Texts → Type 0) → ((t : Texts) → P t t) → (old new : Option Texts) → new ≡ old → IfSome old (λ texts. IsSomeAnd new (P texts))
unchanged P same None new e = tt
unchanged P same (Some t) new e = rw e (same t)

none_stored : (old new : Option Texts) → new ≡ old → AreStored old new []
none_stored None new e = tt
none_stored (Some t) new e = e

module _ (A : ℕ → List ℕ → Type 0) (before after : Told) (same : after.held ≡ before.held) where
  reader_little : (old new : List ℕ) → SaidLittle A old new → SaidSome (StoresNoEntry A) before after old new
  reader_little old new (inl e) = inl e
  reader_little old new (inr f) =
      inr (record { status = f.status; output = f.output; entries = []; allowed = (f.answers, refl); front = f.front; rest = f.rest; whole = f.whole; said = f.said; held = none_stored before.held after.held same })

  reader_fronts : (old new : Option (List ℕ)) → IfSome old (λ said. IsSomeAnd new (SaidLittle A said)) → IfSome old (λ said. IsSomeAnd new (SaidSome (StoresNoEntry A) before after said))
  reader_fronts None new h = tt
  reader_fronts (Some said) None h = absurd h
  reader_fronts (Some said) (Some now) h = reader_little said now h

-- a command that stores nothing
pub as_series : (A : ℕ → List ℕ → Type 0) (names : List (List ℕ)) (may : Option Texts → Type 0) (before after : Told) (status : ℕ) → IsReader A names before after status
    → IsSeriesWriter (StoresNoEntry A) names may before after status
as_series A names may before after status r = record {
  held = unchanged (StoredSome (StoresNoEntry A)) (λ t. inl refl) before.held after.held r.held;
  memory = λ seven. unchanged (StoredOnly (StoresNoEntry A)) (λ t. inl refl) before.held after.held r.held;
  kept = keeps_same before.held after.held r.held;
  answer = λ six seven. let a = r.answer six seven in (a.0, [], (a.1, refl), a.2, none_stored before.held after.held r.held);
  front = reader_fronts A before after r.held before.said after.said r.front;
  never_falls = r.never_falls;
  cause = r.cause;
  steady = λ steady holds free few. r.steady steady holds few;
}

no_answer : (B : SeriesAnswers) (e : End) (entries : List Entry) → StoresNoEntry NoAnswer e entries → B e entries
no_answer B (answered status output) entries h = absurd h.0
no_answer B (broken_off name) entries h = absurd h

-- a text that was not fetched
pub refused_fetch : (B : SeriesAnswers) (asked : List ℕ) (names : List (List ℕ)) (may : Option Texts → Type 0) (before after : Told) (status : ℕ) → (HoldsAll before.held names → HoldsAll before.held (asked ∷ []))
    → IsReader NoAnswer (asked ∷ []) before after status → IsSeriesWriter B names may before after status
refused_fetch B asked names may before after status more r =
    widen (StoresNoEntry NoAnswer) B (no_answer B) names (asked ∷ []) may may before after status more (λ free. free) (as_series NoAnswer (asked ∷ []) may before after status r)

module _ (A : SeriesAnswers) (before middle after : Told) (held : middle.held ≡ before.held) where
  stored_since : (entries : List Entry) → AreStored middle.held after.held entries → AreStored before.held after.held entries
  stored_since entries h = subst (λ (x : Option Texts). AreStored x after.held entries) held h

  little_since : (old new : List ℕ) → SaidSome A middle after old new → SaidSome A before after old new
  little_since old new (inl e) = inl e
  little_since old new (inr f) =
      inr (record { status = f.status; output = f.output; entries = f.entries; allowed = f.allowed; front = f.front; rest = f.rest; whole = f.whole; said = f.said; held = stored_since f.entries f.held })

  fronts_since : (old new : Option (List ℕ)) → IfSome old (λ said. IsSomeAnd new (SaidSome A middle after said)) → IfSome old (λ said. IsSomeAnd new (SaidSome A before after said))
  fronts_since None new h = tt
  fronts_since (Some said) None h = absurd h
  fronts_since (Some said) (Some now) h = little_since said now h

module _ (A : SeriesAnswers) (ms ns : List (List ℕ)) (may : Option Texts → Type 0) (before middle after : Told) (status : ℕ) where
  -- a command that goes on after what stored and said nothing
  since : middle.held ≡ before.held → middle.said ≡ before.said → before.faults ≤ middle.faults
      → (IsTrue before.steady → HoldsAll before.held ms → may before.held → IsTrue middle.steady × HoldsAll middle.held ns × (middle.faults ≡ before.faults))
      → IsSeriesWriter A ns may middle after status → IsSeriesWriter A ms may before after status
  since held said less calm w = record {
    held = subst (λ (x : Option Texts). IfSome x (λ texts. IsSomeAnd after.held (StoredSome A texts))) held w.held;
    memory = λ seven. subst (λ (x : Option Texts). IfSome x (λ texts. IsSomeAnd after.held (StoredOnly A texts))) held (w.memory seven);
    kept = subst (λ (x : Option Texts). Keeps x after.held) held w.kept;
    answer = λ six seven. let a = w.answer six seven in (a.0, a.1, a.2, subst (λ (old : Option (List ℕ)). Said old after.said a.0) said a.3, stored_since A before middle after held a.1 a.4);
    front = fronts_since A before middle after held before.said after.said (subst (λ (old : Option (List ℕ)). IfSome old (λ said. IsSomeAnd after.said (SaidSome A middle after said))) said w.front);
    never_falls = let more = w.never_falls in omega (arith, less, more);
    cause = λ six. more_faults before.faults middle.faults after.faults less (w.cause six);
    steady = λ steady holds free few.
        let now = calm steady holds free in
        let same = now.2 in
        w.steady now.0 now.1 (subst may (sym held) free) (omega (arith, few, same));
  }

-- a command that goes on after it fetched a text
pub after_fetch : (A : SeriesAnswers) (asked : List ℕ) (names : List (List ℕ)) (may : Option Texts → Type 0) (before middle after : Told) (status : ℕ) (text : List ℕ) → IsFetch asked before middle text
    → IsSeriesWriter A names may middle after status → IsSeriesWriter A (asked ∷ names) may before after status
after_fetch A asked names may before middle after status text f w =
    since A (asked ∷ names) names may before middle after status f.held f.said f.never_falls
    (λ steady holds free. (
      f.stays_steady steady,
      subst (λ (h : Option Texts). HoldsAll h names) (sym f.held) (others_held before.held asked names holds),
      quiet_now asked names before.held before.faults middle.faults (f.quiet steady) holds,
    )) w

-- a command that goes on after it asked whether its texts may be stored
pub after_asked : (A : SeriesAnswers) (may : Option Texts → Type 0) (before middle after : Told) (status : ℕ) → IsAsked may before middle → IsSeriesWriter A [] may middle after status → IsSeriesWriter A [] may before after status
after_asked A may before middle after status a w =
    since A [] [] may before middle after status a.held a.said a.never_falls
    (λ steady holds free. (a.stays_steady steady, subst (λ (h : Option Texts). HoldsAll h []) (sym a.held) holds, a.quiet steady free)) w

silent : (A : SeriesAnswers) (before after : Told) (old new : Option (List ℕ)) → new ≡ old → IfSome old (λ said. IsSomeAnd new (SaidSome A before after said))
silent A before after None new e = tt
silent A before after (Some said) new e = rw e (inl refl)

-- a command of which some text may not be stored
pub turned_down : (A : SeriesAnswers) (may : Option Texts → Type 0) (before after : Told) (status : ℕ) → IsTurnedDown may before after status → IsSeriesWriter A [] may before after status
turned_down A may before after status r = record {
  held = unchanged (StoredSome A) (λ t. inl refl) before.held after.held r.asked.held;
  memory = λ seven. unchanged (StoredOnly A) (λ t. inl refl) before.held after.held r.asked.held;
  kept = keeps_same before.held after.held r.asked.held;
  answer = λ six seven. no_answer_yet _ status r.refused six seven;
  front = silent A before after before.said after.said r.asked.said;
  never_falls = r.asked.never_falls;
  cause = r.cause;
  steady = λ steady holds free few six. no_more before.faults few (subst (λ (n : ℕ). one_more before.faults ≤ n) (r.asked.quiet steady free) (r.cause six));
}

-- texts that were asked for, one after another
pub none_asked : (may : Option Texts → Type 0) (told : Told) → IsAsked may told told
none_asked may told = record { held = refl; said = refl; never_falls = omega arith; stays_steady = λ h. h; quiet = λ s free. refl }

pub asked_more : (may one : Option Texts → Type 0) (before middle after : Told) → ((held : Option Texts) → may held → one held) → IsAsked may before middle → IsAsked one middle after → IsAsked may before after
asked_more may one before middle after room h k = record {
  held = k.held ∙ h.held;
  said = k.said ∙ h.said;
  never_falls = let less = h.never_falls in let more = k.never_falls in omega (arith, less, more);
  stays_steady = λ s. k.stays_steady (h.stays_steady s);
  quiet = λ s free. k.quiet (h.stays_steady s) (subst one (sym h.held) (room before.held free)) ∙ h.quiet s free;
}

pub asked_later : (may one : Option Texts → Type 0) (before middle after : Told) (status : ℕ) → ((held : Option Texts) → may held → one held) → IsAsked may before middle → IsTurnedDown one middle after status
    → IsTurnedDown may before after status
asked_later may one before middle after status room h k = record {
  asked = asked_more may one before middle after room h k.asked;
  refused = k.refused;
  cause = λ six. more_faults before.faults middle.faults after.faults h.never_falls (k.cause six);
}

-- entries that are stored behind others
entries_joined : (texts : Texts) (xs ys : List Entry) → with_entries texts (xs ++ ys) ≡ with_entries (with_entries texts xs) ys
entries_joined texts [] ys = refl
entries_joined texts (x ∷ xs) ys = entries_joined (fin.insert texts x.name x.text) xs ys

pub none_yet : (told : Told) → IsStoredBy [] told told
none_yet told = record { held = none_stored told.held told.held refl; kept = keeps_same told.held told.held refl; said = refl; never_falls = omega arith; stays_steady = λ h. h; quiet = λ h. refl }

stored_joined : (xs ys : List Entry) (a b c : Option Texts) → AreStored a b xs → AreStored b c ys → AreStored a c (xs ++ ys)
stored_joined xs ys None b c h k = tt
stored_joined xs ys (Some t) b c h k =
    let next = subst (λ (o : Option Texts). AreStored o c ys) h k in
    next ∙ ap (λ (m : Texts). Some m) (sym (entries_joined t xs ys))

pub stored_more : (xs ys : List Entry) (before middle after : Told) → IsStoredBy xs before middle → IsStoredBy ys middle after → IsStoredBy (xs ++ ys) before after
stored_more xs ys before middle after h k = record {
  held = stored_joined xs ys before.held middle.held after.held h.held k.held;
  kept = keeps_joined before.held middle.held after.held h.kept k.kept;
  said = k.said ∙ h.said;
  never_falls = omega (arith, h.never_falls, k.never_falls);
  stays_steady = λ s. k.stays_steady (h.stays_steady s);
  quiet = λ s. k.quiet (h.stays_steady s) ∙ h.quiet s;
}

may_joined : (xs : List Entry) (name : List ℕ) (a b : Option Texts) → AreStored a b xs → MayStoreAfter xs name a → MayStoreAfter [] name b
may_joined xs name None b h may = absurd may
may_joined xs name (Some t) b h may = rw h may

broken_joined : (xs : List Entry) (name : List ℕ) (a b c : Option Texts) → AreStored a b xs → BreaksOff b c [] name → BreaksOff a c xs name
broken_joined xs name None b c h k = tt
broken_joined xs name (Some t) b c h k = subst (λ (o : Option Texts). BreaksOff o c [] name) h k

stored_still : (xs : List Entry) (a b c : Option Texts) → AreStored a b xs → AreStored b c [] → AreStored a c xs
stored_still xs None b c h k = tt
stored_still xs (Some t) b c h k = subst (λ (o : Option Texts). AreStored o c []) h k

pub broken_later : (xs : List Entry) (name : List ℕ) (before middle after : Told) (status : ℕ) → IsStoredBy xs before middle → IsBrokenOff [] name middle after status → IsBrokenOff xs name before after status
broken_later xs name before middle after status h k = record {
  refused = k.refused;
  held = broken_joined xs name before.held middle.held after.held h.held k.held;
  memory = λ seven. stored_still xs before.held middle.held after.held h.held (k.memory seven);
  kept = keeps_joined before.held middle.held after.held h.kept k.kept;
  said = k.said ∙ h.said;
  never_falls = omega (arith, h.never_falls, k.never_falls);
  cause = λ six. more_faults before.faults middle.faults after.faults h.never_falls (k.cause six);
  quiet = λ s may. k.quiet (h.stays_steady s) (may_joined xs name before.held middle.held h.held may) ∙ h.quiet s;
}

-- want of memory after these texts
agrees_now : (xs : List Entry) (name : List ℕ) (old new : Option Texts) → AreStored old new xs → BreaksOff old new xs name
agrees_now xs name None new h = tt
agrees_now xs name (Some t) new h = rw h (λ other ne. refl)

not_six : (n : ℕ) → n ≡ 7 → n ≡ 6 → ⊥
not_six n e f = omega (arith, e, f)

pub out_of_memory : (xs : List Entry) (name : List ℕ) (before after : Told) → IsStoredBy xs before after → IsBrokenOff xs name before after 7
out_of_memory xs name before after h = record {
  refused = inr refl;
  held = agrees_now xs name before.held after.held h.held;
  memory = λ seven. h.held;
  kept = h.kept;
  said = h.said;
  never_falls = h.never_falls;
  cause = λ six. absurd (not_six 7 refl six);
  quiet = λ s may. h.quiet s;
}

module _ (A : SeriesAnswers) (entries : List Entry) where
  -- a command that broke off
  broken_some : (name : List ℕ) → A (broken_off name) entries → (old new : Option Texts) → BreaksOff old new entries name → IfSome old (λ texts. IsSomeAnd new (StoredSome A texts))
  broken_some name allowed None new h = tt
  broken_some name allowed (Some t) None h = absurd h
  broken_some name allowed (Some t) (Some now) h = inr (record { end = broken_off name; entries = entries; allowed = allowed; held = h })

  broken_only : (e : End) → A e entries → (old new : Option Texts) → AreStored old new entries → IfSome old (λ texts. IsSomeAnd new (StoredOnly A texts))
  broken_only e allowed None new h = tt
  broken_only e allowed (Some t) new h = rw h (inr (record { end = e; entries = entries; allowed = allowed; held = refl }))

  pub broken_series : (may : Option Texts → Type 0) (name : List ℕ) (before after : Told) (status : ℕ) → A (broken_off name) entries → (may before.held → MayStoreAfter entries name before.held)
      → IsBrokenOff entries name before after status → IsSeriesWriter A [] may before after status
  broken_series may name before after status allowed room h = record {
    held = broken_some name allowed before.held after.held h.held;
    memory = λ seven. broken_only (broken_off name) allowed before.held after.held (h.memory seven);
    kept = h.kept;
    answer = λ six seven. no_answer_yet _ status h.refused six seven;
    front = silent A before after before.said after.said h.said;
    never_falls = h.never_falls;
    cause = h.cause;
    steady = λ steady holds free few six. no_more before.faults few (subst (λ (n : ℕ). one_more before.faults ≤ n) (h.quiet steady (room free)) (h.cause six));
  }

  -- what is held once all texts are stored
  all_some : (s : ℕ) (o : List ℕ) → A (answered s o) entries → (old new : Option Texts) → AreStored old new entries → IfSome old (λ texts. IsSomeAnd new (StoredSome A texts))
  all_some s o allowed None new h = tt
  all_some s o allowed (Some t) new h = rw h (inr (record { end = answered s o; entries = entries; allowed = allowed; held = refl }))

  all_held : (old new : Option Texts) → AreStored old new entries → HoldsAll old [] → HoldsAll new []
  all_held None new h holds = absurd holds
  all_held (Some t) new h holds = rw h tt

  module _ (S : ℕ → List ℕ → Type 0) (each : (status : ℕ) (output : List ℕ) → S status output → A (answered status output) entries) (before after : Told) (held : AreStored before.held after.held entries) where
    all_little : (old new : List ℕ) → SaidLittle S old new → SaidSome A before after old new
    all_little old new (inl e) = inl e
    all_little old new (inr f) =
        inr (record { status = f.status; output = f.output; entries = entries; allowed = each f.status f.output f.answers; front = f.front; rest = f.rest; whole = f.whole; said = f.said; held = held })

    all_fronts : (old new : Option (List ℕ)) → IfSome old (λ said. IsSomeAnd new (SaidLittle S said)) → IfSome old (λ said. IsSomeAnd new (SaidSome A before after said))
    all_fronts None new h = tt
    all_fronts (Some said) None h = absurd h
    all_fronts (Some said) (Some now) h = all_little said now h

  -- a command that says an answer once all texts are stored
  pub said_series : (S : ℕ → List ℕ → Type 0) (s : ℕ) (o : List ℕ) (may : Option Texts → Type 0) (before middle after : Told) (status : ℕ) → ((t : ℕ) (p : List ℕ) → S t p → A (answered t p) entries)
      → A (answered s o) entries → IsStoredBy entries before middle → IsReader S [] middle after status → IsSeriesWriter A [] may before after status
  said_series S s o may before middle after status each allowed h r =
      let all : AreStored before.held after.held entries = subst (λ (x : Option Texts). AreStored before.held x entries) (sym r.held) h.held in
      record {
        held = all_some s o allowed before.held after.held all;
        memory = λ seven. broken_only (answered s o) allowed before.held after.held all;
        kept = subst (λ (x : Option Texts). Keeps before.held x) (sym r.held) h.kept;
        answer = λ six seven. let a = r.answer six seven in (a.0, entries, each status a.0 a.1, subst (λ (said : Option (List ℕ)). Said said after.said a.0) h.said a.2, all);
        front = all_fronts S each before after all before.said after.said (subst (λ (old : Option (List ℕ)). IfSome old (λ said. IsSomeAnd after.said (SaidLittle S said))) h.said r.front);
        never_falls = omega (arith, h.never_falls, r.never_falls);
        cause = λ six. more_faults before.faults middle.faults after.faults h.never_falls (r.cause six);
        steady = λ steady holds free few.
            r.steady (h.stays_steady steady) (all_held before.held middle.held h.held holds) (subst (λ (n : ℕ). n < 2 ^ 64 - 1) (sym (h.quiet steady)) few);
      }
