-- Commands that read several texts, one after another.
use Rattle.std.proofs.Common.{◌≡◌, ◌≢◌, ℕ, ◌≤◌, ◌<◌, ◌-◌, ◌^◌, List, [], ◌∷◌, ◌++◌, Option, None, Some, Ok, arith, refl, sym, subst, ◌∙◌, ◌⊎◌, inl, inr, Result, Err, IfOk}
use Rattle.std.specs.Prelude.{IfSome, IsSome, IsSomeAnd, IsTrue}
use Rattle.std.specs.FinMap as fin
use Rattle.command_shelf.specs.Shelf.{Texts, Told, SaidPart, one_more}
use Rattle.command_answers.specs.declared.answer.Answer.{Answer}
use Rattle.command_answers.specs.Fetch.{IsAnswer, IsFetch}
use Rattle.command_answers.specs.Reader.{HoldsAll, Said, SaidLittle, IsReader}

module _ (A B : ℕ → List ℕ → Type 0) (each : (status : ℕ) (output : List ℕ) → A status output → B status output) where
  little : (old new : List ℕ) → SaidLittle A old new → SaidLittle B old new
  little old new (inl same) = inl same
  little old new (inr f) = inr (record { status = f.status; output = f.output; answers = each f.status f.output f.answers; front = f.front; rest = f.rest; whole = f.whole; said = f.said })

  fronts : (old new : Option (List ℕ)) → IfSome old (λ said. IsSomeAnd new (SaidLittle A said)) → IfSome old (λ said. IsSomeAnd new (SaidLittle B said))
  fronts None new h = tt
  fronts (Some said) None h = absurd h
  fronts (Some said) (Some now) h = little said now h

  -- more answers are allowed, and more names are asked for
  pub widen : (ms ns : List (List ℕ)) (before after : Told) (status : ℕ) → (HoldsAll before.held ms → HoldsAll before.held ns) → IsReader A ns before after status → IsReader B ms before after status
  widen ms ns before after status more r = record {
    held = r.held;
    answer = λ six seven. let a = r.answer six seven in (a.0, each status a.0 a.1, a.2);
    front = fronts before.said after.said r.front;
    never_falls = r.never_falls;
    cause = r.cause;
    steady = λ steady holds few. r.steady steady (more holds) few;
  }

pub more_faults : (a b c : ℕ) → a ≤ b → one_more b ≤ c → one_more a ≤ c
more_faults a b c le h = grind (arith)

-- a name that is held beside others is held
first_held : (held : Option Texts) (name : List ℕ) (names : List (List ℕ)) → HoldsAll held (name ∷ names) → (texts : Texts) → held ≡ Some texts → IsSome (fin.get texts name)
first_held None name names h texts e = absurd h
first_held (Some t) name names h texts e = let same : t ≡ texts = cc in rw (sym same) h.0

pub others_held : (held : Option Texts) (name : List ℕ) (names : List (List ℕ)) → HoldsAll held (name ∷ names) → HoldsAll held names
others_held None name names h = absurd h
others_held (Some t) name names h = h.1

pub one_held : (held : Option Texts) (name : List ℕ) (names : List (List ℕ)) → HoldsAll held (name ∷ names) → HoldsAll held (name ∷ [])
one_held None name names h = absurd h
one_held (Some t) name names h = (h.0, tt)

pub some_held : (held : Option Texts) (name : List ℕ) (names : List (List ℕ)) → HoldsAll held (name ∷ names) → HoldsAll held []
some_held None name names h = absurd h
some_held (Some t) name names h = tt

pub quiet_now : (name : List ℕ) (names : List (List ℕ)) (held : Option Texts) (n m : ℕ) → IfSome held (λ texts. IsSome (fin.get texts name) → m ≡ n) → HoldsAll held (name ∷ names) → m ≡ n
quiet_now name names None n m q h = absurd h
quiet_now name names (Some t) n m q h = q h.0

-- a command that goes on after it fetched a text
pub after_fetch : (A : ℕ → List ℕ → Type 0) (name : List ℕ) (names : List (List ℕ)) (before middle after : Told) (status : ℕ) (text : List ℕ) → IsFetch name before middle text → IsReader A names middle after status → IsReader A (name ∷ names) before after status
after_fetch A name names before middle after status text f r = record {
  held = r.held ∙ f.held;
  answer = λ six seven. let a = r.answer six seven in (a.0, a.1, subst (λ said. Said said after.said a.0) f.said a.2);
  front = subst (λ (old : Option (List ℕ)). IfSome old (λ said. IsSomeAnd after.said (SaidLittle A said))) f.said r.front;
  never_falls = omega (arith, f.never_falls, r.never_falls);
  cause = λ six. more_faults before.faults middle.faults after.faults f.never_falls (r.cause six);
  steady = λ steady holds few.
      let same = quiet_now name names before.held before.faults middle.faults (f.quiet steady) holds in
      r.steady (f.stays_steady steady) (subst (λ (h : Option Texts). HoldsAll h names) (sym f.held) (others_held before.held name names holds)) (omega (arith, few, same));
}

-- what one call of the shelf that says an answer does to it
pub record IsSaid (a : Answer) (before after : Told) (status : ℕ) : Type 0 where
  pub status_is : (status ≡ a.status) ⊎ ((status ≡ 6) ⊎ (status ≡ 7))
  pub whole : status ≡ a.status → IfSome before.said (λ s. after.said ≡ Some (s ++ a.output))
  pub part : IfSome before.said (λ s. IsSomeAnd after.said (SaidPart a.output s))
  pub held : after.held ≡ before.held
  pub never_falls : before.faults ≤ after.faults
  pub cause : status ≡ 6 → one_more before.faults ≤ after.faults
  pub quiet : IsTrue before.steady → after.faults ≡ before.faults

part_front : (a : Answer) (old new : List ℕ) → SaidPart a.output old new → SaidLittle (IsAnswer (Ok a)) old new
part_front a old new h = inr (record { status = a.status; output = a.output; answers = (refl, refl); front = h.0; rest = h.1; whole = h.2; said = h.3 })

part_fronts : (a : Answer) (old new : Option (List ℕ)) → IfSome old (λ s. IsSomeAnd new (SaidPart a.output s)) → IfSome old (λ s. IsSomeAnd new (SaidLittle (IsAnswer (Ok a)) s))
part_fronts a None new h = tt
part_fronts a (Some s) None h = absurd h
part_fronts a (Some s) (Some t) h = part_front a s t h

pub no_more : (n : ℕ) → n < 2 ^ 64 - 1 → one_more n ≤ n → ⊥
no_more n few h = omega (arith, few, h)

pub said_reader : (a : Answer) (before after : Told) (status : ℕ) → IsSaid a before after status → IsReader (IsAnswer (Ok a)) [] before after status
said_reader a before after status h = record {
  held = h.held;
  answer = λ six seven. let same = which h.status_is six seven in (a.output, (same, refl), h.whole same);
  front = part_fronts a before.said after.said h.part;
  never_falls = h.never_falls;
  cause = h.cause;
  steady = λ steady holds few six. no_more before.faults few (subst (λ (n : ℕ). one_more before.faults ≤ n) (h.quiet steady) (h.cause six));
}
  where
    which : (status ≡ a.status) ⊎ ((status ≡ 6) ⊎ (status ≡ 7)) → status ≢ 6 → status ≢ 7 → status ≡ a.status
    which (inl same) six seven = same
    which (inr (inl e)) six seven = absurd (six e)
    which (inr (inr e)) six seven = absurd (seven e)

-- a command that says one of the answers at once
module _ (A : ℕ → List ℕ → Type 0) where
  pub one-said : (a : Answer) (before after : Told) (status : ℕ) → A a.status a.output → IsSaid a before after status → IsReader A [] before after status
  one-said a before after status h said = widen (IsAnswer (Ok a)) A each [] [] before after status (λ k. k) (said_reader a before after status said)
    where
      each : (s : ℕ) (o : List ℕ) → IsAnswer (Ok a) s o → A s o
      each s o k = subst (λ (n : ℕ). A n o) (sym k.0) (subst (λ (x : List ℕ). A a.status x) (sym k.1) h)

pub IfOk-map : {T E : Type 0} (P Q : T → Type 0) (r : Result T E) → ((x : T) → P x → Q x) → IfOk r P → IfOk r Q
IfOk-map P Q (Ok x) f h = f x h
IfOk-map P Q (Err e) f h = tt
