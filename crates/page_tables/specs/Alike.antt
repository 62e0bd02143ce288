-- What the marks of the tables do not depend on: all bytes of the texts.
use Rattle.std.specs.Prelude.{◌≡◌, List, [], ◌∷◌}
use Rattle.page_tables.specs.declared.line.HeadLine.{HeadLine}
use Rattle.page_tables.specs.declared.line.MomentLine.{MomentLine}
use Rattle.page_tables.specs.declared.line.RunLine.{RunLine}
use Rattle.page_tables.specs.declared.line.ShiftLine.{ShiftLine}
use Rattle.page_tables.specs.declared.line.TotalLine.{TotalLine}
use Rattle.page_tables.specs.declared.tables.Tables.{Tables}

-- the same line, but for bytes of the texts
pub record IsAlikeShift (l m : ShiftLine) : Type 0 where
  pub number : m.number ≡ l.number
  pub work : m.work ≡ l.work
  pub first : m.first ≡ l.first
  pub price : m.price ≡ l.price

pub record IsAlikeMoment (l m : MomentLine) : Type 0 where
  pub begins : m.begins ≡ l.begins
  pub ends : m.ends ≡ l.ends

pub record IsAlikeTotal (l m : TotalLine) : Type 0 where
  pub total : m.total ≡ l.total
  pub share : m.share ≡ l.share

pub record IsAlikeHead (l m : HeadLine) : Type 0 where
  pub count : m.count ≡ l.count
  pub least : m.least ≡ l.least
  pub most : m.most ≡ l.most

pub record IsAlikeRun (l m : RunLine) : Type 0 where
  pub count : m.count ≡ l.count
  pub cost : m.cost ≡ l.cost

-- lists of items that are alike one by one
abbrev pub AreAlike : {A : Type 0} → (A → A → Type 0) → List A → List A → Type 0
AreAlike R [] [] = Unit {0}
AreAlike R (x ∷ xs) (y ∷ ys) = R x y × AreAlike R xs ys
AreAlike R [] (y ∷ ys) = ⊥
AreAlike R (x ∷ xs) [] = ⊥

-- the same tables, but for bytes of the texts
pub record IsAlikeTables (t u : Tables) : Type 0 where
  pub grouped : u.grouped ≡ t.grouped
  pub named : u.named ≡ t.named
  pub shifts : AreAlike IsAlikeShift t.shifts u.shifts
  pub heads : AreAlike IsAlikeHead t.heads u.heads
  pub totals : AreAlike IsAlikeTotal t.totals u.totals
  pub covered : u.covered ≡ t.covered
  pub moments : AreAlike IsAlikeMoment t.moments u.moments
  pub shortages : AreAlike IsAlikeRun t.shortages u.shortages
  pub surplus : AreAlike IsAlikeRun t.surplus u.surplus
