-- What the marks of a page do not depend on: the names, the bytes of the codes, the derivations.
use Rattle.std.specs.Prelude.{ℕ, ◌≡◌, List, [], ◌∷◌, ◌++◌, map, length, option_map}
use Rattle.page_parts.specs.Amounts.{AreSaidAlike}
use Rattle.page_tables.specs.Alike.{IsAlikeTables}
use Rattle.page_text.specs.declared.content.Content.{Content}
use Rattle.page_text.specs.declared.row.Row.{Row}

-- the same row, but for the name, where the codes have the bytes that f gives
pub record IsAlikeRow (f : ℕ → ℕ) (r s : Row) : Type 0 where
  pub number : s.number ≡ r.number
  pub word : s.word ≡ map f r.word
  pub price : s.price ≡ r.price
  pub count : s.count ≡ r.count
  pub differs : s.differs ≡ r.differs

abbrev pub AreAlikeRows : (ℕ → ℕ) → List Row → List Row → Type 0
AreAlikeRows f [] [] = Unit {0}
AreAlikeRows f (r ∷ rs) (s ∷ ss) = IsAlikeRow f r s × AreAlikeRows f rs ss
AreAlikeRows f [] (s ∷ ss) = ⊥
AreAlikeRows f (r ∷ rs) [] = ⊥

-- the same content, but for the names, the derivations, what amounts are counted in and the sums of texts,
-- where the codes have the bytes that f gives
pub record IsAlike (f : ℕ → ℕ) (c d : Content) : Type 0 where
  pub money : AreSaidAlike c.money d.money
  pub times : d.times ≡ c.times
  pub off : d.off ≡ option_map f c.off
  pub stated : d.stated ≡ c.stated
  pub figures : d.figures ≡ c.figures
  pub changes : d.changes ≡ c.changes
  pub columns : d.columns ≡ c.columns
  pub rows : AreAlikeRows f c.rows d.rows
  pub derivations : length d.derivations ≡ length c.derivations
  pub read : length d.read ≡ length c.read
  pub tables : IsAlikeTables c.tables d.tables

-- the bytes end with these
pub record EndsWith (end bytes : List ℕ) : Type 0 where
  pub front : List ℕ
  pub whole : bytes ≡ front ++ end
