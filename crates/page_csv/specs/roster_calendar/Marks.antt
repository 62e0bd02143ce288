-- The mark that tells the events of different titles, groups and words apart.
use Rattle.std.specs.Prelude.{ℕ, List, ◌++◌, length, take}
use Rattle.std.specs.Int.{w64, to_be_bytes}
use Rattle.sha2.specs.Sha256.{sha256}

-- a text behind its length in 8 bytes, so that two texts in a row are told apart
abbrev pub counted : List ℕ → List ℕ
counted text = to_be_bytes w64 (length text) ++ text

-- the digest of a title, the name of a group and a word
abbrev pub digest_of : List ℕ → List ℕ → List ℕ → List ℕ
digest_of title group word = sha256 ((counted title ++ counted group) ++ counted word)

-- its first 16 bytes
abbrev pub mark_of : List ℕ → List ℕ → List ℕ → List ℕ
mark_of title group word = take 16 (digest_of title group word)
