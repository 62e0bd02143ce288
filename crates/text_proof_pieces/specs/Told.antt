-- What the pieces of a text tell.
use Rattle.std.specs.Prelude.{ℕ, ℤ, Bool, true, false, List, Option, Some, None, Result, Ok, Err}
use Rattle.model_rosters.specs.declared.instance.Mult.{Mult}
use Rattle.model_rosters.specs.declared.instance.Prices.{Prices}
use Rattle.model_rosters.specs.declared.instance.Shift.{Shift}
use Rattle.check_certificates.specs.declared.cert.Node.{Node}
use Rattle.check_certificates.specs.declared.cert.Node.TheVariants as of
use Rattle.text_proof_pieces.specs.declared.fault.PieceFault.{PieceFault}
use Rattle.text_proof_pieces.specs.declared.piece.Piece.{Piece}
use Rattle.text_proof_pieces.specs.declared.piece.Piece.TheVariants.{Cost, Bound, Shift as ShiftPiece, Split, Priced, Pinned, Bare, End}

-- a piece with its word and its prices
pub data Told : Type 0 where
  cost : Option ℕ → Told
  bound : Option ℕ → Told
  shift : Shift → Told
  node : Node → Told
  done : Told

-- what a room holds: the last word, the last prices, for each open split, the last first, whether
-- its High half is being read, and for how many cells there is room
pub record RoomView : Type 0 where
  pub word : List ℕ
  pub d : ℕ
  pub cell : List ℤ
  pub mult : List Mult
  pub halves : List Bool
  pub most : ℕ

abbrev pub room_prices : RoomView → Prices
room_prices r = record { d = r.d; cell = r.cell; mult = r.mult }

abbrev pub own_prices : Bool → Prices → Option Prices
own_prices true p = Some p
own_prices false p = None

-- what a piece tells with what its room holds
abbrev pub told : RoomView → Piece → Told
told r (Cost x) = cost x
told r (Bound x) = bound x
told r (ShiftPiece g p) = shift (record { group = g; word = r.word; price = p })
told r (Split a b priced) = node (of.Split a b (own_prices priced (room_prices r)))
told r Priced = node (of.Priced (room_prices r))
told r Pinned = node of.Pinned
told r Bare = node of.Bare
told r End = done

-- what an answer tells: a piece, or the fault
abbrev pub told_answer : RoomView → Result Piece PieceFault → Result Told PieceFault
told_answer r (Ok x) = Ok (told r x)
told_answer r (Err e) = Err e
