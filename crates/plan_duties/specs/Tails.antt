-- What stands behind the `=` of a duty line.
use Rattle.std.specs.Prelude.{ℕ, ◌++◌, List, [], ◌∷◌, None, Result, Ok, Err, true, false, length, nat_eq, nat_lt, if◌then◌else◌}
use Rattle.plan_duties.specs.declared.tail.Side.{Side}
use Rattle.plan_duties.specs.declared.tail.Side.TheVariants as side
use Rattle.plan_duties.specs.declared.tail.Tail.{Tail}
use Rattle.plan_faults.specs.declared.fault.LineFault.{LineFault}
use Rattle.plan_faults.specs.declared.fault.LineFault.TheVariants as line
use Rattle.plan_faults.specs.declared.fault.PartFault.TheVariants.{ManyParts, NoParts, TwoPauses, TwoStretches}
use Rattle.plan_meaning.specs.declared.plan.Part.{Part}
use Rattle.plan_meaning.specs.declared.plan.Part.TheVariants.{Work}

-- nothing
abbrev pub no_tail : Tail
no_tail =
    record {
      parts = [];
      side = side.Nothing;
      closed = false;
      begins = None;
      ends = None;
      stretch = None;
      plus = None;
    }

-- the parts end, of which 1 to 8 can stand
unfoldable pub parts_done : Tail → Result Tail LineFault
parts_done t =
    if nat_eq (length t.parts) 0 then Err (line.Part NoParts)
    else (if nat_lt 8 (length t.parts) then Err (line.Part (ManyParts (length t.parts)))
    else Ok (record t { closed = true }))

-- one more part
abbrev pub with_part : Tail → Part → Side → Tail
with_part t part side = record t { parts = t.parts ++ part ∷ []; side = side }

-- a stretch of work over these codes, beside no other
unfoldable pub work_part : Tail → List ℕ → Side → Result Tail LineFault
work_part t codes side.Work = Err (line.Part TwoStretches)
work_part t codes side.Nothing = Ok (with_part t (Work codes) side.Work)
work_part t codes (side.Pause code) = Ok (with_part t (Work codes) side.Work)

-- a rest of a pause can stand beside this
unfoldable pub may_pause : ℕ → Side → Result ℕ LineFault
may_pause code side.Nothing = Ok code
may_pause code side.Work = Ok code
may_pause code (side.Pause other) = if nat_eq code other then Err (line.Part (TwoPauses code)) else Ok code
