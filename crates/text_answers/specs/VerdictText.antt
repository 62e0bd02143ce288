-- The text of a verdict on a certificate.
use Rattle.std.specs.Prelude.{ℕ, List, [], ◌∷◌, ◌++◌, pos, Option, Some, None, codes, zero, suc}
use Rattle.model_rosters.specs.declared.grammar.ArcKey.{ArcKey}
use Rattle.check_certificates.specs.declared.verdict.Verdict.{Verdict}
use Rattle.check_certificates.specs.declared.verdict.Verdict.TheVariants.{Yes, No}
use Rattle.check_certificates.specs.declared.why.Why.{Why}
use Rattle.check_certificates.specs.declared.why.Why.TheVariants.{NotAShift, ShiftCost, WrongHeads, WrongCost, NotAnArc, EmptyHalf, NotPinned, BoundTooHigh, Outside}
use Rattle.text_lines.specs.Numbers.{number_text}

-- a number after a space
abbrev pub field : ℕ → List ℕ
field n = 32 ∷ number_text (pos n)

-- a cost or bound after a space, which may be none
abbrev pub amount : Option ℕ → List ℕ
amount (Some n) = field n
amount None = codes " none"

-- the numbers of an arc
abbrev pub arc_fields : ArcKey → List ℕ
arc_fields a = field a.rule ++ field a.suffix ++ field a.start ++ field a.len ++ field a.part

-- the number of a group, which a day without groups doesn't have
abbrev pub group_field : ℕ → List ℕ
group_field zero = []
group_field (suc k) = codes " group" ++ field (suc k)

-- the line of a cause, without its end
abbrev pub why_line : Why → List ℕ
why_line (NotAShift k) = codes "no 1 not a shift: shift" ++ field k
why_line (ShiftCost k said least) =
    codes "no 2 shift cost: shift" ++ field k ++ codes " said" ++ field said ++ codes " least" ++ field least
why_line (WrongHeads g n) = codes "no 3 wrong heads:" ++ group_field g ++ (codes " count" ++ field n)
why_line (WrongCost said found) = codes "no 4 wrong cost: said" ++ field said ++ codes " found" ++ field found
why_line (NotAnArc n) = codes "no 5 not an arc: node" ++ field n
why_line (EmptyHalf n) = codes "no 6 empty half: node" ++ field n
why_line (NotPinned n a) = codes "no 7 not pinned: node" ++ field n ++ codes " arc" ++ arc_fields a
why_line (BoundTooHigh said shown) =
    codes "no 8 bound too high: said" ++ amount said ++ codes " shown" ++ amount shown
why_line (Outside code period have) =
    codes "no 9 outside floor or ceiling: code " ++ (code ∷ []) ++ (codes " period" ++ field period)
    ++ (codes " have" ++ field have)

-- three lines for a yes, and one for a no
abbrev pub verdict_text : Verdict → List ℕ
verdict_text (Yes cost bound) =
    codes "yes\ncost" ++ amount cost ++ codes "\nbound" ++ amount bound ++ codes "\n"
verdict_text (No why) = why_line why ++ codes "\n"
