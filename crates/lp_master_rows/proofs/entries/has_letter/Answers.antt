use Rattle.std.proofs.Common.{arith}
use Rattle.lp_master_rows.proofs.EntriesLemmas.{none_before, letter_some, letter_none}
use Rattle.lp_master_rows.proofs.entries.has_letter.Goals as goal

pub returns-then-letter-eq0 : goal.returns-then-letter-eq0
returns-then-letter-eq0 c = none_before c.args.letter.now 1 c.args.codes.now (omega arith)

pub returns-in-Some : goal.returns-in-Some
returns-in-Some c =
    let h = c.in-Some.ensures.lookup in
    letter_some c.args.letter.now c.args.codes.now c.in-Some.code.now c.if-letter-eq0.false h.3.0 h.1

pub returns-in-None : goal.returns-in-None
returns-in-None c =
    let h = c.in-None.ensures.lookup in
    letter_none c.args.letter.now c.args.codes.now c.if-letter-eq0.false h.3
