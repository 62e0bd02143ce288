use Rattle.std.proofs.Common.{ℕ, ℤ, pos, arith, ap, ◌∙◌}
use Rattle.std.proofs.lemmas.Option.{slice_get-get_or}
use Rattle.lp_master_rows.specs.declared.rows.CellLetter.{CellLetter}
use Rattle.lp_master_rows.proofs.EntriesLemmas.{listed_step}
use Rattle.lp_master_rows.proofs.entries.Entries.add_letters.Goals as goal

pub loop-letter-preserved : goal.loop-letter-preserved
loop-letter-preserved c = λ (entry : ℕ → ℤ) old few are.
    let l = c.loop-letter-test.true in
    let none : CellLetter = record { code = 0; period = 0 } in
    let e = are c.loop-letter.letter-index _ (slice_get-get_or c.args.letters.now c.loop-letter.letter-index none l) in
    rw c.in_ok-add.ensures (listed_step c.loop-letter.letter-index entry c.loop-letter.self c.has_letter.result (omega arith) (c.loop-letter.invariant entry old few are) (e ∙ ap pos c.has_letter.ensures))
