use Rattle.command_searches.proofs.Solves.{proof-accepted, proof-refused}
use Rattle.command_searches.proofs.solve.solve_proof_text.Goals as goal

pub returns-in-Ok : goal.returns-in-Ok
returns-in-Ok g c =
    proof-accepted c.args.proof.now _ _ _ c.args.instance.now _ c.args.limit c.args.text.now c.in-Ok.cert c.in-Ok.ensures.value
    (rw c.note_passed.ensures at c.solve_asked.ensures)

pub returns-in-Err : goal.returns-in-Err
returns-in-Err g c =
    proof-refused c.args.proof.now _ _ _ c.args.instance.now _ c.args.limit c.args.text.now c.in-Err.fault c.text_refusal.result c.text_refusal.ensures c.in-Err.ensures.value c.say_remarked.ensures
