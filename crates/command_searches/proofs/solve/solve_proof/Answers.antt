use Rattle.command_shelf.specs.Shelf.{Told}
use Rattle.command_searches.proofs.Solves.{proof-read, proof-unread}
use Rattle.command_searches.proofs.solve.solve_proof.Goals as goal

pub returns-in-Ok : goal.returns-in-Ok
returns-in-Ok g c =
    let before : Told = g.S.Shelf.told c.args.shelf.now in
    let middle : Told = g.S.Shelf.told c.fetched.new.shelf in
    let after : Told = g.S.Shelf.told c.solve_proof_text.new.shelf in
    proof-read c.args.proof.now before after c.solve_proof_text.result c.args.instance.now _ c.args.limit c.args.from.now c.in-Ok.text.items middle c.in-Ok.ensures.text (rw c.as_slice.ensures.value at c.solve_proof_text.ensures)

pub returns-in-Err : goal.returns-in-Err
returns-in-Err g c = proof-unread c.args.proof.now _ _ c.in-Err.status c.args.instance.now _ c.args.limit c.args.from.now c.in-Err.ensures.refusal
