use Rattle.std.proofs.Common.{◌≡◌, ◌≤◌, subst, arith, rules, sym, ◌∙◌}
use Rattle.std.specs.Prelude.{IsTrue}
use Rattle.command_shelf.specs.Memory.{is_steady, next_fails}
use Rattle.command_shelf.proofs.Calls.{list_all-leb, list_any-past}
use Rattle.command_shelf.proofs.memory.MemoryShelf.next_call_fails.Goals as goal

pub returns-clause-unlisted : goal.returns-clause-unlisted
returns-clause-unlisted c = λ steady.
    let listed : c.is_listed.result ≡ next_fails c.args.self.now = search rules in
    listed ∙ list_any-past c.args.self.now.calls c.args.self.now.failing steady

pub returns-clause-stays_steady : goal.returns-clause-stays_steady
returns-clause-stays_steady c = λ steady.
    let grows : c.self.inside.calls ≤ c.saturating_add-self-inside.result = omega (arith, c.saturating_add-self-inside.ensures) in
    list_all-leb c.self.inside.calls c.saturating_add-self-inside.result c.self.inside.failing.items grows
    (subst (λ s. IsTrue (is_steady s)) (sym c.self.view_is) steady)
