use Rattle.std.proofs.Common.{◌≡◌, ◌≢◌, ◌∙◌, Bool, true, false, [], sym, ap, arith}
use Rattle.check_certificates.specs.RosterCauses.{duties}
use Rattle.text_demand.specs.InstanceOf.{least_heads}
use Rattle.check_values.proofs.remaining_day.HeadsLeft.{few-left, least-sum}
use Rattle.check_values.proofs.remaining_day.day.heads_left.Goals as goal

pub least_heads-requires : goal.least_heads-requires
least_heads-requires c = (few-left c.args.instance.now (duties c.args.shifts.now) c.args.left.now c.requires.sound c.requires.left).groups

pub most_heads-requires : goal.most_heads-requires
most_heads-requires c = (few-left c.args.instance.now (duties c.args.shifts.now) c.args.left.now c.requires.sound c.requires.left).groups

pub overflow_cast-result : goal.overflow_cast-result
overflow_cast-result c =
    let few = few-left c.args.instance.now (duties c.args.shifts.now) c.args.left.now c.requires.sound c.requires.left in
    omega (arith, few.least, c.least_heads.ensures)

pub overflow_cast-result-2 : goal.overflow_cast-result-2
overflow_cast-result-2 c =
    let few = few-left c.args.instance.now (duties c.args.shifts.now) c.args.left.now c.requires.sound c.requires.left in
    omega (arith, few.most, c.most_heads.ensures)

pub returns-clause-least : goal.returns-clause-least
returns-clause-least c =
    let i = c.args.instance.now in
    let some : i.groups ≢ [] = λ e. (let no_group : ◌≡◌ {A = Bool} true false = sym (c.is_empty.ensures.1 e) ∙ c.if-is_empty.false in cc) in
    c.least_heads.ensures ∙ ap least_heads c.requires.left ∙ sym (least-sum i (duties c.args.shifts.now) i.groups some)
