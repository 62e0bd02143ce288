use Rattle.page_command.specs.Requests.{request_of}
use Rattle.page_command.proofs.LabelledReaders.{request-accepted, request-refused}
use Rattle.page_command.proofs.asking.ask_request.Goals as goal

pub returns-in-Ok : goal.returns-in-Ok
returns-in-Ok g c = request-accepted (request_of c.args.request) _ _ _ c.args.demand.now c.args.third.now c.in-Ok.grammar c.in-Ok.ensures.value c.in-Ok.ensures.sound c.ask_demand.ensures

pub returns-in-Err : goal.returns-in-Err
returns-in-Err g c = request-refused (request_of c.args.request) _ _ _ c.args.demand.now c.args.third.now c.in-Err.fault c.rules_refusal.result c.rules_refusal.ensures c.in-Err.ensures.value c.say_remarked.ensures
