use Rattle.command_texts.proofs.what_if.rest.told.Goals as goal

pub returns : goal.returns
returns c = record { remaining = c.args.left.now; is = c.requires; status_is = c.rest_status.ensures; said = c.in_ok-output.ensures }
