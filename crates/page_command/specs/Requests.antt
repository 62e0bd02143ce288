-- The request that a value of the program stands for.
use Rattle.std.specs.Option.{option_copied}
use Rattle.page_command.specs.Check.{Request}
use Rattle.page_command.specs.declared.request.Request as program

abbrev pub request_of : program.Request → Request
request_of r =
    record { word = r.word; rules = r.rules.now; labels = option_copied r.labels; old = option_copied r.old }
