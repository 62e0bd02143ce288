use Rattle.std.proofs.Common.{◌≡◌, ◌<◌, ◌≤◌, length, take, subst, arith}
use Rattle.std.proofs.lemmas.Grind.{common_steps}
use Rattle.std.specs.Io.KnownBytes.{Consumes}
use Rattle.command_shelf.proofs.Streams.{read_to_end, read_to_limit, read_begins, read_within, read_more}
use Rattle.command_shelf.proofs.stream.read_bytes.Goals as goal

pub returns-then-count-eq0-clause-whole : goal.returns-then-count-eq0-clause-whole
returns-then-count-eq0-clause-whole g c =
    let bytes = c.in-Ok.ensures.bytes in
    let has_room : 0 < length c.read.new.buf = grind (arith, common_steps) in
    read_to_end _ _ _ _ _ c.read.new.buf _ c.loop-left.left c.loop-left.invariant
    (subst (λ n. Consumes (g.F.Read.remaining c.loop-left.from) (g.F.Read.remaining c.read.new.self) (take n c.read.new.buf)) c.if-count-eq0.true bytes.0)
    (bytes.1 c.if-count-eq0.true has_room)

pub returns-clause-whole : goal.returns-clause-whole
returns-clause-whole g c = read_to_limit _ _ _ _ _ c.loop-left.left c.loop-left.invariant (omega arith)

pub returns-in_default-clause-begins : goal.returns-in_default-clause-begins
returns-in_default-clause-begins g c = read_begins _ _ _ _ _ _ c.loop-left.invariant

pub returns-in_default-clause-limit : goal.returns-in_default-clause-limit
returns-in_default-clause-limit g c = read_within _ _ _ _ _ _ c.loop-left.invariant

pub returns-then-count-eq0-clause-begins : goal.returns-then-count-eq0-clause-begins
returns-then-count-eq0-clause-begins g c = read_begins _ _ _ _ _ _ c.loop-left.invariant

pub returns-then-count-eq0-clause-limit : goal.returns-then-count-eq0-clause-limit
returns-then-count-eq0-clause-limit g c = read_within _ _ _ _ _ _ c.loop-left.invariant

pub returns-clause-begins : goal.returns-clause-begins
returns-clause-begins g c = read_begins _ _ _ _ _ _ c.loop-left.invariant

pub returns-clause-limit : goal.returns-clause-limit
returns-clause-limit g c = read_within _ _ _ _ _ _ c.loop-left.invariant

pub loop-left-preserved : goal.loop-left-preserved
loop-left-preserved g c =
    let bytes = c.in-Ok.ensures.bytes in
    let bound = c.in-Ok.ensures.bound in
    let long : length (take c.in-Ok.count c.read.new.buf) ≡ c.in-Ok.count = grind (arith, common_steps) in
    let within : c.in-Ok.count ≤ c.loop-left.left = grind (arith, common_steps) in
    read_more _ _ _ _ _ _ (take c.in-Ok.count c.read.new.buf) _ _ _ c.loop-left.invariant bytes.0 c.in_ok-extend_from_slice.ensures.items long within
