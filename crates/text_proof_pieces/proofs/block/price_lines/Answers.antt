use Rattle.std.proofs.Common.{◌<◌, length, [], ap, ◌∙◌, arith}
use Rattle.text_proof_pieces.specs.Told.{RoomView}
use Rattle.text_proof_pieces.proofs.PriceBlock.{line_fits, one_line_whole, price_read}
use Rattle.text_proof_pieces.proofs.block.price_lines.Goals as goal

pub price_line-requires : goal.price_line-requires
price_line-requires c =
    let lt : length c.loop-lines.room.cell < length c.args.instance.now.cells = omega (arith, ap length c.cells.ensures) in
    let fits = line_fits c.args.instance.now (length c.loop-lines.room.cell) c.requires.sound c.loop-lines.invariant.whole lt in
    omega (arith, ap (λ (r : RoomView). r.most) c.loop-lines.invariant.kept)

pub loop-lines-preserved : goal.loop-lines-preserved
loop-lines-preserved c =
    let lt : length c.loop-lines.room.cell < length c.args.instance.now.cells = omega (arith, ap length c.cells.ensures) in
    record {
      value = λ h p. c.loop-lines.invariant.value h p ∙ price_read c.args.instance.now h p c.loop-lines.room.cell c.price_line.new.room.cell [] c.in_ok-line.line c.loop-lines.lines c.next_line.new.lines lt
          c.in_ok-line.ensures.line c.in_ok-price_line.ensures.value;
      whole = one_line_whole c.args.instance.now (length c.loop-lines.room.cell) (length c.price_line.new.room.cell) c.requires.sound c.loop-lines.invariant.whole lt c.in_ok-price_line.ensures.long;
      kept = c.price_line.ensures.kept ∙ ap (λ (r : RoomView). record r { cell = c.price_line.new.room.cell }) c.loop-lines.invariant.kept;
    }
