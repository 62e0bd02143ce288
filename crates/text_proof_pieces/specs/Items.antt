-- What the lines of a text give.
use Rattle.std.specs.Prelude.{List, Result}
use Rattle.text_lines.specs.Lines.{TextLine}
use Rattle.text_lines.specs.declared.line.BadByte.{BadByte}

abbrev pub Items : Type 0
Items = List (Result TextLine BadByte)
