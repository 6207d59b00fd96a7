-- What a line that lends its words at its end holds once they are given back.
use Rattle.std.specs.Borrow.{Fml, MutBor}
use Rattle.std.specs.Io.BufRead.{Rests}
use Rattle.std.specs.Prelude.{◌≡◌, Result, OnOk}
use Rattle.lines.specs.contracts.line.Line.{the_row}
use Rattle.lines.specs.declared.line.Line.{Line}
use Rattle.lines.specs.Reading.{ended, reading}

-- the line is ended, if there was memory
abbrev pub LendsWords : {A E : Type 0} → MutBor Line → Result A E → Fml
LendsWords s r = Rests the_row s (λ l. OnOk r (reading l ≡ ended (reading s.now)))
