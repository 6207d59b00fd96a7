-- What the map that the reader is lent holds once the rows are given back.
use Rattle.std.specs.Borrow.{Fml, MutBor}
use Rattle.std.specs.Io.BufRead.{Rests}
use Rattle.std.specs.Prelude.{◌≡◌, Option, IfSome}
use Rattle.rows.specs.contracts.map.Map.{the_row}
use Rattle.rows.specs.declared.lookup.Rows.{Rows}
use Rattle.rows.specs.declared.map.Map.{Map}

-- where rows were read, it is the map that they were read with
abbrev pub LeavesMap : MutBor Map → Option Rows → Fml
LeavesMap m r = Rests the_row m (λ n. IfSome r (λ rows. n ≡ rows.map.now))
