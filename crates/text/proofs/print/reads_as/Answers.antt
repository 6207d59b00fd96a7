use Rattle.std.proofs.Common.{sym, ◌∙◌, subst}
use Rattle.std.proofs.lemmas.Slice.Eq.{slice_eq-Decides}
use Rattle.text.proofs.print.reads_as.Goals as goal
use Rattle.text.specs.RowsOf.{RowsOf}
use Rattle.std.proofs.lemmas.Bool.Decides.{Decides-eqb}

pub returns-in-Ok : goal.returns-in-Ok
returns-in-Ok c t =
    subst RowsOf (sym c.as_slice.ensures.value ∙ (slice_eq-Decides Decides-eqb c.as_slice.result.now c.args.rows.now c.eq.result c.eq.ensures).0 t) c.in-Ok.ensures
