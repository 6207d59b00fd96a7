use Rattle.std.proofs.Common.{◌+◌, ◌∙◌, set as set_at, arith}
use Rattle.exploring.specs.Table.{running_below}
use Rattle.exploring.proofs.TableLaws.{is_left, not_left, rows_same, rows_one, rows_full, below_next, told_all}
use Rattle.exploring.proofs.table.fill.Goals.{then-is_running, then-n-left, else-n-left, else-is_running}
use Rattle.exploring.proofs.table.fill.Goals as goal

pub loop-i-preserved : goal.loop-i-preserved
loop-i-preserved c = elim c.if-is_running.branch [
  | then-is_running w ↦ elim w.if-n-left.branch [
    | then-n-left w' ↦ (
      let e = w.n-is in omega arith,
      λ m a h.
          let t = c.loop-i.invariant.1 m a h in
          let yes = is_left c.args.p.now m c.args.processes.now c.args.count a h c.loop-i.i c.loop-i-test.true c.is_running.result w.if-is_running.true c.is_running.ensures in
          below_next c.args.p.now a.workers c.loop-i.i (c.loop-i.n + 1) c.if-is_running.n c.args.left.now (set_at c.loop-i.left c.loop-i.n w'.row_of.result) c.if-is_running.left w.n-is (w.left-is ∙ w'.left-is)
          (rows_one c.args.p.now a.workers (running_below a.workers c.loop-i.i) c.loop-i.i c.args.left.now c.loop-i.left c.loop-i.n t.0 t.1 w'.row_of.result yes w'.if-n-left.true (w'.row_of.ensures m a h)),
    )
    | else-n-left w' ↦ (
      let e = w.n-is in omega arith,
      λ m a h.
          let t = c.loop-i.invariant.1 m a h in
          let yes = is_left c.args.p.now m c.args.processes.now c.args.count a h c.loop-i.i c.loop-i-test.true c.is_running.result w.if-is_running.true c.is_running.ensures in
          below_next c.args.p.now a.workers c.loop-i.i (c.loop-i.n + 1) c.if-is_running.n c.args.left.now c.loop-i.left c.if-is_running.left w.n-is (w.left-is ∙ w'.left-is)
          (rows_full c.args.p.now a.workers (running_below a.workers c.loop-i.i) c.loop-i.i c.args.left.now c.loop-i.left c.loop-i.n t.0 t.1 yes (omega arith)),
    )
  ]
  | else-is_running w ↦ (
    let e = w.n-is in omega arith,
    λ m a h.
        let t = c.loop-i.invariant.1 m a h in
        let no = not_left c.args.p.now m c.args.processes.now c.args.count a h c.loop-i.i c.loop-i-test.true c.is_running.result w.if-is_running.false c.is_running.ensures in
        below_next c.args.p.now a.workers c.loop-i.i c.loop-i.n c.if-is_running.n c.args.left.now c.loop-i.left c.if-is_running.left w.n-is w.left-is
        (rows_same c.args.p.now a.workers (running_below a.workers c.loop-i.i) c.loop-i.i c.args.left.now c.loop-i.left c.loop-i.n t.0 t.1 no),
  )
]

pub returns : goal.returns
returns c m a h =
    told_all c.args.p.now a.workers c.args.count c.loop-i.i c.loop-i.n c.args.left.now c.loop-i.left h.many (omega arith) (c.loop-i.invariant.1 m a h)
