use Rattle.std.proofs.Common.{◌+◌, get_or, sym, ap, ◌∙◌, arith}
use Rattle.records.specs.Records.{end_of}
use Rattle.records.proofs.RecordLaws.{end_there, end_past, end_some}
use Rattle.records.proofs.process.end_at.Goals as goal

pub returns-then-k-ends_count : goal.returns-then-k-ends_count
returns-then-k-ends_count c = end_past c.args.of.now c.args.conversation (omega arith)

pub returns-then-code-eq0 : goal.returns-then-code-eq0
returns-then-code-eq0 c =
    ap (end_of (get_or c.args.of.now (32 + c.args.conversation) 0)) (sym c.if-code-eq0.true) ∙ end_there c.args.of.now c.args.conversation (omega arith)

pub returns : goal.returns
returns c = end_some c.args.of.now c.args.conversation (omega arith) c.if-code-eq0.false
