use Rattle.printer.proofs.processes.Processes.+put_expression.Given as goal

abbrev pub decreases-put_expression : goal.decreases-put_expression
decreases-put_expression l = l.depth
