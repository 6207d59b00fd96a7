use Rattle.judging.proofs.setting.Setting.+variables_there.Given as goal

abbrev pub decreases-variables_there : goal.decreases-variables_there
decreases-variables_there l = l.depth
