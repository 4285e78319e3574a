use Rattle.iop_exec_tests.proofs.ram.Ram.+put.Given as goal

abbrev pub decreases-put : goal.decreases-put
decreases-put l = l.count
