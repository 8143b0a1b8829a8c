use Rattle.narrow_leaf.proofs.callees.+builtin_callee_name.Given as goal

abbrev pub decreases-builtin_callee_name : goal.decreases-builtin_callee_name
decreases-builtin_callee_name l = l.depths
