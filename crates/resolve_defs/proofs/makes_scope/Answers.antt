use mathlib.Core.Path.{sym}
use native.Mathlib.Omega.{arith}
use Rattle.resolve_defs.proofs.ScopeLaws.{of_with, of_defined, unmade}
use Rattle.resolve_defs.proofs.makes_scope.Goals as goal
use Rattle.resolve_defs.proofs.makes_scope.Goals.{in-8-1, in_default+else-this-lt4+then-this-lt6}

pub returns-in-13 : goal.returns-in-13
returns-in-13 c = of_with _ _ c.kind.ensures c.in-13.is

pub returns-in_default : goal.returns-in_default
returns-in_default c = sym (unmade _ c.args.image.accepted _ c.requires (λ h. omega arith) (λ h. omega arith) (λ h. omega arith) (λ h. omega arith))

pub returns-in_default-2 : goal.returns-in_default-2
returns-in_default-2 c = sym (unmade _ c.args.image.accepted _ c.requires (λ h. omega arith) (λ h. omega arith) (λ h. omega arith) (λ h. omega arith))

pub returns-in-4 : goal.returns-in-4
returns-in-4 c =
    of_defined _ _ c.kind.ensures
    (λ h. elim c.in-4-1.branch [ in-8-1 w ↦ omega arith | in_default+else-this-lt4+then-this-lt6 w ↦ omega arith ])
    c.defines_any.ensures
