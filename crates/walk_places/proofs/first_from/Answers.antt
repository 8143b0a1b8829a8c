use Rattle.walk_places.proofs.first_from.Goals as goal

pub returns-then-enters : goal.returns-then-enters
returns-then-enters c = rw (← c.enters.ensures, c.if-enters.true)

pub returns : goal.returns
returns c = rw (← c.enters.ensures, c.if-enters.false)
