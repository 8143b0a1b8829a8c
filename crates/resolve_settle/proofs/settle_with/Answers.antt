use Rattle.resolve_settle.proofs.SettledLaws.{reference_class}
use Rattle.resolve_settle.proofs.EndLaws.{mapped}
use Rattle.resolve_settle.proofs.BuiltLaws.{building_start, built_from}
use Rattle.resolve_settle.proofs.settle_with.Goals as goal

pub settle_builtins-requires : goal.settle_builtins-requires
settle_builtins-requires c = building_start c.settle_events.ensures.settled c.requires.traced.number

pub returns : goal.returns
returns c = mapped c.args.image.accepted (reference_class c.args.image.accepted) (built_from c.args.image.accepted c.settle_events.ensures.beside c.settle_builtins.ensures)
    (rw c.expr_count.ensures at c.unmark_all.ensures)
