use Rattle.resolve_events.proofs.VisitLaws.{ready_on, expr-below, ready_entry, blank_entry, traced}
use Rattle.resolve_events.proofs.trace.Goals as goal

pub enter-here-requires : goal.enter-here-requires
enter-here-requires c = record { ready = ready_entry c.args.image.accepted c.requires c.entry-entry.ensures; e_value = blank_entry c.args.image.accepted c.requires c.entry-entry.ensures }

pub traverse_bindings-requires : goal.traverse_bindings-requires
traverse_bindings-requires c = ready_on (ready_entry c.args.image.accepted c.requires c.entry-entry.ensures) c.enter-here.ensures

pub returns : goal.returns
returns c = record {
  traced = traced c.args.image.accepted c.requires c.entry-entry.ensures
      (expr-below (ready_entry c.args.image.accepted c.requires c.entry-entry.ensures)
      (blank_entry c.args.image.accepted c.requires c.entry-entry.ensures) c.enter-here.ensures c.traverse_bindings.ensures);
  table_after = (expr-below (ready_entry c.args.image.accepted c.requires c.entry-entry.ensures)
      (blank_entry c.args.image.accepted c.requires c.entry-entry.ensures) c.enter-here.ensures c.traverse_bindings.ensures).went.behind;
}
