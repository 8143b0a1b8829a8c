use mathlib.Core.Path.{◌≡◌}
use Rattle.semantics.specs.Words.{entry, compound_predicates}
use Rattle.narrow_texts.specs.Inside.Predicates.{passing}
use Rattle.narrow_texts.proofs.words.fn.predicate_named.or_else.Given as goal

abbrev pub ensures : goal.ensures
ensures l r = r ≡ passing (entry l.text.entry.now compound_predicates)
