-- The record of a true narrowing is true, as it stands in the bytes (specs/Records.antt).
use Rattle.std.specs.Prelude.{Some}
use mathlib.Core.Path.{◌≡◌, ap}
use mathlib.Core.Bool.{Bool, true, false, not}
use Rattle.semantics.specs.Base.{pick, only}
use Rattle.semantics.specs.Tree.{Tree}
use Rattle.semantics.specs.Words.{Null, Bool', Int, Float, String, Path, List', Set, Function, sort_number, same_sort, number}
use Rattle.semantics.specs.Narrow.{Test, is, numeric, has, coded, predicate_of, test_tells, compound}
use Rattle.semantics.specs.Values.{Value, passed}
use Rattle.semantics.specs.Records.{record_holds, RecordsTrue}
use Rattle.semantics.proofs.BaseLaws.{clash}
use Rattle.semantics.proofs.NarrowLaws.{all_tellable}

said : (t : Tree) (p : Test) (b : Bool) (v : Value) → test_tells b p ≡ Some p → passed t p v ≡ b
    → record_holds t (predicate_of p b).0 (predicate_of p b).1 v ≡ true
unfolding record_holds predicate_of passed number same_sort sort_number pick test_tells only compound
said t (is Null) true v h e = e
said t (is Null) false v h e = ap not e
said t (is Bool') true v h e = e
said t (is Bool') false v h e = ap not e
said t (is Int) true v h e = e
said t (is Int) false v h e = ap not e
said t (is Float) true v h e = e
said t (is Float) false v h e = ap not e
said t (is String) true v h e = e
said t (is String) false v h e = ap not e
said t (is Path) true v h e = e
said t (is Path) false v h e = ap not e
said t (is List') true v h e = e
said t (is List') false v h e = absurd (clash h)
said t (is Set) true v h e = e
said t (is Set) false v h e = absurd (clash h)
said t (is Function) true v h e = e
said t (is Function) false v h e = absurd (clash h)
said t numeric true v h e = e
said t numeric false v h e = absurd (clash h)
said t (has k) true v h e = e
said t (has k) false v h e = ap not e

pub records-true : RecordsTrue
unfolding coded
records-true t tab m b c r i w = (w.0, w.1, said t r.test r.passes w.0 (all_tellable t tab b c r i) w.2)
