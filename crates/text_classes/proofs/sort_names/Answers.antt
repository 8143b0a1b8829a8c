use native.Mathlib.Omega.{arith}
use Rattle.text_classes.proofs.SortLaws.{sorted-names, sorted-inside, sorted-fits, own-told}
use Rattle.text_classes.proofs.sort_names.Goals as goal

pub keep_listed-requires-clause-all : goal.keep_listed-requires-clause-all
keep_listed-requires-clause-all c = sorted-fits (sorted-names c.list_names-named.ensures c.sort-count.ensures).ordered
    (omega (arith, c.requires.image_in_bounds, c.list_names-named.auto.class, c.fill.ensures.len)) (omega (arith, c.args.image.accepted.sized.texts-few))

pub returns : goal.returns
returns c = record {
  inside = sorted-inside c.list_names-named.ensures c.sort-count.ensures;
  told = own-told (sorted-names c.list_names-named.ensures c.sort-count.ensures) c.keep_listed.ensures;
  sorted = sorted-names c.list_names-named.ensures c.sort-count.ensures;
}
