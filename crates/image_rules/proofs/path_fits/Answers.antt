use Prim.Native.Nat.{ℕ, ◌≤◌}
use mathlib.Core.Path.{◌≡◌, refl, sym, ◌∙◌}
use native.Mathlib.Omega.{arith}
use Rattle.image_fields.specs.Image.{kind_of, decode}
use Rattle.image_rules.specs.declared.items.Items.{Items}
use Rattle.image_rules.specs.Inside.Machine.{plain_below}
use Rattle.image_rules.proofs.ItemLaws.{Following, items-number, items-kind, said}
use Rattle.image_rules.proofs.PathLaws.{path, path-start, path_empty, path_unset, path-set, path-key, attr-ends, select-more, select-ends, path-done}
use Rattle.image_rules.proofs.path_fits.Goals as goal

-- before the first item
begun : (i : Items) {kind : ℕ} → kind ≡ kind_of i.image.now i.owner → 11 ≤ kind → kind ≤ 12 → Following (decode i.image.now) i.owner i.count kind 0
begun i q l h = path-start (path _ l h) (items-kind i q) (items-number i)

pub returns-then-items-eq0 : goal.returns-then-items-eq0
returns-then-items-eq0 c = path_empty (path _ c.requires.1 c.requires.2) (begun c.args.items c.requires.0 c.requires.1 c.requires.2) c.if-items-eq0.true

pub returns-then-not-plain_fits : goal.returns-then-not-plain_fits
returns-then-not-plain_fits c =
    path_unset (path _ c.requires.1 c.requires.2) (begun c.args.items c.requires.0 c.requires.1 c.requires.2) (omega (arith, c.if-items-eq0.false))
    (said (plain_below 0 _) c.word-set.result c.word-set.ensures.0 c.plain_fits.ensures c.if-not-plain_fits.true)

pub loop-k-init : goal.loop-k-init
loop-k-init c =
    path-set (path _ c.requires.1 c.requires.2) (begun c.args.items c.requires.0 c.requires.1 c.requires.2) (omega (arith, c.if-items-eq0.false))
    (said (plain_below 0 _) c.word-set.result c.word-set.ensures.0 c.plain_fits.ensures c.if-not-plain_fits.false)

pub returns-then-kind-ne-SELECT : goal.returns-then-kind-ne-SELECT
returns-then-kind-ne-SELECT c =
    attr-ends (path _ c.requires.1 c.requires.2) c.loop-k.invariant c.loop-k-test.true c.if-kind-ne-SELECT.true
    (said (plain_below 1 _) c.word-item.result c.word-item.ensures.0 c.plain_fits-in-loop-k.ensures c.if-not-plain_fits-2.true)

pub returns-then-k-items : goal.returns-then-k-items
returns-then-k-items c =
    select-more (path _ c.requires.1 c.requires.2) c.loop-k.invariant c.loop-k-test.true c.if-kind-ne-SELECT.false
    (said (plain_below 1 _) c.word-item.result c.word-item.ensures.0 c.plain_fits-in-loop-k.ensures c.if-not-plain_fits-2.true) c.if-k-items.true

pub returns-then-not-plain_fits-2 : goal.returns-then-not-plain_fits-2
returns-then-not-plain_fits-2 c =
    sym (said (plain_below 2 _) c.word-item.result c.word-item.ensures.0 c.plain_fits-then-not-plain_fits-2.ensures refl)
    ∙ select-ends (path _ c.requires.1 c.requires.2) c.loop-k.invariant c.loop-k-test.true c.if-kind-ne-SELECT.false
    (said (plain_below 1 _) c.word-item.result c.word-item.ensures.0 c.plain_fits-in-loop-k.ensures c.if-not-plain_fits-2.true) c.if-k-items.false

pub loop-k-preserved : goal.loop-k-preserved
loop-k-preserved c =
    path-key (path _ c.requires.1 c.requires.2) c.loop-k.invariant c.loop-k-test.true
    (said (plain_below 1 _) c.word-item.result c.word-item.ensures.0 c.plain_fits-in-loop-k.ensures c.if-not-plain_fits-2.false)

pub returns : goal.returns
returns c = path-done (path _ c.requires.1 c.requires.2) c.loop-k.invariant c.loop-k-test.false
