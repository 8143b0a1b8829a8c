use Prim.Native.Nat.{ℕ, ◌-◌}
use mathlib.Core.Bool.{Bool}
use mathlib.Core.List.{List}
use mathlib.Core.Path.{◌≡◌, refl, sym, ap, subst, ◌∙◌}
use native.Mathlib.Omega.{arith}
use lib.ListN.{length}
use Rattle.semantics.specs.Tree.{Item, item_at}
use Rattle.image_fields.specs.Image.{kind_of, name_count, decode}
use Rattle.image_rules.specs.declared.items.Items.{Items}
use Rattle.image_rules.specs.Inside.Machine.{item_of_word, plain_below, field_below, parameter_below}
use Rattle.image_fields.proofs.ImageLaws.{tree-names}
use Rattle.image_rules.proofs.ItemLaws.{items-number, items-kind, said}
use Rattle.image_rules.proofs.LambdaLaws.{Fields, lambda-start, lambda-empty, lambda-field, lambda_parameter, lambda_stuck, lambda_body}
use Rattle.image_rules.proofs.lambda_fits.Goals as goal
use Rattle.image_rules.proofs.lambda_fits.Goals.{then-not-field_fits+else-k-ne0+else-not-parameter_fits, else-not-field_fits}

-- before the first item
begun : (i : Items) → 4 ≡ kind_of i.image.now i.owner → Fields (decode i.image.now) i.owner i.count 0
begun i q = lambda-start (items-kind i q) (items-number i)

-- what was said of the four bytes that were read
module _ (s : List ℕ) {names : ℕ} (n : names ≡ name_count s) (w : ℕ) {i : Item} (e : item_of_word w ≡ i) {b b' : Bool} where
  field_is : (owner : ℕ) → b ≡ field_below owner names (item_of_word w) → b ≡ b' → field_below owner (length (decode s).names) i ≡ b'
  field_is owner f g = subst (λ m. field_below owner m i ≡ b') (n ∙ sym (tree-names s)) (said (field_below owner names) w e f g)

  parameter_is : b ≡ parameter_below names (item_of_word w) → b ≡ b' → parameter_below (length (decode s).names) i ≡ b'
  parameter_is f g = subst (λ m. parameter_below m i ≡ b') (n ∙ sym (tree-names s)) (said (parameter_below names) w e f g)

pub returns-then-items-eq0 : goal.returns-then-items-eq0
returns-then-items-eq0 c = lambda-empty (begun c.args.items c.requires.0) c.if-items-eq0.true

pub loop-k-init : goal.loop-k-init
loop-k-init c = begun c.args.items c.requires.0

pub returns-then-k-ne0 : goal.returns-then-k-ne0
returns-then-k-ne0 c =
    lambda_stuck c.loop-k.invariant (omega arith) (omega arith) (field_is _ c.requires.1 c.word-item.result c.word-item.ensures.0 _ c.field_fits.ensures c.if-not-field_fits.true)
    (λ z. absurd (c.if-k-ne0.true z))

pub returns-then-not-parameter_fits : goal.returns-then-not-parameter_fits
returns-then-not-parameter_fits c =
    lambda_stuck c.loop-k.invariant (omega arith) (omega arith) (field_is _ c.requires.1 c.word-item.result c.word-item.ensures.0 _ c.field_fits.ensures c.if-not-field_fits.true)
    (λ z. parameter_is _ c.requires.1 c.word-item.result c.word-item.ensures.0 c.parameter_fits.ensures c.if-not-parameter_fits.true)

pub loop-k-preserved : goal.loop-k-preserved
loop-k-preserved c =
    elim c.if-not-field_fits.branch [
      | then-not-field_fits+else-k-ne0+else-not-parameter_fits w ↦
          lambda_parameter c.loop-k.invariant (omega arith) w.if-k-ne0.false
          (parameter_is _ c.requires.1 c.word-item.result c.word-item.ensures.0 w.parameter_fits.ensures w.if-not-parameter_fits.false)
      | else-not-field_fits w ↦
          lambda-field c.loop-k.invariant (omega arith) (field_is _ c.requires.1 c.word-item.result c.word-item.ensures.0 _ c.field_fits.ensures w.if-not-field_fits.false)
    ]

pub returns : goal.returns
returns c =
    let k : c.args.items.count - 1 ≡ c.loop-k.k = omega arith in
    let e = c.word.ensures.0 ∙ ap (item_at (decode c.args.items.image.now) c.args.items.owner) k in
    sym (said (plain_below 0 _) c.word.result e c.plain_fits.ensures refl) ∙ lambda_body c.loop-k.invariant (omega (arith, c.if-items-eq0.false)) (omega (arith, c.if-items-eq0.false))
