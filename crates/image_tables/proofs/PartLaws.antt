-- Rules 6, 10 and 11, each over the whole image.
use mathlib.Core.Path.{◌≡◌, refl, ap, ◌∙◌}
use mathlib.Core.Bool.{true, ◌&&◌}
use mathlib.Core.List.{List}
use Prim.Native.Nat.{ℕ, ◌<◌}
use native.Mathlib.Omega.{arith}
use borrow.Author.Tests.{leb-true}
use Rattle.semantics.specs.Base.{all}
use Rattle.semantics.proofs.BaseLaws.{and_left}
use Rattle.image_fields.specs.Image.{expr_count, decode}
use Rattle.image_fields.specs.Inside.Asked.{Sized, Runs}
use Rattle.image_rules.specs.Rules.{expr_fits, items_stand, items_smaller, items_inherit}
use Rattle.image_rules.specs.Inside.Whole.{items_fit}
use Rattle.image_rules.proofs.PartLaws.{all_both, items-parts}
use Rattle.image_tables.specs.Tables.{exprs_fit, all_stand, all_smaller, all_inherit}
use Rattle.image_tables.specs.Inside.Whole.{all_items_fit}
use Rattle.image_tables.proofs.RunLaws.{expr-own, expr-run}

-- what the one pass asks of the items of an image is these three
pub all-parts : (s : List ℕ) → Sized s → all_items_fit s ≡ (all_stand s && all_smaller s && all_inherit s)
unfolding all_items_fit all_stand all_smaller all_inherit
all-parts s z =
    all_both (items_fit (decode s)) (λ e. items_stand (decode s) e && items_smaller (decode s) e) (items_inherit (decode s)) (expr_count s) (λ e l. items-parts (decode s) e (omega (arith, l, z.exprs-few)))
    ∙ ap (λ b. b && all (items_inherit (decode s)) (expr_count s))
    (all_both (λ e. items_stand (decode s) e && items_smaller (decode s) e) (items_stand (decode s)) (items_smaller (decode s)) (expr_count s) (λ e l. refl))

-- in an image that keeps 5, each expression's items can be read
pub runs : {s : List ℕ} → Sized s → exprs_fit s ≡ true → (e : ℕ) → e < expr_count s → Runs s e
unfolding expr_fits
runs {s} z h e l =
    record {
      sized = z;
      inside = l;
      known = leb-true _ _ (and_left _ _ (and_left _ _ (expr-own s h e l)));
      run = expr-run s h e l;
    }

module _ (s : List ℕ) {exprs : ℕ} (p : exprs ≡ expr_count s) where
  pub stand_all : all (items_stand (decode s)) exprs ≡ all_stand s
  unfolding all_stand
  stand_all = rw p

  pub smaller-all : all (items_smaller (decode s)) exprs ≡ all_smaller s
  unfolding all_smaller
  smaller-all = rw p
