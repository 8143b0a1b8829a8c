-- Rule 5 of an expression of which it is known whether it has items: without any the order of its kind is complete, with
-- some it has no text.
use mathlib.Core.Path.{◌≡◌, refl, ap, sym, ◌∙◌}
use mathlib.Core.Bool.{Bool, true, false, cond, ◌&&◌, ◌||◌}
use mathlib.Core.List.{List, [], ◌∷◌}
use Prim.Native.Nat.{ℕ, ◌/◌, ◌%◌, ◌≤◌, ◌<◌}
use native.Mathlib.Omega.{arith}
use native.Mathlib.Decide.{dec_lt}
use lib.Dec.{eqb, ltb, leb}
use lib.ListN.{length, drop_of_length-le}
use borrow.Author.Tests.{lt-ltb, le-ltb, le-leb, lt-leb, eq-eqb, ne_eqb, ltb-true, leb-true, eqb-true}
use Rattle.semantics.specs.Base.{every}
use Rattle.semantics.specs.Tree.{Tree, Item, is_none, expr_at}
use Rattle.semantics.proofs.BaseLaws.{and_left, and-false, all-holds}
use Rattle.image_rules.specs.Rules.{detail_count, texted, text_fits, expr_fits, order, next, complete, follows}
use Rattle.image_rules.specs.Inside.Whole.{item_fits, items_fit}
use Rattle.image_rules.specs.Inside.Machine.{owner_fits}
use Rattle.image_rules.proofs.OrderLaws.{computed}
use Rattle.image_rules.proofs.RuleLaws.{no_kind, other_form, marked}
use Rattle.image_rules.proofs.ItemLaws.{and-true, roles}

-- where a detail that the kind has goes without a text, rule 5 is that there is none
no_text : (texts kind detail text : ℕ) → (detail < detail_count kind → texted kind detail ≡ false) → expr_fits texts kind detail text ≡ owner_fits kind detail text
unfolding expr_fits owner_fits text_fits
no_text texts kind detail text h = elim (dec_lt detail (detail_count kind)) [
  | yes l ↦ rw (h l)
  | no l ↦ rw (le-ltb detail (detail_count kind) (omega (arith, l)), and-false)
]

-- how many details a kind has that may stand without items
unfoldable pub bare_details : ℕ → ℕ
bare_details kind = cond (complete (order kind)) (detail_count kind) 0

-- To compute the test of the packed number, and of a form that has a text.
unfoldable pub bare : Unit {0}
unfolding bare_details texted computed marked
bare = tt

below-bare : (b : Bool) (d n : ℕ) → ltb d (cond b n 0) ≡ (ltb d n && b)
below-bare true d n = sym (and-true (ltb d n))
below-bare false d n = le-ltb d 0 (omega arith) ∙ sym (and-false (ltb d n))

-- `bare_fits`
module _ (form text texts : ℕ) where
  abbrev asked : Bool
  asked = expr_fits texts (form / 32) (form % 32) text && complete (order (form / 32))

  -- a form that has a text
  pub bare-texted : {f : ℕ} → form ≡ f → (leb (f / 32) 16 && ltb (f % 32) (detail_count (f / 32))) ≡ true → texted (f / 32) (f % 32) ≡ true → complete (order (f / 32)) ≡ true
      → ltb text texts ≡ asked
  unfolding expr_fits text_fits
  bare-texted e h x o = rw (e, h, x, o) (sym (and-true _))

  pub bare-kind : 16 < form / 32 → false ≡ asked
  bare-kind h = rw (← no_kind texts (form / 32) (form % 32) text h)

  -- neither a Reference nor a String literal
  module _ (n : form ≡ 320 → ⊥) (m : form ≡ 98 → ⊥) where
    no-text_form : expr_fits texts (form / 32) (form % 32) text ≡ owner_fits (form / 32) (form % 32) text
    no-text_form = no_text texts _ _ text (λ l. sym (other_form form l n) ∙ ne_eqb form 98 m)

    pub bare-text : (text ≡ 16383 → ⊥) → false ≡ asked
    unfolding owner_fits is_none
    bare-text h = rw (no-text_form, ne_eqb text 16383 h, and-false)

    pub bare-detail : text ≡ 16383 → form / 32 ≤ 16 → {x : ℕ} → x ≡ bare_details (form / 32) → ltb (form % 32) x ≡ asked
    unfolding owner_fits is_none bare_details
    bare-detail t l e = rw (no-text_form, le-leb (form / 32) 16 l, eq-eqb text 16383 t, and-true, e) (below-bare (complete (order (form / 32))) _ _)

some-detail : (kind : ℕ) → kind ≤ 16 → 0 < detail_count kind
unfolding marked
some-detail kind l = ltb-true 0 (detail_count kind) (all-holds (λ k. ltb 0 (detail_count k)) 17 kind refl (omega arith))

-- `owner_fits`
module _ (kind detail text : ℕ) where
  pub owner-kind : 16 < kind → false ≡ owner_fits kind detail text
  unfolding owner_fits
  owner-kind h = rw (lt-leb kind 16 h)

  pub owner-known : owner_fits kind detail text ≡ true → kind ≤ 16
  unfolding owner_fits
  owner-known h = leb-true _ _ (and_left _ _ (and_left _ _ h))

  pub owner-text : (text ≡ 16383 → ⊥) → false ≡ owner_fits kind detail text
  unfolding owner_fits is_none
  owner-text h = rw (ne_eqb text 16383 h, and-false)

  module _ (l : kind ≤ 16) (t : text ≡ 16383) where
    pub owner-detail : {x : ℕ} → x ≡ detail_count kind → ltb detail x ≡ owner_fits kind detail text
    unfolding owner_fits is_none
    owner-detail e = rw (le-leb kind 16 l, eq-eqb text 16383 t, and-true, e)

    pub owner-first : detail ≡ 0 → true ≡ owner_fits kind detail text
    owner-first z = sym (lt-ltb detail (detail_count kind) (omega (arith, some-detail kind l))) ∙ owner-detail refl

texted-order : (kind detail : ℕ) → texted kind detail ≡ true → order kind ≡ []
unfolding bare
texted-order kind detail h = go (eqb kind 10) (eqb kind 3) refl refl h
  where
    go : (b c : Bool) → eqb kind 10 ≡ b → eqb kind 3 ≡ c → (b || (c && eqb detail 2)) ≡ true → order kind ≡ []
    go true c p q g = ap order (eqb-true kind 10 p)
    go false true p q g = ap order (eqb-true kind 3 q)
    go false false p q g = absurd (let z : ◌≡◌ {A = ℕ} 0 1 = cc in omega arith)

none_follow : (l : List Item) → 0 < length l → follows [] (roles l) ≡ false
unfolding follows next
none_follow [] h = absurd (omega arith)
none_follow (i ∷ l) h = refl

-- the rule of the items where there are none, and that of an expression with items
module _ (t : Tree) (e : ℕ) {kind : ℕ} (k : (expr_at t e).kind ≡ kind) where
  pub no_items : length (expr_at t e).items ≡ 0 → items_fit t e ≡ complete (order kind)
  unfolding items_fit every follows
  no_items n = let z : (expr_at t e).items ≡ [] = drop_of_length-le (expr_at t e).items {i = 0} (omega arith) in rw (z, k)

  text-refused : (detail : ℕ) → 0 < length (expr_at t e).items → texted kind detail ≡ true → items_fit t e ≡ false
  unfolding items_fit
  text-refused detail n h =
      rw (k, texted-order kind detail h, none_follow (expr_at t e).items n) (and-false (every (item_fits t e) (expr_at t e).items))

  pub with_items : (texts detail text : ℕ) → 0 < length (expr_at t e).items → (owner_fits kind detail text && items_fit t e) ≡ (expr_fits texts kind detail text && items_fit t e)
  with_items texts detail text n = go (texted kind detail) refl
    where
      go : (b : Bool) → texted kind detail ≡ b → (owner_fits kind detail text && items_fit t e) ≡ (expr_fits texts kind detail text && items_fit t e)
      go true h = rw (text-refused detail n h) (and-false (owner_fits kind detail text) ∙ sym (and-false (expr_fits texts kind detail text)))
      go false h = rw (no_text texts kind detail text (λ l. h))
