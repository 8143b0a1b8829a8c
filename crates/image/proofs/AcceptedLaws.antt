-- What acceptance gives. Later proofs use these laws and do not open the check again.
use Rattle.std.specs.Prelude.{Some, None, Ok, Err}
use mathlib.Core.Path.{◌≡◌, refl, ap, subst, ◌∙◌}
use mathlib.Core.Logic.{◌⊎◌, inl, inr}
use mathlib.Core.Bool.{Bool, true, false, cond, ◌&&◌, ◌||◌}
use mathlib.Core.List.{List, [], ◌∷◌, map}
use Prim.Native.Nat.{ℕ, zero, suc, ◌+◌, ◌≤◌, ◌<◌}
use native.Mathlib.Omega.{arith}
use lib.Dec.{eqb, ltb, leb}
use lib.ListN.{length}
use borrow.Author.Tests.{eq-eqb, eqb-true, ltb-true, leb-true}
use Rattle.semantics.specs.Base.{only, every}
use Rattle.semantics.specs.Tree.{Item, no_item, is_none, expr_at, item_at}
use Rattle.semantics.proofs.BaseLaws.{and_left, and_right, all-holds, every_holds}
use Rattle.image_fields.specs.Image.{field_in, expr_count, name_count, text_count, byte_total, entry_of, length_of, kind_of, name_place, text_first_of, text_length_of, count_of, decode}
use Rattle.image_rules.specs.Rules.{expr_fits, Part, one, next, complete, Presence, has, may, has_not, fits, name_presence, expr_presence, inherits, order, follows}
use Rattle.image_rules.specs.Inside.Whole.{lower, item_fits, items_fit}
use Rattle.lent.proofs.CallLaws.{kept, broken_has}
use Rattle.image.specs.Refusals.{length_fits, entry_fits, image_rules, image_refusal, verdict_of}
use Rattle.image_tables.specs.Tables.{texts_fit, name_fits, names_fit, exprs_fit, all_stand, all_smaller, all_inherit}
use Rattle.image_tables.specs.Inside.Whole.{all_items_fit}
use Rattle.codes.specs.declared.refusals.Refusal.{Refusal}
use Rattle.codes.specs.Refusals.{refusal_numbered}
use Rattle.image.specs.Inside.Accepted.{Accepted}
use Rattle.image_fields.proofs.ImageLaws.{sized, tree-items, tree-names}
use Rattle.image_tables.proofs.PartLaws.{all-parts}
use Rattle.image_tables.proofs.RunLaws.{run_inside, entry-passes, expr-own, expr-starts, expr-run, items-whole}

-- `check` accepts only where no rule is broken, and its refusal is the one with that number
pub accepts_only : (n : ℕ) → Ok tt ≡ verdict_of n → n ≡ 0
unfolding verdict_of
accepts_only zero h = refl
accepts_only (suc n) h = absurd (let z : ◌≡◌ {A = ℕ} 0 1 = cc in omega arith)

pub refuses_only : (n : ℕ) (r : Refusal) → Err r ≡ verdict_of n → (0 < n) × (r ≡ refusal_numbered n)
unfolding verdict_of
refuses_only zero r h = absurd (let z : ◌≡◌ {A = ℕ} 0 1 = cc in omega arith)
refuses_only (suc n) r h = (omega arith, cc)

-- no rule is broken: each is kept
pub record Kept (s : List ℕ) : Type 0 where
  pub length-fits : length_fits s ≡ true
  pub entry-fits : entry_fits s ≡ true
  pub texts_fit_lem : texts_fit s ≡ true
  pub names_fit_lem : names_fit s ≡ true
  pub exprs_fit_lem : exprs_fit s ≡ true
  pub items_stand_lem : all_stand s ≡ true
  pub items-smaller : all_smaller s ≡ true
  pub items_inherit_lem : all_inherit s ≡ true

keeps : (s : List ℕ) → image_refusal s ≡ 0 → Kept s
unfolding image_refusal image_rules
keeps s h =
    let a = kept _ _ (omega arith) h in
    let b = kept _ _ (omega arith) a.1 in
    let c = kept _ _ (omega arith) b.1 in
    let d = kept _ _ (omega arith) c.1 in
    let e = kept _ _ (omega arith) d.1 in
    let f = kept _ _ (omega arith) e.1 in
    let g = kept _ _ (omega arith) f.1 in
    let i = kept _ _ (omega arith) g.1 in
    record {
      length-fits = a.0;
      entry-fits = b.0;
      texts_fit_lem = c.0;
      names_fit_lem = d.0;
      exprs_fit_lem = e.0;
      items_stand_lem = f.0;
      items-smaller = g.0;
      items_inherit_lem = i.0;
    }

module _ (s : List ℕ) (k : Kept s) where
  size_of : length s ≡ length_of s
  unfolding length_fits
  size_of = eqb-true _ _ (and_right (leb 12 (length s)) _ k.length-fits)

  entry_of_lem : entry_of s < expr_count s
  unfolding entry_fits
  entry_of_lem = ltb-true _ _ k.entry-fits

  text_of : (x : ℕ) → x < text_count s → text_first_of s x + text_length_of s x ≤ byte_total s
  unfolding texts_fit
  text_of x l =
      run_inside _ (text_first_of s) (text_length_of s) (text_count s) (byte_total s) x k.texts_fit_lem l
      (entry-passes _ (text_length_of s) (text_count s) (byte_total s) x k.texts_fit_lem l)

  name_of : (n : ℕ) → n < name_count s → (field_in s (name_place s n) 14 3 ≤ 4) × (field_in s (name_place s n) 0 14 < text_count s)
  unfolding names_fit name_fits
  name_of n l =
      let h = all-holds _ (name_count s) n k.names_fit_lem l in
      let g = and_left _ _ h in
      (leb-true _ _ (and_left _ _ g), ltb-true _ _ (and_right (leb (field_in s (name_place s n) 14 3) 4) _ g))

  items_of : (e : ℕ) → e < expr_count s → items_fit (decode s) e ≡ true
  unfolding all_items_fit
  items_of e l = all-holds _ (expr_count s) e (all-parts s (sized s size_of) ∙ rw (k.items_stand_lem, k.items-smaller, k.items_inherit_lem)) l

  kept-accepted : Accepted s
  kept-accepted =
      record {
        sized = sized s size_of;
        entry = entry_of_lem;
        texts = text_of;
        names = name_of;
        exprs = λ e l. expr-own s k.exprs_fit_lem e l;
        runs = λ e l. expr-run s k.exprs_fit_lem e l;
        starts = λ e l. expr-starts s k.exprs_fit_lem e l;
        whole = items-whole s k.exprs_fit_lem;
        items = items_of;
      }

pub accepted : (s : List ℕ) → image_refusal s ≡ 0 → Accepted s
accepted s h = kept-accepted s (keeps s h)

-- a number that may be missing is below its bound or none; one that has to be there is below it
fits_cases : (p : Presence) (bound x : ℕ) → fits p bound x ≡ true → (x < bound) ⊎ (x ≡ 16383)
unfolding fits is_none
fits_cases has bound x h = inl (ltb-true x bound h)
fits_cases may bound x h = go (eqb x 16383) refl h
  where
    go : (b : Bool) → eqb x 16383 ≡ b → (b || ltb x bound) ≡ true → (x < bound) ⊎ (x ≡ 16383)
    go true e q = inr (eqb-true x 16383 e)
    go false e q = inl (ltb-true x bound q)
fits_cases has_not bound x h = inr (eqb-true x 16383 h)

fits-has : (p : Presence) (bound x : ℕ) → fits p bound x ≡ true → p ≡ has → x < bound
unfolding fits
fits-has p bound x h e = ltb-true x bound (subst (λ q. fits q bound x ≡ true) e h)

-- the kind of an expression of an accepted image
pub expr-known : (s : List ℕ) → Accepted s → (e : ℕ) → e < expr_count s → kind_of s e ≤ 16
unfolding expr_fits
expr-known s a e l = leb-true _ _ (and_left _ _ (and_left _ _ (a.exprs e l)))

-- an item of an accepted image
module _ (s : List ℕ) (a : Accepted s) (e : ℕ) (l : e < expr_count s) where
  -- "Item order" of its owner
  pub items_follow : follows (order (expr_at (decode s) e).kind) (map (λ i. i.role) (expr_at (decode s) e).items) ≡ true
  unfolding items_fit
  items_follow = and_right (every (item_fits (decode s) e) (expr_at (decode s) e).items) _ (a.items e l)

  module _ (k : ℕ) (m : k < count_of s e) where
    abbrev it : Item
    it = item_at (decode s) e k

    it_fits : item_fits (decode s) e it ≡ true
    unfolding item_at items_fit
    it_fits = every_holds (item_fits (decode s) e) _ k no_item (and_left _ _ (a.items e l)) (rw (tree-items s e l) m)

    it_lower : fits (expr_presence it.role) e it.expression ≡ true
    unfolding item_fits lower
    it_lower = and_right (leb it.role 10 && fits (name_presence it.role) (length (decode s).names) it.name) _ (and_left _ _ it_fits)

    it_named : fits (name_presence it.role) (name_count s) it.name ≡ true
    unfolding item_fits
    it_named = rw (← tree-names s) (and_right (leb it.role 10) _ (and_left _ (lower e it) (and_left _ _ it_fits)))

    -- an item's expression is below its owner, or it has none
    pub item-below : ((item_at (decode s) e k).expression < e) ⊎ ((item_at (decode s) e k).expression ≡ 16383)
    item-below = fits_cases _ e _ it_lower

    -- in a role that has an expression it is there
    pub item-below-owner : expr_presence (item_at (decode s) e k).role ≡ has → (item_at (decode s) e k).expression < e
    item-below-owner h = fits-has _ e _ it_lower h

    -- the same of its name
    pub item-named : ((item_at (decode s) e k).name < name_count s) ⊎ ((item_at (decode s) e k).name ≡ 16383)
    item-named = fits_cases _ (name_count s) _ it_named

    pub item-has-name : name_presence (item_at (decode s) e k).role ≡ has → (item_at (decode s) e k).name < name_count s
    item-has-name h = fits-has _ (name_count s) _ it_named h

    -- "Role 5 names a Reference."
    pub item-inherits : (item_at (decode s) e k).role ≡ 5 → (expr_at (decode s) (item_at (decode s) e k).expression).kind ≡ 10
    unfolding item_fits inherits
    item-inherits h =
        eqb-true _ _
        (subst (λ b. cond b (eqb (expr_at (decode s) it.expression).kind 10) true ≡ true) (eq-eqb it.role 5 h)
        (and_right (leb it.role 10 && fits (name_presence it.role) (length (decode s).names) it.name && lower e it) _ it_fits))

-- an order taken apart from the front: nothing more may come; one item of a role comes first
pub follows-none : (rs : List ℕ) → follows [] rs ≡ true → rs ≡ []
unfolding follows next
follows-none [] h = refl
follows-none (r ∷ rs) h = absurd (let z : ◌≡◌ {A = ℕ} 0 1 = cc in omega arith)

pub follows-one : {C : Type 0} (x : ℕ) (ps : List Part) (rs : List ℕ) → follows (one x ∷ ps) rs ≡ true → ((qs : List ℕ) → rs ≡ x ∷ qs → follows ps qs ≡ true → C) → C
unfolding follows next complete only
follows-one x ps [] h k = absurd (let z : ◌≡◌ {A = ℕ} 0 1 = cc in omega arith)
follows-one {C} x ps (r ∷ rs) h k = go (eqb r x) refl h
  where
    go : (b : Bool) → eqb r x ≡ b → (elim (only b ps) as (λ _. Bool) [ None ↦ false | Some qs ↦ follows qs rs ]) ≡ true → C
    go true e g = k rs (ap (λ z. z ∷ rs) (eqb-true r x e)) g
    go false e g = absurd (let z : ◌≡◌ {A = ℕ} 0 1 = cc in omega arith)

-- a refusal of an image is 1 to 6, 10 or 11: it is not that of a number, a table, a budget or a buffer
own : ℕ → Bool
own n = leb n 6 || leb 10 n

own_cases : (n : ℕ) → own n ≡ true → (n ≤ 6) ⊎ (10 ≤ n)
unfolding own
own_cases n h = go (leb n 6) refl h
  where
    go : (b : Bool) → leb n 6 ≡ b → (b || leb 10 n) ≡ true → (n ≤ 6) ⊎ (10 ≤ n)
    go true e q = inl (leb-true n 6 e)
    go false e q = inr (leb-true 10 n q)

pub refusal_few : (s : List ℕ) → (image_refusal s ≤ 6) ⊎ (10 ≤ image_refusal s)
unfolding image_refusal image_rules own
refusal_few s =
    own_cases (image_refusal s) (broken_has (λ n. own n ≡ true) refl (image_rules s) (refl, (refl, (refl, (refl, (refl, (refl, (refl, (refl, tt)))))))))
