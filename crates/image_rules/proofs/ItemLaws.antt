-- The tests of an item and of an expression's items, in the terms of the code of rules.rt.
use Rattle.std.specs.Prelude.{Option, Some, None}
use mathlib.Core.Path.{◌≡◌, refl, ap, sym, ◌∙◌}
use mathlib.Core.Bool.{Bool, true, false, ◌&&◌}
use mathlib.Core.List.{List, [], ◌∷◌, map}
use Prim.Native.Nat.{ℕ, ◌+◌, ◌*◌, ◌/◌, ◌%◌, ◌^◌, ◌≤◌, ◌<◌}
use native.Mathlib.Numerals.{add-one}
use native.Mathlib.Omega.{arith}
use lib.Dec.{eqb, ltb}
use lib.ListN.{length, get_or, drop, drop_of_length-le}
use lib.Seq.{drop-cons}
use borrow.Author.Tests.{eq-eqb, ne_eqb, le-leb, lt-leb, eqb-true, ltb-true, leb-true}
use Rattle.semantics.specs.Base.{pick, every, all}
use Rattle.semantics.specs.Tree.{Tree, Item, no_item, is_none, expr_at, item_at}
use Rattle.semantics.proofs.BaseLaws.{and-false, and_left, and_right}
use Rattle.image_fields.specs.Image.{expr_count, kind_of, first_of, count_of, item_place, decode}
use Rattle.image_rules.specs.Rules.{Presence, has, has_not, Part, fits, name_presence, expr_presence, inherits, order, next, follows}
use Rattle.image_rules.specs.Inside.Whole.{lower, item_fits, ordered, items_fit}
use Rattle.image_fields.specs.Inside.Words.{word_of}
use Rattle.image_rules.specs.Inside.Machine.{presence_of, item_of_word, state_of, started, advance, finished, named_below}
use Rattle.image_fields.specs.Inside.Asked.{InField, Sized, Runs}
use Rattle.image_rules.specs.declared.items.Items.{Items}
use Rattle.image_fields.proofs.FieldLaws.{Bytes, taken}
use Rattle.image_fields.proofs.ImageLaws.{tree-item, tree-items, tree-kind}
use Rattle.image_rules.proofs.RuleLaws.{marks_fit, mark_at_lem, Plain}

-- a field of an expression lies in the image
pub expr-field : {s : List ℕ} {e : ℕ} (offset width : ℕ) → Sized s → e < expr_count s → offset + width ≤ 64 → width ≤ 20 → InField s (12 + 8 * e) offset width
expr-field offset width z h f w = record { inside = omega arith; narrow = w }

-- what `fits` says of a role's mark is what it says of the role's presence
pub tested : (f : ℕ → Presence) (marks role n : ℕ) → all (marks_fit f marks) 11 ≡ true → role ≤ 10 → {r : Bool} {x b b' : ℕ} → r ≡ fits (presence_of x) b n → x ≡ marks / 2 ^ (2 * role) % 2 ^ 2 → b ≡ b'
    → r ≡ fits (f role) b' n
tested f marks role n h small g e q = rw (g, mark_at_lem f marks h role small e, q)

-- an Inherit's expression has a smaller number than its owner
pub below-owner : {role owner x : ℕ} → true ≡ fits (expr_presence role) owner x → role ≡ 5 → x < owner
unfolding fits expr_presence pick
below-owner {role} {owner} {x} h e = ltb-true x owner (sym (rw e at h))

module _ (t : Tree) (owner : ℕ) (i : Item) where
  pub no-role : 10 < i.role → false ≡ item_fits t owner i
  unfolding item_fits
  no-role h = rw (lt-leb i.role 10 h)

  pub name_breaks : false ≡ fits (name_presence i.role) (length t.names) i.name → false ≡ item_fits t owner i
  unfolding item_fits
  name_breaks h = rw (← h, and-false)

  pub number_breaks : false ≡ fits (expr_presence i.role) owner i.expression → false ≡ item_fits t owner i
  unfolding item_fits lower
  number_breaks h = rw (← h, and-false)

  module _
      (l : i.role ≤ 10)
      (n : true ≡ fits (name_presence i.role) (length t.names) i.name)
      (m : true ≡ fits (expr_presence i.role) owner i.expression) where
    pub no_inherit : (i.role ≡ 5 → ⊥) → true ≡ item_fits t owner i
    unfolding item_fits lower inherits
    no_inherit e = rw (le-leb i.role 10 l, ← n, ← m, ne_eqb i.role 5 e)

    pub inherit : i.role ≡ 5 → {k : ℕ} → k ≡ (expr_at t i.expression).kind → eqb k 10 ≡ item_fits t owner i
    unfolding item_fits lower inherits
    inherit e k = rw (le-leb i.role 10 l, ← n, ← m, eq-eqb i.role 5 e, k)

unnamed_fits : (bound x : ℕ) → (x ≡ 16383 → ⊥) → fits has_not bound x ≡ false
unfolding fits is_none
unnamed_fits bound x h = ne_eqb x 16383 h

pub and-true : (b : Bool) → (b && true) ≡ b
and-true true = refl
and-true false = refl

-- an item in a role without a name and with an expression
module _ (t : Tree) (owner : ℕ) (i : Item) (l : i.role ≤ 10) (p : Plain i.role) where
  pub plain-named : (i.name ≡ 16383 → ⊥) → false ≡ item_fits t owner i
  plain-named h = name_breaks t owner i (sym (ap (λ q. fits q (length t.names) i.name) p.unnamed ∙ unnamed_fits _ _ h))

  pub plain_fits_lem : i.name ≡ 16383 → ltb i.expression owner ≡ item_fits t owner i
  unfolding item_fits lower inherits fits is_none
  plain_fits_lem h = rw (le-leb i.role 10 l, p.unnamed, p.owning, p.other, eq-eqb i.name 16383 h) (sym (and-true _))

four_named : {role : ℕ} → role ≡ 4 → name_presence role ≡ has
unfolding name_presence pick
four_named e = rw e

four_owns : {role : ℕ} → role ≡ 4 → expr_presence role ≡ has
unfolding expr_presence pick
four_owns e = rw e

-- an item in role 4 with a name
pub static_fits : (t : Tree) (owner : ℕ) (i : Item) → named_below 4 (length t.names) i ≡ true → ltb i.expression owner ≡ item_fits t owner i
unfolding item_fits lower inherits fits named_below
static_fits t owner i h =
    let e = eqb-true i.role 4 (and_left _ _ h) in
    let n = and_right (eqb i.role 4) (ltb i.name (length t.names)) h in
    rw (le-leb i.role 10 (omega arith), four_named e, four_owns e, ne_eqb i.role 5 (λ f. absurd (omega arith)), n) (sym (and-true _))

-- an item that fits has one of the eleven roles
pub fits-role : (t : Tree) (owner : ℕ) (i : Item) → true ≡ item_fits t owner i → i.role ≤ 10
unfolding item_fits
fits-role t owner i h = leb-true _ _ (and_left _ _ (and_left _ _ (and_left _ _ (sym h))))

-- The loop over an expression's items. What is left of the order, from a state on:
unfoldable pub follows_from : Option (List Part) → List ℕ → Bool
follows_from None rs = false
follows_from (Some ps) rs = follows ps rs

pub follows_step : (o : Option (List Part)) (r : ℕ) (rs : List ℕ) → follows_from o (r ∷ rs) ≡ follows_from (advance o r) rs
unfolding follows_from advance follows
follows_step None r rs = refl
follows_step (Some ps) r rs = go (next ps r)
  where
    go : (o : Option (List Part)) → (elim o as (λ _. Bool) [ None ↦ false | Some qs ↦ follows qs rs ]) ≡ follows_from o rs
    go None = refl
    go (Some qs) = refl

pub follows_end : (o : Option (List Part)) → follows_from o [] ≡ finished o
unfolding follows_from finished follows
follows_end None = refl
follows_end (Some ps) = refl

abbrev pub roles : List Item → List ℕ
roles l = map (λ i. i.role) l

-- k items are done, each passes a test, and `state` is what may still come: what is left gives what is asked in all
pub record Ordered (p : Item → Bool) (t : Tree) (e count state k : ℕ) : Type 0 where
  pub inside : k ≤ count
  pub number : length (expr_at t e).items ≡ count
  pub passed : every p (drop k (expr_at t e).items) ≡ every p (expr_at t e).items
  pub in_order : follows_from (state_of state) (roles (drop k (expr_at t e).items)) ≡ follows (order (expr_at t e).kind) (roles (expr_at t e).items)
  pub known : state < 20

pub ordered-start : {p : Item → Bool} {t : Tree} {e count state : ℕ} → length (expr_at t e).items ≡ count → state_of state ≡ started (expr_at t e).kind → state < 20 → Ordered p t e count state 0
unfolding started follows_from
ordered-start {p} {t} {e} n h small = record { inside = omega arith; number = n; passed = refl; in_order = rw h; known = small }

module _ {p : Item → Bool} {t : Tree} {e count state k : ℕ} (g : Ordered p t e count state k) (h : k < count) where
  abbrev pub here : Item
  here = item_at t e k

  here_next : drop k (expr_at t e).items ≡ here ∷ drop (k + 1) (expr_at t e).items
  unfolding item_at
  here_next = rw add-one (drop-cons (expr_at t e).items k no_item (omega (arith, g.number)))

  pub ordered_more : {state' role : ℕ} → p here ≡ true → state_of state' ≡ advance (state_of state) role → role ≡ here.role → state' < 20 → Ordered p t e count state' (k + 1)
  unfolding every
  ordered_more f s r small =
      record {
        inside = omega arith;
        number = g.number;
        passed = rw (here_next, f) at g.passed;
        in_order = rw (s, r, ← follows_step) (rw here_next at g.in_order);
        known = small;
      }

  pub ordered-fails : p here ≡ false → false ≡ ordered p t e
  unfolding ordered every
  ordered-fails f = rw (← rw (here_next, f) at g.passed)

  -- an item of a role that may not come
  pub ordered-breaks : advance (state_of state) here.role ≡ None → false ≡ ordered p t e
  unfolding ordered follows_from
  ordered-breaks s =
      let q : false ≡ follows (order (expr_at t e).kind) (roles (expr_at t e).items) =
      sym (follows_step (state_of state) here.role _ ∙ ap (λ o. follows_from o (roles (drop (k + 1) (expr_at t e).items))) s) ∙ rw here_next at g.in_order in
      rw (← q, and-false)

pub ordered-done : {p : Item → Bool} {t : Tree} {e count state k : ℕ} {b : Bool} → Ordered p t e count state k → count ≤ k → b ≡ finished (state_of state) → b ≡ ordered p t e
unfolding ordered every
ordered-done {p} {t} {e} {count} {state} {k} {b} g h f =
    let n : drop k (expr_at t e).items ≡ [] = drop_of_length-le (expr_at t e).items {i = k} (omega (arith, g.number)) in
    let r : true ≡ every p (expr_at t e).items = rw n at g.passed in
    let q : follows_from (state_of state) [] ≡ follows (order (expr_at t e).kind) (roles (expr_at t e).items) = rw n at g.in_order in
    rw (f, ← follows_end, q, ← r)

-- the same where the test is the rule of an item
abbrev pub Following : Tree → ℕ → ℕ → ℕ → ℕ → Type 0
Following t e count state k = Ordered (item_fits t e) t e count state k

pub all-ordered : (t : Tree) (e : ℕ) → ordered (item_fits t e) t e ≡ items_fit t e
unfolding ordered items_fit
all-ordered t e = refl

pub following_start : {t : Tree} {e count state : ℕ} → length (expr_at t e).items ≡ count → state_of state ≡ started (expr_at t e).kind → state < 20 → Following t e count state 0
following_start n h small = ordered-start n h small

module _ {t : Tree} {e count state k : ℕ} (g : Following t e count state k) (h : k < count) where
  pub following_more : {state' role : ℕ} → true ≡ item_fits t e (item_at t e k) → state_of state' ≡ advance (state_of state) role → role ≡ (item_at t e k).role → state' < 20 → Following t e count state' (k + 1)
  following_more f s r small = ordered_more g h (sym f) s r small

  pub following_fails : false ≡ item_fits t e (item_at t e k) → false ≡ items_fit t e
  following_fails f = ordered-fails g h (sym f) ∙ all-ordered t e

  pub following_breaks : advance (state_of state) (item_at t e k).role ≡ None → false ≡ items_fit t e
  following_breaks s = ordered-breaks g h s ∙ all-ordered t e

pub following_done : {t : Tree} {e count state k : ℕ} {b : Bool} → Following t e count state k → count ≤ k → b ≡ finished (state_of state) → b ≡ items_fit t e
following_done g h f = ordered-done g h f ∙ all-ordered _ _

-- four bytes that the code has loaded are the owner's item k
pub item_here_lem : {s : List ℕ} {e k w at : ℕ} → Bytes s → Runs s e → k < count_of s e → w ≡ word_of s at 4 → at ≡ item_place s (first_of s e) + 4 * k
    → get_or (expr_at (decode s) e).items k no_item ≡ item_of_word w
unfolding item_at
item_here_lem {s} {e} {k} {w} {at} bytes g h a p =
    let q : at ≡ item_place s (first_of s e + k) = omega arith in
    let r = taken s bytes at 4 0 4 28 (omega arith) {r = (item_of_word w).role} a refl in
    let n = taken s bytes at 4 4 14 14 (omega arith) {r = (item_of_word w).name} a refl in
    let x = taken s bytes at 4 18 14 0 (omega arith) {r = (item_of_word w).expression} a refl in
    rw (r, n, x, q) (tree-item s e k g.inside h)

-- the items that the code holds are those of their owner
module _ (i : Items) where
  pub items-number : length (expr_at (decode i.image.now) i.owner).items ≡ i.count
  items-number = tree-items _ _ i.runs.inside ∙ sym i.counted

  pub items-kind : {kind : ℕ} → kind ≡ kind_of i.image.now i.owner → kind ≡ (expr_at (decode i.image.now) i.owner).kind
  items-kind q = q ∙ sym (tree-kind _ _ i.runs.inside)

-- what a test of four bytes says of the item that they write
pub said : (p : Item → Bool) (w : ℕ) {i : Item} {b b' : Bool} → item_of_word w ≡ i → b ≡ p (item_of_word w) → b ≡ b' → p i ≡ b'
said p w e f g = ap p (sym e) ∙ sym f ∙ g
