-- The index as a table: entering the items one after the other leaves at each name the last expression that enters it.
use Rattle.std.specs.Prelude.{Option, Some, None}
use mathlib.Core.Path.{◌≡◌, refl, ap, sym, subst, ◌∙◌}
use mathlib.Core.Bool.{Bool, true, false, cond, ◌&&◌, ◌||◌}
use mathlib.Core.Logic.{◌⊎◌, inl, inr}
use mathlib.Core.List.{List, [], ◌∷◌, ◌++◌}
use Prim.Native.Nat.{ℕ, zero, suc, ◌+◌, ◌*◌, ◌≤◌, ◌<◌}
use native.Mathlib.Numerals.{add-one}
use native.Mathlib.Omega.{arith}
use lib.Dec.{eqb}
use lib.ListN.{length, get_or, set, drop, replicate, drop_of_length-le, length-set, length-replicate}
use lib.Seq.{drop-cons, get_or-set_same, get_or-set_other, ext_get_or}
use borrow.Author.Tests.{eqb-true, eqb-false, ne_eqb}
use Rattle.semantics.specs.Base.{pick, final, or_else, only, each, All, ◌>>=◌}
use Rattle.semantics.specs.Tree.{Tree, Item, no_item}
use Rattle.semantics.specs.Index.{enters, index_of}
use Rattle.semantics.specs.Resolution.{Tables}
use Rattle.semantics.specs.Formats.{bytes_of, option_bytes, binding_table}
use Rattle.semantics.proofs.BaseLaws.{All-places}
use Rattle.image_fields.specs.Image.{name_count, item_total, item_of, table, decode}
use Rattle.image_rules.specs.Rules.{Presence, has, name_presence, expr_presence}
use Rattle.image.specs.Inside.Accepted.{Accepted}
use Rattle.image_fields.proofs.TableLaws.{table-length, table_at}
use Rattle.image_fields.proofs.ImageLaws.{tree-names}
use Rattle.image.proofs.WholeLaws.{whole-items, whole-named}
use Rattle.lent.specs.Inside.Stores.{store16, pairs}
use Rattle.lent.proofs.BufferLaws.{store_pairs}
use Rattle.lent.proofs.PairLaws.{entries}
use Rattle.index.specs.Inside.Entering.{entered, entering}

-- the entries as numbers
put : List ℕ → Item → List ℕ
put xs i = cond (enters i) (set xs i.name i.expression) xs

puts : List ℕ → List Item → List ℕ
puts xs [] = xs
puts xs (i ∷ is) = puts (put xs i) is

length_put : (xs : List ℕ) (i : Item) → length (put xs i) ≡ length xs
unfolding put
length_put xs i = go (enters i)
  where
    go : (b : Bool) → length (cond b (set xs i.name i.expression) xs) ≡ length xs
    go true = length-set xs i.name i.expression
    go false = refl

length_puts : (xs : List ℕ) (is : List Item) → length (puts xs is) ≡ length xs
unfolding puts
length_puts xs [] = refl
length_puts xs (i ∷ is) = length_puts (put xs i) is ∙ length_put xs i

-- a name that an item enters is in the table
abbrev pub Named : ℕ → Item → Type 0
Named n i = enters i ≡ true → i.name < n

entered-pairs : (xs r : List ℕ) (i : Item) → Named (length xs) i → entered (pairs xs ++ r) i ≡ pairs (put xs i) ++ r
unfolding entered put
entered-pairs xs r i h = go (enters i) h
  where
    go : (b : Bool) → (b ≡ true → i.name < length xs) → cond b (store16 (pairs xs ++ r) (2 * i.name) i.expression) (pairs xs ++ r) ≡ pairs (cond b (set xs i.name i.expression) xs) ++ r
    go true g = store_pairs xs r i.name i.expression (g refl)
    go false g = refl

entering-pairs : (xs r : List ℕ) (is : List Item) → All (Named (length xs)) is → entering is (pairs xs ++ r) ≡ pairs (puts xs is) ++ r
unfolding entering puts
entering-pairs xs r [] h = refl
entering-pairs xs r (i ∷ is) h =
    rw (entered-pairs xs r i h.0) (entering-pairs (put xs i) r is (rw (length_put xs i) h.1))

-- what was found last, or another number
or_number : Option Item → ℕ → ℕ
or_number None d = d
or_number (Some i) d = i.expression

-- the last item that enters a name is what stands there
puts_final : (xs : List ℕ) (is : List Item) (n : ℕ) → n < length xs → get_or (puts xs is) n 0 ≡ or_number (final (λ i. enters i && eqb i.name n) is) (get_or xs n 0)
unfolding puts final or_number only put or_else
puts_final xs [] n h = refl
puts_final xs (i ∷ is) n h =
    puts_final (put xs i) is n (rw (length_put xs i) h) ∙ go (final (λ j. enters j && eqb j.name n) is)
  where
    here : (b c : Bool) → enters i ≡ b → eqb i.name n ≡ c → get_or (cond b (set xs i.name i.expression) xs) n 0 ≡ or_number (only (b && c) i) (get_or xs n 0)
    here true true e q = rw (← eqb-true i.name n q) (get_or-set_same xs i.name i.expression 0 (rw (eqb-true i.name n q) h))
    here true false e q = get_or-set_other xs i.name n i.expression 0 (λ z. eqb-false i.name n q (sym z))
    here false c e q = refl

    go : (o : Option Item) → or_number o (get_or (put xs i) n 0) ≡ or_number (or_else o (only (enters i && eqb i.name n) i)) (get_or xs n 0)
    go None = here (enters i) (eqb i.name n) refl refl
    go (Some j) = refl

-- the table of the definition, as numbers
unfoldable pub number_of : Option ℕ → ℕ
number_of None = 16383
number_of (Some e) = e

-- an entry of the definition is its two bytes
pub two_bytes : (o : Option ℕ) → option_bytes o ≡ bytes_of 2 (number_of o)
unfolding option_bytes number_of
two_bytes None = refl
two_bytes (Some e) = refl

-- what the last item gives is what the index gives
last-is-index : (o : Option Item) → or_number o 16383 ≡ number_of (o >>= λ i. Some i.expression)
unfolding or_number number_of ◌>>=◌
last-is-index None = refl
last-is-index (Some i) = refl

index_number : (t : Tree) (n : ℕ) → or_number (final (λ i. enters i && eqb i.name n) (each (λ x. x.items) t.exprs)) 16383 ≡ number_of (index_of t n)
unfolding index_of
index_number t n = last-is-index _

get_d_replicate : (n k x : ℕ) → k < n → get_or (replicate n x) k 0 ≡ x
get_d_replicate zero k x h = absurd (omega arith)
get_d_replicate (suc n) zero x h = refl
get_d_replicate (suc n) (suc k) x h = get_d_replicate n k x (omega arith)

-- all items entered into a table of 16383s are the table of the index
pub entered_all : (t : Tree) (tab : Tables) (r : List ℕ) → ((n : ℕ) → tab.index n ≡ index_of t n)
    → All (Named (length t.names)) (each (λ x. x.items) t.exprs)
    → entering (each (λ x. x.items) t.exprs) (pairs (replicate (length t.names) 16383) ++ r) ≡ binding_table t tab ++ r
unfolding binding_table
entered_all t tab r own named =
    entering-pairs start r items (rw (length-replicate {A = ℕ} (length t.names) 16383) named) ∙ ap (λ l. l ++ r) (ap pairs same ∙ sym (entries (λ n. option_bytes (tab.index n)) number (λ n. two_bytes (tab.index n)) t.names))
  where
    items : List Item
    items = each (λ x. x.items) t.exprs

    start : List ℕ
    start = replicate (length t.names) 16383

    number : ℕ → ℕ
    number n = number_of (tab.index n)

    many : length start ≡ length t.names
    many = length-replicate {A = ℕ} (length t.names) 16383

    at : (n : ℕ) → n < length t.names → get_or (puts start items) n 0 ≡ get_or (table number 0 (length t.names)) n 0
    at n h =
        puts_final start items n (rw many h)
        ∙ ap (or_number (final (λ i. enters i && eqb i.name n) items)) (get_d_replicate (length t.names) n 16383 h)
        ∙ index_number t n
        ∙ ap number_of (sym (own n))
        ∙ sym (table_at number (length t.names) n 0 h)

    same : puts start items ≡ table number 0 (length t.names)
    same = ext_get_or 0 _ _ (length_puts start items ∙ many ∙ sym (table-length number 0 (length t.names))) (λ n h. at n (rw (length_puts start items, many) at h))

-- the loop of `enter_all`: what is left from item k on gives what is to be entered in all
pub entering_step : (is : List Item) (k : ℕ) (d : Item) (l : List ℕ) → k < length is → entering (drop k is) l ≡ entering (drop (k + 1) is) (entered l (get_or is k d))
unfolding entering
entering_step is k d l h = rw (add-one, drop-cons is k d h)

pub entering_end : (is : List Item) (k : ℕ) (l : List ℕ) → length is ≤ k → entering (drop k is) l ≡ l
unfolding entering
entering_end is k l h = rw (drop_of_length-le is {i = k} h)

-- `enter`: the item binds a name to an expression, or does not
pub not_entered : (l : List ℕ) (i : Item) {role : ℕ} → role ≡ i.role → (role ≡ 4 → ⊥) → (role ≡ 6 → ⊥) → l ≡ entered l i
unfolding entered enters
not_entered l i e n m = rw (← e, ne_eqb _ 4 n, ne_eqb _ 6 m)

enters_such : (i : Item) {role : ℕ} → role ≡ i.role → (role ≡ 4) ⊎ (role ≡ 6) → enters i ≡ true
unfolding enters
enters_such i e (inl h) = rw (← e, h)
enters_such i e (inr h) = rw (← e, h)

pub is-entered : (l : List ℕ) (i : Item) {role name expression : ℕ} {now : List ℕ} → role ≡ i.role → (role ≡ 4) ⊎ (role ≡ 6) → name ≡ i.name → expression ≡ i.expression
    → now ≡ store16 l (2 * name) expression → now ≡ entered l i
unfolding entered
is-entered l i e h n x s = rw (enters_such i e h, s, n, x)

-- the loop of `enter_all`
pub record Entering (is : List Item) (start now : List ℕ) (k : ℕ) : Type 0 where
  pub inside : k ≤ length is
  pub kept : length now ≡ length start
  pub left : entering (drop k is) now ≡ entering is start

pub entering-start : (is : List Item) (start : List ℕ) → Entering is start start 0
entering-start is start = record { inside = omega arith; kept = refl; left = refl }

pub entering-more : {is : List Item} {start now after : List ℕ} {k : ℕ} {i : Item} → Entering is start now k → k < length is → get_or is k no_item ≡ i
    → after ≡ entered now i → length after ≡ length now → Entering is start after (k + 1)
entering-more {is} {start} {now} {after} {k} {i} g h e a l =
    record {
      inside = omega arith;
      kept = l ∙ g.kept;
      left = rw (a, ← e, ← entering_step is k no_item now h) g.left;
    }

pub entering-done : {is : List Item} {start now : List ℕ} {k : ℕ} → Entering is start now k → length is ≤ k → now ≡ entering is start
entering-done {is} {start} {now} {k} g h = sym (entering_end is k now h) ∙ g.left

entering-roles : (name_presence 4 ≡ has) × (name_presence 6 ≡ has) × (expr_presence 4 ≡ has) × (expr_presence 6 ≡ has)
unfolding name_presence expr_presence pick
entering-roles = (refl, refl, refl, refl)

-- an item that enters a name is in a role that has a name, and an expression
enters_in : (f : ℕ → Presence) → f 4 ≡ has → f 6 ≡ has → (i : Item) → enters i ≡ true → f i.role ≡ has
unfolding enters
enters_in f p q i h = go (eqb i.role 4) (eqb i.role 6) refl refl h
  where
    go : (b c : Bool) → eqb i.role 4 ≡ b → eqb i.role 6 ≡ c → (b || c) ≡ true → f i.role ≡ has
    go true c e g w = rw (eqb-true i.role 4 e) p
    go false true e g w = rw (eqb-true i.role 6 g) q
    go false false e g w = absurd (let z : ◌≡◌ {A = ℕ} 0 1 = cc in omega arith)

enters-has : (i : Item) → enters i ≡ true → name_presence i.role ≡ has
enters-has = enters_in name_presence entering-roles.0 entering-roles.1

pub enters_owns : (i : Item) → enters i ≡ true → expr_presence i.role ≡ has
enters_owns = enters_in expr_presence entering-roles.2 entering-roles.3

-- the items of the table, by their places
module _ (s : List ℕ) (a : Accepted s) where
  pub items-many : length (each (λ x. x.items) (decode s).exprs) ≡ item_total s
  items-many = ap length (whole-items s a) ∙ table-length (item_of s) 0 (item_total s)

  pub item-is : (i : ℕ) → i < item_total s → get_or (each (λ x. x.items) (decode s).exprs) i no_item ≡ item_of s i
  item-is i h = ap (λ l. get_or l i no_item) (whole-items s a) ∙ table_at (item_of s) (item_total s) i no_item h

  -- the names that they enter are in the table
  pub items-named : All (Named (length (decode s).names)) (each (λ x. x.items) (decode s).exprs)
  items-named =
      rw tree-names
      (All-places (Named (name_count s)) (each (λ x. x.items) (decode s).exprs) no_item λ k m.
      let l : k < item_total s = rw items-many at m in
      subst (Named (name_count s)) (sym (item-is k l)) (λ h. whole-named s a k l (enters-has (item_of s k) h)))
