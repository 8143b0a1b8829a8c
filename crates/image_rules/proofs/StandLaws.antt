-- Rule 6 of an item and of an expression's items on its own, in the terms of the code of parts.rt.
use mathlib.Core.Path.{◌≡◌, refl, sym}
use mathlib.Core.Bool.{Bool, true, false}
use Prim.Native.Nat.{ℕ, ◌≤◌, ◌<◌}
use lib.ListN.{length}
use borrow.Author.Tests.{le-leb, lt-leb, leb-true}
use Rattle.semantics.specs.Base.{pick, every}
use Rattle.semantics.specs.Tree.{Tree, Item, expr_at}
use Rattle.semantics.proofs.BaseLaws.{and-false, and_left}
use Rattle.image_rules.specs.Rules.{fits, name_presence, expr_presence, item_stands, smaller, items_stand, items_smaller}
use Rattle.image_rules.specs.Inside.Machine.{presence_of}
use Rattle.image_rules.specs.Inside.Whole.{ordered}

-- `item_stands`: one law for each way out
module _ (names : ℕ) (i : Item) where
  pub role_unknown : 10 < i.role → false ≡ item_stands names i
  unfolding item_stands
  role_unknown h = rw (lt-leb i.role 10 h)

  pub name_unfit : false ≡ fits (name_presence i.role) names i.name → false ≡ item_stands names i
  unfolding item_stands
  name_unfit h = rw (← h, and-false)

  pub number_there : i.role ≤ 10 → true ≡ fits (name_presence i.role) names i.name → {b : Bool} → b ≡ fits (expr_presence i.role) 16383 i.expression → b ≡ item_stands names i
  unfolding item_stands
  number_there l n h = rw (le-leb i.role 10 l, ← n, h)

  pub stands-role : true ≡ item_stands names i → i.role ≤ 10
  unfolding item_stands
  stands-role h = leb-true _ _ (and_left _ _ (and_left _ _ (sym h)))

pub all-stand : (t : Tree) (e : ℕ) → ordered (item_stands (length t.names)) t e ≡ items_stand t e
unfolding ordered items_stand
all-stand t e = refl

-- `items_smaller`: what `fits` says of an expression that may be missing is rule 10
pub smaller-is : (owner : ℕ) (i : Item) {r : Bool} {x : ℕ} → x ≡ i.expression → r ≡ fits (presence_of 1) owner x → r ≡ smaller owner i
unfolding smaller presence_of pick
smaller-is owner i e h = rw (← e) h

pub all-smaller : (t : Tree) (e : ℕ) → every (smaller e) (expr_at t e).items ≡ items_smaller t e
unfolding items_smaller
all-smaller t e = refl
