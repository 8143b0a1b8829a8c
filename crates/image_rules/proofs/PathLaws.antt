-- The items of a Select, kind 11, or a HasAttr, kind 12, by the states of order.rt: before the set 11 or 12, then 18 or 19.
use Rattle.std.specs.Prelude.{None}
use mathlib.Core.Path.{◌≡◌, refl, ap, sym, ◌∙◌}
use mathlib.Core.Bool.{Bool, true, false}
use Prim.Native.Nat.{ℕ, ◌+◌, ◌≤◌, ◌<◌}
use native.Mathlib.Omega.{arith}
use native.Mathlib.Decide.{ℕ_discrete}
use lib.Dec.{eqb}
use lib.ListN.{length}
use borrow.Author.Tests.{eqb-true}
use Rattle.semantics.specs.Tree.{Tree, expr_at}
use Rattle.semantics.proofs.BaseLaws.{and_left}
use Rattle.image_rules.specs.Inside.Whole.{items_fit}
use Rattle.image_rules.specs.Inside.Machine.{state_of, started, advance, finished, plain_below}
use Rattle.image_rules.proofs.OrderLaws.{computed}
use Rattle.image_rules.proofs.ItemLaws.{Following, here, following_start, following_more, following_fails, following_breaks, following_done}
use Rattle.image_rules.proofs.ChildLaws.{role-plain}

-- what holds of both kinds: only the set may come first, then keys may, and nothing has to
pub record Path (kind : ℕ) : Type 0 where
  low : 11 ≤ kind
  high : kind ≤ 12
  starts : state_of kind ≡ started kind
  unset : false ≡ finished (state_of kind)
  other : (r : ℕ) → eqb r 0 ≡ false → advance (state_of kind) r ≡ None
  set : state_of (kind + 7) ≡ advance (state_of kind) 0
  key : state_of (kind + 7) ≡ advance (state_of (kind + 7)) 1
  ends : true ≡ finished (state_of (kind + 7))

pub path : (kind : ℕ) → 11 ≤ kind → kind ≤ 12 → Path kind
unfolding computed
path kind l h = elim (ℕ_discrete kind 11) [
  | yes e ↦ rw e (record { low = omega arith; high = omega arith; starts = refl; unset = refl; other = λ r q. rw q; set = refl; key = refl; ends = refl })
  | no n ↦
      let e : kind ≡ 12 = omega (arith, n) in
      rw e (record { low = omega arith; high = omega arith; starts = refl; unset = refl; other = λ r q. rw q; set = refl; key = refl; ends = refl })
]

-- what comes after the keys of a Select, and of a HasAttr
select-next : (r : ℕ) → eqb r 1 ≡ false → eqb r 2 ≡ false → advance (state_of 18) r ≡ None
unfolding computed
select-next r p q = rw (p, q)

attr-next : (r : ℕ) → eqb r 1 ≡ false → advance (state_of 19) r ≡ None
unfolding computed
attr-next r p = rw p

pub default_last : (state_of 13 ≡ advance (state_of 18) 2) × ((r : ℕ) → advance (state_of 13) r ≡ None) × (true ≡ finished (state_of 13))
unfolding computed
default_last = (refl, (λ r. refl), refl)

-- the next item is the one of a role that is tested for, or it does not fit, or it is of another role
module _ {t : Tree} {e count state k : ℕ} (g : Following t e count state k) (h : k < count) where
  pub plain_more : {state' : ℕ} (role : ℕ) → role ≤ 2 → plain_below role e (here g h) ≡ true → state_of state' ≡ advance (state_of state) role → state' < 20 → Following t e count state' (k + 1)
  unfolding plain_below
  plain_more role l p s small =
      let r : (here g h).role ≡ role = eqb-true _ _ (and_left _ _ (and_left _ _ p)) in
      following_more g h (sym (role-plain t e (here g h) l r ∙ p)) s (sym r) small

  pub plain-fails : (role : ℕ) → role ≤ 2 → plain_below role e (here g h) ≡ false → (eqb (here g h).role role ≡ false → false ≡ items_fit t e) → false ≡ items_fit t e
  plain-fails role l p other = go (eqb (here g h).role role) refl
    where
      go : (b : Bool) → eqb (here g h).role role ≡ b → false ≡ items_fit t e
      go true q = following_fails g h (sym (role-plain t e (here g h) l (eqb-true _ _ q) ∙ p))
      go false q = other q

-- `path_fits`
module _ {t : Tree} {e count kind : ℕ} (way : Path kind) where
  pub path-start : kind ≡ (expr_at t e).kind → length (expr_at t e).items ≡ count → Following t e count kind 0
  path-start q n = following_start n (way.starts ∙ ap started q) (omega arith)

  pub path_empty : Following t e count kind 0 → count ≡ 0 → false ≡ items_fit t e
  path_empty g z = following_done g (omega arith) way.unset

  module _ (g : Following t e count kind 0) (h : 0 < count) where
    pub path_unset : plain_below 0 e (here g h) ≡ false → false ≡ items_fit t e
    path_unset p = plain-fails g h 0 (omega arith) p (λ q. following_breaks g h (way.other _ q))

    pub path-set : plain_below 0 e (here g h) ≡ true → Following t e count (kind + 7) 1
    path-set p = plain_more g h 0 (omega arith) p way.set (omega arith)

  pub path-done : {k : ℕ} → Following t e count (kind + 7) k → count ≤ k → true ≡ items_fit t e
  path-done g h = following_done g h way.ends

  module _ {k : ℕ} (g : Following t e count (kind + 7) k) (h : k < count) where
    pub path-key : plain_below 1 e (here g h) ≡ true → Following t e count (kind + 7) (k + 1)
    path-key p = plain_more g h 1 (omega arith) p way.key (omega arith)

    -- no key: of a HasAttr it may not come
    pub attr-ends : (kind ≡ 11 → ⊥) → plain_below 1 e (here g h) ≡ false → false ≡ items_fit t e
    attr-ends n p =
        let z : kind ≡ 12 = omega (arith, n) in
        plain-fails g h 1 (omega arith) p (λ q. following_breaks g h (rw z (attr-next _ q)))

    -- of a Select it may be a default, with nothing behind it
    module _ (z : kind ≡ 11) (p : plain_below 1 e (here g h) ≡ false) where
      no_default : plain_below 2 e (here g h) ≡ false → false ≡ items_fit t e
      no_default d = plain-fails g h 1 (omega arith) p (λ q. plain-fails g h 2 (omega arith) d (λ r. following_breaks g h (rw z (select-next _ q r))))

      default : plain_below 2 e (here g h) ≡ true → Following t e count 13 (k + 1)
      default d = plain_more g h 2 (omega arith) d (rw z default_last.0) (omega arith)

      pub select-more : (k + 1 ≡ count → ⊥) → false ≡ items_fit t e
      select-more n = go (plain_below 2 e (here g h)) refl
        where
          go : (b : Bool) → plain_below 2 e (here g h) ≡ b → false ≡ items_fit t e
          go true d = following_breaks (default d) (omega (arith, n)) (default_last.1 _)
          go false d = no_default d

      pub select-ends : k + 1 ≡ count → plain_below 2 e (here g h) ≡ items_fit t e
      select-ends n = go (plain_below 2 e (here g h)) refl
        where
          go : (b : Bool) → plain_below 2 e (here g h) ≡ b → b ≡ items_fit t e
          go true d = following_done (default d) (omega arith) default_last.2
          go false d = no_default d
