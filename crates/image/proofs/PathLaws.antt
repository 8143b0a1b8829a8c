-- The items of a Select and of a HasAttr of an accepted image: the set, the keys, and of a Select perhaps a default.
use Rattle.std.specs.Prelude.{Some, None}
use mathlib.Core.Path.{◌≡◌, refl, ap, sym, subst, ◌∙◌}
use mathlib.Core.Bool.{Bool, true, false, cond, ◌||◌}
use mathlib.Core.Logic.{◌⊎◌, ⊎_elim}
use mathlib.Core.List.{List, [], ◌∷◌, ◌++◌, map}
use Prim.Native.Nat.{ℕ, ◌<◌}
use native.Mathlib.Omega.{arith}
use lib.Dec.{eqb}
use lib.ListN.{length, get_or}
use borrow.Author.Tests.{eq-eqb, ne_eqb, eqb-true}
use Rattle.semantics.specs.Base.{pick, keep, listed, only, or_else, last, empty, All}
use Rattle.semantics.specs.Tree.{Item, expr_at, with_role, path, plain}
use Rattle.semantics.proofs.BaseLaws.{true≢false}
use Rattle.image_fields.specs.Image.{expr_count, decode}
use Rattle.image_rules.specs.Rules.{Part, one, perhaps, any, order, among, next, follows}
use Rattle.image.specs.Inside.Accepted.{Accepted}
use Rattle.image.proofs.AcceptedLaws.{items_follow, follows-none, follows-one}

-- a key of a path
abbrev pub Key : Item → Type 0
Key i = i.role ≡ 1

roles_of : List Item → List ℕ
roles_of is = map (λ i. i.role) is

no-roles : (is : List Item) → roles_of is ≡ [] → is ≡ []
unfolding roles_of
no-roles [] h = refl
no-roles (i ∷ is) h = absurd (let z : ◌≡◌ {A = ℕ} 0 1 = cc in omega arith)

-- what follows the set: keys alone, or keys and a default
pub data Keys : List Item → Type 0 where
  keys : (is : List Item) → All Key is → Keys is
  keys_default : (is : List Item) (d : Item) → d.role ≡ 2 → Keys (is ++ d ∷ [])

keys-more : (i : Item) → Key i → (is : List Item) → Keys is → Keys (i ∷ is)
keys-more i h _ (keys is k) = keys (i ∷ is) (h, k)
keys-more i h _ (keys_default is d r) = keys_default (i ∷ is) d r

any-keys : (is : List Item) → follows (any (1 ∷ []) ∷ perhaps 2 ∷ []) (roles_of is) ≡ true → Keys is
unfolding roles_of follows next among
any-keys [] h = keys [] tt
any-keys (i ∷ is) h = go (eqb i.role 1) refl (eqb i.role 2) refl h (any-keys is)
  where
    go : (b : Bool) → eqb i.role 1 ≡ b → (d : Bool) → eqb i.role 2 ≡ d
        → ◌≡◌ {A = Bool} (elim (cond (b || false) (Some (any (1 ∷ []) ∷ perhaps 2 ∷ [])) (cond d (Some []) None)) as (λ _. Bool) [ None ↦ false | Some qs ↦ follows qs (roles_of is) ]) true
        → (follows (any (1 ∷ []) ∷ perhaps 2 ∷ []) (roles_of is) ≡ true → Keys is) → Keys (i ∷ is)
    go true e d f g k = keys-more i (eqb-true i.role 1 e) is (k g)
    go false e true f g k = subst (λ js. Keys (i ∷ js)) (sym (no-roles is (follows-none (roles_of is) g))) (keys_default [] i (eqb-true i.role 2 f))
    go false e false f g k = absurd (true≢false g refl)

only-keys : (is : List Item) → follows (any (1 ∷ []) ∷ []) (roles_of is) ≡ true → All Key is
unfolding roles_of follows next among
only-keys [] h = tt
only-keys (i ∷ is) h = go (eqb i.role 1) refl h (only-keys is)
  where
    go : (b : Bool) → eqb i.role 1 ≡ b
        → ◌≡◌ {A = Bool} (elim (cond (b || false) (Some (any (1 ∷ []) ∷ [])) None) as (λ _. Bool) [ None ↦ false | Some qs ↦ follows qs (roles_of is) ]) true
        → (follows (any (1 ∷ []) ∷ []) (roles_of is) ≡ true → All Key is) → All Key (i ∷ is)
    go true e g k = (eqb-true i.role 1 e, k g)
    go false e g k = absurd (true≢false g refl)

-- the items in a role
kept : ℕ → List Item → List Item
kept r is = keep (λ i. eqb i.role r) is

kept_in : (r : ℕ) (i : Item) (is : List Item) → i.role ≡ r → kept r (i ∷ is) ≡ i ∷ kept r is
unfolding kept keep listed only
kept_in r i is h = rw (eq-eqb i.role r h)

kept_out : (r : ℕ) (i : Item) (is : List Item) → (i.role ≡ r → ⊥) → kept r (i ∷ is) ≡ kept r is
unfolding kept keep listed only
kept_out r i is h = rw (ne_eqb i.role r h)

keys_kept : (is : List Item) → All Key is → kept 1 is ≡ is
unfolding kept keep
keys_kept [] h = refl
keys_kept (i ∷ is) h = kept_in 1 i is h.0 ∙ ap (λ l. i ∷ l) (keys_kept is h.1)

keys-plain : (is : List Item) → All Key is → kept 2 is ≡ []
unfolding kept keep
keys-plain [] h = refl
keys-plain (i ∷ is) h = kept_out 2 i is (λ e. absurd (omega (arith, h.0))) ∙ keys-plain is h.1

default_kept : (is : List Item) (d : Item) → d.role ≡ 2 → empty (kept 2 (is ++ d ∷ [])) ≡ false
unfolding kept keep listed only empty
default_kept [] d h = rw (eq-eqb d.role 2 h)
default_kept (i ∷ is) d h = go (eqb i.role 2) (default_kept is d h)
  where
    go : (b : Bool) → empty (kept 2 (is ++ d ∷ [])) ≡ false → empty (listed (only b i) ++ kept 2 (is ++ d ∷ [])) ≡ false
    go true g = refl
    go false g = g

-- the last element of a list that has one
pub last_of : {A B : Type 0} (f : A → B) (d a : A) (l : List A) → last (map f (a ∷ l)) ≡ Some (f (get_or (a ∷ l) (length l) d))
unfolding last or_else
last_of f d a [] = refl
last_of f d a (b ∷ l) = rw (last_of f d b l)

pub last-behind : {A : Type 0} (d a : A) (l : List A) → get_or (l ++ a ∷ []) (length l) d ≡ a
last-behind d a [] = refl
last-behind d a (b ∷ l) = last-behind d a l

module _ (s : List ℕ) (a : Accepted s) (e : ℕ) (l : e < expr_count s) where
  kind-follows : (kind : ℕ) → (expr_at (decode s) e).kind ≡ kind → follows (order kind) (roles_of (expr_at (decode s) e).items) ≡ true
  unfolding roles_of
  kind-follows kind h = rw h at (items_follow s a e l)

  -- the set and what follows it
  cut : {C : Type 0} (ps : List Part) → follows (one 0 ∷ ps) (roles_of (expr_at (decode s) e).items) ≡ true
      → ((i : Item) (is : List Item) → (expr_at (decode s) e).items ≡ i ∷ is → i.role ≡ 0 → follows ps (roles_of is) ≡ true → C) → C
  unfolding roles_of
  cut {C} ps h k = follows-one 0 ps _ h λ qs q g. go (expr_at (decode s) e).items refl qs q g
    where
      go : (is : List Item) → (expr_at (decode s) e).items ≡ is → (qs : List ℕ) → map (λ i. i.role) is ≡ 0 ∷ qs → follows ps qs ≡ true → C
      go [] r qs q g = absurd (let z : ◌≡◌ {A = ℕ} 0 1 = cc in omega arith)
      go (i ∷ is) r qs q g = let w : i.role ≡ 0 = cc in let v : map (λ j. j.role) is ≡ qs = cc in k i is r w (rw v g)

  -- of keys alone
  path_of : (i : Item) (is : List Item) → (expr_at (decode s) e).items ≡ i ∷ is → i.role ≡ 0 → All Key is → path (decode s) e ≡ map (λ j. j.expression) is
  unfolding path with_role kept
  path_of i is q r k = rw q (ap (map (λ j. j.expression)) (kept_out 1 i is (λ h. absurd (omega arith)) ∙ keys_kept is k))

  plain_of : (i : Item) (is : List Item) → (expr_at (decode s) e).items ≡ i ∷ is → i.role ≡ 0 → All Key is → plain (decode s) e ≡ true
  unfolding plain with_role kept empty
  plain_of i is q r k = rw q (ap empty (kept_out 2 i is (λ h. absurd (omega arith)) ∙ keys-plain is k))

  default_of : (i : Item) (is : List Item) (d : Item) → (expr_at (decode s) e).items ≡ i ∷ (is ++ d ∷ []) → i.role ≡ 0 → d.role ≡ 2 → plain (decode s) e ≡ false
  unfolding plain with_role kept
  default_of i is d q r h = rw q (ap empty (kept_out 2 i (is ++ d ∷ []) (λ z. absurd (omega arith))) ∙ default_kept is d h)

  -- a Select or a HasAttr has keys alone, or a default behind them
  pub path_cases : {C : Type 0} → ((expr_at (decode s) e).kind ≡ 11) ⊎ ((expr_at (decode s) e).kind ≡ 12)
      → ((i : Item) (is : List Item) → (expr_at (decode s) e).items ≡ i ∷ is → i.role ≡ 0 → All Key is → path (decode s) e ≡ map (λ j. j.expression) is → plain (decode s) e ≡ true → C)
      → ((i : Item) (is : List Item) (d : Item) → (expr_at (decode s) e).items ≡ i ∷ (is ++ d ∷ []) → i.role ≡ 0 → d.role ≡ 2 → plain (decode s) e ≡ false → C) → C
  unfolding order pick
  path_cases {C} h k m = ⊎_elim selects asks h
    where
      each : (i : Item) (is : List Item) → (expr_at (decode s) e).items ≡ i ∷ is → i.role ≡ 0 → Keys is → C
      each i _ q r (keys is g) = k i is q r g (path_of i is q r g) (plain_of i is q r g)
      each i _ q r (keys_default is d g) = m i is d q r g (default_of i is d q r g)

      selects : (expr_at (decode s) e).kind ≡ 11 → C
      selects g = cut (any (1 ∷ []) ∷ perhaps 2 ∷ []) (kind-follows 11 g) λ i is q r f. each i is q r (any-keys is f)

      asks : (expr_at (decode s) e).kind ≡ 12 → C
      asks g = cut (any (1 ∷ []) ∷ []) (kind-follows 12 g) λ i is q r f. each i is q r (keys is (only-keys is f))

  -- a HasAttr has no default
  pub asks_plain : (expr_at (decode s) e).kind ≡ 12 → plain (decode s) e ≡ true
  unfolding order pick
  asks_plain g = cut (any (1 ∷ []) ∷ []) (kind-follows 12 g) λ i is q r f. plain_of i is q r (only-keys is f)
