-- Which roles the items of an expression of an accepted image have, by its kind.
use Rattle.std.specs.Prelude.{Option, Some, None}
use mathlib.Core.Path.{◌≡◌, refl, subst}
use mathlib.Core.Bool.{Bool, true, false, cond, ◌&&◌, ◌||◌}
use mathlib.Core.Logic.{◌⊎◌, inl, inr, ⊎_elim}
use mathlib.Core.List.{List, [], ◌∷◌, map}
use Prim.Native.Nat.{ℕ, ◌≤◌, ◌<◌}
use native.Mathlib.Omega.{arith}
use lib.Dec.{eqb, leb}
use lib.ListN.{length, length-map, get_or-map}
use borrow.Author.Tests.{eqb-true, le-leb}
use Rattle.semantics.specs.Base.{every, all}
use Rattle.semantics.specs.Tree.{no_item, expr_at, item_at}
use Rattle.semantics.proofs.BaseLaws.{true≢false, clash, some_inj, and_left, and_right, only-some, all-holds, every_holds}
use Rattle.image_fields.specs.Image.{expr_count, count_of, decode}
use Rattle.image_rules.specs.Rules.{Part, one, perhaps, any, pairs, order, among, next, follows}
use Rattle.image.specs.Inside.Accepted.{Accepted}
use Rattle.image_fields.proofs.ImageLaws.{tree-items, tree-kind}
use Rattle.image_rules.proofs.OrderLaws.{computed}
use Rattle.image.proofs.AcceptedLaws.{expr-known, items_follow}

module _ (p : ℕ → Bool) where
  -- every role that an order names passes a test
  allowed : List Part → Bool
  allowed [] = true
  allowed (one x ∷ ps) = p x && allowed ps
  allowed (perhaps x ∷ ps) = p x && allowed ps
  allowed (any xs ∷ ps) = every p xs && allowed ps
  allowed (pairs x y ∷ ps) = p x && (p y && allowed ps)

  -- the role itself, and what may follow it
  abbrev Goes : ℕ → List Part → Type 0
  Goes r qs = (p r ≡ true) × (allowed qs ≡ true)

  among-every : (r : ℕ) (xs : List ℕ) → every p xs ≡ true → among r xs ≡ true → p r ≡ true
  unfolding every among
  among-every r [] h a = absurd (true≢false a refl)
  among-every r (x ∷ xs) h a = go (eqb r x) refl a (among-every r xs (and_right (p x) (every p xs) h))
    where
      go : (b : Bool) → eqb r x ≡ b → (b || among r xs) ≡ true → (among r xs ≡ true → p r ≡ true) → p r ≡ true
      go true e q k = rw (eqb-true r x e) (and_left (p x) (every p xs) h)
      go false e q k = k q

  one_goes : (r x : ℕ) (qs : List Part) → p x ≡ true → allowed qs ≡ true → eqb r x ≡ true → Goes r qs
  one_goes r x qs h g e = (rw (eqb-true r x e) h, g)

  -- either the test of a part passes, or the role goes by the rest
  either_goes : (r : ℕ) (b : Bool) (ps : List Part) {o : Option (List Part)} {qs : List Part} → cond b (Some ps) o ≡ Some qs → (b ≡ true → Goes r ps) → (o ≡ Some qs → Goes r qs) → Goes r qs
  either_goes r true ps e h k = subst (Goes r) (some_inj e) (h refl)
  either_goes r false ps e h k = k e

  next_goes : (r : ℕ) (ps : List Part) {qs : List Part} → allowed ps ≡ true → next ps r ≡ Some qs → Goes r qs
  unfolding allowed next
  next_goes r [] h e = absurd (clash e)
  next_goes r (one x ∷ ps) h e =
      let a : p x ≡ true = and_left _ _ h in
      let b : allowed ps ≡ true = and_right (p x) _ h in
      only-some (eqb r x) e λ t q. subst (Goes r) q (one_goes r x ps a b t)
  next_goes r (perhaps x ∷ ps) h e =
      let a : p x ≡ true = and_left _ _ h in
      let b : allowed ps ≡ true = and_right (p x) _ h in
      either_goes r (eqb r x) ps e (one_goes r x ps a b) (next_goes r ps b)
  next_goes r (any xs ∷ ps) h e =
      either_goes r (among r xs) (any xs ∷ ps) e (λ t. (among-every r xs (and_left _ _ h) t, h)) (next_goes r ps (and_right (every p xs) _ h))
  next_goes r (pairs x y ∷ ps) h e =
      let a : p x ≡ true = and_left _ _ h in
      let b : (p y && allowed ps) ≡ true = and_right (p x) _ h in
      let c : (p y && (p x && (p y && allowed ps))) ≡ true = rw (and_left (p y) _ b, a, and_right (p y) _ b) in
      either_goes r (eqb r x) (one y ∷ pairs x y ∷ ps) e (one_goes r x (one y ∷ pairs x y ∷ ps) a c) (next_goes r ps (and_right (p y) _ b))

  -- so every role that comes in the order passes it
  follows_goes : (ps : List Part) (rs : List ℕ) → allowed ps ≡ true → follows ps rs ≡ true → every p rs ≡ true
  unfolding follows every
  follows_goes ps [] h f = refl
  follows_goes ps (r ∷ rs) h f = go (next ps r) refl f (λ qs. follows_goes qs rs)
    where
      go : (o : Option (List Part)) → next ps r ≡ o → (elim o as (λ _. Bool) [ None ↦ false | Some qs ↦ follows qs rs ]) ≡ true
          → ((qs : List Part) → allowed qs ≡ true → follows qs rs ≡ true → every p rs ≡ true) → (p r && every p rs) ≡ true
      go None e g k = absurd (true≢false g refl)
      go (Some qs) e g k = let n = next_goes r ps h e in rw (n.0, k qs n.1 g)

-- The kinds that have a role: only a Lambda has a parameter or a field of a pattern, only a LetIn and an AttrSet have statics.
suits : ℕ → ℕ → Bool
suits kind role = cond (leb 4 role && leb role 6) (eqb kind 5 || eqb kind 8) (cond (eqb role 3 || eqb role 10) (eqb kind 4) true)

-- one test of all kinds, computed
suited : ℕ → Bool
suited kind = allowed (suits kind) (order kind)

suited_tested : all suited 17 ≡ true
unfolding suited suits allowed every computed
suited_tested = refl

either_kind : (kind : ℕ) → (eqb kind 5 || eqb kind 8) ≡ true → (kind ≡ 5) ⊎ (kind ≡ 8)
either_kind kind h = go (eqb kind 5) refl h
  where
    go : (b : Bool) → eqb kind 5 ≡ b → (b || eqb kind 8) ≡ true → (kind ≡ 5) ⊎ (kind ≡ 8)
    go true e q = inl (eqb-true kind 5 e)
    go false e q = inr (eqb-true kind 8 q)

module _ (s : List ℕ) (a : Accepted s) (e : ℕ) (l : e < expr_count s) (k : ℕ) (m : k < count_of s e) where
  role_suits : (role : ℕ) → (item_at (decode s) e k).role ≡ role → suits (expr_at (decode s) e).kind role ≡ true
  unfolding item_at suited
  role_suits role r =
      let items = (expr_at (decode s) e).items in
      let known : (expr_at (decode s) e).kind < 17 = rw (tree-kind s e l) (omega (arith, expr-known s a e l)) in
      let passes = follows_goes (suits (expr_at (decode s) e).kind) _ _ (all-holds suited 17 _ suited_tested known) (items_follow s a e l) in
      let inside : k < length (map (λ i. i.role) items) = omega (arith, length-map items (λ i. i.role), tree-items s e l) in
      rw (get_or-map (λ i. i.role) items k no_item, r) at (every_holds _ _ k 0 passes inside)

  -- a parameter or a field of a pattern is an item of a Lambda
  pub field-kind : ((item_at (decode s) e k).role ≡ 3) ⊎ ((item_at (decode s) e k).role ≡ 10) → (expr_at (decode s) e).kind ≡ 4
  unfolding suits
  field-kind = ⊎_elim (λ r. eqb-true _ 4 (role_suits 3 r)) (λ r. eqb-true _ 4 (role_suits 10 r))

  -- a static is an item of a LetIn or an AttrSet
  pub static_kind : 4 ≤ (item_at (decode s) e k).role → (item_at (decode s) e k).role ≤ 6 → ((expr_at (decode s) e).kind ≡ 5) ⊎ ((expr_at (decode s) e).kind ≡ 8)
  unfolding suits
  static_kind low high = either_kind _ (rw (le-leb 4 (item_at (decode s) e k).role low, le-leb (item_at (decode s) e k).role 6 high) at (role_suits _ refl))
