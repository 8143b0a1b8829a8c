-- Selections (document 02, order 2): which Reference is the builtin set, in the numbers of a table; and that a key of it is a last key that counts.
use Rattle.std.specs.Prelude.{Option, Some, None}
use mathlib.Core.Path.{◌≡◌, refl, sym, ap, subst, ◌∙◌}
use mathlib.Core.Bool.{Bool, true, false, not, ◌&&◌}
use mathlib.Core.List.{List, [], ◌∷◌}
use Prim.Native.Nat.{ℕ, zero, suc}
use lib.ListN.{get_or, drop}
use Rattle.semantics.specs.Base.{only, single, every, ◌>>=◌}
use Rattle.semantics.specs.Tree.{Text, Tree, bytes, same, text_at, part, reference, select, last_key, string as string_literal}
use Rattle.semantics.specs.Words.{globals}
use Rattle.semantics.specs.Resolution.{Resolution, unresolved, definition, builtin, within, Tables}
use Rattle.semantics.specs.Narrow.{global_of, global_name, builtin_set, another_set, builtins_key, chain_key, BuiltinSetPlaced}
use Rattle.semantics.proofs.BaseLaws.{true≢false, clash, some_inj, same-equal, not-true, and_left, and_right, only-some, only-true, then, after, single-last}

-- The builtin set stands at place 2 alone.
unlike : (l : List Text) (p : ℕ) → every (λ g. not (same g (bytes "builtins"))) l ≡ true → same (get_or l p []) (bytes "builtins") ≡ false
unfolding every same
unlike [] p h = refl
unlike (g ∷ l) zero h = not-true _ (and_left _ _ h)
unlike (g ∷ l) (suc p) h = unlike l p (and_right (not (same g (bytes "builtins"))) _ h)

place_is : (p : ℕ) → same (get_or globals p []) (bytes "builtins") ≡ true → p ≡ 2
unfolding globals same every
place_is zero h = absurd (true≢false h refl)
place_is (suc zero) h = absurd (true≢false h refl)
place_is (suc (suc zero)) h = refl
place_is (suc (suc (suc p))) h = absurd (true≢false h (unlike (drop 3 globals) p refl))

placed_at : (r : Resolution) (g : Text) → global_of r ≡ Some g → same g (bytes "builtins") ≡ true → r ≡ builtin 2
unfolding global_of
placed_at unresolved g h k = absurd (clash h)
placed_at (definition n) g h k = absurd (clash h)
placed_at (builtin p) g h k = ap builtin (place_is p (subst (λ z. same z (bytes "builtins") ≡ true) (sym (some_inj h)) k))
placed_at (within w) g h k = absurd (clash h)

itself : same (bytes "builtins") (bytes "builtins") ≡ true
unfolding same
itself = refl

module _ (t : Tree) (tab : Tables) (e : ℕ) where
  set_placed : (g : Text) → global_name t tab e ≡ Some g → same g (bytes "builtins") ≡ true → tab.resolution e ≡ builtin 2
  unfolding global_name
  set_placed g q h =
      after (reference t e) _ q λ x hx q₁.
      after (global_of (tab.resolution e)) _ q₁ λ f hf q₂.
      only-some (same f (text_at t x)) q₂ λ k fg. placed_at (tab.resolution e) f hf (subst (λ z. same z (bytes "builtins") ≡ true) (sym fg) h)

  placed_set : (x : ℕ) → reference t e ≡ Some x → same (text_at t x) (bytes "builtins") ≡ true → tab.resolution e ≡ builtin 2 → global_name t tab e ≡ Some (bytes "builtins")
  unfolding global_name global_of globals
  placed_set x hx hb h =
      then _ hx
      (then _ (ap global_of h) (only-true _ (bytes "builtins") (subst (λ z. same (bytes "builtins") z ≡ true) (sym (same-equal (text_at t x) (bytes "builtins") hb)) itself)))

pub builtin-set_placed : BuiltinSetPlaced
unfolding builtin_set
builtin-set_placed t tab e x hx hb = (λ h. from (global_name t tab e) refl h, λ h. to (placed_set t tab e x hx hb h))
  where
    is_set : Option Text → Bool
    is_set o = elim o [ None ↦ false | Some g ↦ same g (bytes "builtins") ]

    from : (o : Option Text) → global_name t tab e ≡ o → is_set o ≡ true → tab.resolution e ≡ builtin 2
    from None q h = absurd (true≢false h refl)
    from (Some g) q h = set_placed t tab e g q h

    to : global_name t tab e ≡ Some (bytes "builtins") → is_set (global_name t tab e) ≡ true
    to h = ap is_set h ∙ itself

module _ (t : Tree) (tab : Tables) where
  -- the builtin set is no other set
  no_other : (e : ℕ) → builtin_set t tab e ≡ true → not (another_set t tab e) ≡ true
  unfolding another_set
  no_other e h = go (reference t e)
    where
      meets : (a : Bool) → not (a && not (builtin_set t tab e)) ≡ true
      meets true = rw h
      meets false = refl

      go : (o : Option ℕ) → not (elim o as (λ z. Bool) [ None ↦ false | Some x ↦ same (text_at t x) (bytes "builtins") && not (builtin_set t tab e) ]) ≡ true
      go None = refl
      go (Some x) = meets (same (text_at t x) (bytes "builtins"))

  -- a selection from the builtin set counts, and its key is a last key
  counts : (e : ℕ) (s : ℕ × List ℕ) → select t e ≡ Some s → builtin_set t tab s.0 ≡ true → only (not (another_set t tab (part t e 0))) e ≡ Some e
  unfolding select
  counts e s hs q =
      only-some _ hs λ k es.
      only-true _ e (subst (λ z. not (another_set t tab z) ≡ true) (sym (ap (λ (y : ℕ × List ℕ). y.0) es)) (no_other s.0 q))

  pub builtins-last : (e : ℕ) (x : Text) → builtins_key t tab e ≡ Some x → chain_key t tab e ≡ Some x
  unfolding builtins_key chain_key last_key select
  builtins-last e x h =
      after (select t e) _ h λ s hs h₁.
      after (only (builtin_set t tab s.0) s.1 >>= single) _ h₁ λ k hk h₃.
      after (only (builtin_set t tab s.0) s.1) single hk λ l hl h₄.
      only-some (builtin_set t tab s.0) hl λ q el.
      after (string_literal t k) _ h₃ λ y hy h₅.
      then (last_key t) (counts e s hs q) (then _ hs (then _ (single-last s.1 (rw el h₄)) (then _ hy h₅)))

  -- a last key that counts is one
  pub counted-last : (e : ℕ) (x : Text) → chain_key t tab e ≡ Some x → last_key t e ≡ Some x
  unfolding chain_key
  counted-last e x h =
      after (only (not (another_set t tab (part t e 0))) e) (last_key t) h λ d hd k.
      only-some (not (another_set t tab (part t e 0))) hd λ q r. subst (λ z. last_key t z ≡ Some x) (sym r) k
