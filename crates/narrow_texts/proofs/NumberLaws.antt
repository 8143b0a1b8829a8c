-- What was found, as the code hands it on; and a text by its number.
use Rattle.std.specs.Prelude.{Option, Some, None}
use mathlib.Core.Path.{◌≡◌, ap, ◌∙◌}
use mathlib.Core.List.{List}
use Prim.Native.Nat.{ℕ, ◌<◌}
use borrow.Author.Tests.{eq-eqb, ne_eqb}
use Rattle.semantics.specs.Base.{or_else, ◌>>=◌}
use Rattle.semantics.specs.Tree.{Text, is_none, text_at}
use Rattle.codes.specs.Inside.Below.{Below}
use Rattle.image_fields.specs.Image.{text_count, decode}
use Rattle.narrow_texts.specs.Inside.Numbers.{numbered, spelling, Finds, Spelt}

pub numbered-none : {r : ℕ} → r ≡ 16383 → numbered r ≡ None
unfolding numbered is_none
numbered-none {r} h = rw (eq-eqb r 16383 h)

pub numbered-some : {r : ℕ} → (r ≡ 16383 → ⊥) → numbered r ≡ Some r
unfolding numbered is_none
numbered-some {r} h = rw (ne_eqb r 16383 h)

-- what was found is below its bound
pub below : {bound : ℕ} {r : Option ℕ} {x : ℕ} → Below bound r → r ≡ Some x → x < bound
below l h = rw h at l

module _ {bound : ℕ} {o : Option ℕ} where
  pub found_none : {r : Option ℕ} → Finds bound o r → r ≡ None → o ≡ None
  found_none f h = f.this ∙ h

  pub found_some : {r : Option ℕ} {x : ℕ} → Finds bound o r → r ≡ Some x → o ≡ Some x
  found_some f h = f.this ∙ h

  pub nothing-found : o ≡ None → Finds bound o None
  nothing-found h = record { this = h; inside = tt }

  pub just_found : {x : ℕ} → o ≡ Some x → x < bound → Finds bound o (Some x)
  just_found h l = record { this = h; inside = l }

  -- another name for what was found
  pub found_as : {p : Option ℕ} {r : Option ℕ} → o ≡ p → Finds bound p r → Finds bound o r
  found_as h f = record { this = h ∙ f.this; inside = f.inside }

module _ {s : List ℕ} where
  pub spelt_of : {o : Option ℕ} {r : Option ℕ} → Finds (text_count s) o r → Spelt s (o >>= λ x. Some (text_at (decode s) x)) r
  unfolding spelling
  spelt_of f = record { this = ap (λ p. p >>= λ x. Some (text_at (decode s) x)) f.this; inside = f.inside }

  module _ {o : Option Text} where
    pub spelt_none : {r : Option ℕ} → Spelt s o r → r ≡ None → o ≡ None
    unfolding spelling ◌>>=◌
    spelt_none f h = f.this ∙ ap (spelling (decode s)) h

    pub spelt_some : {r : Option ℕ} {x : ℕ} → Spelt s o r → r ≡ Some x → o ≡ Some (text_at (decode s) x)
    unfolding spelling ◌>>=◌
    spelt_some f h = f.this ∙ ap (spelling (decode s)) h

    pub nothing_spelt : o ≡ None → Spelt s o None
    unfolding spelling ◌>>=◌
    nothing_spelt h = record { this = h; inside = tt }

    pub just_spelt : {x : ℕ} → o ≡ Some (text_at (decode s) x) → x < text_count s → Spelt s o (Some x)
    unfolding spelling ◌>>=◌
    just_spelt h l = record { this = h; inside = l }

    pub spelt_as : {p : Option Text} {r : Option ℕ} → o ≡ p → Spelt s p r → Spelt s o r
    spelt_as h f = record { this = h ∙ f.this; inside = f.inside }

  -- one of two texts
  module _ {p : Option Text} (q : Option Text) where
    pub either_first : {r : Option ℕ} {x : ℕ} → Spelt s p r → r ≡ Some x → Spelt s (or_else p q) (Some x)
    unfolding or_else
    either_first f h = just_spelt (rw (spelt_some f h)) (below f.inside h)

    pub either_second : {r x : Option ℕ} → Spelt s p r → r ≡ None → Spelt s q x → Spelt s (or_else p q) x
    unfolding or_else
    either_second f h g = spelt_as (rw (spelt_none f h)) g
