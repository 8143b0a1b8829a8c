-- One line of each table, as the code puts it together.
use Rattle.std.specs.Prelude.{Option, Some, None}
use mathlib.Core.Path.{◌≡◌, ap, sym, ◌∙◌}
use mathlib.Core.Bool.{Bool, true, false, cond}
use mathlib.Core.List.{List, [], ◌∷◌}
use Prim.Native.Nat.{ℕ, ◌+◌, ◌*◌, ◌/◌, ◌<◌}
use native.Mathlib.Omega.{arith}
use lib.ListN.{length}
use borrow.Author.Tests.{eq-eqb, ne_eqb, le-leb}
use Rattle.semantics.specs.Base.{pick}
use Rattle.semantics.specs.Tree.{bytes, is_none}
use Rattle.semantics.proofs.BaseLaws.{clash, some_inj, pick_later, pick-none}
use Rattle.image_fields.specs.Image.{field_in}
use Rattle.given.specs.Resolutions.{tag_of, value_of}
use Rattle.given.specs.Bindings.{expr_of, index_in}
use Rattle.survey_lines.specs.Text.{decimal, line}
use Rattle.survey_lines.specs.Inside.Page.{Printed}
use Rattle.survey_lines.specs.declared.text.Page.{Page}
use Rattle.survey_lines.specs.Lines.{tag_word, resolution_line, edge_line, bind_line, narrow_line}
use Rattle.survey_lines.proofs.PageLaws.{nothing, both}

pub word_def : {tag : ℕ} → tag ≡ 1 → (bytes " def") ≡ tag_word tag
unfolding tag_word pick
word_def h = rw h

pub word-builtin : {tag : ℕ} → tag ≡ 2 → (bytes " builtin") ≡ tag_word tag
unfolding tag_word pick
word-builtin h = rw h

pub word_with : (tag : ℕ) → (tag ≡ 1 → ⊥) → (tag ≡ 2 → ⊥) → (bytes " with") ≡ tag_word tag
unfolding tag_word
word_with tag a b =
    sym
    (pick_later tag (1, bytes " def") ((2, bytes " builtin") ∷ []) (bytes " with") (ne_eqb tag 1 a)
    ∙ pick_later tag (2, bytes " builtin") [] (bytes " with") (ne_eqb tag 2 b)
    ∙ pick-none tag (bytes " with"))

module _ (table : List ℕ) (e : ℕ) {tag : ℕ} (t : tag ≡ tag_of table e) where
  pub no_line : {p : Page} → tag ≡ 0 → Printed (resolution_line table e) p p
  unfolding resolution_line
  no_line h = rw (eq-eqb (tag_of table e) 0 (sym t ∙ h)) nothing

  pub one_line : {word : List ℕ} {value : ℕ} {p q r : Page} → (tag ≡ 0 → ⊥) → word ≡ tag_word tag → value ≡ value_of table e → Printed (decimal e) p q
      → Printed (line word (value ∷ [])) q r → Printed (resolution_line table e) p r
  unfolding resolution_line
  one_line h w v a b = rw (ne_eqb (tag_of table e) 0 (λ z. h (t ∙ z)), ← t, ← w, ← v) (both a b)

pub edge_put : (edges : List ℕ) (i : ℕ) {a b : ℕ} {p q : Page} → a ≡ field_in edges (4 * i) 0 14 → b ≡ field_in edges (4 * i) 14 14
    → Printed (line (bytes "edge") (a ∷ b ∷ [])) p q → Printed (edge_line edges i) p q
unfolding edge_line
edge_put edges i x y h = rw (← x, ← y) h

module _ (exprs : List ℕ) (n : ℕ) (l : n < length exprs / 2) (r : Option ℕ) (t : index_in exprs n ≡ r) where
  entry_of_lem : cond (is_none (expr_of exprs n)) None (Some (expr_of exprs n)) ≡ r
  unfolding index_in
  entry_of_lem = rw (le-leb (2 * n + 2) (length exprs) (omega (arith, l))) at t

  pub unbound : r ≡ None → {p : Page} → Printed (bind_line exprs n) p p
  unfolding bind_line
  unbound h = go (is_none (expr_of exprs n)) (entry_of_lem ∙ h)
    where
      go : (b : Bool) → cond b None (Some (expr_of exprs n)) ≡ None → {p : Page} → Printed (cond b [] (line (bytes "bind") (n ∷ expr_of exprs n ∷ []))) p p
      go true q = nothing
      go false q = absurd (clash (sym q))

  pub bind_put : {e : ℕ} → r ≡ Some e → {p q : Page} → Printed (line (bytes "bind") (n ∷ e ∷ [])) p q → Printed (bind_line exprs n) p q
  unfolding bind_line
  bind_put {e} h = go (is_none (expr_of exprs n)) (entry_of_lem ∙ h)
    where
      go : (b : Bool) → cond b None (Some (expr_of exprs n)) ≡ Some e → {p q : Page} → Printed (line (bytes "bind") (n ∷ e ∷ [])) p q → Printed (cond b [] (line (bytes "bind") (n ∷ expr_of exprs n ∷ []))) p q
      go true z k = absurd (clash z)
      go false z k = rw (some_inj z) k

pub narrow_put : (ns : List ℕ) (i : ℕ) {a b c d : ℕ} {p q : Page} → a ≡ field_in ns (8 * i) 0 14 → b ≡ field_in ns (8 * i) 32 14
    → c ≡ field_in ns (8 * i) 46 4 → d ≡ field_in ns (8 * i) 50 14
    → Printed (line (bytes "narrow") (a ∷ b ∷ c ∷ d ∷ [])) p q → Printed (narrow_line ns i) p q
unfolding narrow_line
narrow_put ns i x y z w h = rw (← x, ← y, ← z, ← w) h
