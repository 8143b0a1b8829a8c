-- A text that finds room stands whole on its page.
use mathlib.Core.Path.{◌≡◌, refl, ap, sym, ◌∙◌}
use mathlib.Core.List.{List, [], ◌∷◌, ◌++◌, append_assoc, append-nil}
use Prim.Native.Nat.{ℕ, suc, ◌+◌, ◌≤◌}
use native.Mathlib.Numerals.{add-one}
use native.Mathlib.Omega.{arith}
use lib.ListN.{length, set, take, drop, length-set, take-append-drop}
use lib.Seq.{take-suc-set, drop-set-lt, length-take-le}
use borrow.Author.Tests.{lt-ltb}
use Rattle.survey_lines.specs.Inside.Page.{typed, print, Printed}
use Rattle.survey_lines.specs.declared.text.Page.{Page}

-- with room the place moves on, and what stood before it and behind it stays
pub record Stands (text : List ℕ) (p q : Page) : Type 0 where
  pub end : q.at ≡ p.at + length text
  pub size : length q.out.now ≡ length p.out.now
  pub front : take (p.at + length text) q.out.now ≡ take p.at p.out.now ++ text
  pub rest : drop (p.at + length text) q.out.now ≡ drop (p.at + length text) p.out.now
  pub same : q.out.ghost_name ≡ p.out.ghost_name

stands : (text : List ℕ) (p : Page) → p.at + length text ≤ length p.out.now → Stands text p (print text p)
unfolding print typed
stands [] p h =
    let e : p.at + 0 ≡ p.at = omega arith in
    record { end = sym e; size = refl; front = rw e (sym (append-nil (take p.at p.out.now))); rest = refl; same = refl }
stands (b ∷ bs) p h =
    let l = p.out.now in
    let w = stands bs (record { out = record p.out { now = set l p.at b }; at = p.at + 1 }) (omega (arith, length-set l p.at b)) in
    let e : p.at + 1 + length bs ≡ p.at + suc (length bs) = omega arith in
    let s : take (p.at + 1) (set l p.at b) ≡ take p.at l ++ b ∷ [] = rw add-one (take-suc-set l p.at b (omega arith)) in
    rw (lt-ltb p.at (length l) (omega arith))
    (record {
      end = w.end ∙ e;
      size = w.size ∙ length-set l p.at b;
      front = rw e at w.front ∙ ap (λ x. x ++ bs) s ∙ append_assoc (take p.at l) (b ∷ []) bs;
      rest = rw e at w.rest ∙ drop-set-lt (p.at + suc (length bs)) l p.at b (omega arith);
      same = w.same;
    })

module _ {text : List ℕ} {p q : Page} (z : p.at ≡ 0) (h : length text ≤ length p.out.now) (w : Printed text p q) where
  whole : Stands text p q
  whole = rw w.shows (stands text p (omega (arith, h, z)))

  pub same_buffer : q.out.ghost_name ≡ p.out.ghost_name
  same_buffer = whole.same

  pub ends : q.at ≡ length text
  ends = whole.end ∙ omega (arith, z)

  pub text-counts : (q.at ≤ length q.out.now) × (q.at ≡ length (take q.at q.out.now))
  text-counts = let i : q.at ≤ length q.out.now = omega (arith, ends, whole.size, h) in (i, sym (length-take-le q.at q.out.now i))

  pub text-whole : q.out.now ≡ text ++ drop q.at p.out.now
  text-whole =
      let e : p.at + length text ≡ q.at = omega (arith, ends, z) in
      let front : take q.at q.out.now ≡ text = rw e at (whole.front ∙ ap (λ i. take i p.out.now ++ text) z) in
      let rest : drop q.at q.out.now ≡ drop q.at p.out.now = rw e at whole.rest in
      sym (take-append-drop q.at q.out.now) ∙ rw (front, rest)
