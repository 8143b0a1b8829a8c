-- The lists of a guard are those of the way it is written, and ways that are rewritten have the same (proofs/Rewrites.antt).
use mathlib.Core.Path.{◌≡◌, refl, sym, ap, ◌∙◌}
use mathlib.Core.Bool.{Bool, true, false, not}
use mathlib.Core.List.{List, [], ◌∷◌, ◌++◌, map}
use Prim.Native.Nat.{ℕ, ◌+◌}
use native.Mathlib.Omega.{arith}
use Rattle.semantics.specs.Base.{sum}
use Rattle.semantics.specs.Tree.{Tree}
use Rattle.semantics.specs.Resolution.{Tables}
use Rattle.semantics.specs.Narrow.{Narrowing, Condition, and, or, implies, invert, shape, analysed, nodes, node, analyze}
use Rattle.semantics.specs.Order.{Ordered}
use Rattle.semantics.specs.Rewrites.{Form, at, no, both, any, arrow, Reads, Alike, Longer, Rewrites, RewriteSteps}
use Rattle.semantics.proofs.OrderLaws.{ordered-runs}

module _ (t : Tree) (tab : Tables) (ordered : Ordered t) where
  -- the lists by the way a guard is written
  lists : Form → Bool → List Narrowing
  lists (at e) o = analyze t tab o e
  lists (no f) o = lists f (not o)
  lists (both f g) true = lists f true ++ lists g true
  lists (both f g) false = []
  lists (any f g) true = []
  lists (any f g) false = lists f false ++ lists g false
  lists (arrow f g) true = []
  lists (arrow f g) false = lists f true ++ lists g false

  -- one node of it
  here : (c : ℕ) (s : Condition) (o : Bool) → shape t c ≡ s → analyze t tab o c ≡ node t tab (analyze t tab) o s
  here c s o h = (ordered-runs t tab ordered).analyze_are o c ∙ ap (node t tab (analyze t tab) o) h

  beside : {a b c d : List Narrowing} → a ≡ c → b ≡ d → a ++ b ≡ c ++ d
  beside {b} {c} h k = ap (λ z. z ++ b) h ∙ ap (λ z. c ++ z) k

  lists_are : (f : Form) (c : ℕ) → Reads t f c → (o : Bool) → analyze t tab o c ≡ lists f o
  unfolding lists node
  lists_are (at e) c h o = ap (analyze t tab o) h
  lists_are (no f) c (e, sh, h) o = here c (invert e) o sh ∙ lists_are f e h (not o)
  lists_are (both f g) c (l, r, sh, h, k) true = here c (and l r) true sh ∙ beside (lists_are f l h true) (lists_are g r k true)
  lists_are (both f g) c (l, r, sh, h, k) false = here c (and l r) false sh
  lists_are (any f g) c (l, r, sh, h, k) true = here c (or l r) true sh
  lists_are (any f g) c (l, r, sh, h, k) false = here c (or l r) false sh ∙ beside (lists_are f l h false) (lists_are g r k false)
  lists_are (arrow f g) c (l, r, sh, h, k) true = here c (implies l r) true sh
  lists_are (arrow f g) c (l, r, sh, h, k) false = here c (implies l r) false sh ∙ beside (lists_are f l h true) (lists_are g r k false)

  alike : (f g : Form) → lists f true ≡ lists g true → lists f false ≡ lists g false → Alike t tab f g
  alike f g h k c d hc hd true = lists_are f c hc true ∙ (h ∙ sym (lists_are g d hd true))
  alike f g h k c d hc hd false = lists_are f c hc false ∙ (k ∙ sym (lists_are g d hd false))

  -- the nodes by the way a guard is written
  count : Form → ℕ
  count (at e) = nodes t e
  count (no f) = 1 + count f
  count (both f g) = 1 + (count f + count g)
  count (any f g) = 1 + (count f + count g)
  count (arrow f g) = 1 + (count f + count g)

  -- one node and its parts
  counted : (c : ℕ) (s : Condition) → shape t c ≡ s → nodes t c ≡ 1 + sum (map (nodes t) (analysed s))
  counted c s h = (ordered-runs t tab ordered).nodes_are c ∙ ap (λ z. 1 + sum (map (nodes t) (analysed z))) h

  one : (e m : ℕ) → nodes t e ≡ m → 1 + sum (map (nodes t) (e ∷ [])) ≡ 1 + m
  unfolding sum
  one e m h = omega arith

  two : (l r m n : ℕ) → nodes t l ≡ m → nodes t r ≡ n → 1 + sum (map (nodes t) (l ∷ r ∷ [])) ≡ 1 + (m + n)
  unfolding sum
  two l r m n h k = omega arith

  count-is : (f : Form) (c : ℕ) → Reads t f c → nodes t c ≡ count f
  unfolding count analysed sum
  count-is (at e) c h = ap (nodes t) h
  count-is (no f) c (e, sh, h) = counted c (invert e) sh ∙ one e (count f) (count-is f e h)
  count-is (both f g) c (l, r, sh, h, k) = counted c (and l r) sh ∙ two l r (count f) (count g) (count-is f l h) (count-is g r k)
  count-is (any f g) c (l, r, sh, h, k) = counted c (or l r) sh ∙ two l r (count f) (count g) (count-is f l h) (count-is g r k)
  count-is (arrow f g) c (l, r, sh, h, k) = counted c (implies l r) sh ∙ two l r (count f) (count g) (count-is f l h) (count-is g r k)

  longer : (f g : Form) (more : ℕ) → count g ≡ more + count f → Longer t f more g
  longer f g more h c d hc hd = count-is g d hd ∙ (h ∙ ap (λ z. more + z) (sym (count-is f c hc)))

module _ (t : Tree) (tab : Tables) (ordered : Ordered t) where
  pub rewrites : Rewrites t tab
  unfolding lists
  rewrites = record {
    not-or = λ a b. alike t tab ordered (no (any a b)) (both (no a) (no b)) refl refl;
    not-and = λ a b. alike t tab ordered (no (both a b)) (any (no a) (no b)) refl refl;
    not-not = λ a. alike t tab ordered a (no (no a)) refl refl;
    implication = λ a b. alike t tab ordered (arrow a b) (any (no a) b) refl refl;
    not-implication = λ a b. alike t tab ordered (no (arrow a b)) (both a (no b)) refl refl;
  }

  pub rewrite_steps : RewriteSteps t
  unfolding count
  rewrite_steps = record {
    not-or = λ a b. longer t tab ordered (no (any a b)) (both (no a) (no b)) 1 (omega arith);
    not-and = λ a b. longer t tab ordered (no (both a b)) (any (no a) (no b)) 1 (omega arith);
    not-not = λ a. longer t tab ordered a (no (no a)) 2 (omega arith);
    implication = λ a b. longer t tab ordered (arrow a b) (any (no a) b) 1 (omega arith);
    not-implication = λ a b. longer t tab ordered (no (arrow a b)) (both a (no b)) 0 (omega arith);
  }
