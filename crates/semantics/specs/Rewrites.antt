-- How guards may be rewritten (document 02, order 7: "Editors also rewrite guards, so show on the definitions"; proofs/Rewrites.antt).
use Rattle.std.specs.Prelude.{◌≡◌, Bool, ℕ, ◌+◌}
use Rattle.semantics.specs.Tree.{Tree}
use Rattle.semantics.specs.Resolution.{Tables}
use Rattle.semantics.specs.Narrow.{and, or, implies, invert, shape, nodes, analyze}
use Rattle.semantics.specs.Order.{Ordered}

-- A guard as it is written over parts that stay: an expression, or !, &&, || and -> of such.
pub data Form : Type 0 where
  at : ℕ → Form
  no : Form → Form
  both any arrow : Form → Form → Form

-- an expression of a tree is written so
abbrev pub Reads : Tree → Form → ℕ → Type 0
Reads t (at e) c = c ≡ e
Reads t (no f) c = (e : ℕ) × (shape t c ≡ invert e) × Reads t f e
Reads t (both f g) c = (l r : ℕ) × (shape t c ≡ and l r) × Reads t f l × Reads t g r
Reads t (any f g) c = (l r : ℕ) × (shape t c ≡ or l r) × Reads t f l × Reads t g r
Reads t (arrow f g) c = (l r : ℕ) × (shape t c ≡ implies l r) × Reads t f l × Reads t g r

-- an expression that is written the one way has the then list and the else list of one that is written the other way
abbrev pub Alike : Tree → Tables → Form → Form → Type 0
Alike t tab f g = (c d : ℕ) → Reads t f c → Reads t g d → (outcome : Bool) → analyze t tab outcome c ≡ analyze t tab outcome d

-- .. and the other has so many nodes more
abbrev pub Longer : Tree → Form → ℕ → Form → Type 0
Longer t f more g = (c d : ℕ) → Reads t f c → Reads t g d → nodes t d ≡ more + nodes t c

-- The laws, where a and b are expressions (`at`) or are written over such themselves.
pub record Rewrites (t : Tree) (tab : Tables) : Type 0 where
  -- "`!(a || b)` has the lists of `!a && !b`"
  pub not-or : (a b : Form) → Alike t tab (no (any a b)) (both (no a) (no b))
  -- "`!(a && b)` those of `!a || !b`"
  pub not-and : (a b : Form) → Alike t tab (no (both a b)) (any (no a) (no b))
  -- "two negations restore both lists"
  pub not-not : (a : Form) → Alike t tab a (no (no a))
  -- "`a -> b` has those of `!a || b`"
  pub implication : (a b : Form) → Alike t tab (arrow a b) (any (no a) b)
  -- so `!(a -> b)` has those of `a && !b`
  pub not-implication : (a b : Form) → Alike t tab (no (arrow a b)) (both a (no b))

-- What rewriting does to the steps ("A step is one analysed node"), law by law: each `!` is a node.
pub record RewriteSteps (t : Tree) : Type 0 where
  pub not-or : (a b : Form) → Longer t (no (any a b)) 1 (both (no a) (no b))
  pub not-and : (a b : Form) → Longer t (no (both a b)) 1 (any (no a) (no b))
  pub not-not : (a : Form) → Longer t a 2 (no (no a))
  pub implication : (a b : Form) → Longer t (arrow a b) 1 (any (no a) b)
  pub not-implication : (a b : Form) → Longer t (no (arrow a b)) 0 (both a (no b))

-- in every accepted tree, over any tables: elsewhere the bound on the depth may cut the two sides differently
abbrev pub AllRewrites : Type 0
AllRewrites = (t : Tree) (tab : Tables) → Ordered t → Rewrites t tab × RewriteSteps t
