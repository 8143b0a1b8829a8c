-- What a model must obey (document 01, "Premises of demand 3"). Each law speaks only of what has a value, and says no more of it than its sentence
-- grants; nothing has to succeed.
use Rattle.std.specs.Prelude.{◌≡◌, Bool, true, false, not, ◌⊎◌, List, ℕ, Option, Some, None}
use Rattle.semantics.specs.Base.{Given, ◌>>=◌}
use Rattle.semantics.specs.Tree.{Text, Tree, bytes, same, text_at, string as string_literal}
use Rattle.semantics.specs.Words.{Null, same_sort, number, predicate}
use Rattle.semantics.specs.Resolution.{Tables}
use Rattle.semantics.specs.Narrow.{Condition, equal, not_equal, and, or, implies, call, has_key, invert, opaque, shape}
use Rattle.semantics.specs.Narrow.{local_name, global_name, literal_sort, builtins_key, chain_key}
use Rattle.semantics.specs.Values.{Builtin, test, has_attr, has_attr_of, Value, bool, set, builtin, sort, holds, outcome, Model}

-- the built-in function that a text names
abbrev pub Names : Text → Builtin → Type 0
Names x (test s) = predicate x ≡ Some s
Names x has_attr = same x (bytes "hasAttr") ≡ true
Names x (has_attr_of k) = ⊥

-- a call's function and argument
unfoldable pub called : Condition → Option (ℕ × ℕ)
called (equal l r) = None
called (not_equal l r) = None
called (and l r) = None
called (or l r) = None
called (implies l r) = None
called (call f a) = Some (f, a)
called (has_key e k) = None
called (invert e) = None
called opaque = None

-- Two values that came out equal (true), unequal (false): "values of two sorts are unequal, save that two numbers may compare either way". Of unequal
-- values only that they are not both null (manual, isNull: what it tells, a comparison with null tells). Document 02, order 5: "The premise about a
-- number's sort falls away."
abbrev pub Allowed : Bool → Value → Value → Type 0
Allowed true v w = (sort v ≡ sort w) ⊎ ((number (sort v) ≡ true) × (number (sort w) ≡ true))
Allowed false v w = sort v ≡ Null → sort w ≡ Null → ⊥

module _ (t : Tree) (tab : Tables) (m : Model) where
  -- two sides came out equal (true), unequal (false): "An operator .. fails where a part it needs fails"
  abbrev pub Compared : Bool → ℕ → ℕ → Type 0
  Compared b l r = (v w : Value) × (m.expr l ≡ Some v) × (m.expr r ≡ Some w) × Allowed b v w

  -- What the outcome of an operator says of its parts (manual, "Operators"): "An operator or call fails where a part it needs fails or has a sort that
  -- the manual doesn't allow there; but `?` is false of what is no set". Of && that is false, and of || and -> that are true,
  -- nothing is said.
  abbrev pub Outcome : Condition → Bool → Type 0
  Outcome (equal l r) b = Compared b l r
  Outcome (not_equal l r) b = Compared (not b) l r
  Outcome (and l r) true = (m.expr l ≡ Some (bool true)) × (m.expr r ≡ Some (bool true))
  Outcome (and l r) false = Unit {0}
  Outcome (or l r) true = Unit {0}
  Outcome (or l r) false = (m.expr l ≡ Some (bool false)) × (m.expr r ≡ Some (bool false))
  Outcome (implies l r) true = Unit {0}
  Outcome (implies l r) false = (m.expr l ≡ Some (bool true)) × (m.expr r ≡ Some (bool false))
  Outcome (call f a) b = Unit {0}
  Outcome (has_key e k) b = (v : Value) × (m.expr e ≡ Some v) × (holds (text_at t k) v ≡ b)
  Outcome (invert e) b = m.expr e ≡ Some (bool (not b))
  Outcome opaque b = Unit {0}

  -- What a built-in function gives for an argument (manual, "Built-in functions"): isNull and the others need its value and tell its sort; hasAttr with
  -- a key tells what `?` does. Of hasAttr's first argument something is said only where that is a String literal.
  abbrev pub Gives : Builtin → ℕ → Value → Type 0
  Gives (test s) a w = (v : Value) × (m.expr a ≡ Some v) × (w ≡ bool (same_sort (sort v) s))
  Gives has_attr a w = Given (string_literal t a) λ k. w ≡ builtin (has_attr_of (text_at t k))
  Gives (has_attr_of x) a w = (v : Value) × (m.expr a ≡ Some v) × (w ≡ bool (holds x v))

  -- "call fails where a part it needs fails": it needs its function
  abbrev pub Called : Value → ℕ × ℕ → Type 0
  Called w c = (g : Value) × (m.expr c.0 ≡ Some g) × ((β : Builtin) → g ≡ builtin β → Gives β c.1 w)

  -- What holds of an expression e that has a value v.
  pub record Laws (e : ℕ) (v : Value) : Type 0 where
    -- "A Reference has the value of the name or builtin it resolves to"
    pub names : Given (local_name t tab e) λ n. m.name n ≡ Some v
    pub builtins : Given (global_name t tab e) λ x. (β : Builtin) → Names x β → v ≡ builtin β
    -- a literal has its sort (manual, "Values"); "unresolved null, true, false are the keywords"
    pub literals : Given (literal_sort t tab e) λ s. sort v ≡ s
    -- "a selection without default whose last key is a predicate name .. is that builtin or fails"; document 02, order 2: not one from another `builtins`
    pub predicates : Given (chain_key t tab e >>= predicate) λ s. v ≡ builtin (test s)
    -- ".. or hasAttr where the callee lookup takes that by its last key"
    pub has_attrs : Given (builtins_key t tab e) λ x. same x (bytes "hasAttr") ≡ true → v ≡ builtin has_attr
    -- calls, and operators that came out true or false
    pub calls : Given (called (shape t e)) (Called v)
    pub operators : Given (outcome v) (Outcome (shape t e))

  -- "A name that role 4 indexes has the value of its indexed expression; one that role 6 indexes has that value, or what the manual selects from it": of
  -- both only that the name has that value or the expression is a set.
  abbrev pub Indexed : Value → ℕ → Type 0
  Indexed v e = (m.expr e ≡ Some v) ⊎ ((ks : List Text) × (m.expr e ≡ Some (set ks)))

  -- the premises: the laws at each expression that has a value, and at each name that has one
  pub record Agrees : Type 0 where
    pub exprs : (e : ℕ) (v : Value) → m.expr e ≡ Some v → Laws e v
    pub names : (n : ℕ) (v : Value) → m.name n ≡ Some v → Given (tab.index n) (Indexed v)
