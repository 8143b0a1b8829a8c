-- Conditions (document 01, "narrow.rs: conditions"): what `analyze_condition` tells of names, for each way that a condition can come out.
use Rattle.std.specs.Prelude.{◌≡◌, Bool, true, false, not, cond, ◌&&◌, ◌||◌, List, [], ◌∷◌, ◌++◌, map, ℕ, zero, suc, ◌+◌, get_or, Option, Some, None}
use Rattle.semantics.specs.Codes.{kinds, details, sorts, types}
use Rattle.semantics.specs.Base.{only, pick, or_else, listed, found, single, sum, ◌>>=◌, ◌∈◌}
use Rattle.semantics.specs.Tree.{Text, Tree, bytes, same, expr_at, text_at, is_kind, part, path, reference, string, apply, select, last_key}
use Rattle.semantics.specs.Words.{globals, Sort, Null, Bool', Int, Float, String, Path, List', Set, Function, same_sort, number, entry, predicate}
use Rattle.semantics.specs.Words.{ConditionalFn, conditional_fn_names}
use Rattle.semantics.specs.Resolution.{Tables, Resolution, unresolved, definition, builtin, within}

-- What a value is tested for: its sort, that it is an integer or a float, or that it is a set that holds a key, given by the number of the key's text.
pub data Test : Type 0 where
  is : Sort → Test
  numeric : Test
  has : ℕ → Test

-- `NarrowBinding`: the value of a name passes a test, or does not.
pub record Narrowing : Type 0 where
  pub name : ℕ
  pub test : Test
  pub passes : Bool

-- "sort 4 (..), value 14 (type ..; or the key's text; else 0)", document 02, order 5: "sort 7, IsNumber .., value 0". Of the last four sorts the analysis
-- makes only those that pass (`AllTellable`).
unfoldable pub predicate_of : Test → Bool → ℕ × ℕ
predicate_of (is Null) b = (cond b sorts.IsType sorts.IsNotType, types.Null)
predicate_of (is Bool') b = (cond b sorts.IsType sorts.IsNotType, types.Bool)
predicate_of (is Int) b = (cond b sorts.IsType sorts.IsNotType, types.Int)
predicate_of (is Float) b = (cond b sorts.IsType sorts.IsNotType, types.Float)
predicate_of (is String) b = (cond b sorts.IsType sorts.IsNotType, types.String)
predicate_of (is Path) b = (cond b sorts.IsType sorts.IsNotType, types.Path)
predicate_of (is Set) b = (sorts.IsAttrSet, 0)
predicate_of (is List') b = (sorts.IsList, 0)
predicate_of (is Function) b = (sorts.IsFunction, 0)
predicate_of numeric b = (sorts.IsNumber, 0)
predicate_of (has k) b = (cond b sorts.HasField sorts.NotHasField, k)

-- "Record, 32: name 14, sort 4, value 14"
unfoldable pub coded : Narrowing → ℕ × ℕ × ℕ
coded r = (r.name, (predicate_of r.test r.passes).0, (predicate_of r.test r.passes).1)

-- The shapes of a condition that `analyze_condition` tells apart.
pub data Condition : Type 0 where
  equal not_equal and or implies call : ℕ → ℕ → Condition
  has_key : ℕ → ℕ → Condition
  invert : ℕ → Condition
  opaque : Condition

-- `Expr::HasAttr` with `single_static_attrpath_key`: the set and the key's text
unfoldable pub keyed : ℕ → Option ℕ → Condition
keyed e None = opaque
keyed e (Some k) = has_key e k

-- an expression as a condition
unfoldable pub shape : Tree → ℕ → Condition
shape t c =
    pick (expr_at t c).kind
    ((kinds.Apply, call l r)
    ∷ (
      kinds.BinOp,
      pick d ((details.NotEqual, not_equal l r) ∷ (details.Equal, equal l r) ∷ (details.And, and l r)
          ∷ (details.Implication, implies l r) ∷ (details.Or, or l r) ∷ []) opaque,
    )
    ∷ (kinds.UnaryOp, pick d ((details.Invert, invert l) ∷ []) opaque)
    ∷ (kinds.HasAttr, keyed l (single (path t c) >>= string t))
    ∷ [])
    opaque
  where
    l : ℕ
    l = part t c 0

    r : ℕ
    r = part t c 1

    d : ℕ
    d = (expr_at t c).detail

-- "found by recursion on !, && and ||", order 7: "Both sides are analysed and counted" of ->. The parts of a condition that are analysed too
unfoldable pub analysed : Condition → List ℕ
analysed (equal l r) = []
analysed (not_equal l r) = []
analysed (and l r) = l ∷ r ∷ []
analysed (or l r) = l ∷ r ∷ []
analysed (implies l r) = l ∷ r ∷ []
analysed (call f a) = []
analysed (has_key e k) = []
analysed (invert e) = e ∷ []
analysed opaque = []

-- "A step is one analysed node": how many there are, at most so many deep
unfoldable pub nodes_in : Tree → ℕ → ℕ → ℕ
nodes_in t zero c = 0
nodes_in t (suc depth) c = 1 + sum (map (nodes_in t depth) (analysed (shape t c)))

-- the same run to its end
unfoldable pub nodes : Tree → ℕ → ℕ
nodes t c = nodes_in t (suc c) c

-- `ResolveResult::Definition(name)`
unfoldable pub name_of : Resolution → Option ℕ
name_of unresolved = None
name_of (definition n) = Some n
name_of (builtin p) = None
name_of (within w) = None

-- `ResolveResult::Builtin(text)`
unfoldable pub global_of : Resolution → Option Text
global_of unresolved = None
global_of (definition n) = None
global_of (builtin p) = Some (get_or globals p [])
global_of (within w) = None

-- `name_res.get(expr)` is `None`
unfoldable pub nothing : Resolution → Bool
nothing unresolved = true
nothing (definition n) = false
nothing (builtin p) = false
nothing (within w) = false

-- `is_singleton`: "the only singleton primitive where `x == null` being false guarantees x isn't null"
unfoldable pub singleton : Sort → Bool
singleton s = same_sort s Null

-- order 5: "A comparison with an integer or float literal gives sort 7, IsNumber (true of an integer or a float)"; with another literal its sort
unfoldable pub literal_test : Sort → Test
literal_test s = cond (number s) numeric (is s)

-- what a literal of a sort tells of a name found equal to it (true), found unequal to it (false): "x == null: IsType Null; IsNotType Null", order 5: "in
-- the equal branch; the other stays empty"
unfoldable pub literal_tells : Bool → Sort → Option Test
literal_tells true s = Some (literal_test s)
literal_tells false s = only (singleton s) (is s)

-- `COMPOUND_PREDICATES`: "Only the then-branch gets narrowing"
unfoldable pub compound : Sort → Bool
compound s = same_sort s Set || same_sort s List' || same_sort s Function

-- what a test tells of a name that passed it (true), that failed it (false)
unfoldable pub test_tells : Bool → Test → Option Test
test_tells true p = Some p
test_tells false (is s) = only (not (compound s)) (is s)
test_tells false numeric = None
test_tells false (has k) = Some (has k)

-- the narrowing of a name by what was told, if anything was
unfoldable pub narrowing : Bool → ℕ → Option Test → List Narrowing
narrowing b n told = listed (told >>= λ p. Some (record { name = n; test = p; passes = b }))

-- "Alias tracing reads depths 0 to 3.": so many depths (`MAX_ALIAS_TRACE_DEPTH` + 1)
abbrev pub alias_depths : ℕ
alias_depths = 4

module _ (t : Tree) (tab : Tables) where
  -- `expr_as_local_name`: the name that a Reference resolves to
  unfoldable pub local_name : ℕ → Option ℕ
  local_name e = reference t e >>= λ x. name_of (tab.resolution e)

  -- `Some(ResolveResult::Builtin(b)) if *b == name`: the text of a Reference that resolves to the builtin of that text
  unfoldable pub global_name : ℕ → Option Text
  global_name e = do
    x ← reference t e
    g ← global_of (tab.resolution e)
    only (same g (text_at t x)) g

  -- `is_builtins_ref`, order 2: "that reference resolves to the global builtin", a Reference spelt `builtins` with tag 2 and place 2
  unfoldable pub builtin_set : ℕ → Bool
  builtin_set e = elim (global_name e) [ None ↦ false | Some g ↦ same g (bytes "builtins") ]

  -- "a reference of that text not so resolved"
  unfoldable pub another_set : ℕ → Bool
  another_set e = elim (reference t e) [ None ↦ false | Some x ↦ same (text_at t x) (bytes "builtins") && not (builtin_set e) ]

  -- the key of a selection of one key, without default, from the builtin set
  unfoldable pub builtins_key : ℕ → Option Text
  builtins_key e = do
    s ← select t e
    k ← only (builtin_set s.0) s.1 >>= single
    x ← string t k
    Some (text_at t x)

  -- the last key, where it counts: "skips selections whose set is a reference of that text not so resolved"
  unfoldable pub chain_key : ℕ → Option Text
  chain_key e = only (not (another_set (part t e 0))) e >>= last_key t

  -- `is_keyword`: the text of a Reference that is unresolved, or the builtin of that text
  unfoldable pub keyword : ℕ → Option Text
  keyword e = or_else (global_name e) (reference t e >>= λ x. only (nothing (tab.resolution e)) (text_at t x))

  -- `expr_literal_primitive`: the sort of a Literal (a Uri has none), or of null, true, false
  unfoldable pub literal_sort : ℕ → Option Sort
  literal_sort e =
      or_else (only (is_kind t kinds.Literal e) (expr_at t e).detail
      >>= λ d. pick d ((details.Float, Some Float) ∷ (details.Integer, Some Int) ∷ (details.String, Some String) ∷ (details.Path, Some Path) ∷ []) None)
      (keyword e >>= λ x. entry x ((bytes "null", Null) ∷ (bytes "true", Bool') ∷ (bytes "false", Bool') ∷ []))

  -- `builtin_callee_name`, with so many depths left: a builtin, an alias spelt as the builtin that it leads to, or a key of the builtin set
  unfoldable pub callee_in : ℕ → ℕ → Option Text
  callee_in zero e = None
  callee_in (suc depths) e =
      or_else (global_name e)
      (or_else (do
        n ← local_name e
        d ← tab.index n
        g ← callee_in depths d
        x ← reference t e
        only (same g (text_at t x)) g)
      (builtins_key e))

  -- `builtin_callee_name` from depth 0
  unfoldable pub callee_name : ℕ → Option Text
  callee_name e = callee_in alias_depths e

  -- `try_hasattr_builtin_call`: the key's text of `hasAttr "key"`
  unfoldable pub has_attr_call : ℕ → Option ℕ
  has_attr_call f = do
    c ← apply t f
    x ← callee_name c.0
    only (same x (bytes "hasAttr")) c.1 >>= string t

  -- what a function tests its argument for: a predicate by the callee lookup, `hasAttr "key"`, or a predicate by the last key
  -- (`try_select_chain_predicate`: "any chain counts by its last key")
  unfoldable pub tests : ℕ → Option Test
  tests f =
      or_else (callee_name f >>= predicate >>= λ s. Some (is s))
      (or_else (has_attr_call f >>= λ k. Some (has k))
      (chain_key f >>= predicate >>= λ s. Some (is s)))

  -- `try_literal_comparison`: the name on the one side, the literal's sort on the other
  unfoldable pub literal_comparison : ℕ → ℕ → Option (ℕ × Sort)
  literal_comparison x y = do
    s ← literal_sort y
    n ← local_name x
    Some (n, s)

  -- what two sides tell that came out equal (true), unequal (false): "Try both orientations"
  unfoldable pub compared : Bool → ℕ → ℕ → List Narrowing
  compared b l r =
      found (or_else (literal_comparison l r) (literal_comparison r l) >>= λ p. Some (narrowing b p.0 (literal_tells b p.1)))

  -- one node of the analysis over the lists of its parts: a list is for an outcome, the then list for true, the else list for false; `!` takes the
  -- other. "Left records precede right; repeats stay." && has no else list, || no then list; of ->
  -- "its else list is a's then list followed by b's else list, and its then list is empty".
  unfoldable pub node : (Bool → ℕ → List Narrowing) → Bool → Condition → List Narrowing
  node below b (equal l r) = compared b l r
  node below b (not_equal l r) = compared (not b) l r
  node below true (and l r) = below true l ++ below true r
  node below false (and l r) = []
  node below true (or l r) = []
  node below false (or l r) = below false l ++ below false r
  node below true (implies l r) = []
  node below false (implies l r) = below true l ++ below false r
  node below b (call f a) = found (local_name a >>= λ n. tests f >>= λ p. Some (narrowing b n (test_tells b p)))
  node below b (has_key e k) = found (local_name e >>= λ n. Some (narrowing b n (test_tells b (has k))))
  node below b (invert e) = below (not b) e
  node below b opaque = []

  -- `analyze_condition`, at most so many deep
  unfoldable pub analyze_in : ℕ → Bool → ℕ → List Narrowing
  analyze_in zero b c = []
  analyze_in (suc depth) b c = node (analyze_in depth) b (shape t c)

  -- `analyze_condition`: the then list (true) and the else list (false) of a condition
  unfoldable pub analyze : Bool → ℕ → List Narrowing
  analyze b c = analyze_in (suc c) b c

  -- `detect_conditional_fn`: by the last key of a selection without default, or by a Reference's text
  unfoldable pub conditional_fn : ℕ → Option ConditionalFn
  conditional_fn e = or_else (chain_key e) (reference t e >>= λ x. Some (text_at t x)) >>= λ x. entry x conditional_fn_names

  -- `detect_conditional_apply_narrowing`: the condition of a recognised call, from what is applied to its last argument
  unfoldable pub call_condition : ℕ → Option ℕ
  call_condition f = apply t f >>= λ c. conditional_fn c.0 >>= λ h. Some c.1

-- What a narrowing of the analysis says, its test can tell: none says that a value is no set, no list, no function or no number
-- (proofs/NarrowLaws.antt).
abbrev pub Tellable : Narrowing → Type 0
Tellable r = test_tells r.passes r.test ≡ Some r.test

-- each narrowing of a list is such
abbrev pub AllTellable : Type 0
AllTellable = (t : Tree) (tab : Tables) (b : Bool) (c : ℕ) (r : Narrowing) → r ∈ analyze t tab b c → Tellable r

-- The builtin set in numbers: a Reference spelt `builtins` is it exactly where its entry has tag 2 and place 2 (proofs/ResolutionLaws.antt).
abbrev pub BuiltinSetPlaced : Type 0
BuiltinSetPlaced =
    (t : Tree) (tab : Tables) (e x : ℕ) → reference t e ≡ Some x → same (text_at t x) (bytes "builtins") ≡ true →
    (builtin_set t tab e ≡ true → tab.resolution e ≡ builtin 2) × (tab.resolution e ≡ builtin 2 → builtin_set t tab e ≡ true)
