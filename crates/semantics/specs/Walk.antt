-- The walk (document 01, "nameres.rs, second half: the walk"): the visits of `NameDependencies::new` in order, and what is read off them.
use Rattle.std.specs.Prelude.{Bool, true, false, cond, List, [], ◌∷◌, ◌++◌, map, ℕ, zero, suc, ◌+◌, ◌*◌, eqb, length, Option, Some, None}
use Rattle.semantics.specs.Codes.{kinds, details, widths, roles}
use Rattle.semantics.specs.Base.{only, pick, final, found, listed, numbered, each, sum, most, ◌>>=◌}
use Rattle.semantics.specs.Tree.{Tree, Item, is_none, expr_at, part}
use Rattle.semantics.specs.Resolution.{Tables}
use Rattle.semantics.specs.Narrow.{Narrowing, local_name, analyze, nodes, call_condition}

-- A guard: a condition, and how it must come out ("if its value is false for an else branch, true for the others").
pub record Guard : Type 0 where
  pub condition : ℕ
  pub outcome : Bool

-- A visit: the expression, the binding around it, whether it is that binding's own expression, the way down as owners with the number of the item
-- entered, and the narrowings in force.
pub record Visit : Type 0 where
  pub expr : ℕ
  pub binding : Option ℕ
  pub opens : Bool
  pub way : List (ℕ × ℕ)
  pub in_force : List Narrowing

-- "Its guards are read off the tree: the conditions of each IfThenElse whose branch that visit's way down enters, each Assert whose body it enters, and
-- each call recognised by `detect_conditional_fn` whose last argument it enters." Of an owner of a kind with its first part, at its item k:
unfoldable pub guard_for : Tree → Tables → ℕ → ℕ → ℕ → Option Guard
guard_for t tab kind part₀ k =
    pick kind
    ((kinds.IfThenElse, pick k ((1, Some (record { condition = part₀; outcome = true })) ∷ (2, Some (record { condition = part₀; outcome = false })) ∷ []) None)
    ∷ (kinds.Assert, pick k ((1, Some (record { condition = part₀; outcome = true })) ∷ []) None)
    ∷ (kinds.Apply, pick k ((1, call_condition t tab part₀ >>= λ c. Some (record { condition = c; outcome = true })) ∷ []) None)
    ∷ [])
    None

-- the guard of an owner at its item k
unfoldable pub guard_at : Tree → Tables → ℕ → ℕ → Option Guard
guard_at t tab owner k = guard_for t tab (expr_at t owner).kind (part t owner 0) k

-- the guards on a visit's way down
unfoldable pub guards : Tree → Tables → Visit → List Guard
guards t tab v = each (λ w. listed (guard_at t tab w.0 w.1)) v.way

-- One step down from an expression: the one entered, the number of the item that leads there, the binding around it, whether it is that binding's own
-- expression, and the narrowings that are added.
pub record Step : Type 0 where
  pub expr : ℕ
  pub item : ℕ
  pub binding : Option ℕ
  pub opens : Bool
  pub adds : List Narrowing

-- a step that keeps to a binding
unfoldable pub into : Option ℕ → ℕ → ℕ → List Narrowing → Step
into b k e ns = record { expr = e; item = k; binding = b; opens = false; adds = ns }

-- `walk_child_exprs`: the step into an item, if it has an expression
unfoldable pub any_item : Option ℕ → ℕ × Item → List Step
any_item b i = cond (is_none i.1.expression) [] (into b i.0 i.1.expression [] ∷ [])

-- `name_to_expr.insert(name, expr)`: the step into a binding's own expression
unfoldable pub own_item : ℕ × Item → List Step
own_item i = record { expr = i.1.expression; item = i.0; binding = Some i.1.name; opens = true; adds = [] } ∷ []

-- `traverse_bindings`: "let and rec skip role 7 but enter role 6. In let and rec, dynamic parts have no binding"; the body keeps the binding around it
unfoldable pub let_item : Option ℕ → ℕ × Item → List Step
let_item b i =
    pick i.1.role
    ((roles.StaticExpr, own_item i)
    ∷ (roles.Inherit, own_item i)
    ∷ (roles.InheritFrom, own_item i)
    ∷ (roles.InheritBase, [])
    ∷ (roles.DynamicKey, any_item None i)
    ∷ (roles.DynamicValue, any_item None i)
    ∷ [])
    (any_item b i)

-- "a non-rec set skips role 6 and all its other parts keep the binding around it"
unfoldable pub set_item : Option ℕ → ℕ × Item → List Step
set_item b i = pick i.1.role ((roles.InheritFrom, []) ∷ []) (any_item b i)

-- the binding whose own expression a visit is
unfoldable pub opened : Visit → Option ℕ
opened v = v.binding >>= only v.opens

-- the condition that is analysed when an expression is visited
unfoldable pub condition_at : Tree → Tables → ℕ → Option ℕ
condition_at t tab e =
    pick (expr_at t e).kind
    ((kinds.Apply, call_condition t tab (part t e 0)) ∷ (kinds.IfThenElse, Some (part t e 0)) ∷ (kinds.Assert, Some (part t e 0)) ∷ [])
    None

module _ (t : Tree) (tab : Tables) where
  -- `traverse_expr`: the steps down from an expression, in order. The condition comes first; what it tells is added where its branch is entered.
  unfoldable pub steps : ℕ → Option ℕ → List Step
  steps e b =
      pick (expr_at t e).kind
      ((kinds.Apply, into b 0 p₀ [] ∷ into b 1 p₁ (found (call_condition t tab p₀ >>= λ c. Some (analyze t tab true c))) ∷ [])
      ∷ (kinds.IfThenElse, into b 0 p₀ [] ∷ into b 1 p₁ (analyze t tab true p₀) ∷ into b 2 p₂ (analyze t tab false p₀) ∷ [])
      ∷ (kinds.Assert, into b 0 p₀ [] ∷ into b 1 p₁ (analyze t tab true p₀) ∷ [])
      ∷ (kinds.LetIn, each (let_item b) items)
      ∷ (kinds.AttrSet, each (cond (eqb (expr_at t e).detail details.Rec) (let_item b) (set_item b)) items)
      ∷ [])
      (each (any_item b) items)
    where
      p₀ : ℕ
      p₀ = part t e 0

      p₁ : ℕ
      p₁ = part t e 1

      p₂ : ℕ
      p₂ = part t e 2

      items : List (ℕ × Item)
      items = numbered 0 (expr_at t e).items

  -- the visits that a step leads to, at most so many deep, with the way down to it and the narrowings in force around it
  unfoldable pub visits : ℕ → Step → List (ℕ × ℕ) → List Narrowing → List Visit
  visits zero s way ns = []
  visits (suc depth) s way ns =
      record { expr = s.expr; binding = s.binding; opens = s.opens; way = way; in_force = ns }
      ∷ each (λ d. visits depth d (way ++ (s.expr, d.item) ∷ []) (ns ++ d.adds)) (steps s.expr s.binding)

  -- the same run to its end: no way down from an expression is longer than its number
  unfoldable pub visits_from : Step → List (ℕ × ℕ) → List Narrowing → List Visit
  visits_from s way ns = visits (suc s.expr) s way ns

  -- `NameDependencies::new`: from the entry, with no binding and nothing in force
  unfoldable pub walk : List Visit
  walk = visits_from (into None 0 t.entry []) [] []

  -- "edges, 32 (from 14, to 14": from the binding around a Reference to the name that it resolves to
  unfoldable pub edges : List (ℕ × ℕ)
  edges = each (λ v. listed (v.binding >>= λ from. local_name t tab v.expr >>= λ to. Some (from, to))) walk

  -- "recorded narrowings, 64 (binding 14, zero 18, record 32)": those in force at a binding
  unfoldable pub recorded : List (ℕ × Narrowing)
  recorded = each (λ v. each (λ n. map (λ r. (n, r)) v.in_force) (listed (opened v))) walk

  -- "per name 2 bytes, its expression or 16383, last visit winning"
  unfoldable pub name_expr : ℕ → Option ℕ
  name_expr n = final (λ b. eqb b.0 n) bound >>= λ b. Some b.1
    where
      bound : List (ℕ × ℕ)
      bound = each (λ v. listed (opened v >>= λ m. Some (m, v.expr))) walk

  -- "A step is one `traverse_expr` or one analysed node."
  unfoldable pub walk_steps : ℕ
  walk_steps = sum (map (λ v. 1 + sum (map (nodes t) (listed (condition_at t tab v.expr)))) walk)

  -- "Working need: 4 bytes for each narrowing in force at the point that has most."
  unfoldable pub most_in_force : ℕ
  most_in_force = most (map (λ v. length v.in_force) walk)

  unfoldable pub walk_need : ℕ
  walk_need = widths.narrowing * most_in_force
