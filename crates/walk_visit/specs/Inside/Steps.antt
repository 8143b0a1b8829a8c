-- How the walk enters the items of an expression, in the terms of the code.
use Rattle.std.specs.Prelude.{ℕ, Bool, true, false, not, cond, ◌&&◌, ◌||◌, List, [], ◌∷◌, map, eqb, leb, Option, Some, None}
use Rattle.semantics.specs.Codes.{none_number, kinds, details, roles}
use Rattle.semantics.specs.Base.{pick, sum, listed, each}
use Rattle.semantics.specs.Tree.{Tree, Item, is_none, expr_at, item_at}
use Rattle.semantics.specs.Resolution.{Tables}
use Rattle.semantics.specs.Narrow.{Narrowing, nodes, analyze}
use Rattle.semantics.specs.Walk.{Step, condition_at}
use Rattle.narrow_texts.specs.Inside.Numbers.{numbered}
use Rattle.narrow_run.specs.Inside.Run.{takes}
use Rattle.walk_visit.specs.declared.Rule.{Rule}
use Rattle.walk_visit.specs.declared.Rule.TheVariants.{Others, Bindings, Set, Guarded}

-- what is applied: an Apply of a Reference or of a Select, as a recognised function is one of
abbrev pub callee : Tree → ℕ → ℕ
callee t f = (expr_at t (item_at t f 0).expression).kind

unfoldable pub calling : Tree → ℕ → Bool
calling t f = eqb (expr_at t f).kind kinds.Apply && (eqb (callee t f) kinds.Reference || eqb (callee t f) kinds.Select)

-- e may have a condition
unfoldable pub guarded : Tree → ℕ → Bool
guarded t e = pick (expr_at t e).kind ((kinds.Apply, calling t (item_at t e 0).expression) ∷ (kinds.IfThenElse, true) ∷ (kinds.Assert, true) ∷ []) false

-- the rule that its items are entered by: the bindings of a let or of a rec set, those of another set, the parts of what may have a condition, others
unfoldable pub guard_rule : Bool → Rule
guard_rule false = Others
guard_rule true = Guarded

unfoldable pub rule_of : Tree → ℕ → Rule
rule_of t e =
    pick (expr_at t e).kind
    ((kinds.LetIn, Bindings) ∷ (kinds.AttrSet, cond (eqb (expr_at t e).detail details.Rec) Bindings Set) ∷ [])
    (guard_rule (guarded t e))

-- the rule with this number: 1 to 3, and others by any other
unfoldable pub rule_numbered : ℕ → Rule
rule_numbered n = cond (eqb n 1) Bindings (cond (eqb n 2) Set (cond (eqb n 3) Guarded Others))

-- an item in this role is entered
unfoldable pub role_enters : Rule → ℕ → Bool
role_enters Bindings role = not (eqb role roles.InheritBase)
role_enters Set role = not (eqb role roles.InheritFrom)
role_enters Others role = true
role_enters Guarded role = true

unfoldable pub enters_item : Rule → Item → Bool
enters_item rule i = not (is_none i.expression) && role_enters rule i.role

-- .. as the own expression of a binding
unfoldable pub opens_at : Rule → ℕ → Bool
opens_at Bindings role = leb roles.StaticExpr role && leb role roles.InheritFrom
opens_at Set role = false
opens_at Others role = false
opens_at Guarded role = false

-- .. without a binding
unfoldable pub bare_at : Rule → ℕ → Bool
bare_at Bindings role = eqb role roles.DynamicKey || eqb role roles.DynamicValue
bare_at Set role = false
bare_at Others role = false
bare_at Guarded role = false

-- the binding inside an item, by its number
unfoldable pub binding_in : Rule → ℕ → Item → ℕ
binding_in rule binding i = cond (opens_at rule i.role) i.name (cond (bare_at rule i.role) none_number binding)

-- which of a condition's lists an item of its owner takes: item 1 the one for true, item 2 the one for false
abbrev pub item_true : ℕ
item_true = 1

abbrev pub item_false : ℕ
item_false = 2

unfoldable pub outcome_at : ℕ → Option Bool
outcome_at k = pick k ((item_true, Some true) ∷ (item_false, Some false) ∷ []) None

-- the nodes of the condition of an expression
unfoldable pub nodes_at : Tree → Tables → ℕ → ℕ
nodes_at t tab e = sum (map (nodes t) (listed (condition_at t tab e)))

-- .. are steps where the item is entered that takes its list for true, which every condition's owner has
unfoldable pub counted_at : Tree → Tables → ℕ → ℕ → ℕ
counted_at t tab e k = pick k ((item_true, nodes_at t tab e) ∷ []) 0

module _ (t : Tree) (tab : Tables) (e : ℕ) where
  -- what is added where item k is entered
  unfoldable pub adds_at : ℕ → List Narrowing
  adds_at k = each (λ c. takes (outcome_at k) (λ b. analyze t tab b c)) (listed (condition_at t tab e))

  -- the step into an item
  unfoldable pub step_at : ℕ → ℕ × Item → List Step
  step_at binding i =
      cond (enters_item (rule_of t e) i.1)
      (record {
        expr = i.1.expression;
        item = i.0;
        binding = numbered (binding_in (rule_of t e) binding i.1);
        opens = opens_at (rule_of t e) i.1.role;
        adds = adds_at i.0;
      }
      ∷ [])
      []
