-- What the analysis keeps, and what its functions promise each other.
use Rattle.std.specs.Prelude.{ℕ, ◌+◌, ◌-◌, ◌*◌, ◌≤◌, ◌<◌, ◌^◌, ◌≡◌, Bool, true, false, not, cond, eqb, List, [], ◌∷◌, ◌++◌, map, length, Option, Some, None}
use Rattle.narrow_texts.specs.declared.words.NarrowPredicate.{NarrowPredicate}
use Rattle.semantics.specs.Codes.{kinds, bits}
use Rattle.semantics.specs.Base.{sum}
use Rattle.semantics.specs.Tree.{Tree, expr_at, part}
use Rattle.semantics.specs.Resolution.{Tables}
use Rattle.semantics.specs.Narrow.{and, or, implies, invert, shape, analysed, nodes, analyze}
use Rattle.image_fields.specs.Image.{expr_count}
use Rattle.image.specs.Inside.Accepted.{Accepted}
use Rattle.lent.specs.Inside.Stores.{word, store32}
use Rattle.given.specs.Bindings.{bindings_fit}
use Rattle.given.specs.Resolutions.{resolutions_fit}
use Rattle.narrow_texts.specs.Inside.Predicates.{sort_and_value}
use Rattle.narrow_leaf.specs.declared.told.NarrowInfo.{NarrowInfo}
use Rattle.narrow_run.specs.declared.Progress.{Progress}
use Rattle.narrow_run.specs.declared.Takes.{Takes}
use Rattle.narrow_run.specs.declared.Takes.TheVariants.{ForTrue, ForFalse, Neither}
use Rattle.narrow_run.specs.declared.Connective.{Connective}
use Rattle.narrow_run.specs.declared.Connective.TheVariants.{Leaf, Not, And, Or, Implication}
use Rattle.narrow_leaf.specs.Inside.Told.{record_number, said}

-- how far the run is, with both lists
pub record Sheet : Type 0 where
  pub at : Progress
  pub then_list : List ℕ
  pub else_list : List ℕ

abbrev pub sheet : Progress → List ℕ → List ℕ → Sheet
sheet p a b = record { at = p; then_list = a; else_list = b }

-- which of a node's lists a list takes: the one for true, the one for false or none
unfoldable pub outcome : Takes → Option Bool
outcome ForTrue = Some true
outcome ForFalse = Some false
outcome Neither = None

-- the same of a number: 1 the one for true, 2 the one for false, any other none
unfoldable pub takes_numbered : ℕ → Takes
takes_numbered n = cond (eqb n 1) ForTrue (cond (eqb n 2) ForFalse Neither)

unfoldable pub takes : {A : Type 0} → Option Bool → (Bool → List A) → List A
takes None f = []
takes (Some b) f = f b

-- which it takes of a part of the node: `!` exchanges them
unfoldable pub flipped : Option Bool → Option Bool
flipped None = None
flipped (Some b) = Some (not b)

-- && leaves the one for true alone, || the one for false alone
unfoldable pub where_true : Option Bool → Option Bool
where_true None = None
where_true (Some true) = Some true
where_true (Some false) = None

unfoldable pub where_false : Option Bool → Option Bool
where_false None = None
where_false (Some true) = None
where_false (Some false) = Some false

-- of part k of a node, by its connective: of the left part of -> the one for true where of itself it takes the one for false
unfoldable pub sent : Connective → ℕ → Option Bool → Option Bool
sent And k o = where_true o
sent Or k o = where_false o
sent Implication k o = cond (eqb k 0) (flipped (where_false o)) (where_false o)
sent Leaf k o = None
sent Not k o = None

-- what it takes of what a node tells
unfoldable pub chosen : Option Bool → NarrowInfo → Option NarrowPredicate
chosen None r = None
chosen (Some true) r = r.then_branch
chosen (Some false) r = r.else_branch

-- what a record says of its name, as a number: "sort 4, value 14"
abbrev pub as_number : ℕ × ℕ → ℕ
as_number p = p.0 * 2 ^ bits.number + p.1

unfoldable pub says_of : Option NarrowPredicate → Option ℕ
says_of None = None
says_of (Some p) = Some (as_number (sort_and_value p))

-- its value has 14 bits
abbrev pub Few : Option NarrowPredicate → Type 0
Few None = Unit {0}
Few (Some p) = (sort_and_value p).1 < 2 ^ bits.number

-- the connective of a node, that of a leaf where no part of it is analysed
unfoldable pub Connects : Tree → ℕ → Connective → Type 0
Connects t c Leaf = analysed (shape t c) ≡ []
Connects t c Not = ((expr_at t c).kind ≡ kinds.UnaryOp) × (shape t c ≡ invert (part t c 0))
Connects t c And = ((expr_at t c).kind ≡ kinds.BinOp) × (shape t c ≡ and (part t c 0) (part t c 1))
Connects t c Or = ((expr_at t c).kind ≡ kinds.BinOp) × (shape t c ≡ or (part t c 0) (part t c 1))
Connects t c Implication = ((expr_at t c).kind ≡ kinds.BinOp) × (shape t c ≡ implies (part t c 0) (part t c 1))

-- where this is true neither list takes one
pub record TakeNone (p q : Option Bool) (r : Bool) : Type 0 where
  pub thens : r ≡ true → p ≡ None
  pub elses : r ≡ true → q ≡ None

-- two parts are analysed
pub record Joins (t : Tree) (c : ℕ) : Type 0 where
  pub kind : (expr_at t c).kind ≡ kinds.BinOp
  pub both : analysed (shape t c) ≡ part t c 0 ∷ part t c 1 ∷ []

-- numbers of 32 bits stored from the one with number k on, each where there is room
unfoldable pub stored : List ℕ → ℕ → List ℕ → List ℕ
stored [] k l = l
stored (x ∷ xs) k l = stored xs (k + 1) (store32 l (word * k) x)

-- a list that has these records more
pub record Fed (xs : List ℕ) (count after : ℕ) (before now : List ℕ) : Type 0 where
  pub number : after ≡ count + length xs
  pub value : now ≡ stored xs count before

-- what n nodes leave: 0 is left where they exceed the budget, and if they do not, both lists have their records
pub record Ran (n : ℕ) (us vs : List ℕ) (x y : Sheet) : Type 0 where
  pub count : y.at.left ≡ x.at.left - n
  pub thens-small : y.at.thens + y.at.left ≤ x.at.thens + x.at.left
  pub elses-small : y.at.elses + y.at.left ≤ x.at.elses + x.at.left
  pub thens : 0 < y.at.left → Fed us x.at.thens y.at.thens x.then_list y.then_list
  pub elses : 0 < y.at.left → Fed vs x.at.elses y.at.elses x.else_list y.else_list

-- what a node without parts that are analysed leaves that tells this, after its step
pub record LeafRan (r : NarrowInfo) (p q : Option Bool) (x y : Sheet) : Type 0 where
  pub left : y.at.left ≡ x.at.left
  pub thens : Fed (said r.name (chosen p r)) x.at.thens y.at.thens x.then_list y.then_list
  pub elses : Fed (said r.name (chosen q r)) x.at.elses y.at.elses x.else_list y.else_list

-- the bounds of what a node tells
pub record Bounded (r : NarrowInfo) : Type 0 where
  pub name : r.name < 2 ^ 14
  pub holds : Few r.then_branch
  pub fails : Few r.else_branch

-- the nodes below a node
unfoldable pub part_nodes : Tree → ℕ → ℕ
part_nodes t c = sum (map (nodes t) (analysed (shape t c)))

-- the records of a condition as numbers
unfoldable pub codes : Tree → Tables → ℕ → Bool → List ℕ
codes t tab c b = map record_number (analyze t tab b c)

-- those of parts, from the k-th on one after the other, of the list that is taken of each
unfoldable pub codes_of : Tree → Tables → (ℕ → Option Bool) → ℕ → List ℕ → List ℕ
codes_of t tab from k [] = []
codes_of t tab from k (p ∷ ps) = takes (from k) (codes t tab p) ++ codes_of t tab from (k + 1) ps

-- of all parts of c
unfoldable pub part_codes : Tree → Tables → ℕ → Connective → Option Bool → List ℕ
part_codes t tab c connective o = codes_of t tab (λ k. sent connective k o) 0 (analysed (shape t c))

-- what the analysis of c asks
pub record Ready (s resolutions bindings : List ℕ) (c : ℕ) (at : Progress) : Type 0 where
  pub accepted : Accepted s
  pub resolved : resolutions_fit s resolutions ≡ true
  pub bound : bindings_fit s bindings ≡ true
  pub inside : c < expr_count s
  pub going : 0 < at.left
  pub thens-few : at.thens + at.left ≤ 2 ^ 32
  pub elses-few : at.elses + at.left ≤ 2 ^ 32
