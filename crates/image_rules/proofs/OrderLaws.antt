-- The tables of order.rt: each entry is what the rules say of its state and role, by tests that the checker computes.
use Rattle.std.specs.Prelude.{Option, Some, None}
use mathlib.Core.Path.{◌≡◌, refl, ap, sym, ◌∙◌}
use mathlib.Core.Bool.{Bool, true, false, not, ◌&&◌}
use mathlib.Core.List.{List, [], ◌∷◌}
use Prim.Native.Nat.{ℕ, zero, suc, ◌+◌, ◌*◌, ◌/◌, ◌%◌, ◌^◌, ◌<◌, ◌≤◌}
use native.Mathlib.Omega.{arith}
use lib.Dec.{leb, ltb}
use lib.ListN.{get_or}
use borrow.Author.Tests.{ltb-true}
use Rattle.semantics.specs.Base.{only, pick, all}
use Rattle.semantics.specs.Tree.{same}
use Rattle.image_rules.specs.Rules.{Part, one, perhaps, any, pairs, bindings, order, among, next, complete}
use Rattle.image_rules.specs.Inside.Machine.{states, state_of, started, advance, finished, Row}
use Rattle.semantics.proofs.BaseLaws.{and_left, and_right, all-holds, same-equal}

-- a part as numbers, to compare two
unfoldable pub code_of : Part → List ℕ
code_of (one r) = 0 ∷ r ∷ []
code_of (perhaps r) = 1 ∷ r ∷ []
code_of (any rs) = 2 ∷ rs
code_of (pairs x y) = 3 ∷ x ∷ y ∷ []

part_of : ℕ → List ℕ → Part
part_of k rs = pick k ((0, one (get_or rs 0 0)) ∷ (1, perhaps (get_or rs 0 0)) ∷ (2, any rs) ∷ []) (pairs (get_or rs 0 0) (get_or rs 1 0))

-- the part that a list of numbers stands for
read : List ℕ → Part
read [] = one 0
read (k ∷ rs) = part_of k rs

read_code : (p : Part) → read (code_of p) ≡ p
unfolding read code_of part_of pick
read_code (one r) = refl
read_code (perhaps r) = refl
read_code (any rs) = refl
read_code (pairs x y) = refl

unfoldable pub same_parts : List Part → List Part → Bool
same_parts [] [] = true
same_parts [] (q ∷ qs) = false
same_parts (p ∷ ps) [] = false
same_parts (p ∷ ps) (q ∷ qs) = same (code_of p) (code_of q) && same_parts ps qs

pub same_parts_lem : (ps qs : List Part) → same_parts ps qs ≡ true → ps ≡ qs
unfolding same_parts
same_parts_lem [] [] h = refl
same_parts_lem [] (q ∷ qs) h = cc
same_parts_lem (p ∷ ps) [] h = cc
same_parts_lem (p ∷ ps) (q ∷ qs) h =
    let e : code_of p ≡ code_of q = same-equal _ _ (and_left (same (code_of p) (code_of q)) (same_parts ps qs) h) in
    let d : p ≡ q = sym (read_code p) ∙ ap read e ∙ read_code q in
    let t : ps ≡ qs = same_parts_lem ps qs (and_right (same (code_of p) (code_of q)) (same_parts ps qs) h) in
    cc

unfoldable pub same_state : Option (List Part) → Option (List Part) → Bool
same_state None None = true
same_state None (Some qs) = false
same_state (Some ps) None = false
same_state (Some ps) (Some qs) = same_parts ps qs

same-state : (a b : Option (List Part)) → same_state a b ≡ true → a ≡ b
unfolding same_state
same-state None None h = refl
same-state None (Some qs) h = cc
same-state (Some ps) None h = cc
same-state (Some ps) (Some qs) h = ap Some (same_parts_lem ps qs h)

-- q is a state, and of which
unfoldable pub state_is : Option (List Part) → ℕ → Bool
state_is o q = ltb q 20 && same_state (state_of q) o

state-is : (o : Option (List Part)) (q : ℕ) → state_is o q ≡ true → (state_of q ≡ o) × (q < 20)
unfolding state_is
state-is o q h = (same-state _ _ (and_right (ltb q 20) (same_state (state_of q) o) h), ltb-true _ _ (and_left (ltb q 20) (same_state (state_of q) o) h))

-- a row has the next state of every role; the packed starts have the first state of every kind from `from` on
unfoldable pub row_is : ℕ → ℕ → ℕ → Bool
row_is q row role = state_is (advance (state_of q) role) (row / 2 ^ (5 * role) % 2 ^ 5)

unfoldable pub start_is : ℕ → ℕ → ℕ → Bool
start_is from starts k = state_is (started (from + k)) (starts / 2 ^ (5 * k) % 2 ^ 5)

-- To compute these tests: whoever unfolds this unfolds all that they are made of.
unfoldable pub computed : Unit {0}
unfolding all row_is start_is state_is same_state same_parts code_of same states state_of started advance finished next complete order bindings among only pick
computed = tt

row_is_lem : (q row : ℕ) → all (row_is q row) 11 ≡ true → Row q row
unfolding row_is
row_is_lem q row h =
    record {
      next = λ role l. (state-is _ _ (all-holds (row_is q row) 11 role h (omega arith))).0;
      known = λ role l. (state-is _ _ (all-holds (row_is q row) 11 role h (omega arith))).1;
    }

pub start_is_lem : (from starts n : ℕ) → all (start_is from starts) n ≡ true → (kind k : ℕ) → kind ≡ from + k → k < n → {r : ℕ} → r ≡ starts / 2 ^ (5 * k) % 2 ^ 5
    → (state_of r ≡ started kind) × (r < 20)
unfolding start_is
start_is_lem from starts n h kind k e l g = rw (g, e) (state-is _ _ (all-holds (start_is from starts) n k h l))

-- the states that need nothing more are those from the 13th on
agree : Bool → Bool → Bool
agree true b = b
agree false b = not b

agree_equal : (a b : Bool) → agree a b ≡ true → a ≡ b
unfolding agree
agree_equal true true h = refl
agree_equal true false h = sym h
agree_equal false true h = h
agree_equal false false h = refl

complete_is : ℕ → Bool
complete_is q = agree (leb 13 q) (finished (state_of q))

complete-tested : all complete_is 20 ≡ true
unfolding complete_is agree computed
complete-tested = refl

pub complete-from : (q : ℕ) → q < 20 → leb 13 q ≡ finished (state_of q)
unfolding complete_is
complete-from q h = agree_equal _ _ (all-holds complete_is 20 q complete-tested h)

-- the row of an arm of the code, which knows its state
pub row_of : {k q : ℕ} (row : ℕ) → q ≡ k → all (row_is k row) 11 ≡ true → Row q row
row_of {k} row e h = rw e (row_is_lem k row h)

-- the code's arms name every state: a number that is none of the first n is not below n
abbrev pub NoneOf : ℕ → ℕ → Type 0
NoneOf q zero = Unit {0}
NoneOf q (suc n) = NoneOf q n × (q ≡ n → ⊥)

pub none_of : (q n : ℕ) → NoneOf q n → n ≤ q
none_of q zero h = omega arith
none_of q (suc n) h = let k = h.1 in omega (arith, none_of q n h.0)
