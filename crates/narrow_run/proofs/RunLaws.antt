-- The run over the nodes of a condition, in the terms of the code.
use Rattle.std.specs.Prelude.{Option, Some, None}
use mathlib.Core.Path.{◌≡◌, refl, ap, sym, ◌∙◌}
use mathlib.Core.Logic.{◌⊎◌, inl, inr}
use mathlib.Core.Bool.{Bool, true, false}
use mathlib.Core.List.{List, [], ◌∷◌, ◌++◌, map, map-append, append-nil}
use Prim.Native.Nat.{ℕ, suc, ◌+◌, ◌-◌, ◌*◌, ◌≤◌, ◌<◌}
use native.Mathlib.Omega.{arith}
use native.Mathlib.Decide.{ℕ_discrete}
use lib.ListN.{length, length-append, drop, get_or}
use borrow.Author.Tests.{eqb-true}
use Rattle.semantics.specs.Base.{pick, sum}
use Rattle.semantics.specs.Tree.{Tree, expr_at, item_at, part}
use Rattle.semantics.specs.Resolution.{Tables}
use Rattle.semantics.specs.Narrow.{and, or, implies, equal, not_equal, invert, opaque, keyed, shape, analysed, nodes, node, analyze}
use Rattle.semantics.specs.Order.{arity}
use Rattle.semantics.proofs.BaseLaws.{true≢false, pick_all}
use Rattle.semantics.proofs.OrderLaws.{ordered-runs}
use Rattle.image_fields.specs.Image.{decode}
use Rattle.image.specs.Inside.Accepted.{Accepted}
use Rattle.image_fields.proofs.ImageLaws.{tree-items}
use Rattle.image.proofs.OrderedLaws.{ordered, part-below, part_count}
use Rattle.lent.specs.Inside.Stores.{store32}
use Rattle.narrow_texts.specs.declared.words.PrimitiveTy.{PrimitiveTy}
use Rattle.narrow_texts.specs.declared.words.NarrowPredicate.{NarrowPredicate}
use Rattle.narrow_texts.specs.declared.words.NarrowPredicate.TheVariants.{HasField, NotHasField}
use Rattle.narrow_texts.specs.Inside.Predicates.{type_number, sort_and_value}
use Rattle.narrow_texts.proofs.PredicateLaws.{type_few, sort-few}
use Rattle.narrow_leaf.specs.declared.told.NarrowInfo.{NarrowInfo}
use Rattle.given.specs.Given.{given}
use Rattle.narrow_leaf.specs.Inside.Told.{record_number, said, told}
use denote.Enum.Bare.{sameb}
use Rattle.narrow_run.specs.contracts.Takes.{the_type}
use Rattle.narrow_run.specs.declared.Progress.{Progress}
use Rattle.narrow_run.specs.declared.Takes.{Takes}
use Rattle.narrow_run.specs.declared.Takes.TheVariants.{ForTrue, ForFalse, Neither}
use Rattle.narrow_run.specs.declared.Connective.{Connective}
use Rattle.narrow_run.specs.declared.Connective.TheVariants.{Leaf, Not, And, Or, Implication}
use Rattle.narrow_run.specs.Inside.Run.{Sheet, sheet, outcome, takes, flipped, where_true, where_false, sent, chosen, says_of, Few, Connects, Joins, stored, Fed, Ran, LeafRan, Bounded, part_nodes, codes, codes_of, part_codes, Ready}
use Rattle.narrow_run.proofs.RecordLaws.{leaf-records}

-- `connective`
module _ (t : Tree) (c : ℕ) {kind detail : ℕ} (k : kind ≡ (expr_at t c).kind) (d : detail ≡ (expr_at t c).detail) where
  pub connects_invert : kind ≡ 9 → detail ≡ 0 → Connects t c Not
  unfolding Connects shape pick
  connects_invert h g = (sym k ∙ h, rw (← k, h, ← d, g))

  pub connects_and : kind ≡ 7 → detail ≡ 10 → Connects t c And
  unfolding Connects shape pick
  connects_and h g = (sym k ∙ h, rw (← k, h, ← d, g))

  pub connects_or : kind ≡ 7 → detail ≡ 12 → Connects t c Or
  unfolding Connects shape pick
  connects_or h g = (sym k ∙ h, rw (← k, h, ← d, g))

  pub connects_arrow : kind ≡ 7 → detail ≡ 11 → Connects t c Implication
  unfolding Connects shape pick
  connects_arrow h g = (sym k ∙ h, rw (← k, h, ← d, g))

  shape_nine : kind ≡ 9 → shape t c ≡ pick (expr_at t c).detail ((0, invert (part t c 0)) ∷ []) opaque
  unfolding shape pick
  shape_nine h = rw (← k, h)

  shape_seven : kind ≡ 7 → shape t c ≡ pick (expr_at t c).detail ((8, not_equal (part t c 0) (part t c 1)) ∷ (9, equal (part t c 0) (part t c 1)) ∷ (10, and (part t c 0) (part t c 1)) ∷ (11, implies (part t c 0) (part t c 1)) ∷ (12, or (part t c 0) (part t c 1)) ∷ []) opaque
  unfolding shape pick
  shape_seven h = rw (← k, h)

  pub connects_negate : kind ≡ 9 → (detail ≡ 0 → ⊥) → Connects t c Leaf
  unfolding Connects analysed
  connects_negate h g =
      rw (shape_nine h) (pick_all (λ sh. analysed sh ≡ []) (expr_at t c).detail _ opaque (λ z. absurd (g (d ∙ eqb-true _ 0 z)), tt) refl)

  pub connects_compared : kind ≡ 7 → (detail ≡ 10 → ⊥) → (detail ≡ 12 → ⊥) → (detail ≡ 11 → ⊥) → Connects t c Leaf
  unfolding Connects analysed
  connects_compared h g f e =
      rw (shape_seven h)
      (pick_all (λ sh. analysed sh ≡ []) (expr_at t c).detail _ opaque
      (λ z. refl, (λ z. refl, (λ z. absurd (g (d ∙ eqb-true _ 10 z)), (λ z. absurd (e (d ∙ eqb-true _ 11 z)), (λ z. absurd (f (d ∙ eqb-true _ 12 z)), tt))))) refl)

  keyed-none : (e : ℕ) (o : Option ℕ) → analysed (keyed e o) ≡ []
  unfolding keyed analysed
  keyed-none e None = refl
  keyed-none e (Some x) = refl

  pub connects_other : (kind ≡ 9 → ⊥) → (kind ≡ 7 → ⊥) → Connects t c Leaf
  unfolding Connects shape analysed
  connects_other h g =
      pick_all (λ sh. analysed sh ≡ []) (expr_at t c).kind _ opaque
      (λ z. refl, (λ z. absurd (g (k ∙ eqb-true _ 7 z)), (λ z. absurd (h (k ∙ eqb-true _ 9 z)), (λ z. keyed-none _ _, tt)))) refl

-- the connectives
one-part : arity 9 ≡ 1
unfolding arity pick
one-part = refl

abbrev pub Joined : Connective → Type 0
Joined k = (k ≡ And) ⊎ ((k ≡ Or) ⊎ (k ≡ Implication))

leaf-alone : Joined Leaf → ⊥
leaf-alone (inl h) = let z : ◌≡◌ {A = ℕ} 0 1 = cc in omega arith
leaf-alone (inr (inl h)) = let z : ◌≡◌ {A = ℕ} 0 1 = cc in omega arith
leaf-alone (inr (inr h)) = let z : ◌≡◌ {A = ℕ} 0 1 = cc in omega arith

not-alone : Joined Not → ⊥
not-alone (inl h) = let z : ◌≡◌ {A = ℕ} 0 1 = cc in omega arith
not-alone (inr (inl h)) = let z : ◌≡◌ {A = ℕ} 0 1 = cc in omega arith
not-alone (inr (inr h)) = let z : ◌≡◌ {A = ℕ} 0 1 = cc in omega arith

module _ (t : Tree) (c : ℕ) where
  -- a leaf has no part that is analysed
  pub none-analysed : Connects t c Leaf → analysed (shape t c) ≡ []
  unfolding Connects
  none-analysed q = q

  -- its part, of a `!`
  pub inverts : Connects t c Not → shape t c ≡ invert (part t c 0)
  unfolding Connects
  inverts q = q.1

  pub inverted : Connects t c Not → analysed (shape t c) ≡ part t c 0 ∷ []
  unfolding analysed
  inverted q = rw (inverts q)

  pub inverted_there : Connects t c Not → 0 < arity (expr_at t c).kind
  unfolding Connects
  inverted_there q = rw (q.0, one-part) (omega arith)

  -- its parts, of the others
  pub joins : (k : Connective) → Connects t c k → Joined k → Joins t c
  unfolding Connects analysed
  joins Leaf q l = absurd (leaf-alone l)
  joins Not q l = absurd (not-alone l)
  joins And q l = record { kind = q.0; both = rw q.1 }
  joins Or q l = record { kind = q.0; both = rw q.1 }
  joins Implication q l = record { kind = q.0; both = rw q.1 }

-- the records of a node, by its parts
module _ (s table bindings : List ℕ) (a : Accepted s) (c : ℕ) where
  abbrev t : Tree
  t = decode s

  abbrev tab : Tables
  tab = given table bindings

  nodes_are : nodes t c ≡ 1 + part_nodes t c
  unfolding part_nodes
  nodes_are = (ordered-runs t tab (ordered s a)).nodes_are c

  codes_are : (b : Bool) → codes t tab c b ≡ map record_number (node t tab (analyze t tab) b (shape t c))
  unfolding codes
  codes_are b = ap (map record_number) ((ordered-runs t tab (ordered s a)).analyze_are b c)

  taken : (o : Option Bool) → takes o (codes t tab c) ≡ takes o (λ b. map record_number (node t tab (analyze t tab) b (shape t c)))
  unfolding takes
  taken None = refl
  taken (Some b) = codes_are b

  -- a leaf
  leaf-nodes : analysed (shape t c) ≡ [] → nodes t c ≡ 1
  unfolding part_nodes sum
  leaf-nodes h = nodes_are ∙ rw h

  leaf-codes : analysed (shape t c) ≡ [] → (o : Option Bool) → takes o (codes t tab c) ≡ said (told t tab (shape t c)).name (chosen o (told t tab (shape t c)))
  leaf-codes h o = taken o ∙ leaf-records s table bindings (analyze t tab) c h o

  -- a `!`
  invert-codes : (p : ℕ) → shape t c ≡ invert p → (o : Option Bool) → takes o (codes t tab c) ≡ takes (flipped o) (codes t tab p)
  unfolding takes flipped node codes
  invert-codes p h None = refl
  invert-codes p h (Some b) = codes_are b ∙ rw h

  -- a connective of two parts
  two : (p q : ℕ) (a b : Bool) → map record_number (analyze t tab a p ++ analyze t tab b q) ≡ codes t tab p a ++ (codes t tab q b ++ [])
  unfolding codes
  two p q a b = map-append record_number (analyze t tab a p) (analyze t tab b q) ∙ ap (λ z. map record_number (analyze t tab a p) ++ z) (sym (append-nil (map record_number (analyze t tab b q))))

  -- .. by what is taken of each
  abbrev both : ℕ → ℕ → Option Bool × Option Bool → List ℕ
  both p q o = takes o.0 (codes t tab p) ++ (takes o.1 (codes t tab q) ++ [])

  and-codes : (p q : ℕ) → shape t c ≡ and p q → (o : Option Bool) → takes o (codes t tab c) ≡ both p q (where_true o, where_true o)
  unfolding takes where_true node
  and-codes p q h None = refl
  and-codes p q h (Some true) = codes_are true ∙ rw h (two p q true true)
  and-codes p q h (Some false) = codes_are false ∙ rw h

  or-codes : (p q : ℕ) → shape t c ≡ or p q → (o : Option Bool) → takes o (codes t tab c) ≡ both p q (where_false o, where_false o)
  unfolding takes where_false node
  or-codes p q h None = refl
  or-codes p q h (Some true) = codes_are true ∙ rw h
  or-codes p q h (Some false) = codes_are false ∙ rw h (two p q false false)

  arrow-codes : (p q : ℕ) → shape t c ≡ implies p q → (o : Option Bool) → takes o (codes t tab c) ≡ both p q (flipped (where_false o), where_false o)
  unfolding takes flipped where_false node
  arrow-codes p q h None = refl
  arrow-codes p q h (Some true) = codes_are true ∙ rw h
  arrow-codes p q h (Some false) = codes_are false ∙ rw h (two p q true false)

  sent-both : (k : Connective) → Connects t c k → Joined k → (o : Option Bool) → takes o (codes t tab c) ≡ both (part t c 0) (part t c 1) (sent k 0 o, sent k 1 o)
  unfolding Connects sent
  sent-both Leaf q l o = absurd (leaf-alone l)
  sent-both Not q l o = absurd (not-alone l)
  sent-both And q l o = and-codes _ _ q.1 o
  sent-both Or q l o = or-codes _ _ q.1 o
  sent-both Implication q l o = arrow-codes _ _ q.1 o

  part-codes : Joins t c → (k : Connective) (o : Option Bool) → part_codes t tab c k o ≡ both (part t c 0) (part t c 1) (sent k 0 o, sent k 1 o)
  unfolding part_codes codes_of
  part-codes j k o = rw j.both

  sent-codes : (k : Connective) → Connects t c k → Joined k → (o : Option Bool) → takes o (codes t tab c) ≡ part_codes t tab c k o
  sent-codes k q l o = sent-both k q l o ∙ sym (part-codes (joins t c k q l) k o)

-- Records in a list, one after the other.
pub stored_append : (us vs : List ℕ) (k : ℕ) (l : List ℕ) → stored (us ++ vs) k l ≡ stored vs (k + length us) (stored us k l)
unfolding stored
stored_append [] vs k l = let z : k + 0 ≡ k = omega arith in rw z
stored_append (u ∷ us) vs k l = let z : k + suc (length us) ≡ k + 1 + length us = omega arith in rw z (stored_append us vs (k + 1) (store32 l (4 * k) u))

pub fed-none : (k : ℕ) (l : List ℕ) → Fed [] k k l l
unfolding stored
fed-none k l = record { number = omega arith; value = refl }

pub fed_then : (us vs : List ℕ) {i j k : ℕ} {l m n : List ℕ} → Fed us i j l m → Fed vs j k m n → Fed (us ++ vs) i k l n
fed_then us vs {i} {j} {k} {l} {m} {n} p q =
    record {
      number = omega (arith, p.number, q.number, length-append us vs);
      value = q.value ∙ rw (p.number, p.value) (sym (stored_append us vs i l));
    }

-- the records of a name
module _ (name : ℕ) (told : Option NarrowPredicate) (count : ℕ) (before : List ℕ) where
  pub fed-nothing : None ≡ says_of told → Fed (said name told) count count before before
  unfolding said says_of
  fed-nothing h = go told h
    where
      go : (o : Option NarrowPredicate) → None ≡ says_of o → Fed (said name o) count count before before
      go None q = fed-none count before
      go (Some p) q = absurd (let z : ◌≡◌ {A = ℕ} 0 1 = cc in omega arith)

  pub fed-one : {says : ℕ} → Some says ≡ says_of told → {now : List ℕ} → now ≡ store32 before (4 * count) (name * 262144 + says) → Fed (said name told) count (count + 1) before now
  unfolding said says_of stored
  fed-one {says} h {now} e = go told h
    where
      go : (o : Option NarrowPredicate) → Some says ≡ says_of o → Fed (said name o) count (count + 1) before now
      go None q = absurd (let z : ◌≡◌ {A = ℕ} 0 1 = cc in omega arith)
      go (Some p) q =
          let z : says ≡ (sort_and_value p).0 * 16384 + (sort_and_value p).1 = cc in
          let w : name * 262144 + says ≡ (name * 16 + (sort_and_value p).0) * 16384 + (sort_and_value p).1 = omega (arith, z) in
          record { number = omega arith; value = e ∙ ap (store32 before (4 * count)) w }

-- what a record says fits into it
pub few-some : {r : Option NarrowPredicate} {p : NarrowPredicate} → Few r → r ≡ Some p → (sort_and_value p).1 < 16384
few-some l h = rw h at l

pub type_small : (prim : PrimitiveTy) {n : ℕ} → n ≡ type_number prim → n ≤ 5
type_small prim h = rw h (type_few prim)

pub field-few : {p : NarrowPredicate} {key : ℕ} → (sort_and_value p).1 < 16384 → p ≡ HasField key → key < 16384
unfolding sort_and_value
field-few l h = rw h at l

pub not-field-few : {p : NarrowPredicate} {key : ℕ} → (sort_and_value p).1 < 16384 → p ≡ NotHasField key → key < 16384
unfolding sort_and_value
not-field-few l h = rw h at l

said-few : (name : ℕ) (told : Option NarrowPredicate) → length (said name told) ≤ 1
unfolding said
said-few name None = omega arith
said-few name (Some p) = omega arith

-- Runs, one after the other.
ran_then : (us us' vs vs' : List ℕ) {n m : ℕ} {x y z : Sheet} → Ran n us vs x y → Ran m us' vs' y z → Ran (n + m) (us ++ us') (vs ++ vs') x z
ran_then us us' vs vs' p q =
    record {
      count = omega (arith, p.count, q.count);
      thens-small = omega (arith, p.thens-small, q.thens-small);
      elses-small = omega (arith, p.elses-small, q.elses-small);
      thens = λ o. fed_then us us' (p.thens (omega (arith, q.count))) (q.thens o);
      elses = λ o. fed_then vs vs' (p.elses (omega (arith, q.count))) (q.elses o);
    }

ran-stop : (us us' vs vs' : List ℕ) {n : ℕ} (m : ℕ) {x y : Sheet} → Ran n us vs x y → y.at.left ≡ 0 → Ran (n + m) (us ++ us') (vs ++ vs') x y
ran-stop us us' vs vs' m p h =
    record {
      count = omega (arith, p.count);
      thens-small = p.thens-small;
      elses-small = p.elses-small;
      thens = λ o. absurd (omega arith);
      elses = λ o. absurd (omega arith);
    }

ran-none : (x : Sheet) → Ran 0 [] [] x x
ran-none x =
    record {
      count = omega arith;
      thens-small = omega arith;
      elses-small = omega arith;
      thens = λ o. fed-none _ _;
      elses = λ o. fed-none _ _;
    }

-- A step leaves the lists and their records alone.
record Stepped (x y : Sheet) : Type 0 where
  pub left : y.at.left ≡ x.at.left - 1
  pub thens : y.at.thens ≡ x.at.thens
  pub elses : y.at.elses ≡ x.at.elses
  pub then_list_lem : y.then_list ≡ x.then_list
  pub else_list_lem : y.else_list ≡ x.else_list

stepped : (at : Progress) {left : ℕ} → left ≡ at.left - 1 → {a b : List ℕ} → Stepped (sheet at a b) (sheet (record { left = left; thens = at.thens; elses = at.elses }) a b)
stepped at g = record { left = g; thens = refl; elses = refl; then_list_lem = refl; else_list_lem = refl }

ran_step : {n : ℕ} {us vs : List ℕ} {x y z : Sheet} → Stepped x y → Ran n us vs y z → Ran (1 + n) us vs x z
ran_step e r =
    record {
      count = omega (arith, e.left, r.count);
      thens-small = omega (arith, e.left, e.thens, r.thens-small);
      elses-small = omega (arith, e.left, e.elses, r.elses-small);
      thens = λ o. rw (← e.thens, ← e.then_list_lem) (r.thens o);
      elses = λ o. rw (← e.elses, ← e.else_list_lem) (r.elses o);
    }

-- What a call asks, from what its caller was asked.
module _ {s table bindings : List ℕ} {c : ℕ} {at : Progress} (ready : Ready s table bindings c at) where
  pub child-below : {k child : ℕ} → k < arity (expr_at (decode s) c).kind → child ≡ (item_at (decode s) c k).expression → child < c
  unfolding part
  child-below {k} l e = rw e (part-below s ready.accepted c ready.inside k l)

  -- of a node that stands no later, where fewer steps are left
  pub ready_on : {node : ℕ} → node ≤ c → {here : Progress} → 0 < here.left → here.thens + here.left ≤ at.thens + at.left → here.elses + here.left ≤ at.elses + at.left
      → Ready s table bindings node here
  ready_on l o a b =
      record {
        accepted = ready.accepted;
        resolved = ready.resolved;
        bound = ready.bound;
        inside = omega (arith, ready.inside);
        going = o;
        thens-few = omega (arith, ready.thens-few);
        elses-few = omega (arith, ready.elses-few);
      }

-- The run of a whole condition, and that of the parts of a node from the k-th on.
module _ (s table bindings : List ℕ) (c : ℕ) (p q : Option Bool) where
  abbrev pub Whole : Sheet → Sheet → Type 0
  Whole x y =
      Ran (nodes (decode s) c) (takes p (codes (decode s) (given table bindings) c)) (takes q (codes (decode s) (given table bindings) c)) x y

module _ (s table bindings : List ℕ) (c : ℕ) (k : Connective) (p q : Option Bool) where
  abbrev pub Parts : Sheet → Sheet → Type 0
  Parts x y =
      Ran (part_nodes (decode s) c) (part_codes (decode s) (given table bindings) c k p) (part_codes (decode s) (given table bindings) c k q) x y

  abbrev behind : ℕ → List ℕ
  behind j = drop j (analysed (shape (decode s) c))

  abbrev Behind : ℕ → Sheet → Sheet → Type 0
  Behind j x y =
      Ran (sum (map (nodes (decode s)) (behind j))) (codes_of (decode s) (given table bindings) (λ i. sent k i p) j (behind j))
      (codes_of (decode s) (given table bindings) (λ i. sent k i q) j (behind j)) x y

-- A turn of `analyze_node`: what is to be done from here leaves what is to be done in all.
pub record Turning (s table bindings : List ℕ) (c : ℕ) (p q : Option Bool) (start : Sheet) (node : ℕ) (p' q' : Option Bool) (here : Sheet) : Type 0 where
  pub below : node ≤ c
  pub ready : Ready s table bindings node here.at
  pub rest : (z : Sheet) → Whole s table bindings node p' q' here z → Whole s table bindings c p q start z

module _ {s table bindings : List ℕ} {c : ℕ} {p q : Option Bool} {start : Sheet} where
  pub turning_start : Ready s table bindings c start.at → Turning s table bindings c p q start c p q start
  turning_start r = record { below = omega arith; ready = r; rest = λ z w. w }

  module _ (at : Progress) {left : ℕ} (g : left ≡ at.left - 1) {a b : List ℕ} {node : ℕ} {p' q' : Option Bool}
      (w : Turning s table bindings c p q start node p' q' (sheet at a b)) where
    abbrev next : Sheet
    next = sheet (record { left = left; thens = at.thens; elses = at.elses }) a b

    e : Stepped (sheet at a b) next
    e = stepped at g

    pub node_over : left ≡ 0 → Whole s table bindings c p q start next
    node_over h =
        w.rest _
        (record {
          count = omega (arith, e.left, w.ready.going, nodes_are s table bindings w.ready.accepted node);
          thens-small = omega (arith, e.left, e.thens);
          elses-small = omega (arith, e.left, e.elses);
          thens = λ o. absurd (omega (arith, e.left));
          elses = λ o. absurd (omega (arith, e.left));
        })

    pub ready_step : (left ≡ 0 → ⊥) → {child : ℕ} → child ≤ node → Ready s table bindings child next.at
    ready_step h o = ready_on w.ready o (omega (arith, e.left, h)) (omega (arith, e.left, e.thens)) (omega (arith, e.left, e.elses))

    pub node-leaf : Connects (decode s) node Leaf → {y : Sheet} → LeafRan (told (decode s) (given table bindings) (shape (decode s) node)) p' q' next y → Whole s table bindings c p q start y
    node-leaf z {y} f =
        let n = leaf-nodes s table bindings w.ready.accepted node (none-analysed (decode s) node z) in
        let a = leaf-codes s table bindings w.ready.accepted node (none-analysed (decode s) node z) p' in
        let b = leaf-codes s table bindings w.ready.accepted node (none-analysed (decode s) node z) q' in
        let r = told (decode s) (given table bindings) (shape (decode s) node) in
        w.rest _
        (rw (n, a, b)
        (record {
          count = omega (arith, e.left, f.left);
          thens-small = omega (arith, e.left, e.thens, f.left, f.thens.number, said-few r.name (chosen p' r), w.ready.going);
          elses-small = omega (arith, e.left, e.elses, f.left, f.elses.number, said-few r.name (chosen q' r), w.ready.going);
          thens = λ o. rw (← e.thens, ← e.then_list_lem) f.thens;
          elses = λ o. rw (← e.elses, ← e.else_list_lem) f.elses;
        }))

    pub node-parts : (k : Connective) → Connects (decode s) node k → Joined k → {y : Sheet}
        → Parts s table bindings node k p' q' next y → Whole s table bindings c p q start y
    node-parts k z h r =
        let n = nodes_are s table bindings w.ready.accepted node in
        let a = sent-codes s table bindings w.ready.accepted node k z h p' in
        let b = sent-codes s table bindings w.ready.accepted node k z h q' in
        w.rest _ (rw (n, a, b) (ran_step e r))

    module _ (z : Connects (decode s) node Not) {child : ℕ} (d : child ≡ (item_at (decode s) node 0).expression) where
      of_child : shape (decode s) node ≡ invert child
      unfolding part
      of_child = rw d (inverts (decode s) node z)

      child-nodes : nodes (decode s) node ≡ 1 + nodes (decode s) child
      unfolding part_nodes sum analysed
      child-nodes = nodes_are s table bindings w.ready.accepted node ∙ rw of_child (omega arith)

      pub turning_more : (left ≡ 0 → ⊥) → {p'' q'' : Option Bool} → p'' ≡ flipped p' → q'' ≡ flipped q'
          → Turning s table bindings c p q start child p'' q'' next
      turning_more o u v =
          let under = child-below w.ready (inverted_there (decode s) node z) d in
          let a = invert-codes s table bindings w.ready.accepted node child of_child p' in
          let b = invert-codes s table bindings w.ready.accepted node child of_child q' in
          record {
            below = omega (arith, w.below);
            ready = ready_step o {child = child} (omega arith);
            rest = λ y r. w.rest _ (rw (child-nodes, a, b, ← u, ← v) (ran_step e r));
          }

-- A turn of `analyze_parts`, likewise, with what is taken of the parts that are left.
pub record Going (s table bindings : List ℕ) (c : ℕ) (k : Connective) (p q : Option Bool) (start : Sheet) (j : ℕ) (here : Sheet) : Type 0 where
  pub inside : j ≤ 2
  pub ready : Ready s table bindings c here.at
  pub rest : (z : Sheet) → Behind s table bindings c k p q j here z → Parts s table bindings c k p q start z

two_parts : arity 7 ≡ 2
unfolding arity pick
two_parts = refl

pub part_there : {t : Tree} {c : ℕ} → Joins t c → {k : ℕ} → k < 2 → k < arity (expr_at t c).kind
part_there j h = rw (j.kind, two_parts) h

pub part-number : {s table bindings : List ℕ} {c : ℕ} {at : Progress} → Ready s table bindings c at → Joins (decode s) c → length (expr_at (decode s) c).items ≡ 2
part-number {s} {c = c} r j =
    tree-items s c r.inside ∙ part_count s r.accepted c r.inside (rw (j.kind, two_parts) (omega arith)) ∙ rw (j.kind, two_parts)

-- what a list takes of each of two parts, where it is kept for both
pub sent_each : (k : Connective) (p : Option Bool) (a b d : Takes) → outcome a ≡ sent k 0 p → outcome b ≡ sent k 1 p → {i : ℕ} → i < 2
    → outcome (get_or (a ∷ b ∷ []) i d) ≡ sent k i p
sent_each k p a b d u v {i} h = elim (ℕ_discrete i 0) [ yes z ↦ rw z u | no z ↦ let n : i ≡ 1 = omega (arith, z) in rw n v ]

module _ {s table bindings : List ℕ} {c : ℕ} {k : Connective} {p q : Option Bool} {start : Sheet} (j : Joins (decode s) c) where
  pub going_start : Ready s table bindings c start.at → Going s table bindings c k p q start 0 start
  unfolding part_nodes part_codes
  going_start r = record { inside = omega arith; ready = r; rest = λ z w. w }

  module _ {i : ℕ} {here : Sheet} (w : Going s table bindings c k p q start i here) where
    next-part : i < 2 → behind s table bindings c k p q i ≡ part (decode s) c i ∷ behind s table bindings c k p q (i + 1)
    next-part h =
        rw j.both
        (elim (ℕ_discrete i 0) [ yes z ↦ rw z | no z ↦ let n : i ≡ 1 = omega (arith, z) in rw n ])

    module _ (h : i < 2) {child : ℕ} (d : child ≡ (item_at (decode s) c i).expression) {p' q' : Option Bool} (e : p' ≡ sent k i p) (f : q' ≡ sent k i q) {y : Sheet} (r : Whole s table bindings child p' q' here y) where
      pub going-over : y.at.left ≡ 0 → Parts s table bindings c k p q start y
      unfolding sum codes_of part
      going-over o = w.rest _ (rw (next-part h, ← d, ← e, ← f) (ran-stop _ _ _ _ _ r o))

      pub going_more : (y.at.left ≡ 0 → ⊥) → Going s table bindings c k p q start (i + 1) y
      unfolding sum codes_of part
      going_more o =
          record {
            inside = omega arith;
            ready = ready_on w.ready (omega arith) (omega (arith, o)) r.thens-small r.elses-small;
            rest = λ z v. w.rest z (rw (next-part h, ← d, ← e, ← f) (ran_then _ _ _ _ r v));
          }

    pub going_done : 2 ≤ i → Parts s table bindings c k p q start here
    unfolding sum codes_of
    going_done h = w.rest _ (let n : i ≡ 2 = omega (arith, w.inside) in rw (n, j.both) (ran-none here))

-- what a list takes
pub neither : (from : Takes) {b : Bool} → b ≡ sameb the_type from Neither → b ≡ true → outcome from ≡ None
unfolding outcome
neither ForTrue e h = absurd (true≢false h e)
neither ForFalse e h = absurd (true≢false h e)
neither Neither e h = refl

pub chosen-few : (r : NarrowInfo) → Bounded r → (o : Option Bool) {says : ℕ} → Some says ≡ says_of (chosen o r) → says < 262144
unfolding says_of chosen
chosen-few r b o {says} = go (chosen o r) (few o)
  where
    few : (o : Option Bool) → Few (chosen o r)
    few None = tt
    few (Some true) = b.holds
    few (Some false) = b.fails

    go : (p : Option NarrowPredicate) → Few p → Some says ≡ says_of p → says < 262144
    go None l h = absurd (let z : ◌≡◌ {A = ℕ} 0 1 = cc in omega arith)
    go (Some p) l h = let z : says ≡ (sort_and_value p).0 * 16384 + (sort_and_value p).1 = cc in omega (arith, z, l, sort-few p)

-- `analyze_leaf`
pub leaf-ran-none : {r : NarrowInfo} {p q : Option Bool} → p ≡ None → q ≡ None → (x : Sheet) → LeafRan r p q x x
unfolding chosen says_of
leaf-ran-none {r} h g x = rw (h, g) (record { left = refl; thens = fed-nothing r.name None _ _ refl; elses = fed-nothing r.name None _ _ refl })

pub leaf-ran : {r r' : NarrowInfo} → r ≡ r' → {p q : Option Bool} (at : Progress) → {thens elses : ℕ} {a b a' b' : List ℕ} → Fed (said r.name (chosen p r)) at.thens thens a a'
    → Fed (said r.name (chosen q r)) at.elses elses b b' → LeafRan r' p q (sheet at a b) (sheet (record { left = at.left; thens = thens; elses = elses }) a' b')
leaf-ran h at f g = rw (← h) (record { left = refl; thens = f; elses = g })
