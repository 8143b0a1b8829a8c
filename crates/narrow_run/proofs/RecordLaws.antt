-- The records of a node without parts that are analysed are what it tells; what it tells fits into a record, and so does each narrowing of a list.
use Rattle.std.specs.Prelude.{Option, Some, None}
use mathlib.Core.Path.{◌≡◌, refl, ap, sym, subst}
use mathlib.Core.Bool.{Bool, true, false, not, cond}
use mathlib.Core.List.{List, [], map}
use Prim.Native.Nat.{ℕ, zero, suc, ◌^◌, ◌<◌}
use native.Mathlib.Omega.{arith}
use native.Mathlib.Decide.{dec_lt}
use lib.ListN.{get_or-eq_default}
use Rattle.semantics.specs.Base.{only, or_else, listed, found, single, All, ◌∈◌, ◌>>=◌}
use Rattle.semantics.specs.Tree.{bytes, Tree, same, no_expr, expr_at, part, path, reference, string, apply}
use Rattle.semantics.specs.Words.{Sort, Null, Bool', Int, Float, String, Path, List', Set, Function, number, predicate}
use Rattle.semantics.specs.Resolution.{Tables, unresolved}
use Rattle.semantics.specs.Narrow.{Test, is, numeric, has, predicate_of, Narrowing, coded, singleton, compound, literal_test, literal_tells, test_tells, narrowing, name_of, local_name, literal_sort, chain_key, callee_name, has_attr_call, tests, literal_comparison, compared, node, analyze_in, analyze}
use Rattle.semantics.specs.Narrow.{Condition, equal, not_equal, and, or, implies, call, has_key, invert, opaque, keyed, shape, analysed}
use Rattle.semantics.proofs.BaseLaws.{clash, some_inj, only-some, either, after, pick_all, All-++, All-found, All-at}
use Rattle.semantics.proofs.NarrowLaws.{narrowing-all}
use Rattle.image_fields.specs.Image.{expr_count, decode}
use Rattle.image_fields.proofs.FieldLaws.{field_lt}
use Rattle.image_fields.proofs.ImageLaws.{tree-exprs, tree-expr}
use Rattle.given.specs.Resolutions.{tag_of, resolution_in}
use Rattle.narrow_leaf.specs.declared.told.NarrowInfo.{NarrowInfo}
use Rattle.given.specs.Given.{given}
use Rattle.narrow_leaf.specs.Inside.Told.{record_number, said, nothing_told, turned, compared_tells, tested_tells, compared_told, told}
use Rattle.narrow_run.specs.Inside.Run.{takes, chosen, Few, Bounded}
use Rattle.narrow_texts.specs.Inside.Predicates.{saying}
use Rattle.narrow_texts.proofs.PredicateLaws.{predicate-numbers}

-- a test whose key is a text's number
FewTest : Option Test → Type 0
FewTest None = Unit {0}
FewTest (Some (is s)) = Unit {0}
FewTest (Some numeric) = Unit {0}
FewTest (Some (has k)) = k < 2 ^ 14

-- the value of a sort is a type's number
is-few : (b : Bool) (s : Sort) → (predicate_of (is s) b).1 < 2 ^ 14
unfolding predicate_of
is-few b Null = omega arith
is-few b Bool' = omega arith
is-few b Int = omega arith
is-few b Float = omega arith
is-few b String = omega arith
is-few b Path = omega arith
is-few b List' = omega arith
is-few b Set = omega arith
is-few b Function = omega arith

value-few : (b : Bool) (p : Test) → FewTest (Some p) → (predicate_of p b).1 < 2 ^ 14
unfolding FewTest predicate_of
value-few b (is s) h = is-few b s
value-few b numeric h = omega arith
value-few b (has k) h = h

sort-few : (b : Bool) (p : Test) → (predicate_of p b).0 < 2 ^ 4
unfolding predicate_of
sort-few b (is List') = omega arith
sort-few b (is Set) = omega arith
sort-few b (is Function) = omega arith
sort-few b numeric = omega arith
sort-few true (is Null) = omega arith
sort-few true (is Bool') = omega arith
sort-few true (is Int) = omega arith
sort-few true (is Float) = omega arith
sort-few true (is String) = omega arith
sort-few true (is Path) = omega arith
sort-few true (has k) = omega arith
sort-few false (is Null) = omega arith
sort-few false (is Bool') = omega arith
sort-few false (is Int) = omega arith
sort-few false (is Float) = omega arith
sort-few false (is String) = omega arith
sort-few false (is Path) = omega arith
sort-few false (has k) = omega arith

-- a narrowing whose numbers have the bits of a record's fields
pub record Fits (r : Narrowing) : Type 0 where
  pub name : (coded r).0 < 2 ^ 14
  pub sort : (coded r).1 < 2 ^ 4
  pub value : (coded r).2 < 2 ^ 14

few-fits : (b : Bool) (n : ℕ) (p : Test) → n < 2 ^ 14 → FewTest (Some p) → Fits (record { name = n; test = p; passes = b })
unfolding coded
few-fits b n p h f = record { name = h; sort = sort-few b p; value = value-few b p f }

saying-few : (b : Bool) (o : Option Test) → FewTest o → Few (saying b o)
unfolding saying
saying-few b None h = tt
saying-few b (Some p) h = rw (← predicate-numbers p b) (value-few b p h)

only-few : (b : Bool) (s : Sort) → FewTest (only b (is s))
unfolding FewTest only
only-few true s = tt
only-few false s = tt

chosen-few : (b : Bool) (s : Sort) → FewTest (Some (cond b numeric (is s)))
unfolding FewTest
chosen-few true s = tt
chosen-few false s = tt

literal_few : (b : Bool) (s : Sort) → FewTest (literal_tells b s)
unfolding literal_tells literal_test
literal_few true s = chosen-few (number s) s
literal_few false s = only-few (singleton s) s

test-few : (b : Bool) (p : Test) → FewTest (Some p) → FewTest (test_tells b p)
unfolding test_tells FewTest
test-few true p h = h
test-few false (is s) h = only-few (not (compound s)) s
test-few false numeric h = tt
test-few false (has k) h = h

or-few : (a b : Option Test) → FewTest a → FewTest b → FewTest (or_else a b)
unfolding or_else
or-few None b h g = g
or-few (Some p) b h g = h

is-all-few : (o : Option Sort) → FewTest (o >>= λ s. Some (is s))
unfolding FewTest ◌>>=◌
is-all-few None = tt
is-all-few (Some s) = tt

has-all-few : (o : Option ℕ) → ((k : ℕ) → o ≡ Some k → k < 2 ^ 14) → FewTest (o >>= λ k. Some (has k))
unfolding FewTest ◌>>=◌
has-all-few None h = tt
has-all-few (Some k) h = h k refl

-- The records.
narrowing-said : (b : Bool) (n : ℕ) (o : Option Test) → map record_number (narrowing b n o) ≡ said n (saying b o)
unfolding narrowing listed ◌>>=◌ said saying record_number coded
narrowing-said b n None = refl
narrowing-said b n (Some p) = rw (predicate-numbers p b)

unsaid : (n : ℕ) → said n None ≡ []
unfolding said
unsaid n = refl

found-said : (o : Option (ℕ × Sort)) (b : Bool) → map record_number (found (o >>= λ p. Some (narrowing b p.0 (literal_tells b p.1)))) ≡ said (compared_tells o).name (chosen (Some b) (compared_tells o))
unfolding found ◌>>=◌ compared_tells chosen
found-said None true = sym (unsaid 0)
found-said None false = sym (unsaid 0)
found-said (Some p) true = narrowing-said true p.0 (literal_tells true p.1)
found-said (Some p) false = narrowing-said false p.0 (literal_tells false p.1)

tested-said : (m : Option ℕ) (o : Option Test) (b : Bool)
    → map record_number (found (m >>= λ n. o >>= λ p. Some (narrowing b n (test_tells b p)))) ≡ said (tested_tells m o).name (chosen (Some b) (tested_tells m o))
unfolding found ◌>>=◌ tested_tells chosen
tested-said None o true = sym (unsaid 0)
tested-said None o false = sym (unsaid 0)
tested-said (Some n) None true = sym (unsaid 0)
tested-said (Some n) None false = sym (unsaid 0)
tested-said (Some n) (Some p) true = narrowing-said true n (test_tells true p)
tested-said (Some n) (Some p) false = narrowing-said false n (test_tells false p)

asked_said : (m : Option ℕ) (k : ℕ) (b : Bool)
    → map record_number (found (m >>= λ n. Some (narrowing b n (test_tells b (has k))))) ≡ said (tested_tells m (Some (has k))).name (chosen (Some b) (tested_tells m (Some (has k))))
unfolding found ◌>>=◌ tested_tells chosen
asked_said None k true = sym (unsaid 0)
asked_said None k false = sym (unsaid 0)
asked_said (Some n) k true = narrowing-said true n (test_tells true (has k))
asked_said (Some n) k false = narrowing-said false n (test_tells false (has k))

-- the key of a condition is a text's number
Keyed : Condition → Type 0
Keyed (equal l r) = Unit {0}
Keyed (not_equal l r) = Unit {0}
Keyed (and l r) = Unit {0}
Keyed (or l r) = Unit {0}
Keyed (implies l r) = Unit {0}
Keyed (call f a) = Unit {0}
Keyed (has_key e k) = k < 2 ^ 14
Keyed (invert e) = Unit {0}
Keyed opaque = Unit {0}

module _ (s table bindings : List ℕ) where
  abbrev t : Tree
  t = decode s

  abbrev tab : Tables
  tab = given table bindings

  text-small : (e : ℕ) → (expr_at t e).text < 2 ^ 14
  unfolding expr_at
  text-small e = elim (dec_lt e (expr_count s)) [
    | yes h ↦ rw (tree-expr s e h) (field_lt s _ 14)
    | no h ↦ rw (get_or-eq_default t.exprs no_expr {n = e} (rw (tree-exprs s) (omega (arith, h)))) (omega arith)
  ]

  string-small : (e k : ℕ) → string t e ≡ Some k → k < 2 ^ 14
  unfolding string
  string-small e k h = only-some _ h λ q z. rw (← z) (text-small e)

  name-small : (e n : ℕ) → local_name t tab e ≡ Some n → n < 2 ^ 14
  unfolding local_name resolution_in name_of
  name-small e n h =
      after (reference t e) _ h λ x q z.
      pick_all (λ r. name_of r ≡ Some n → n < 2 ^ 14) (tag_of table e) _ unresolved
      (λ w v. rw (← some_inj v) (field_lt table _ 14), (λ w v. absurd (clash v), (λ w v. absurd (clash v), tt))) (λ v. absurd (clash v)) z

  call-small : (f k : ℕ) → has_attr_call t tab f ≡ Some k → k < 2 ^ 14
  unfolding has_attr_call
  call-small f k h = after (apply t f) _ h λ c p h₁. after (callee_name t tab c.0) _ h₁ λ x q h₂. after (only (same x (bytes "hasAttr")) c.1) _ h₂ λ e r h₃. string-small e k h₃

  tests-few : (f : ℕ) → FewTest (tests t tab f)
  unfolding tests
  tests-few f =
      or-few _ _ (is-all-few (callee_name t tab f >>= predicate))
      (or-few _ _ (has-all-few (has_attr_call t tab f) (call-small f)) (is-all-few (chain_key t tab f >>= predicate)))

  keyed-few : (e : ℕ) (o : Option ℕ) → Keyed (keyed e (o >>= string t))
  unfolding keyed Keyed ◌>>=◌
  keyed-few e None = tt
  keyed-few e (Some x) = go (string t x) refl
    where
      go : (p : Option ℕ) → string t x ≡ p → Keyed (keyed e p)
      go None h = tt
      go (Some k) h = string-small x k h

  shape-keyed : (c : ℕ) → Keyed (shape t c)
  unfolding shape Keyed
  shape-keyed c =
      pick_all Keyed (expr_at t c).kind _ opaque (
        λ z. tt,
        (
          λ z. pick_all Keyed (expr_at t c).detail _ opaque (λ w. tt, (λ w. tt, (λ w. tt, (λ w. tt, (λ w. tt, tt))))) tt,
          (λ z. pick_all Keyed (expr_at t c).detail _ opaque (λ w. tt, tt) tt, (λ z. keyed-few (part t c 0) (single (path t c)), tt)),
        ),
      )
      tt

  -- what a node tells is within bounds
  nothing_bounded : Bounded nothing_told
  nothing_bounded = record { name = omega arith; holds = tt; fails = tt }

  compared_bounded : (o : Option (ℕ × Sort)) → ((p : ℕ × Sort) → o ≡ Some p → p.0 < 2 ^ 14) → Bounded (compared_tells o)
  unfolding compared_tells
  compared_bounded None h = nothing_bounded
  compared_bounded (Some p) h =
      record { name = h p refl; holds = saying-few true _ (literal_few true p.1); fails = saying-few false _ (literal_few false p.1) }

  comparison-small : (l r : ℕ) (p : ℕ × Sort) → literal_comparison t tab l r ≡ Some p → p.0 < 2 ^ 14
  unfolding literal_comparison
  comparison-small l r p h =
      after (literal_sort t tab r) _ h λ z q h₁. after (local_name t tab l) _ h₁ λ n w h₂.
      let e : n ≡ p.0 = ap (λ x. x.0) (some_inj h₂) in rw (← e) (name-small l n w)

  told-compared : (l r : ℕ) → Bounded (compared_told t tab l r)
  unfolding compared_told
  told-compared l r =
      compared_bounded _ λ p h. either (literal_comparison t tab l r) h (comparison-small l r p) (comparison-small r l p)

  turned_bounded : (r : NarrowInfo) → Bounded r → Bounded (turned r)
  unfolding turned
  turned_bounded r b = record { name = b.name; holds = b.fails; fails = b.holds }

  tested_bounded : (m : Option ℕ) (o : Option Test) → ((n : ℕ) → m ≡ Some n → n < 2 ^ 14) → FewTest o → Bounded (tested_tells m o)
  unfolding tested_tells
  tested_bounded None o h f = nothing_bounded
  tested_bounded (Some n) None h f = nothing_bounded
  tested_bounded (Some n) (Some p) h f =
      record { name = h n refl; holds = saying-few true _ (test-few true p f); fails = saying-few false _ (test-few false p f) }

  told_bounded : (sh : Condition) → Keyed sh → Bounded (told t tab sh)
  unfolding told Keyed FewTest
  told_bounded (equal l r) k = told-compared l r
  told_bounded (not_equal l r) k = turned_bounded _ (told-compared l r)
  told_bounded (and l r) k = nothing_bounded
  told_bounded (or l r) k = nothing_bounded
  told_bounded (implies l r) k = nothing_bounded
  told_bounded (call f a) k = tested_bounded (local_name t tab a) (tests t tab f) (name-small a) (tests-few f)
  told_bounded (has_key e x) k = tested_bounded (local_name t tab e) (Some (has x)) (name-small e) k
  told_bounded (invert e) k = nothing_bounded
  told_bounded opaque k = nothing_bounded

  pub bounded : (c : ℕ) {r : NarrowInfo} → r ≡ told t tab (shape t c) → Bounded r
  bounded c h = rw h (told_bounded (shape t c) (shape-keyed c))

  -- the records of a node that is a leaf
  leaf-said : (below : Bool → ℕ → List Narrowing) (sh : Condition) → analysed sh ≡ [] → (b : Bool)
      → map record_number (node t tab below b sh) ≡ said (told t tab sh).name (chosen (Some b) (told t tab sh))
  unfolding node told analysed compared_told compared turned chosen
  leaf-said below (equal l r) h b = found-said _ b
  leaf-said below (not_equal l r) h true = found-said _ false
  leaf-said below (not_equal l r) h false = found-said _ true
  leaf-said below (and l r) h b = absurd (let z : ◌≡◌ {A = ℕ} 0 1 = cc in omega arith)
  leaf-said below (or l r) h b = absurd (let z : ◌≡◌ {A = ℕ} 0 1 = cc in omega arith)
  leaf-said below (implies l r) h b = absurd (let z : ◌≡◌ {A = ℕ} 0 1 = cc in omega arith)
  leaf-said below (call f a) h b = tested-said (local_name t tab a) (tests t tab f) b
  leaf-said below (has_key e x) h b = asked_said (local_name t tab e) x b
  leaf-said below (invert e) h b = absurd (let z : ◌≡◌ {A = ℕ} 0 1 = cc in omega arith)
  leaf-said below opaque h true = sym (unsaid 0)
  leaf-said below opaque h false = sym (unsaid 0)

  pub leaf-records : (below : Bool → ℕ → List Narrowing) (c : ℕ) → analysed (shape t c) ≡ [] → (o : Option Bool)
      → takes o (λ b. map record_number (node t tab below b (shape t c))) ≡ said (told t tab (shape t c)).name (chosen o (told t tab (shape t c)))
  unfolding takes chosen
  leaf-records below c h None = sym (unsaid (told t tab (shape t c)).name)
  leaf-records below c h (Some true) = leaf-said below (shape t c) h true
  leaf-records below c h (Some false) = leaf-said below (shape t c) h false

  -- each narrowing of a condition's lists fits
  compared_fit : (b : Bool) (l r : ℕ) → All Fits (compared t tab b l r)
  unfolding compared
  compared_fit b l r =
      All-found Fits _ λ ns hns.
      after (or_else (literal_comparison t tab l r) (literal_comparison t tab r l)) _ hns λ p hp h.
      subst (All Fits) (some_inj h)
      (narrowing-all Fits b p.0 (literal_tells b p.1) λ q hq.
      few-fits b p.0 q (either (literal_comparison t tab l r) hp (comparison-small l r p) (comparison-small r l p)) (subst FewTest hq (literal_few b p.1)))

  tested_fit : (b : Bool) (n : ℕ) (p : Test) → n < 2 ^ 14 → FewTest (Some p) → All Fits (narrowing b n (test_tells b p))
  tested_fit b n p h f = narrowing-all Fits b n (test_tells b p) λ q hq. few-fits b n q h (subst FewTest hq (test-few b p f))

  node-fits : (below : Bool → ℕ → List Narrowing) → ((b : Bool) (c : ℕ) → All Fits (below b c)) → (b : Bool) (sh : Condition) → Keyed sh
      → All Fits (node t tab below b sh)
  unfolding node Keyed FewTest
  node-fits below ih b (equal l r) k = compared_fit b l r
  node-fits below ih b (not_equal l r) k = compared_fit (not b) l r
  node-fits below ih true (and l r) k = All-++ Fits (below true l) (below true r) (ih true l) (ih true r)
  node-fits below ih false (and l r) k = tt
  node-fits below ih true (or l r) k = tt
  node-fits below ih false (or l r) k = All-++ Fits (below false l) (below false r) (ih false l) (ih false r)
  node-fits below ih true (implies l r) k = tt
  node-fits below ih false (implies l r) k = All-++ Fits (below true l) (below false r) (ih true l) (ih false r)
  node-fits below ih b (call f a) k =
      All-found Fits _ λ ns hns.
      after (local_name t tab a) _ hns λ n hn h₁.
      after (tests t tab f) _ h₁ λ p hp h₂.
      subst (All Fits) (some_inj h₂) (tested_fit b n p (name-small a n hn) (subst FewTest hp (tests-few f)))
  node-fits below ih b (has_key e x) k =
      All-found Fits _ λ ns hns.
      after (local_name t tab e) _ hns λ n hn h₁.
      subst (All Fits) (some_inj h₁) (tested_fit b n (has x) (name-small e n hn) k)
  node-fits below ih b (invert e) k = ih (not b) e
  node-fits below ih b opaque k = tt

  in_fit : (depth : ℕ) (b : Bool) (c : ℕ) → All Fits (analyze_in t tab depth b c)
  unfolding analyze_in
  in_fit zero b c = tt
  in_fit (suc depth) b c = node-fits (analyze_in t tab depth) (in_fit depth) b (shape t c) (shape-keyed c)

  pub all_fit : (b : Bool) (c : ℕ) (r : Narrowing) → r ∈ analyze t tab b c → Fits r
  unfolding analyze
  all_fit b c r h = All-at Fits (analyze t tab b c) (in_fit (suc c) b c) h
