-- The items that `leaves` visits: no rule holds for them, so nothing is opened and no condition is asked for.
use mathlib.Core.Path.{◌≡◌, refl, sym, subst}
use mathlib.Core.Logic.{inl}
use mathlib.Core.Bool.{true}
use mathlib.Core.List.{List}
use Prim.Native.Nat.{ℕ, ◌+◌, ◌*◌, ◌≤◌, ◌<◌, ◌^◌}
use native.Mathlib.Omega.{arith}
use lib.ListN.{length}
use Rattle.semantics.specs.Tree.{Item, expr_at}
use Rattle.image_fields.specs.Image.{expr_count, first_of, item_place, item_here, decode}
use Rattle.given.specs.Given.{given}
use Rattle.given.specs.Bindings.{bindings_fit}
use Rattle.given.specs.Inside.Resolved.{resolved}
use Rattle.narrow_texts.specs.Inside.Numbers.{numbered}
use Rattle.walk_visit.specs.declared.State.{State}
use Rattle.walk_visit.specs.declared.Rule.TheVariants.{Others}
use Rattle.walk_visit.specs.Inside.Steps.{rule_of, role_enters, enters_item}
use Rattle.walk_visit.specs.Inside.Parts.{Stepped}
use Rattle.walk_visit.proofs.ItemLaws.{others≢bindings, others≢guarded, enters-nothing, enters-role, opens-none, binding_around}
use Rattle.walk_visit.proofs.AnswerLaws.{unopened}
use Rattle.walk_guard.specs.Inside.Added.{Ready}
use Rattle.walk_guard.proofs.GuardLaws.{inside-none}
use Rattle.walk_run.specs.Inside.Run.{sheet, Traversed}
use Rattle.walk_run.specs.Inside.Items.{Rest, Going, Leading, Led}
use Rattle.walk_run.proofs.StepLaws.{Own}
use Rattle.walk_run.proofs.WalkLaws.{stop-empty}
use Rattle.walk_run.proofs.LoopLaws.{going_start, going_skip, going-visited, paid-none, item_there, item-own, child-below}

module _ {s resolutions : List ℕ} {e force : ℕ} {state : State} (l : Leading s resolutions e force state) where
  ready_of : {bindings : List ℕ} → bindings_fit s bindings ≡ true → Ready s resolutions bindings e force state
  ready_of f =
      record {
        accepted = l.accepted;
        resolved = l.resolved;
        bound = f;
        inside = l.inside;
        going = l.going;
        force_few = l.force_few;
        edges_few = l.edges_few;
        credit-few = omega (arith, l.credit-few);
      }

  -- one step later
  pub leading-next : (b : ℕ) {child : ℕ} {edges : List ℕ} {state' : State} {edges' : List ℕ} → Stepped (decode s) (resolved resolutions) child (numbered b) force state edges state' edges' → 0 < state'.left
      → Leading s resolutions e force state'
  leading-next b p o =
      record {
        accepted = l.accepted;
        resolved = l.resolved;
        inside = l.inside;
        going = o;
        force_few = omega (arith, l.force_few, p.left);
        edges_few = omega (arith, l.edges_few, p.few);
        force_most = omega (arith, l.force_most, p.more);
        credit-few = omega (arith, l.credit-few, p.left, p.recorded);
      }

-- what has been visited, whatever the other buffers and the bindings are
module _ (s resolutions : List ℕ) (e bound force : ℕ) (state : State) (edges : List ℕ) where
  pub record Leaf (here : State) (there : List ℕ) (k : ℕ) : Type 0 where
    pub leading : Leading s resolutions e force here
    pub below : k ≤ length (expr_at (decode s) e).items
    pub going : (bindings ns xs w : List ℕ) → bindings_fit s bindings ≡ true → Going s resolutions bindings e bound force 0 (sheet state edges ns xs w) (sheet here there ns xs w) k

  module _ (l : Leading s resolutions e force state) where
    pub leaf-start : Leaf state edges 0
    leaf-start =
        record {
          leading = l;
          below = omega arith;
          going = λ bindings ns xs w f. going_start 0 (sheet state edges ns xs w) (omega arith) l.going (omega (arith, l.force_few, paid-none (decode s) (given resolutions bindings) e));
        }

    -- no item is visited where a rule holds
    pub led_none : Led s resolutions e bound force state edges state edges 0
    led_none =
        record {
          bare = λ z. absurd (omega (arith, z));
          going = λ bindings ns xs w f o. leaf-start.going bindings ns xs w f;
          over = λ bindings ns xs w f z. absurd (omega (arith, z, l.going));
        }

  -- the item behind the last
  pub leaf_end : {here : State} {there : List ℕ} {k count : ℕ} → Leaf here there k → count ≤ k → k ≤ count → Leaf here there count
  leaf_end {here} {there} g h l = subst (Leaf here there) (omega (arith, h, l)) g

  module _ {here : State} {there : List ℕ} {k : ℕ} (g : Leaf here there k) (rule : Others ≡ rule_of (decode s) e) where
    pub led_here : Led s resolutions e bound force state edges here there k
    led_here =
        record {
          bare = λ z. sym rule;
          going = λ bindings ns xs w f o. g.going bindings ns xs w f;
          over = λ bindings ns xs w f z. absurd (omega (arith, z, g.leading.going));
        }

    -- the item at k
    module _ {items count : ℕ} (p : items ≡ item_place s (first_of s e + 0)) (n : count ≡ length (expr_at (decode s) e).items) (h : k < count) {child : ℕ}
        (child-is : child ≡ (item_here s (items + 4 * k)).expression) where
      abbrev i : Item
      i = item_here s (items + 4 * k)

      inside-few : k < length (expr_at (decode s) e).items
      inside-few = omega (arith, n, h)

      pub leaf_skip : child ≡ 16383 → Leaf here there (k + 1)
      leaf_skip z =
          record {
            leading = g.leading;
            below = omega (arith, inside-few);
            going = λ bindings ns xs w f.
                going_skip (g.going bindings ns xs w f) inside-few (item_there s g.leading.accepted e g.leading.inside k p n h) (inl rule) (enters-nothing Others i child-is z)
                g.leading.accepted g.leading.inside refl;
          }

      module _ (z : child ≡ 16383 → ⊥) where
        entered : true ≡ enters_item Others i
        unfolding role_enters
        entered = enters-role Others i child-is z refl refl

        pub leaf-below : child < expr_count s
        leaf-below = omega (arith, child-below s g.leading.accepted e g.leading.inside k p n h Others entered refl child-is, g.leading.inside)

        own : Own i
        own = item-own s g.leading.accepted e g.leading.inside k p n h

        small : force < 2 ^ 32
        small = omega (arith, g.leading.force_few, g.leading.going)

        -- it has no items, and is visited
        module _ {below : ℕ} (m : below ≡ length (expr_at (decode s) child).items) (y : below ≡ 0) {state' : State} {edges' : List ℕ}
            (q : Stepped (decode s) (resolved resolutions) child (numbered bound) force here there state' edges') where
          module _ (bindings ns xs w : List ℕ) (f : bindings_fit s bindings ≡ true) where
            ready : Ready s resolutions bindings child force here
            ready =
                let r = ready_of g.leading f in
                record {
                  accepted = r.accepted;
                  resolved = r.resolved;
                  bound = r.bound;
                  inside = leaf-below;
                  going = r.going;
                  force_few = r.force_few;
                  edges_few = r.edges_few;
                  credit-few = r.credit-few;
                }

            visited : Traversed s resolutions bindings child bound force (sheet here there ns xs w) (sheet state' edges' ns xs w)
            visited = stop-empty ready bound ns xs w q m y

            next : (state'.left ≡ 0 → Rest s resolutions bindings e bound force 0 (sheet state edges ns xs w) (sheet state' edges' ns xs w))
                × (0 < state'.left → Going s resolutions bindings e bound force 0 (sheet state edges ns xs w) (sheet state' edges' ns xs w) (k + 1))
            next =
                going-visited (g.going bindings ns xs w f) inside-few (item_there s g.leading.accepted e g.leading.inside k p n h) (inl rule) entered refl refl
                (binding_around Others bound i others≢bindings) child-is (unopened bound child force w here ns xs (opens-none Others i.role others≢bindings) refl) refl
                (inside-none (ready_of g.leading f) k w (inl rule) others≢guarded) refl small g.leading.going visited g.leading.force_most own g.leading.accepted

          pub leaf-over : state'.left ≡ 0 → Led s resolutions e bound force state edges state' edges' k
          leaf-over o =
              record {
                bare = λ x. sym rule;
                going = λ bindings ns xs w f x. absurd (omega (arith, o, x));
                over = λ bindings ns xs w f x. (next bindings ns xs w f).0 x;
              }

          pub leaf-more : 0 < state'.left → Leaf state' edges' (k + 1)
          leaf-more o = record { leading = leading-next g.leading bound q o; below = omega (arith, inside-few); going = λ bindings ns xs w f. (next bindings ns xs w f).1 o }
