-- The nodes of a condition from those of its parts, each up to the largest count.
use mathlib.Core.Path.{◌≡◌, refl, ap, sym, ◌∙◌}
use mathlib.Core.Bool.{true}
use mathlib.Core.List.{List, map}
use Prim.Native.Nat.{ℕ, ◌+◌, ◌*◌, ◌≤◌, ◌<◌, ◌^◌, min}
use native.Mathlib.Omega.{arith}
use native.Mathlib.Decide.{dec_lt, ℕ_discrete}
use lib.Dec.{leb}
use lib.ListN.{length, set}
use lib.Seq.{get_or-set_same, get_or-set_other}
use borrow.Author.Tests.{leb-true, leb-false}
use Rattle.semantics.specs.Base.{sum, pick}
use Rattle.semantics.specs.Tree.{Tree, expr_at, item_at, part}
use Rattle.semantics.specs.Narrow.{shape, analysed, nodes}
use Rattle.semantics.specs.Order.{arity}
use Rattle.semantics.specs.Resolution.{own}
use Rattle.semantics.proofs.BaseLaws.{true≢false}
use Rattle.semantics.proofs.OrderLaws.{ordered-runs}
use Rattle.image_fields.specs.Image.{expr_count, count_of, decode}
use Rattle.image.specs.Inside.Accepted.{Accepted}
use Rattle.image.proofs.OrderedLaws.{ordered, part-inside, part-below}
use Rattle.resolve_counts.specs.Inside.Visits.{stop, count_at}
use Rattle.narrow_run.specs.Inside.Run.{Connects}
use Rattle.narrow_run.specs.declared.Connective.{Connective}
use Rattle.narrow_run.specs.declared.Connective.TheVariants.{Leaf, Not}
use Rattle.narrow_run.proofs.RunLaws.{Joined, none-analysed, inverted, inverted_there, joins}
use Rattle.narrow_counts.specs.Inside.Nodes.{Filled, Counted, Affords}

two_parts : arity 7 ≡ 2
unfolding arity pick
two_parts = refl

-- a count of an expression, by the room
module _ (s : List ℕ) (a : Accepted s) (c : ℕ) (l : c < expr_count s) where
  abbrev t : Tree
  t = decode s

  nodes_are : nodes t c ≡ 1 + sum (map (nodes t) (analysed (shape t c)))
  nodes_are = (ordered-runs t (own t) (ordered s a)).nodes_are c

  -- `nodes_of`
  pub counted-leaf : Connects t c Leaf → Counted t c 1
  unfolding sum
  counted-leaf q =
      let n : nodes t c ≡ 1 = nodes_are ∙ rw (none-analysed t c q) in
      record { told = λ h. sym n; over = λ h. absurd (omega (arith, h)); small = omega arith }

  -- a part, by its place
  pub part-inside-of : {j : ℕ} → j < arity (expr_at t c).kind → j < count_of s c
  part-inside-of {j} h = part-inside s a c l j h

  module _ {j x : ℕ} (h : j < arity (expr_at t c).kind) (p : x ≡ (item_at t c j).expression) where
    pub part_below : x < c
    unfolding part
    part_below = omega (arith, p, part-below s a c l j h)

    part-is : {room : List ℕ} → Filled t c room → {u : ℕ} → u ≡ count_at room x → u ≡ min (nodes t (part t c j)) stop
    unfolding part
    part-is f g = g ∙ f.counts x part_below ∙ ap (λ z. min (nodes t z) stop) p

  pub joined : (k : Connective) → Connects t c k → Joined k → {j : ℕ} → j < 2 → j < arity (expr_at t c).kind
  joined k q o h = rw ((joins t c k q o).kind, two_parts) h

  module _ {room : List ℕ} (f : Filled t c room) {x u : ℕ} (p : x ≡ (item_at t c 0).expression) (g : u ≡ count_at room x) where
    pub counted-not : Connects t c Not → Counted t c (1 + u)
    unfolding sum
    counted-not q =
        let n : nodes t c ≡ 1 + (nodes t (part t c 0) + 0) = nodes_are ∙ rw (inverted t c q) in
        let first = part-is (inverted_there t c q) p f g in
        record { told = λ m. omega (arith, n, first, m); over = λ m. omega (arith, n, first, m); small = omega (arith, first) }

    pub counted-both : (k : Connective) → Connects t c k → Joined k → {y v : ℕ} → y ≡ (item_at t c 1).expression → v ≡ count_at room y → Counted t c (1 + u + v)
    unfolding sum
    counted-both k q o r w =
        let n : nodes t c ≡ 1 + (nodes t (part t c 0) + (nodes t (part t c 1) + 0)) = nodes_are ∙ rw (joins t c k q o).both in
        let first = part-is (joined k q o {j = 0} (omega arith)) p f g in
        let second = part-is (joined k q o {j = 1} (omega arith)) r f w in
        record { told = λ m. omega (arith, n, first, second, m); over = λ m. omega (arith, n, first, second, m); small = omega (arith, first, second) }

-- `fill_nodes`
pub filled_none : (t : Tree) (room : List ℕ) → Filled t 0 room
filled_none t room = record { counts = λ e l. absurd (omega (arith, l)) }

pub filled_more : {t : Tree} {e x r : ℕ} {room : List ℕ} → Filled t e room → e < length room → Counted t e r → x ≡ min r stop → Filled t (e + 1) (set room e x)
filled_more {t} {e} {x} {r} {room} f l c m =
    record {
      counts = λ d k. elim (ℕ_discrete d e) [
        | yes z ↦ rw z (get_or-set_same room e x 0 l ∙ m ∙ exact)
        | no z ↦ get_or-set_other room e d x 0 z ∙ f.counts d (omega (arith, k, z))
      ];
    }
  where
    exact : min r stop ≡ min (nodes t e) stop
    exact = elim (dec_lt stop r) [ yes h ↦ omega (arith, h, c.over h) | no h ↦ omega (arith, h, c.told (omega (arith, h))) ]

pub filled_less : {t : Tree} {e n : ℕ} {room : List ℕ} → Filled t e room → n ≤ e → Filled t n room
filled_less f l = record { counts = λ d k. f.counts d (omega (arith, k, l)) }

-- `affordable`
pub not_asked : {exprs n steps budget : ℕ} → n ≡ exprs → budget ≤ 16 * n → Affords exprs steps budget true
not_asked h l = record { within = λ z m. absurd (omega (arith, h, l, m)); over = λ z. absurd (true≢false refl z) }

pub asked : {t : Tree} {exprs c r budget : ℕ} → budget < 2 ^ 32 → Counted t c r → Affords exprs (nodes t c) budget (leb r budget)
asked {t} {exprs} {c} {r} {budget} small h =
    record {
      within = λ z m. let l = leb-true r budget z in omega (arith, l, small, h.told (omega (arith, l, small)));
      over = λ z. let l : budget < r = leb-false r budget z in more l;
    }
  where
    more : budget < r → budget < nodes t c
    more l = elim (dec_lt stop r) [ yes m ↦ omega (arith, m, small, h.over m) | no m ↦ omega (arith, l, h.told (omega (arith, m))) ]
