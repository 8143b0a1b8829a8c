-- What a visit and a binding add to the answers, in the terms of the code.
use Rattle.std.specs.Prelude.{Option, Some, None}
use mathlib.Core.Path.{◌≡◌, refl, ap, sym, ◌∙◌}
use mathlib.Core.Bool.{Bool, true, false}
use mathlib.Core.List.{List, [], map}
use Prim.Native.Nat.{ℕ, suc, ◌+◌, ◌-◌, ◌*◌, ◌≤◌, ◌<◌, max}
use native.Mathlib.Omega.{arith}
use lib.ListN.{length}
use Rattle.image_fields.specs.Inside.Words.{word_of}
use Rattle.semantics.specs.Base.{listed, each, ◌>>=◌}
use Rattle.semantics.specs.Tree.{Tree}
use Rattle.semantics.specs.Resolution.{Tables}
use Rattle.semantics.specs.Narrow.{local_name}
use Rattle.image_fields.specs.Inside.Numbers.{number_or}
use Rattle.lent.specs.Inside.Stores.{store16, store32}
use Rattle.narrow_texts.specs.Inside.Numbers.{numbered, Finds}
use Rattle.narrow_run.specs.Inside.Run.{stored}
use Rattle.narrow_texts.proofs.NumberLaws.{numbered-none, numbered-some}
use Rattle.narrow_run.proofs.RunLaws.{fed-none}
use Rattle.semantics.proofs.BaseLaws.{true≢false}
use Rattle.walk_visit.specs.declared.State.{State}
use Rattle.walk_visit.specs.declared.Rule.{Rule}
use Rattle.walk_visit.specs.Inside.Steps.{opens_at}
use Rattle.walk_visit.specs.Inside.Parts.{edges_of, edge_number, numbers_in, Stepped, Edged, records_of, Copied, Recorded, Bound}

-- `number`: what was found below 16383 as a number, 16383 for nothing
module _ {bound : ℕ} {o : Option ℕ} (r : Option ℕ) (f : Finds bound o r) (few : bound ≤ 16383) {name : ℕ} (n : name ≡ number_or 16383 (r)) where
  number-none : name ≡ 16383 → o ≡ None
  unfolding number_or
  number-none h = go r f n
    where
      go : (r : Option ℕ) → Finds bound o r → name ≡ number_or 16383 (r) → o ≡ None
      go None g q = g.this
      go (Some x) g q = absurd (omega (arith, h, q, g.inside, few))

  number-some : (name ≡ 16383 → ⊥) → (o ≡ Some name) × (name < bound)
  unfolding number_or
  number-some h = go r f n
    where
      go : (r : Option ℕ) → Finds bound o r → name ≡ number_or 16383 (r) → (o ≡ Some name) × (name < bound)
      go None g q = absurd (h q)
      go (Some x) g q = (g.this ∙ ap Some (sym q), omega (arith, q, g.inside))

  pub number-below : (name ≡ 16383 → ⊥) → name < bound
  number-below h = (number-some h).1

-- `edge`
module _ (t : Tree) (tab : Tables) (e binding : ℕ) (state : State) (edges : List ℕ) where
  unchanged : edges_of t tab e (numbered binding) ≡ [] → Edged t tab e (numbered binding) state edges state edges
  unchanged h = record { left = refl; recorded = refl; most = refl; fed = rw h (fed-none _ _) }

  pub no_edge : binding ≡ 16383 → Edged t tab e (numbered binding) state edges state edges
  unfolding edges_of listed ◌>>=◌
  no_edge h = unchanged (rw (numbered-none h))

  module _ (h : binding ≡ 16383 → ⊥) {bound : ℕ} (r : Option ℕ) (f : Finds bound (local_name t tab e) r) (few : bound ≤ 16383) {name : ℕ} (n : name ≡ number_or 16383 (r)) where
    pub no_name_lem : name ≡ 16383 → Edged t tab e (numbered binding) state edges state edges
    unfolding edges_of listed ◌>>=◌
    no_name_lem g = unchanged (rw (numbered-some h, number-none r f few n g))

    pub one-edge : (name ≡ 16383 → ⊥) → {edges' : List ℕ} → edges' ≡ store32 edges (4 * state.edges) ((binding * 16384 + name) * 16)
        → Edged t tab e (numbered binding) state edges (record state { edges = state.edges + 1 }) edges'
    unfolding edges_of listed ◌>>=◌ edge_number stored
    one-edge g q =
        record {
          left = refl;
          recorded = refl;
          most = refl;
          fed = rw (numbered-some h, (number-some r f few n g).0) (record { number = omega arith; value = q });
        }

-- `visit`
module _ (t : Tree) (tab : Tables) (e : ℕ) (b : Option ℕ) (force : ℕ) (state : State) (edges : List ℕ) where
  pub step_over : state.left - 1 ≡ 0 → Stepped t tab e b force state edges (record state { left = state.left - 1 }) edges
  step_over h =
      record {
        left = refl;
        recorded = refl;
        few = omega arith;
        more = omega arith;
        most = λ o. absurd (omega (arith, h, o));
        fed = λ o. absurd (omega (arith, h, o));
      }

  edge_few : length (map edge_number (edges_of t tab e b)) ≤ 1
  unfolding edges_of listed
  edge_few = go (b >>= λ from. local_name t tab e >>= λ to. Some (from, to))
    where
      go : (o : Option (ℕ × ℕ)) → length (map edge_number (listed o)) ≤ 1
      go None = omega arith
      go (Some x) = omega arith

  pub step_on : (state.left - 1 ≡ 0 → ⊥) → {most : ℕ} → most ≡ max state.most force → {state' : State} {edges' : List ℕ}
      → Edged t tab e b (record state { left = state.left - 1; most = most }) edges state' edges' → Stepped t tab e b force state edges state' edges'
  step_on h {most} q d =
      record {
        left = d.left;
        recorded = d.recorded;
        few = omega (arith, d.left, d.fed.number, edge_few, h);
        more = omega (arith, d.most, q);
        most = λ o. d.most ∙ q;
        fed = λ o. d.fed;
      }

-- `record_active`: what is left to copy from here gives what is to be copied in all
pub record Copying (name force count : ℕ) (w start now : List ℕ) (i : ℕ) : Type 0 where
  pub inside : i ≤ force
  pub room : 4 * force ≤ length w
  pub kept : length now ≡ length start
  pub fits : 8 * (count + force) ≤ length start
  pub rest : stored (records_of name (numbers_in w i (force - i))) (2 * (count + i)) now ≡ stored (records_of name (numbers_in w 0 force)) (2 * count) start

module _ {name force count : ℕ} {w start : List ℕ} where
  pub copying_start : 4 * force ≤ length w → 8 * (count + force) ≤ length start → Copying name force count w start start 0
  copying_start h g =
      let a : force - 0 ≡ force = omega arith in
      let b : count + 0 ≡ count = omega arith in
      record { inside = omega arith; room = h; kept = refl; fits = g; rest = rw (a, b) }

  pub copying_done : {now : List ℕ} {i : ℕ} → Copying name force count w start now i → force ≤ i → Copied name force count w start now
  unfolding records_of numbers_in each stored
  copying_done {now} {i} g h r f = let z : force - i ≡ 0 = omega (arith, h) in sym (subst-rest z) ∙ g.rest
    where
      subst-rest : force - i ≡ 0 → stored (records_of name (numbers_in w i (force - i))) (2 * (count + i)) now ≡ now
      subst-rest z = rw z

  pub copying_more : {now mid after : List ℕ} {i x : ℕ} → Copying name force count w start now i → i < force → mid ≡ store32 now (8 * (count + i)) (name * 262144)
      → x ≡ word_of w (4 * i) 4 → after ≡ store32 mid (8 * (count + i) + 4) x → length after ≡ length now → Copying name force count w start after (i + 1)
  unfolding records_of numbers_in each stored
  copying_more {now} {mid} {after} {i} {x} g h p q r k =
      let a : force - i ≡ suc (force - (i + 1)) = omega (arith, h) in
      let b : 8 * (count + i) ≡ 4 * (2 * (count + i)) = omega arith in
      let c : 8 * (count + i) + 4 ≡ 4 * (2 * (count + i) + 1) = omega arith in
      let d : 2 * (count + i) + 1 + 1 ≡ 2 * (count + (i + 1)) = omega arith in
      record {
        inside = omega arith;
        room = g.room;
        kept = k ∙ g.kept;
        fits = g.fits;
        rest = rw (r, p, q, c, b, ← d) (rw a at g.rest);
      }

-- `record_binding`
pub binding-recorded : {name e force : ℕ} {w : List ℕ} {state : State} {narrowings exprs narrowings' exprs' : List ℕ} → exprs' ≡ store16 exprs (2 * name) e
    → Copied name force state.recorded w narrowings narrowings'
    → Recorded name e force w state narrowings exprs (record state { recorded = state.recorded + force }) narrowings' exprs'
binding-recorded x c = record { left = refl; edges = refl; recorded = refl; most = refl; copied = c; bound = x }

-- `open_binding`
module _ {rule : Rule} {role : ℕ} (name e force : ℕ) (w : List ℕ) (state : State) (narrowings exprs : List ℕ) {b : Bool} (o : b ≡ opens_at rule role) where
  pub unopened : b ≡ false → Bound rule role name e force w state narrowings exprs state narrowings exprs
  unopened h = record { opened = λ z. absurd (true≢false (o ∙ z) h); same = λ z. (refl, refl, refl) }

  pub is-opened : b ≡ true → {state' : State} {narrowings' exprs' : List ℕ} → Recorded name e force w state narrowings exprs state' narrowings' exprs'
      → Bound rule role name e force w state narrowings exprs state' narrowings' exprs'
  is-opened h r = record { opened = λ z. r; same = λ z. absurd (true≢false h (o ∙ z)) }
