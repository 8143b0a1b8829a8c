-- The loop over the events: a Reference comes, or what lies inside an expression ends.
use Rattle.std.specs.Prelude.{None}
use mathlib.Core.Path.{◌≡◌, refl, ap, sym, subst, ◌∙◌}
use mathlib.Core.Bool.{Bool, true, false, ◌&&◌, ◌||◌}
use mathlib.Core.List.{List, [], ◌∷◌, ◌++◌, map}
use Prim.Native.Nat.{ℕ, suc, ◌+◌, ◌*◌, ◌^◌, ◌≤◌, ◌<◌}
use native.Mathlib.Omega.{arith}
use lib.Dec.{eqb, leb, ltb}
use lib.ListN.{length, get_or, set, drop, drop_of_length-le}
use lib.Seq.{drop-cons}
use borrow.Author.Tests.{eq-eqb, ne_eqb, eqb-true, ltb-true}
use Rattle.semantics.specs.Base.{keep, listed, only, All}
use Rattle.semantics.specs.Tree.{Tree, Item, no_item, expr_at, name_at, item_at, is_kind}
use Rattle.semantics.specs.Scopes.{ScopeVisit, defines, defined}
use Rattle.semantics.proofs.BaseLaws.{true≢false, and_right}
use Rattle.lent.specs.Inside.Stores.{store16}
use Rattle.lent.proofs.BufferLaws.{length-store16}
use Rattle.image_fields.specs.Image.{expr_count, text_count, name_count, kind_of, detail_of, expr_text_of, decode}
use Rattle.image_fields.specs.Inside.Words.{word_of}
use Rattle.image_fields.proofs.ImageLaws.{tree-exprs, tree-expr, tree-kind, tree-texts, tree-names}
use Rattle.image_rules.specs.Rules.{detail_count, texted, text_fits, expr_fits}
use Rattle.image.specs.Inside.Accepted.{Accepted}
use Rattle.resolve_laws.specs.Inside.Last.{entered}
use Rattle.resolve_laws.specs.Inside.Settle.{names, text_of}
use Rattle.resolve_laws.specs.Inside.Classes.{class_of}
use Rattle.resolve_laws.specs.Inside.Events.{Event, refers, leaves, give_if, from, play}
use Rattle.resolve_laws.specs.Inside.Waiting.{waits}
use Rattle.resolve_laws.specs.Inside.Logged.{log_of, half, Logged, Traced}
use Rattle.resolve_laws.proofs.ClassLaws.{classes}
use Rattle.resolve_laws.proofs.EventLaws.{play-length, from-length}
use Rattle.text_classes.proofs.NameLaws.{class_inside}
use Rattle.resolve_settle.specs.Inside.Chains.{Chain, Chained, Unchained}
use Rattle.resolve_settle.specs.Inside.Settling.{class_in, visits_in, found_at, Held, entry_for, mark_in, Holding, log_to, Settled, Beside, names_from, Giving}
use Rattle.resolve_settle.proofs.HalfLaws.{half-other}
use Rattle.resolve_settle.proofs.GiveLaws.{from_nothing, from_more}
use Rattle.resolve_settle.proofs.HoldLaws.{first-kept, chained, left-small, chain-beside, holding-given, holding_refer, holding-none}
use Rattle.resolve_settle.proofs.LogLaws.{Right, log_right, closing_there, reference_there, closing-other, visits_of, visits_played, log_long, log_none, Coming, next_event, coming}

-- a link stored in the event of a Reference leaves what the events say
logged-kept : (t : Tree) (log : List Event) (w : List ℕ) (p x : ℕ) → Logged log w → All (Right t) log → is_kind t 10 (half w (2 * p)) ≡ true
    → Logged log (store16 w (2 * (2 * p + 1)) x)
unfolding Logged Right
logged-kept t [] w p x h a k = tt
logged-kept t (refers v ∷ log) w p x h a k = (first-kept w p x (length log) ∙ h.0, logged-kept t log w p x h.1 a.1 k)
logged-kept t (leaves e b ∷ log) w p x h a k = (
  first-kept w p x (length log) ∙ h.0,
  half-other w (2 * length log + 1) (2 * p + 1) x (λ z. other (omega (arith, z))) ∙ h.1,
  logged-kept t log w p x h.2 a.1 k,
)
  where
    other : length log ≡ p → ⊥
    other z = closing-other t e a.0 (subst (λ y. is_kind t 10 y ≡ true) h.0 (subst (λ y. is_kind t 10 (half w (2 * y)) ≡ true) (sym z) k))

play-none : (t : Tree) → play t [] ≡ []
unfolding play
play-none t = refl

-- nothing is settled before the first event
module _ {s : List ℕ} (a : Accepted s) {table working heads : List ℕ} {events : ℕ} (g : Traced (decode s) table working events)
    (clear : (c : ℕ) → get_or heads c 0 ≡ 0) (heads_fit : text_count s ≤ length heads) (room : 4 * expr_count s ≤ length working) (table_fits : 2 * expr_count s ≤ length table) where
  nothing-held : Holding (decode s) (class_in (decode s)) 0 [] heads working table
  unfolding Held visits_in Chain waits found_at entry_for mark_in
  nothing-held =
      record {
        held = tt;
        apart = tt;
        low = tt;
        chains = λ c m. clear c;
        entries = λ e m. g.marked.marks e m;
        heads_fit = rw (tree-texts s) heads_fit;
        events_fit = omega arith;
        few = omega arith;
        table_fits = rw (tree-exprs s) table_fits;
      }

  pub settled-start : Settled (decode s) (class_in (decode s)) 0 heads working table
  settled-start =
      record {
        inside = omega arith;
        few = rw (← g.number) g.few;
        logged = g.logged;
        room = rw (tree-exprs s) room;
        holding = subst (λ l. Holding (decode s) (class_in (decode s)) 0 l heads working table) (sym start_played) nothing-held;
      }
    where
      start_played : play (decode s) (log_to (decode s) 0) ≡ []
      start_played = ap (play (decode s)) (log_none (decode s)) ∙ play-none (decode s)

-- the numbers of an event
word_first : (w : List ℕ) (p : ℕ) → word_of w (4 * p) 2 ≡ half w (2 * p)
word_first w p = let z : 4 * p ≡ 2 * (2 * p) = omega arith in rw z

word-second : (w : List ℕ) (p : ℕ) → word_of w (4 * p + 2) 2 ≡ half w (2 * p + 1)
word-second w p = let z : 4 * p + 2 ≡ 2 * (2 * p + 1) = omega arith in rw z

event_in : (t : Tree) (x : Event) (log : List Event) (w : List ℕ) → Logged (x ∷ log) w → All (Right t) (x ∷ log) → half w (2 * length log) < length t.exprs
unfolding Logged Right
event_in t (refers v) log w h a = subst (λ z. z < length t.exprs) (sym h.0) (reference_there t v.expr a.0)
event_in t (leaves e k) log w h a = subst (λ z. z < length t.exprs) (sym h.0) (closing_there t e a.0)

-- the names that items define, none and all of them
no_names : (t : Tree) (e k : ℕ) → length (expr_at t e).items ≤ k → names_from t e k ≡ []
unfolding names_from keep
no_names t e k h = rw (drop_of_length-le (expr_at t e).items {i = k} h)

all-names : (t : Tree) (e : ℕ) → names_from t e 0 ≡ defined t e
unfolding names_from defined
all-names t e = refl

module _ {s : List ℕ} (a : Accepted s) {p : ℕ} {heads working table : List ℕ} (h : Settled (decode s) (class_in (decode s)) p heads working table) where
  played_long : length (play (decode s) (log_to (decode s) p)) ≡ p
  played_long = play-length (decode s) (log_to (decode s) p) ∙ log_long (decode s) p h.inside

  module _ (l : p < length (log_of (decode s))) where
    next : Coming (decode s) p working (next_event (decode s) p)
    next = coming s a p working l h.logged

    -- the event is in the buffer, and its expression in the tree
    pub event_room : 4 * p + 4 ≤ length working
    event_room = omega (arith, h.few, h.room)

    pub event_there : {e : ℕ} → e ≡ word_of working (4 * p) 2 → e < expr_count s
    event_there {e} q =
        rw (← tree-exprs s) (subst (λ z. z < length (decode s).exprs) (sym (q ∙ word_first working p ∙ ap (λ k. half working (2 * k)) (sym (log_long (decode s) p h.inside))))
        (event_in (decode s) (next_event (decode s) p) (log_to (decode s) p) working next.logged next.right))

    pub place-few : p < 2 ^ 14
    place-few = omega (arith, h.few, tree-exprs s, a.sized.exprs-few)

    -- a Reference
    module _ {e c head : ℕ} {after : List ℕ} (q : e ≡ word_of working (4 * p) 2) (k : is_kind (decode s) 10 e ≡ true) (d : c ≡ class_of (decode s) (expr_at (decode s) e).text)
        (m : c < text_count s) (g : head ≡ get_or heads c 0) (u : after ≡ store16 working (4 * p + 2) head) where
      its : e ≡ half working (2 * p)
      its = q ∙ word_first working p

      refer_holds : (x : Event) → Coming (decode s) p working x → Holding (decode s) (class_in (decode s)) 0 (play (decode s) (log_to (decode s) (p + 1))) (set heads c (p + 1)) after table
      unfolding Logged Right play visits_of class_in
      refer_holds (leaves b j) n =
          absurd (closing-other (decode s) b n.right.0
          (subst (λ z. is_kind (decode s) 10 z ≡ true) (its ∙ ap (λ z. half working (2 * z)) (sym (log_long (decode s) p h.inside)) ∙ n.logged.0) k))
      refer_holds (refers v) n =
          subst (λ z. Holding (decode s) (class_in (decode s)) 0 (play (decode s) z) (set heads c (p + 1)) after table) (sym n.more)
          (holding_refer h.holding {v = v} {p = p} (sym played_long) here
          (subst (λ z. entered v.expr z ≡ None) (sym (visits_played (decode s) (log_to (decode s) p))) n.apart.0)
          (reference_there (decode s) v.expr n.right.0) event_room (omega (arith, place-few))
          (d ∙ ap (λ z. class_of (decode s) (expr_at (decode s) z).text) (its ∙ here)) (rw (tree-texts s) m) g u)
        where
          here : half working (2 * p) ≡ v.expr
          here = ap (λ z. half working (2 * z)) (sym (log_long (decode s) p h.inside)) ∙ n.logged.0

      pub settled_refer : Settled (decode s) (class_in (decode s)) (p + 1) (set heads c (p + 1)) after table
      settled_refer =
          record {
            inside = omega arith;
            few = h.few;
            logged = subst (Logged (log_of (decode s))) (sym (u ∙ ap (λ z. store16 working z head) (omega arith)))
                (logged-kept (decode s) (log_of (decode s)) working p head h.logged (log_right (decode s)) (subst (λ z. is_kind (decode s) 10 z ≡ true) its k));
            room = rw (u, length-store16 working (4 * p + 2) head) h.room;
            holding = refer_holds (next_event (decode s) p) next;
          }

      pub settled_referred : {heads' : List ℕ} → heads' ≡ set heads c (p + 1) → Settled (decode s) (class_in (decode s)) (p + 1) heads' after table
      settled_referred z = subst (λ w. Settled (decode s) (class_in (decode s)) (p + 1) w after table) (sym z) settled_refer

    -- which of the two it is
    module _ {e kind : ℕ} (q : e ≡ word_of working (4 * p) 2) (n : kind ≡ (expr_at (decode s) e).kind) where
      pub is-reference : kind ≡ 10 → is_kind (decode s) 10 e ≡ true
      unfolding is_kind
      is-reference z = eq-eqb (expr_at (decode s) e).kind 10 (sym n ∙ z)

      pub is-other : (kind ≡ 10 → ⊥) → is_kind (decode s) 10 (half working (2 * p)) ≡ false
      unfolding is_kind
      is-other z = subst (λ y. eqb (expr_at (decode s) y).kind 10 ≡ false) (q ∙ word_first working p) (ne_eqb (expr_at (decode s) e).kind 10 (λ y. z (n ∙ y)))

    -- the end of what lies inside an expression: the names of none of its items are given yet
    module _ {e start : ℕ} (q : e ≡ word_of working (4 * p) 2) (r : start ≡ word_of working (4 * p + 2) 2) where
      pub giving_start : {k : ℕ} → k ≡ length (expr_at (decode s) e).items → Giving (decode s) (class_in (decode s)) p e start k heads working table
      giving_start {k} n =
          record {
            inside = omega (arith, n);
            holding = subst (λ z. Holding (decode s) (class_in (decode s)) 0 z heads working table)
                (sym (ap (λ z. from start (give_if (decode s) z) (play (decode s) (log_to (decode s) p))) (no_names (decode s) e k (omega (arith, n))) ∙ from_nothing (decode s) start (play (decode s) (log_to (decode s) p)))) h.holding;
          }

      -- all of them are
      leave_holds : {heads' table' : List ℕ} → is_kind (decode s) 10 e ≡ false
          → Holding (decode s) (class_in (decode s)) 0 (from start (give_if (decode s) (defined (decode s) e)) (play (decode s) (log_to (decode s) p))) heads' working table'
          → (x : Event) → Coming (decode s) p working x → Holding (decode s) (class_in (decode s)) 0 (play (decode s) (log_to (decode s) (p + 1))) heads' working table'
      unfolding Logged Right play
      leave_holds k g (refers v) n =
          absurd (true≢false (subst (λ z. is_kind (decode s) 10 z ≡ true) (sym (q ∙ word_first working p ∙ ap (λ z. half working (2 * z)) (sym (log_long (decode s) p h.inside)) ∙ n.logged.0)) n.right.0) k)
      leave_holds {heads'} {table'} k g (leaves b j) n =
          subst (λ z. Holding (decode s) (class_in (decode s)) 0 (play (decode s) z) heads' working table') (sym n.more)
          (holding-none (subst (λ z. Holding (decode s) (class_in (decode s)) 0 (from z (give_if (decode s) (defined (decode s) b)) (play (decode s) (log_to (decode s) p))) heads' working table') begin
          (subst (λ z. Holding (decode s) (class_in (decode s)) 0 (from start (give_if (decode s) (defined (decode s) z)) (play (decode s) (log_to (decode s) p))) heads' working table') ended g))
          (omega (arith, long b j, event_room)) (omega (arith, long b j, place-few)))
        where
          ended : e ≡ b
          ended = q ∙ word_first working p ∙ ap (λ z. half working (2 * z)) (sym (log_long (decode s) p h.inside)) ∙ n.logged.0

          begin : start ≡ j
          begin = r ∙ word-second working p ∙ ap (λ z. half working (2 * z + 1)) (sym (log_long (decode s) p h.inside)) ∙ n.logged.1

          long : (c i : ℕ) → length (from i (give_if (decode s) (defined (decode s) c)) (play (decode s) (log_to (decode s) p))) ≡ p
          long c i = from-length i (give_if (decode s) (defined (decode s) c)) (play (decode s) (log_to (decode s) p)) ∙ played_long

      pub settled_leave : {heads' table' : List ℕ} → is_kind (decode s) 10 (half working (2 * p)) ≡ false → {k : ℕ} → Giving (decode s) (class_in (decode s)) p e start k heads' working table' → k ≡ 0
          → Settled (decode s) (class_in (decode s)) (p + 1) heads' working table'
      settled_leave {heads'} {table'} other {k} g z =
          record {
            inside = omega arith;
            few = h.few;
            logged = h.logged;
            room = h.room;
            holding = leave_holds (subst (λ z. is_kind (decode s) 10 z ≡ false) (sym (q ∙ word_first working p)) other) (subst (λ ns. Holding (decode s) (class_in (decode s)) 0 (from start (give_if (decode s) ns) (play (decode s) (log_to (decode s) p))) heads' working table') (ap (names_from (decode s) e) z ∙ all-names (decode s) e) g.holding) (next_event (decode s) p) next;
          }

-- what changed in the table, one after the other
pub beside_same : (n : ℕ) (l : List ℕ) → Beside n l l
beside_same n l = record { kept = refl; behind = refl }

pub beside_then : {n : ℕ} {x y z : List ℕ} → Beside n x y → Beside n y z → Beside n x z
beside_then b c = record { kept = c.kept ∙ b.kept; behind = c.behind ∙ b.behind }

-- one item
skipped : (t : Tree) (e j : ℕ) (i : Item) (is : List Item) (b : Bool) → defines t i ≡ b → b ≡ false → map (λ m. m.name) (keep (defines t) (i ∷ is)) ≡ map (λ m. m.name) (keep (defines t) is)
unfolding keep listed only
skipped t e j i is b d f = ap (λ z. map (λ m. m.name) (listed (only z i) ++ keep (defines t) is)) (d ∙ f)

taken : (t : Tree) (e j : ℕ) (i : Item) (is : List Item) (b : Bool) → defines t i ≡ b → b ≡ true → map (λ m. m.name) (keep (defines t) (i ∷ is)) ≡ i.name ∷ map (λ m. m.name) (keep (defines t) is)
unfolding keep listed only
taken t e j i is b d f = ap (λ z. map (λ m. m.name) (listed (only z i) ++ keep (defines t) is)) (d ∙ f)

names_cons : (t : Tree) (e j : ℕ) → j < length (expr_at t e).items → names_from t e j ≡ map (λ m. m.name) (keep (defines t) (item_at t e j ∷ drop (suc j) (expr_at t e).items))
unfolding names_from item_at
names_cons t e j l = ap (λ is. map (λ m. m.name) (keep (defines t) is)) (drop-cons (expr_at t e).items j no_item l)

names_skip : (t : Tree) (e j : ℕ) → j < length (expr_at t e).items → {i : Item} → item_at t e j ≡ i → {b : Bool} → b ≡ defines t i → b ≡ false → names_from t e j ≡ names_from t e (suc j)
unfolding names_from
names_skip t e j l h {b} d f = names_cons t e j l ∙ skipped t e j (item_at t e j) (drop (suc j) (expr_at t e).items) b (ap (defines t) h ∙ sym d) f

names-take : (t : Tree) (e j : ℕ) → j < length (expr_at t e).items → {i : Item} → item_at t e j ≡ i → {b : Bool} → b ≡ defines t i → b ≡ true → names_from t e j ≡ i.name ∷ names_from t e (suc j)
unfolding names_from
names-take t e j l h {b} d f =
    names_cons t e j l ∙ taken t e j (item_at t e j) (drop (suc j) (expr_at t e).items) b (ap (defines t) h ∙ sym d) f
    ∙ ap (λ z. z.name ∷ map (λ m. m.name) (keep (defines t) (drop (suc j) (expr_at t e).items))) h

-- a name and the class of its text
class_names : (t : Tree) (n c : ℕ) → n < length t.names → c ≡ class_of t (name_at t n).text → (w : ScopeVisit) → names t w n ≡ eqb (class_in t w) c
unfolding names text_of class_in
class_names t n c l q w = classes t (expr_at t w.expr).text n l ∙ ap (eqb (class_of t (expr_at t w.expr).text)) (sym q)

module _ {s : List ℕ} (a : Accepted s) {p e start k j : ℕ} {heads working table : List ℕ} (g : Giving (decode s) (class_in (decode s)) p e start k heads working table)
    (q : k ≡ suc j) {i : Item} (h : item_at (decode s) e j ≡ i) {b : Bool} (d : b ≡ defines (decode s) i) where
  item_in : j < length (expr_at (decode s) e).items
  item_in = omega (arith, g.inside)

  -- it defines nothing
  pub giving_skip : b ≡ false → Giving (decode s) (class_in (decode s)) p e start j heads working table
  giving_skip f =
      record {
        inside = omega (arith, g.inside);
        holding = subst (λ ns. Holding (decode s) (class_in (decode s)) 0 (from start (give_if (decode s) ns) (play (decode s) (log_to (decode s) p))) heads working table)
            (ap (names_from (decode s) e) q ∙ sym (names_skip (decode s) e j item_in h d f)) g.holding;
      }

  -- its name is given
  module _ (f : b ≡ true) {n c : ℕ} (z : n ≡ i.name) (l : n < name_count s) (y : c ≡ class_of (decode s) (name_at (decode s) n).text) (m : c < text_count s) where
    pub giving_chained : {head : ℕ} → head ≡ get_or heads c 0 → Chained working head
    giving_chained v = chained g.holding (rw (tree-texts s) m) v

    module _ {head x r : ℕ} {after : List ℕ} (v : head ≡ get_or heads c 0) (x-is : x ≡ 16384 + n) (u : Unchained working head start x table after r) where
      pub giving_give : Giving (decode s) (class_in (decode s)) p e start j (set heads c r) working after
      giving_give =
          record {
            inside = omega (arith, g.inside);
            holding = subst (λ w. Holding (decode s) (class_in (decode s)) 0 w (set heads c r) working after) more
                (holding-given g.holding (rw (tree-texts s) m) v (class_names (decode s) n c (rw (tree-names s) l) y) x-is (omega (arith, l, a.sized.names-few)) u);
          }
        where
          more : from start (give_if (decode s) (n ∷ [])) (from start (give_if (decode s) (names_from (decode s) e k)) (play (decode s) (log_to (decode s) p)))
              ≡ from start (give_if (decode s) (names_from (decode s) e j)) (play (decode s) (log_to (decode s) p))
          more = from_more (decode s) n (names_from (decode s) e k) start (play (decode s) (log_to (decode s) p))
              ∙ ap (λ ns. from start (give_if (decode s) ns) (play (decode s) (log_to (decode s) p)))
              (ap (λ w. w ∷ names_from (decode s) e k) z ∙ ap (λ w. i.name ∷ names_from (decode s) e w) q ∙ sym (names-take (decode s) e j item_in h d f))

      pub giving_small : r < 65536
      giving_small = left-small g.holding (rw (tree-texts s) m) v u

      pub giving_beside : Beside (expr_count s) table after
      giving_beside = subst (λ w. Beside w table after) (tree-exprs s) (chain-beside g.holding (rw (tree-texts s) m) v u)

-- "Only Reference and String literals have a text, and it is below T."
pub reference-text : {s : List ℕ} → Accepted s → {e : ℕ} → e < expr_count s → {kind x : ℕ} → kind ≡ (expr_at (decode s) e).kind → kind ≡ 10 → x ≡ (expr_at (decode s) e).text → x < text_count s
unfolding expr_fits texted text_fits
reference-text {s} a {e} l {kind} {x} k h i =
    let q : eqb (kind_of s e) 10 ≡ true = eq-eqb (kind_of s e) 10 (sym (tree-kind s e l) ∙ sym k ∙ h) in
    let z : text_fits (text_count s) (texted (kind_of s e) (detail_of s e)) (expr_text_of s e) ≡ true =
    and_right (leb (kind_of s e) 16 && ltb (detail_of s e) (detail_count (kind_of s e))) _ (a.exprs e l) in
    rw (i, tree-expr s e l) (ltb-true _ _ (subst (λ b. text_fits (text_count s) (b || (eqb (kind_of s e) 3 && eqb (detail_of s e) 2)) (expr_text_of s e) ≡ true) q z))

-- so is its class
pub reference_class : {s : List ℕ} → Accepted s → (e : ℕ) → e < expr_count s → is_kind (decode s) 10 e ≡ true → class_of (decode s) (expr_at (decode s) e).text < text_count s
unfolding is_kind
reference_class {s} a e l k = class_inside a (reference-text a l refl (eqb-true (expr_at (decode s) e).kind 10 k) refl)
