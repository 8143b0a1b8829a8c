-- What the table has in the end is the resolution of each expression.
use Rattle.std.specs.Prelude.{Option, Some, None}
use mathlib.Core.Path.{◌≡◌, refl, ap, sym, subst, ◌∙◌}
use mathlib.Core.Bool.{Bool, true, false, cond}
use mathlib.Core.List.{List, [], ◌∷◌, ◌++◌}
use Prim.Native.Nat.{ℕ, zero, suc, ◌+◌, ◌*◌, ◌≤◌, ◌<◌}
use native.Mathlib.Omega.{arith}
use lib.Dec.{eqb}
use lib.ListN.{length, get_or, drop}
use lib.Seq.{get_or-append-add, get_or-drop}
use borrow.Author.Tests.{eq-eqb, ne_eqb, eqb-true, eqb-false, lt-ltb}
use Rattle.semantics.specs.Base.{first, listed, only, or_else, All, ◌>>=◌}
use Rattle.semantics.specs.Tree.{Tree, expr_at, text_at, is_kind, reference}
use Rattle.semantics.specs.Scopes.{ScopeVisit, defined}
use Rattle.semantics.specs.Resolution.{Resolution, unresolved, definition, builtin, within, entry_of, place_of, with_of, resolve_in, scope_of, resolve, own}
use Rattle.semantics.specs.Formats.{resolution_bytes, resolution_table}
use Rattle.semantics.proofs.BaseLaws.{true≢false, first-all, All_of}
use Rattle.semantics.proofs.ResolutionLaws.{Fits, resolve-fits, others-unresolved}
use Rattle.image_fields.specs.Image.{expr_count, text_count, decode, table}
use Rattle.image_fields.specs.Inside.Words.{word_of}
use Rattle.image_fields.proofs.ImageLaws.{tree-exprs, tree-names}
use Rattle.image_fields.proofs.TableLaws.{table-length}
use Rattle.image.specs.Inside.Accepted.{Accepted}
use Rattle.image.proofs.OrderedLaws.{ordered}
use Rattle.lent.specs.Inside.Stores.{pairs}
use Rattle.lent.proofs.BufferLaws.{length_pairs}
use Rattle.lent.proofs.PairLaws.{word_two, entries}
use Rattle.lent.proofs.FillLaws.{Filling, filling_done}
use Rattle.resolve_defs.proofs.DefinitionLaws.{defined-named}
use Rattle.resolve_laws.specs.Inside.Last.{entered, entered_of}
use Rattle.resolve_laws.specs.Inside.Settle.{Found, text_of, outs_of}
use Rattle.resolve_laws.specs.Inside.Classes.{class_of}
use Rattle.resolve_laws.specs.Inside.Events.{Event, refers, leaves, play, somes}
use Rattle.resolve_laws.specs.Inside.Logged.{log_of, half, no_with, with_entry, mark_of, mark_at}
use Rattle.resolve_laws.proofs.SettleLaws.{answer, found_in, resolved}
use Rattle.resolve_settle.specs.Inside.Settling.{class_in, found_at, name_entry, place_entry, entry_for, mark_in, Built}
use Rattle.resolve_settle.specs.Inside.Entries.{number_of, unmarked, unmarked_at, Unmarked}
use Rattle.resolve_settle.proofs.GiveLaws.{absent_found}
use Rattle.resolve_settle.proofs.LogLaws.{Right, log_right, visits_of, visits_played, log_played}

-- what was found, or nothing, as a number
unfoldable entry_number : Option Resolution → ℕ
entry_number None = 0
entry_number (Some r) = number_of r

-- the same before the marks are taken out
unfoldable mark_number : Option Resolution → ℕ
mark_number None = no_with
mark_number (Some r) = number_of r

-- an entry is no mark without With
entry_less : (s : List ℕ) → Accepted s → (r : Resolution) → Fits (decode s) r → number_of r ≡ 65535 → ⊥
unfolding number_of entry_of
entry_less s a unresolved f z = omega (arith, z)
entry_less s a (definition n) f z = omega (arith, z, f, tree-names s, a.sized.names-few)
entry_less s a (builtin p) f z = omega (arith, z, f)
entry_less s a (within w) f z = omega (arith, z, f.0, tree-exprs s, a.sized.exprs-few)

unmark_one : (o : Option Resolution) → ((r : Resolution) → o ≡ Some r → number_of r ≡ 65535 → ⊥) → unmarked (mark_number o) ≡ entry_number o
unfolding unmarked mark_number entry_number
unmark_one None f = refl
unmark_one (Some r) f = ap (λ b. cond b 0 (number_of r)) (ne_eqb (number_of r) 65535 (f r refl))

none_number_lem : entry_number None ≡ 0
unfolding entry_number
none_number_lem = refl

none-entry : (t : Tree) (cls : ScopeVisit → ℕ) (d b : ℕ) → entry_for t cls d None b ≡ b
unfolding entry_for
none-entry t cls d b = refl

-- the entry of a settled Reference, from its answer
module _ (t : Tree) (cls : ScopeVisit → ℕ) (d : ℕ) where
  answer-one : (n p w : Option ℕ) → name_entry n (place_entry p (with_entry w))
      ≡ mark_number (or_else (n >>= λ m. Some (definition m)) (or_else (p >>= λ q. Some (builtin q)) (w >>= λ e. Some (within e))))
  unfolding name_entry place_entry with_entry mark_number number_of entry_of or_else ◌>>=◌
  answer-one (Some m) p w = refl
  answer-one None (Some q) w = refl
  answer-one None None (Some e) = refl
  answer-one None None None = refl

  answer-entry : (f : Found) → cls f.visit < d → entry_for t cls d (Some f) (with_entry (with_of t f.visit.scope)) ≡ mark_number (answer t (text_of t f.visit) f)
  unfolding entry_for answer
  answer-entry f l =
      ap (λ b. name_entry f.name (cond b (place_entry (place_of (text_of t f.visit)) (with_entry (with_of t f.visit.scope))) (with_entry (with_of t f.visit.scope)))) (lt-ltb (cls f.visit) d l)
      ∙ answer-one f.name (place_of (text_of t f.visit)) (with_of t f.visit.scope)

one_found : (f : Found) (b : Bool) (o q : Option Found) → o ≡ q → cond b (Some f) o ≡ or_else (only b f) q
unfolding only or_else
one_found f true o q h = refl
one_found f false o q h = h

found_first : (l : List (Option Found)) (e : ℕ) → found_at l e ≡ first (λ f. eqb f.visit.expr e) (somes l)
unfolding found_at somes first listed
found_first [] e = refl
found_first (None ∷ l) e = found_first l e
found_first (Some f ∷ l) e = go (eqb f.visit.expr e) (found_first l e)
  where
    go : (b : Bool) → found_at l e ≡ first (λ g. eqb g.visit.expr e) (somes l) → cond b (Some f) (found_at l e) ≡ or_else (only b f) (first (λ g. eqb g.visit.expr e) (somes l))
    go b h = one_found f b (found_at l e) (first (λ g. eqb g.visit.expr e) (somes l)) h

-- the number of an expression's resolution
or_nothing : (o : Option Resolution) → number_of (elim o [ None ↦ unresolved | Some r ↦ r ]) ≡ entry_number o
unfolding number_of entry_of entry_number
or_nothing None = refl
or_nothing (Some r) = refl

module _ (t : Tree) (e : ℕ) where
  asked : Option ℕ → Option Resolution
  asked o = o >>= λ x. scope_of t e >>= resolve_in t (text_at t x)

  found : Option Resolution
  found = scope_of t e >>= resolve_in t (text_at t (expr_at t e).text)

  asked_some : (x : ℕ) → asked (Some x) ≡ (scope_of t e >>= resolve_in t (text_at t x))
  unfolding asked ◌>>=◌
  asked_some x = refl

  has-text : is_kind t 10 e ≡ true → reference t e ≡ Some (expr_at t e).text
  unfolding reference only
  has-text k = ap (λ b. only b (expr_at t e).text) k

  asked_is : is_kind t 10 e ≡ true → asked (reference t e) ≡ found
  unfolding found
  asked_is k = ap asked (has-text k) ∙ asked_some (expr_at t e).text

  resolve-number : is_kind t 10 e ≡ true → number_of (resolve t e) ≡ entry_number found
  unfolding resolve asked
  resolve-number k = or_nothing (asked (reference t e)) ∙ ap entry_number (asked_is k)

  resolve-found : is_kind t 10 e ≡ true → (r : Resolution) → found ≡ Some r → resolve t e ≡ r
  unfolding resolve asked
  resolve-found k r q = ap (λ o. elim o [ None ↦ unresolved | Some r ↦ r ]) (asked_is k ∙ q)

mark_with : (t : Tree) (v : ScopeVisit) → is_kind t 10 v.expr ≡ true → mark_of t v ≡ with_entry (with_of t v.scope)
unfolding mark_of
mark_with t v k = ap (λ b. cond b (with_entry (with_of t v.scope)) no_with) k

mark_without : (t : Tree) (v : ScopeVisit) → is_kind t 10 v.expr ≡ false → mark_of t v ≡ no_with
unfolding mark_of
mark_without t v k = ap (λ b. cond b (with_entry (with_of t v.scope)) no_with) k

unmark_none : unmarked no_with ≡ 0
unfolding unmarked
unmark_none = refl

unmark_zero : unmarked 0 ≡ 0
unfolding unmarked
unmark_zero = refl

first-is : (l : List Found) (e : ℕ) (f : Found) → first (λ g. eqb g.visit.expr e) l ≡ Some f → f.visit.expr ≡ e
first-is l e f q = first-all (λ g. Unit {0}) (λ g. g.visit.expr ≡ e) (λ g. eqb g.visit.expr e) l (λ g b u. eqb-true g.visit.expr e b) (All_of (λ g. Unit {0}) l (λ g m. tt)) q

visit-is : (l : List ScopeVisit) (e : ℕ) (v : ScopeVisit) → entered e l ≡ Some v → v.expr ≡ e
unfolding entered
visit-is l e v q = first-all (λ w. Unit {0}) (λ w. w.expr ≡ e) (λ w. eqb w.expr e) l (λ w b u. eqb-true w.expr e b) (All_of (λ w. Unit {0}) l (λ w m. tt)) q

module _ (s : List ℕ) (a : Accepted s) (e : ℕ) where
  all_found : found_at (play (decode s) (log_of (decode s))) e ≡ first (λ f. eqb f.visit.expr e) (outs_of (decode s))
  all_found = found_first (play (decode s) (log_of (decode s))) e ∙ ap (first (λ f. eqb f.visit.expr e)) (log_played s a)

  -- a Reference
  module _ (d : ℕ) (k : is_kind (decode s) 10 e ≡ true) (low : class_of (decode s) (expr_at (decode s) e).text < d) where
    fits : (r : Resolution) → found (decode s) e ≡ Some r → number_of r ≡ 65535 → ⊥
    fits r q = entry_less s a r (subst (Fits (decode s)) (resolve-found (decode s) e k r q) (resolve-fits (decode s) (λ n. subst (λ z. All (λ m. m < z) (defined (decode s) n)) (sym (tree-names s)) (defined-named s a n)) e))

    some-entry : (f : Found) → f.visit.expr ≡ e → found (decode s) e ≡ answer (decode s) (text_at (decode s) (expr_at (decode s) e).text) f
        → unmarked (entry_for (decode s) (class_in (decode s)) d (Some f) (mark_of (decode s) f.visit)) ≡ entry_number (found (decode s) e)
    unfolding class_in text_of
    some-entry f q g =
        ap (λ z. unmarked (entry_for (decode s) (class_in (decode s)) d (Some f) z)) (mark_with (decode s) f.visit (subst (λ z. is_kind (decode s) 10 z ≡ true) (sym q) k))
        ∙ ap unmarked (answer-entry (decode s) (class_in (decode s)) d f (subst (λ z. class_of (decode s) (expr_at (decode s) z).text < d) (sym q) low)
        ∙ ap (λ z. mark_number (answer (decode s) (text_at (decode s) (expr_at (decode s) z).text) f)) q ∙ ap mark_number (sym g))
        ∙ unmark_one (found (decode s) e) fits

    entry_cases : (o : Option Found) → first (λ f. eqb f.visit.expr e) (outs_of (decode s)) ≡ o
        → entered e (entered_of (decode s)) ≡ (o >>= λ f. Some f.visit) → found (decode s) e ≡ (o >>= λ f. answer (decode s) (text_at (decode s) (expr_at (decode s) e).text) f)
        → unmarked (entry_for (decode s) (class_in (decode s)) d o (mark_at (decode s) (entered e (entered_of (decode s))))) ≡ entry_number (found (decode s) e)
    unfolding ◌>>=◌ mark_at
    entry_cases None q m g = ap (λ z. unmarked (entry_for (decode s) (class_in (decode s)) d None (mark_at (decode s) z))) m ∙ ap unmarked (none-entry (decode s) (class_in (decode s)) d 0) ∙ unmark_zero ∙ sym (ap entry_number g ∙ none_number_lem)
    entry_cases (Some f) q m g =
        ap (λ z. unmarked (entry_for (decode s) (class_in (decode s)) d (Some f) (mark_at (decode s) z))) m ∙ some-entry f (first-is (outs_of (decode s)) e f q) g

    reference-entry : unmarked (entry_for (decode s) (class_in (decode s)) d (found_at (play (decode s) (log_of (decode s))) e) (mark_in (decode s) e)) ≡ number_of (resolve (decode s) e)
    unfolding mark_in found
    reference-entry =
        ap (λ o. unmarked (entry_for (decode s) (class_in (decode s)) d o (mark_at (decode s) (entered e (entered_of (decode s)))))) all_found
        ∙ entry_cases (first (λ f. eqb f.visit.expr e) (outs_of (decode s))) refl (found_in (decode s) (ordered s a) e k) (resolved (decode s) (ordered s a) e k)
        ∙ sym (resolve-number (decode s) e k)

none-entered : (e : ℕ) → entered e [] ≡ None
unfolding entered first
none-entered e = refl

absent_cons : (e : ℕ) (v : ScopeVisit) (l : List ScopeVisit) → eqb v.expr e ≡ false → entered e l ≡ None → entered e (v ∷ l) ≡ None
unfolding entered first only or_else
absent_cons e v l h k = rw h k

-- what is no Reference is not among them
others_absent : (t : Tree) (e : ℕ) (log : List Event) → All (Right t) log → is_kind t 10 e ≡ false → entered e (visits_of log) ≡ None
unfolding visits_of Right
others_absent t e [] r k = none-entered e
others_absent t e (refers v ∷ log) r k = absent_cons e v (visits_of log) other (others_absent t e log r.1 k)
  where
    other : eqb v.expr e ≡ false
    other = ne_eqb v.expr e (λ q. true≢false (subst (λ z. is_kind t 10 z ≡ true) q r.0) k)
others_absent t e (leaves b j ∷ log) r k = others_absent t e log r.1 k

module _ (s : List ℕ) (a : Accepted s) (e : ℕ) (d : ℕ) (k : is_kind (decode s) 10 e ≡ false) where
  other_mark : (o : Option ScopeVisit) → entered e (entered_of (decode s)) ≡ o → unmarked (mark_at (decode s) o) ≡ 0
  unfolding mark_at
  other_mark None q = unmark_zero
  other_mark (Some v) q = ap unmarked (mark_without (decode s) v (subst (λ z. is_kind (decode s) 10 z ≡ false) (sym (visit-is (entered_of (decode s)) e v q)) k)) ∙ unmark_none

  other-entry : unmarked (entry_for (decode s) (class_in (decode s)) d (found_at (play (decode s) (log_of (decode s))) e) (mark_in (decode s) e)) ≡ number_of (resolve (decode s) e)
  unfolding mark_in number_of entry_of is_kind
  other-entry =
      ap (λ o. unmarked (entry_for (decode s) (class_in (decode s)) d o (mark_at (decode s) (entered e (entered_of (decode s))))))
      (absent_found (play (decode s) (log_of (decode s))) e (subst (λ l. entered e l ≡ None) (sym (visits_played (decode s) (log_of (decode s)))) (others_absent (decode s) e (log_of (decode s)) (log_right (decode s)) k)))
      ∙ ap unmarked (none-entry (decode s) (class_in (decode s)) d (mark_at (decode s) (entered e (entered_of (decode s)))))
      ∙ other_mark (entered e (entered_of (decode s))) refl
      ∙ sym (ap number_of (others-unresolved (decode s) e (eqb-false (expr_at (decode s) e).kind 10 k)))

-- the loop of `unmark`: an entry that is still to be gone through is as it was
left-entry : (p l : List ℕ) (k : ℕ) → length p ≡ 2 * k → half (p ++ drop (2 * k) l) k ≡ half l k
left-entry p l k e = rw (word_two (p ++ drop (2 * k) l) (2 * k), word_two l (2 * k), byte 0 (2 * k) (omega arith), byte 1 (2 * k + 1) (omega arith))
  where
    byte : (j i : ℕ) → i ≡ 2 * k + j → get_or (p ++ drop (2 * k) l) i 0 ≡ get_or l i 0
    byte j i q =
        let z : i ≡ length p + j = omega (arith, q, e) in
        ap (λ m. get_or (p ++ drop (2 * k) l) m 0) z ∙ get_or-append-add p (drop (2 * k) l) j 0 ∙ get_or-drop (2 * k) l j 0 ∙ ap (λ m. get_or l m 0) (sym q)

pub unmarking_entry : {n k : ℕ} {start now : List ℕ} → Filling (unmarked_at start) n start now k → {x : ℕ} → x ≡ word_of now (2 * k) 2 → unmarked x ≡ unmarked_at start k
unfolding unmarked_at
unmarking_entry {n} {k} {start} {now} g q =
    ap unmarked (q ∙ ap (λ l. half l k) g.value
    ∙ left-entry (pairs (table (unmarked_at start) 0 k)) start k (length_pairs (table (unmarked_at start) 0 k) ∙ ap (λ m. 2 * m) (table-length (unmarked_at start) 0 k)))

pub unmarking_done : {n k : ℕ} {start now : List ℕ} → Filling (unmarked_at start) n start now k → n ≤ k → Unmarked n start now
unmarking_done g h = record { entries = filling_done g h }

-- one entry
pub unmark_with : {x : ℕ} → x ≡ 65535 → 0 ≡ unmarked x
unfolding unmarked
unmark_with {x} h = sym (ap (λ b. cond b 0 x) (eq-eqb x 65535 h))

pub unmark_other : {x : ℕ} → (x ≡ 65535 → ⊥) → x ≡ unmarked x
unfolding unmarked
unmark_other {x} h = sym (ap (λ b. cond b 0 x) (ne_eqb x 65535 h))

-- tables that agree at every number
table_same : (f g : ℕ → ℕ) (i n : ℕ) → ((k : ℕ) → i ≤ k → k < i + n → f k ≡ g k) → table f i n ≡ table g i n
unfolding table
table_same f g i zero h = refl
table_same f g i (suc n) h =
    ap (λ z. z ∷ table f (suc i) n) (h i (omega arith) (omega arith)) ∙ ap (λ l. g i ∷ l) (table_same f g (suc i) n (λ k a b. h k (omega arith) (omega arith)))

module _ (s : List ℕ) (a : Accepted s) (low : (e : ℕ) → e < expr_count s → is_kind (decode s) 10 e ≡ true → class_of (decode s) (expr_at (decode s) e).text < text_count s) where
  pub settled-number : (e : ℕ) → e < expr_count s
      → unmarked (entry_for (decode s) (class_in (decode s)) (text_count s) (found_at (play (decode s) (log_of (decode s))) e) (mark_in (decode s) e)) ≡ number_of (resolve (decode s) e)
  settled-number e l = go (is_kind (decode s) 10 e) refl
    where
      go : (b : Bool) → is_kind (decode s) 10 e ≡ b
          → unmarked (entry_for (decode s) (class_in (decode s)) (text_count s) (found_at (play (decode s) (log_of (decode s))) e) (mark_in (decode s) e)) ≡ number_of (resolve (decode s) e)
      go true k = reference-entry s a e (text_count s) k (low e l k)
      go false k = other-entry s a e (text_count s) k

unfoldable pub entry_at : List ℕ → ℕ → ℕ
entry_at s e = number_of (resolve (decode s) e)

settled-entry : (s : List ℕ) → Accepted s → ((e : ℕ) → e < expr_count s → is_kind (decode s) 10 e ≡ true → class_of (decode s) (expr_at (decode s) e).text < text_count s)
    → (now : List ℕ) (e : ℕ) → e < expr_count s
    → half now e ≡ entry_for (decode s) (class_in (decode s)) (text_count s) (found_at (play (decode s) (log_of (decode s))) e) (mark_in (decode s) e) → unmarked_at now e ≡ entry_at s e
unfolding unmarked_at entry_at
settled-entry s a low now e l q = ap unmarked q ∙ settled-number s a low e l

rows : (s : List ℕ) → resolution_table (decode s) (own (decode s)) ≡ pairs (table (entry_at s) 0 (length (decode s).exprs))
unfolding resolution_table resolution_bytes own number_of entry_at
rows s = entries (λ e. resolution_bytes (resolve (decode s) e)) (λ e. number_of (resolve (decode s) e)) (λ e. refl) (decode s).exprs

-- an entry is two bytes
pub table-long : (s : List ℕ) → length (resolution_table (decode s) (own (decode s))) ≡ 2 * expr_count s
table-long s =
    ap length (rows s)
    ∙ length_pairs (table (entry_at s) 0 (length (decode s).exprs))
    ∙ ap (λ k. 2 * k) (table-length (entry_at s) 0 (length (decode s).exprs) ∙ tree-exprs s)

-- THE TABLE: all events settled, all builtins entered, no mark left
pub mapped : {s : List ℕ} → Accepted s → ((e : ℕ) → e < expr_count s → is_kind (decode s) 10 e ≡ true → class_of (decode s) (expr_at (decode s) e).text < text_count s)
    → {heads working start now after : List ℕ} → Built (decode s) (class_in (decode s)) (text_count s) heads working start now → Unmarked (expr_count s) now after
    → after ≡ resolution_table (decode s) (own (decode s)) ++ drop (2 * expr_count s) start
mapped {s} a low {heads} {working} {start} {now} b u =
    u.entries
    ∙ ap (λ l. pairs l ++ drop (2 * expr_count s) now) (table_same (unmarked_at now) (entry_at s) 0 (expr_count s) (λ e g h. entry e (omega arith)))
    ∙ ap (λ l. pairs (table (entry_at s) 0 (expr_count s)) ++ l) (subst (λ n. drop (2 * n) now ≡ drop (2 * n) start) (tree-exprs s) b.beside.behind)
    ∙ ap (λ l. l ++ drop (2 * expr_count s) start) (ap (λ n. pairs (table (entry_at s) 0 n)) (sym (tree-exprs s)) ∙ sym (rows s))
  where
    entry : (e : ℕ) → e < expr_count s → unmarked_at now e ≡ entry_at s e
    entry e g = settled-entry s a low now e g (b.holding.entries e (rw (tree-exprs s) g))
