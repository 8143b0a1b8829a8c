-- Demand 3 of a condition's lists, proved of the bytes that the call leaves (specs/Sound.antt).
use Rattle.std.specs.Prelude.{Some, Result, Ok, Err}
use mathlib.Core.Path.{◌≡◌, refl, sym, subst, ap, ◌∙◌}
use mathlib.Core.Bool.{Bool, true, false, cond}
use mathlib.Core.List.{List, ◌++◌}
use Prim.Native.Nat.{ℕ, ◌*◌, ◌<◌}
use lib.ListN.{length, drop}
use Rattle.semantics.specs.Base.{each, ◌∈◌}
use Rattle.semantics.specs.Tree.{Tree}
use Rattle.semantics.specs.Resolution.{Tables}
use Rattle.semantics.specs.Narrow.{Narrowing, coded, analyze}
use Rattle.semantics.specs.Formats.{bytes_of, record_bytes, then_list, else_list}
use Rattle.semantics.specs.Values.{bool, Model, TrueIn}
use Rattle.semantics.specs.Premises.{Agrees}
use Rattle.semantics.specs.Records.{record_holds}
use Rattle.semantics.proofs.Soundness.{condition-sound}
use Rattle.semantics.proofs.Records.{records-true}
use Rattle.image_fields.specs.Image.{decode}
use Rattle.image.specs.Refusals.{image_refusal}
use Rattle.image.proofs.CallLaws.{image-kept}
use Rattle.lent.specs.Calls.{Outcome, leaves, refusal_of, outcome}
use Rattle.lent.proofs.CallLaws.{on_answer, answered_only}
use Rattle.narrow_run.proofs.RecordLaws.{all_fit}
use Rattle.narrow_run.proofs.ReadLaws.{item_there, item_in, item-field, Reads, reads}
use Rattle.narrow.specs.declared.Analyzed.{Analyzed}
use Rattle.codes.specs.declared.refusals.Refusal.{Refusal}
use Rattle.narrow.specs.Outcome.{Question, Lent, tree, tables, steps_of, count_of, written, analyzed, fit_rules, analysis}
use Rattle.narrow.specs.Sound.{record_value, TrueAt, own_question, ListsSound}
use Rattle.index.proofs.OwnLaws.{read_back}

-- the record that stands at a byte is true where its narrowing is
pub true-at : (t : Tree) (tab : Tables) (m : Model) (b : Bool) (c : ℕ) (r : Narrowing) {l : List ℕ} {at : ℕ}
    → r ∈ analyze t tab b c → TrueIn t m r → Reads r l at → TrueAt t m l at
true-at t tab m b c r {l} {at} i w e =
    let h = records-true t tab m b c r i w in
    record {
      value = h.0;
      named = ap m.name e.name ∙ h.1;
      holds = ap (λ x. record_holds t x (record_value l at) h.0) e.sort ∙ ap (λ x. record_holds t (coded r).1 x h.0) e.value ∙ h.2;
    }

-- what an answer tells
count_told : Bool → Result Analyzed Refusal → ℕ
count_told b (Ok a) = cond b a.thens a.elses
count_told b (Err f) = 0

-- of a call that answers, with any tables
module _ (q : Question) (before after : Lent) (steps thens elses : ℕ) (e : leaves (Ok (analyzed steps thens elses)) after ≡ outcome analysis q before) where
  none_broken : refusal_of analysis q before ≡ 0
  none_broken = answered_only analysis q before (λ n. refl) e

  answered : ◌≡◌ {A = Outcome Lent (Result Analyzed Refusal)} (leaves (Ok (analyzed steps thens elses)) after) (leaves (Ok (analyzed (steps_of q) (count_of q true) (count_of q false))) (written q before))
  unfolding outcome
  answered = e ∙ on_answer analysis q before none_broken

  accepted : image_refusal q.image ≡ 0
  unfolding refusal_of
  accepted = image-kept q.image (fit_rules q before) none_broken

  -- the list for an outcome
  many : (b : Bool) → cond b thens elses ≡ length (analyze (tree q) (tables q) b q.condition)
  unfolding count_of count_told
  many true = ap (λ o. count_told true o.answer) answered
  many false = ap (λ o. count_told false o.answer) answered

  list-is : (b : Bool) → cond b after.thens after.elses
      ≡ each record_bytes (analyze (tree q) (tables q) b q.condition) ++ drop (4 * count_of q b) (cond b before.thens before.elses)
  unfolding written then_list else_list
  list-is true = ap (λ o. o.lent.thens) answered
  list-is false = ap (λ o. o.lent.elses) answered

  module _ (m : Model) (ok : Agrees (tree q) (tables q) m) (b : Bool) (h : m.expr q.condition ≡ Some (bool b)) where
    list-true : (i : ℕ) → i < cond b thens elses → TrueAt (tree q) m (cond b after.thens after.elses) (4 * i)
    unfolding record_bytes bytes_of
    list-true i l =
        let ns = analyze (tree q) (tables q) b q.condition in
        let (r, is) = item_there ns i (rw (← many b) l) in
        let k : r ∈ ns = item_in ns i is in
        subst (λ z. TrueAt (tree q) m z (4 * i)) (sym (list-is b))
        (true-at (tree q) (tables q) m b q.condition r k (condition-sound (tree q) (tables q) m ok b q.condition h r k)
        (reads (all_fit q.image q.resolutions q.bindings b q.condition r k)
        (item-field record_bytes 4 (λ a. refl) ns (drop (4 * count_of q b) (cond b before.thens before.elses)) i is)))

-- DEMAND 3, of a condition's lists
pub lists-sound : ListsSound
lists-sound s m ok c budget before after steps thens elses e b h i l =
    let q = own_question s c budget in
    let own-ok = subst (λ tab. Agrees (decode s) tab m) (sym (read_back s (accepted q before after steps thens elses e))) ok in
    list-true q before after steps thens elses e m own-ok b h i l
