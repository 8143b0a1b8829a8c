-- A list of texts sorted by halves: the halves sorted in their places, merged, and written back.
use mathlib.Core.Path.{◌≡◌, refl, ap, sym, ◌∙◌}
use mathlib.Core.List.{List, [], ◌++◌}
use Prim.Native.Nat.{ℕ, suc, ◌+◌, ◌≤◌, ◌<◌}
use native.Mathlib.Numerals.{add-one}
use native.Mathlib.Omega.{arith}
use lib.ListN.{length, get_or, set, take, drop, length-append, length-set, take-append-drop, drop_of_length-le}
use lib.Seq.{append_snoc, drop-cons, take-suc, set_at, take_at, length-take-le}
use Rattle.image_fields.specs.Image.{decode}
use Rattle.resolve_laws.specs.Inside.Classes.{alike}
use Rattle.resolve_laws.proofs.ClassLaws.{alike_append}
use Rattle.text_sort.specs.Inside.Sorts.{Merges, Sorts}

module _ {s o front back l r out written : List ℕ} {left right count : ℕ} (whole : o ≡ front ++ back) (p : Sorts s front l left) (q : Sorts s back r right)
    (m : Merges s (take left l) (take right r) out count) (w : written ≡ take count out) where
  many : length written ≡ count
  many = ap length w ∙ length-take-le count out m.inside

  start : take count (written ++ drop count (l ++ r)) ≡ take count out
  start = take_at written (drop count (l ++ r)) count many ∙ w

  pub sorted_halves : Sorts s o (written ++ drop count (l ++ r)) count
  sorted_halves =
      record {
        inside = omega (arith, length-append written (drop count (l ++ r)), many);
        ordered = rw start m.ordered;
        tells = λ y.
            ap (alike (decode s) y) start
            ∙ m.tells y
            ∙ rw (p.tells y, q.tells y, whole) (sym (alike_append (decode s) y front back));
      }

-- the loop of `copy`: k numbers are written
pub record Copying (start from now : List ℕ) (k : ℕ) : Type 0 where
  pub inside : k ≤ length from
  pub same_size : length from ≡ length start
  pub kept : length now ≡ length start
  pub copied : now ≡ take k from ++ drop k start

pub copying_start : (start from : List ℕ) → length from ≡ length start → Copying start from start 0
copying_start start from e = record { inside = omega arith; same_size = e; kept = refl; copied = refl }

pub copying_more : {start from now : List ℕ} {k : ℕ} → Copying start from now k → k < length from → Copying start from (set now k (get_or from k 0)) (k + 1)
copying_more {start} {from} {now} {k} g l = record { inside = omega arith; same_size = g.same_size; kept = length-set now k (get_or from k 0) ∙ g.kept; copied = next }
  where
    next : set now k (get_or from k 0) ≡ take (k + 1) from ++ drop (k + 1) start
    next =
        rw (add-one, g.copied, drop-cons start k 0 (omega (arith, g.same_size)), take-suc from k 0 l)
        (set_at (take k from) (get_or start k 0) (drop (suc k) start) (get_or from k 0) k (length-take-le k from g.inside)
        ∙ sym (append_snoc (take k from) (get_or from k 0) (drop (suc k) start)))

pub copying_done : {start from now : List ℕ} {k : ℕ} → Copying start from now k → length from ≤ k → now ≡ from
copying_done {start} {from} {now} {k} g l =
    let a : drop k start ≡ [] = drop_of_length-le start {i = k} (omega (arith, g.same_size)) in
    let b : drop k from ≡ [] = drop_of_length-le from {i = k} l in
    g.copied ∙ ap (λ r. take k from ++ r) (a ∙ sym b) ∙ take-append-drop k from
