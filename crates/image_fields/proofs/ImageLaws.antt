-- Laws of the decoded tree: its tables by their numbers. Whoever reads the tree needs these and no bit field.
use mathlib.Core.Path.{◌≡◌}
use Prim.Native.Nat.{ℕ, ◌+◌, ◌-◌, ◌<◌}
use native.Mathlib.Omega.{arith}
use mathlib.Core.List.{List, []}
use lib.ListN.{length, take, drop}
use Rattle.semantics.specs.Tree.{no_expr, no_name, no_item, expr_at, name_at, text_at, item_at}
use Rattle.image_fields.specs.Image.{expr_count, name_count, text_count, byte_total, bytes_place, length_of, kind_of, first_of, count_of, text_first_of, text_length_of, item_of, expr_of, name_of, text_of, decode}
use Rattle.image_fields.specs.Inside.Asked.{Sized}
use Rattle.image_fields.proofs.FieldLaws.{field_lt}
use Rattle.image_fields.proofs.TableLaws.{table-length, table_at, table-from}

-- the bounds that `Sized` repeats
pub sized : (s : List ℕ) → length s ≡ length_of s → Sized s
sized s h =
    record {
      size = h;
      exprs-few = field_lt s _ 14;
      names-few = field_lt s _ 14;
      texts-few = field_lt s _ 14;
      items-few = field_lt s _ 20;
      bytes-few = field_lt s _ 20;
    }

pub tree-exprs : (s : List ℕ) → length (decode s).exprs ≡ expr_count s
unfolding decode
tree-exprs s = table-length (expr_of s) 0 (expr_count s)

pub tree-names : (s : List ℕ) → length (decode s).names ≡ name_count s
unfolding decode
tree-names s = table-length (name_of s) 0 (name_count s)

pub tree-texts : (s : List ℕ) → length (decode s).texts ≡ text_count s
unfolding decode
tree-texts s = table-length (text_of s) 0 (text_count s)

pub tree-expr : (s : List ℕ) (e : ℕ) → e < expr_count s → expr_at (decode s) e ≡ expr_of s e
unfolding expr_at decode
tree-expr s e h = table_at (expr_of s) (expr_count s) e no_expr h

pub tree-name : (s : List ℕ) (n : ℕ) → n < name_count s → name_at (decode s) n ≡ name_of s n
unfolding name_at decode
tree-name s n h = table_at (name_of s) (name_count s) n no_name h

pub tree-text : (s : List ℕ) (x : ℕ) → x < text_count s → text_at (decode s) x ≡ text_of s x
unfolding text_at decode
tree-text s x h = table_at (text_of s) (text_count s) x [] h

pub tree-items : (s : List ℕ) (e : ℕ) → e < expr_count s → length (expr_at (decode s) e).items ≡ count_of s e
tree-items s e h = rw (tree-expr s e h) (table-length (item_of s) (first_of s e) (count_of s e))

pub tree-item : (s : List ℕ) (e k : ℕ) → e < expr_count s → k < count_of s e → item_at (decode s) e k ≡ item_of s (first_of s e + k)
unfolding item_at
tree-item s e k h l = rw (tree-expr s e h) (table-from (item_of s) (first_of s e) (count_of s e) k no_item l)

pub tree-kind : (s : List ℕ) (e : ℕ) → e < expr_count s → (expr_at (decode s) e).kind ≡ kind_of s e
tree-kind s e h = rw (tree-expr s e h)

-- the bytes that `text` hands out
pub tree-bytes : (s : List ℕ) (x : ℕ) {from to bytes first count : ℕ} → length s ≡ length_of s → x < text_count s
    → bytes ≡ byte_total s → first ≡ text_first_of s x → count ≡ text_length_of s x → from ≡ length s - bytes + first → to ≡ from + count
    → take (to - from) (drop from s) ≡ text_at (decode s) x
tree-bytes s x {from} {to} z h b f c p q =
    let l : to - from ≡ text_length_of s x = omega arith in
    let a : from ≡ bytes_place s + text_first_of s x = omega arith in
    rw (tree-text s x h, l, a)
