-- Numbers of 16 bits entered at their places, one after the other: the last one entered at a place is what stands there.
use Rattle.std.specs.Prelude.{Option, Some, None}
use mathlib.Core.Path.{◌≡◌, refl, ap, sym, ◌∙◌}
use mathlib.Core.Bool.{Bool, true, false}
use mathlib.Core.List.{List, [], ◌∷◌, ◌++◌}
use Prim.Native.Nat.{ℕ, zero, suc, ◌<◌}
use native.Mathlib.Omega.{arith}
use lib.Dec.{eqb}
use lib.ListN.{length, get_or, set, replicate, length-set, length-replicate}
use lib.Seq.{get_or-set_same, get_or-set_other, ext_get_or}
use borrow.Author.Tests.{eqb-true, eqb-false}
use Rattle.semantics.specs.Base.{final, or_else, only, All}
use Rattle.lent.specs.Inside.Stores.{pairs, entered}
use Rattle.lent.proofs.BufferLaws.{store_pairs}

-- the entries as numbers
puts : List ℕ → List (ℕ × ℕ) → List ℕ
puts xs [] = xs
puts xs (b ∷ bs) = puts (set xs b.0 b.1) bs

length_puts : (xs : List ℕ) (bs : List (ℕ × ℕ)) → length (puts xs bs) ≡ length xs
unfolding puts
length_puts xs [] = refl
length_puts xs (b ∷ bs) = length_puts (set xs b.0 b.1) bs ∙ length-set xs b.0 b.1

entered-pairs : (xs r : List ℕ) (bs : List (ℕ × ℕ)) → All (λ b. b.0 < length xs) bs → entered bs (pairs xs ++ r) ≡ pairs (puts xs bs) ++ r
unfolding entered puts
entered-pairs xs r [] h = refl
entered-pairs xs r (b ∷ bs) h =
    rw (store_pairs xs r b.0 b.1 h.0) (entered-pairs (set xs b.0 b.1) r bs (rw (length-set xs b.0 b.1) h.1))

-- what was found last, or another number
unfoldable pub or_number : Option (ℕ × ℕ) → ℕ → ℕ
or_number None d = d
or_number (Some b) d = b.1

puts_final : (xs : List ℕ) (bs : List (ℕ × ℕ)) (n : ℕ) → n < length xs → get_or (puts xs bs) n 0 ≡ or_number (final (λ b. eqb b.0 n) bs) (get_or xs n 0)
unfolding puts final or_number only or_else
puts_final xs [] n h = refl
puts_final xs (b ∷ bs) n h =
    puts_final (set xs b.0 b.1) bs n (rw (length-set xs b.0 b.1) h) ∙ go (final (λ c. eqb c.0 n) bs)
  where
    here : (c : Bool) → eqb b.0 n ≡ c → get_or (set xs b.0 b.1) n 0 ≡ or_number (only c b) (get_or xs n 0)
    here true q = rw (← eqb-true b.0 n q) (get_or-set_same xs b.0 b.1 0 (rw (eqb-true b.0 n q) h))
    here false q = get_or-set_other xs b.0 n b.1 0 (λ z. eqb-false b.0 n q (sym z))

    go : (o : Option (ℕ × ℕ)) → or_number o (get_or (set xs b.0 b.1) n 0) ≡ or_number (or_else o (only (eqb b.0 n) b)) (get_or xs n 0)
    go None = here (eqb b.0 n) refl
    go (Some c) = refl

get_d_replicate : (n k x : ℕ) → k < n → get_or (replicate n x) k 0 ≡ x
get_d_replicate zero k x h = absurd (omega arith)
get_d_replicate (suc n) zero x h = refl
get_d_replicate (suc n) (suc k) x h = get_d_replicate n k x (omega arith)

-- entries in a table of one number are the table that has the last entry of each place, or that number
pub entered_all : (x : ℕ) (ys r : List ℕ) (bs : List (ℕ × ℕ)) → All (λ b. b.0 < length ys) bs
    → ((n : ℕ) → n < length ys → or_number (final (λ b. eqb b.0 n) bs) x ≡ get_or ys n 0) → entered bs (pairs (replicate (length ys) x) ++ r) ≡ pairs ys ++ r
entered_all x ys r bs a h = entered-pairs start r bs (rw many a) ∙ ap (λ l. pairs l ++ r) same
  where
    start : List ℕ
    start = replicate (length ys) x

    many : length start ≡ length ys
    many = length-replicate {A = ℕ} (length ys) x

    at : (n : ℕ) → n < length ys → get_or (puts start bs) n 0 ≡ get_or ys n 0
    at n l = puts_final start bs n (rw many l) ∙ ap (or_number (final (λ b. eqb b.0 n) bs)) (get_d_replicate (length ys) n x l) ∙ h n l

    same : puts start bs ≡ ys
    same = ext_get_or 0 _ _ (length_puts start bs ∙ many) (λ n l. at n (rw (length_puts start bs, many) at l))
