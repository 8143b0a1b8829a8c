-- The calls as C sees them: the numbers of an answer are put into those that are lent, and the rest is the call's own outcome.
use mathlib.Core.Path.{◌≡◌, refl, ap, sym, ◌∙◌}
use mathlib.Core.List.{List, [], ◌∷◌}
use Prim.Native.Nat.{ℕ}
use Rattle.lent.specs.Calls.{afterwards, Call, leaves, refusal_of, outcome, exported}
use Rattle.lang_ast.proofs.ExportLaws.{number-told, after_cons, after_nil, as_exported}

-- a call whose refusal is told, and what is read off its answer, put into none, one, two, three and four numbers that are lent
module _ {Question Lent Answer T : Type 0} (call : Call Question Lent Answer) (numbers : Question → List ℕ) (q : Question) (l : Lent) (of : Answer → T)
    {n : ℕ} {r : Answer} {l' : Lent} (told : n ≡ refusal_of call q l) (e : leaves r l' ≡ outcome call q l) {t : T} (o : t ≡ of r) where
  number_is : (f : T → ℕ) (i : ℕ) {i' : ℕ} → i' ≡ afterwards n (f t) 0 i → i' ≡ afterwards n (f (of (call.done q))) 0 i
  number_is f i p = p ∙ ap (λ x. afterwards n (f x) 0 i) o ∙ number-told call q l e (λ x. f (of x)) i refl told

  pub none_told : numbers q ≡ [] → leaves n (l', []) ≡ outcome (exported call numbers) q (l, [])
  none_told z = as_exported call numbers q l [] told e (rw (z, after_nil))

  pub one_told : (f : T → ℕ) (i : ℕ) {i' : ℕ} → numbers q ≡ f (of (call.done q)) ∷ [] → i' ≡ afterwards n (f t) 0 i
      → leaves n (l', i' ∷ []) ≡ outcome (exported call numbers) q (l, i ∷ [])
  one_told f i z p = as_exported call numbers q l (i ∷ []) told e (rw (z, after_cons, after_nil, number_is f i p))

  pub two_told : (f g : T → ℕ) (i j : ℕ) {i' j' : ℕ} → numbers q ≡ f (of (call.done q)) ∷ g (of (call.done q)) ∷ []
      → i' ≡ afterwards n (f t) 0 i → j' ≡ afterwards n (g t) 0 j → leaves n (l', i' ∷ j' ∷ []) ≡ outcome (exported call numbers) q (l, i ∷ j ∷ [])
  two_told f g i j z p u =
      as_exported call numbers q l (i ∷ j ∷ []) told e (rw (z, after_cons, after_cons, after_nil, number_is f i p, number_is g j u))

  pub three_told : (f g h : T → ℕ) (i j k : ℕ) {i' j' k' : ℕ} → numbers q ≡ f (of (call.done q)) ∷ g (of (call.done q)) ∷ h (of (call.done q)) ∷ []
      → i' ≡ afterwards n (f t) 0 i → j' ≡ afterwards n (g t) 0 j → k' ≡ afterwards n (h t) 0 k
      → leaves n (l', i' ∷ j' ∷ k' ∷ []) ≡ outcome (exported call numbers) q (l, i ∷ j ∷ k ∷ [])
  three_told f g h i j k z p u v =
      as_exported call numbers q l (i ∷ j ∷ k ∷ []) told e
      (rw (z, after_cons, after_cons, after_cons, after_nil, number_is f i p, number_is g j u, number_is h k v))

  pub four_told : (f g h k : T → ℕ) (a b c d : ℕ) {a' b' c' d' : ℕ}
      → numbers q ≡ f (of (call.done q)) ∷ g (of (call.done q)) ∷ h (of (call.done q)) ∷ k (of (call.done q)) ∷ []
      → a' ≡ afterwards n (f t) 0 a → b' ≡ afterwards n (g t) 0 b → c' ≡ afterwards n (h t) 0 c → d' ≡ afterwards n (k t) 0 d
      → leaves n (l', a' ∷ b' ∷ c' ∷ d' ∷ []) ≡ outcome (exported call numbers) q (l, a ∷ b ∷ c ∷ d ∷ [])
  four_told f g h k a b c d z u v w x =
      as_exported call numbers q l (a ∷ b ∷ c ∷ d ∷ []) told e
      (rw (z, after_cons, after_cons, after_cons, after_cons, after_nil, number_is f a u, number_is g b v, number_is h c w, number_is k d x))
