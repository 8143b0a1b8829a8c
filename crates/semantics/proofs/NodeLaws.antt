-- One node of the analysis is true of the values, if the lists of its parts are, by the laws of a model (proofs/Soundness.antt).
use Rattle.std.specs.Prelude.{Some}
use mathlib.Core.Path.{◌≡◌, refl, sym, ap, subst, ◌∙◌}
use mathlib.Core.Bool.{Bool, true, false, not, cond}
use mathlib.Core.Logic.{◌⊎◌, inl, inr, ⊎_elim}
use mathlib.Core.List.{List}
use Prim.Native.Nat.{ℕ, zero, suc}
use Rattle.semantics.specs.Base.{only, or_else, All, ◌>>=◌}
use Rattle.semantics.specs.Tree.{Text, Tree, bytes, same, text_at, is_kind, reference, apply, string as string_literal}
use Rattle.semantics.specs.Words.{Sort, Null, same_sort, number, predicate}
use Rattle.semantics.specs.Resolution.{Tables, own}
use Rattle.semantics.specs.Narrow.{Test, is, numeric, has, Narrowing, Condition, equal, not_equal, and, or, implies, call, has_key, invert, opaque, shape}
use Rattle.semantics.specs.Narrow.{singleton, literal_test, literal_tells, test_tells, narrowing, local_name, global_name, literal_sort, builtins_key, chain_key, alias_depths, callee_in}
use Rattle.semantics.specs.Narrow.{callee_name, has_attr_call, tests, literal_comparison, compared, node, analyze_in, analyze}
use Rattle.semantics.specs.Walk.{guards}
use Rattle.semantics.specs.Values.{Builtin, test, has_attr, has_attr_of, Value, bool, set, builtin, sort, outcome, passed}
use Rattle.semantics.specs.Values.{Model, TrueIn, CameOut}
use Rattle.semantics.specs.Premises.{Names, called, Allowed, Compared, Outcome, Gives, Called, Indexed, Agrees}
use Rattle.semantics.specs.Points.{told}
use Rattle.semantics.specs.Soundness.{SoundWith, ConditionSound, Sound}
use Rattle.semantics.proofs.BaseLaws.{true≢false, clash, some_inj, only-some, either, after, then, of, pick_first}
use Rattle.semantics.proofs.BaseLaws.{All-++, All-found, All-at, All_of, All_each'}
use Rattle.semantics.proofs.NarrowLaws.{same_sort-refl, null_is, not_null, narrowing-all, test-told}
use Rattle.semantics.proofs.ChainLaws.{builtins-last}
use Rattle.semantics.proofs.PointLaws.{in_force_lem}

bool_inj : {a b : Bool} → bool a ≡ bool b → a ≡ b
bool_inj h = cc

module _ (t : Tree) (tab : Tables) (m : Model) (ok : Agrees t tab m) where
  abbrev pub True : Narrowing → Type 0
  True r = TrueIn t m r

  -- the laws at an expression, one by one
  name-is : {e n : ℕ} {v : Value} → local_name t tab e ≡ Some n → m.expr e ≡ Some v → m.name n ≡ Some v
  name-is {e} {n} {v} h hv = of (λ z. m.name z ≡ Some v) (local_name t tab e) (ok.exprs e v hv).names h

  literal_is : {e : ℕ} {s : Sort} {v : Value} → literal_sort t tab e ≡ Some s → m.expr e ≡ Some v → sort v ≡ s
  literal_is {e} {s} {v} h hv = of (λ z. sort v ≡ z) (literal_sort t tab e) (ok.exprs e v hv).literals h

  predicate-is : {e : ℕ} {x : Text} {s : Sort} {g : Value} → chain_key t tab e ≡ Some x → predicate x ≡ Some s → m.expr e ≡ Some g → g ≡ builtin (test s)
  predicate-is {e} {x} {s} {g} h hs hg =
      of (λ z. g ≡ builtin (test z)) (chain_key t tab e >>= predicate) (ok.exprs e g hg).predicates (then predicate h hs)

  call-is : {e f a : ℕ} {w : Value} → shape t e ≡ call f a → m.expr e ≡ Some w → Called t tab m w (f, a)
  unfolding called
  call-is {e} {f} {a} {w} h hw = of (Called t tab m w) (called (shape t e)) (ok.exprs e w hw).calls (ap called h)

  pub outcome-is : (c : ℕ) (b : Bool) → m.expr c ≡ Some (bool b) → Outcome t tab m (shape t c) b
  unfolding outcome
  outcome-is c b h = (ok.exprs c (bool b) h).operators

  key-is : (e : ℕ) (x : Text) (β : Builtin) (g : Value) → builtins_key t tab e ≡ Some x → Names x β → m.expr e ≡ Some g → g ≡ builtin β
  key-is e x (test s) g h N v = predicate-is (builtins-last t tab e x h) N v
  key-is e x has_attr g h N v = of (λ z. same z (bytes "hasAttr") ≡ true → g ≡ builtin has_attr) (builtins_key t tab e) (ok.exprs e g v).has_attrs h N
  key-is e x (has_attr_of k) g h N v = absurd N

  -- what the callee lookup finds under a built-in function's name is that function, or fails
  callee-is : (k e : ℕ) (x : Text) (β : Builtin) (g : Value) → callee_in t tab k e ≡ Some x → Names x β → m.expr e ≡ Some g → g ≡ builtin β
  unfolding callee_in
  callee-is zero e x β g h N v = absurd (clash h)
  callee-is (suc k) e x β g h N v =
      either (global_name t tab e) h
      (λ h₁. of (λ z. (β : Builtin) → Names z β → g ≡ builtin β) (global_name t tab e) (ok.exprs e g v).builtins h₁ β N)
      λ h₁. either _ h₁
      (λ h₂.
      after (local_name t tab e) _ h₂ λ n hn h₃.
      after (tab.index n) _ h₃ λ d hd h₄.
      after (callee_in t tab k d) _ h₄ λ y hy h₅.
      after (reference t e) _ h₅ λ r hr h₆.
      only-some (same y (text_at t r)) h₆ λ q ey.
      let N' : Names y β = subst (λ z. Names z β) (sym ey) N in
      ⊎_elim
      (λ hv. callee-is k d y β g hy N' hv)
      (λ hs. let z : set hs.0 ≡ builtin β = callee-is k d y β (set hs.0) hy N' hs.1 in cc)
      (of (Indexed t tab m g) (tab.index n) (ok.names n g (name-is hn v)) hd))
      λ h₂. key-is e x β g h₂ N v

  apply-shape : (f : ℕ) (c : ℕ × ℕ) → apply t f ≡ Some c → shape t f ≡ call c.0 c.1
  unfolding apply shape is_kind
  apply-shape f c h = only-some (is_kind t 1 f) h λ q ec. pick_first _ _ _ _ q ∙ ap (λ (z : ℕ × ℕ). call z.0 z.1) ec

  -- `hasAttr "key"` is hasAttr with its key, or fails
  has_attr_applied : (f h a k : ℕ) (x : Text) (g : Value) → shape t f ≡ call h a → callee_name t tab h ≡ Some x → same x (bytes "hasAttr") ≡ true →
      string_literal t a ≡ Some k → m.expr f ≡ Some g → g ≡ builtin (has_attr_of (text_at t k))
  unfolding callee_name
  has_attr_applied f h a k x g sh hx q hk v =
      let c : Called t tab m g (h, a) = call-is sh v in
      of (λ z. g ≡ builtin (has_attr_of (text_at t z))) (string_literal t a) (c.2 has_attr (callee-is alias_depths h x has_attr c.0 hx q c.1)) hk

  has-attr : (f k : ℕ) (g : Value) → has_attr_call t tab f ≡ Some k → m.expr f ≡ Some g → g ≡ builtin (has_attr_of (text_at t k))
  unfolding has_attr_call
  has-attr f k g hk v =
      after (apply t f) _ hk λ c hc h₁.
      after (callee_name t tab c.0) _ h₁ λ x hx h₂.
      after (only (same x (bytes "hasAttr")) c.1) _ h₂ λ a ha h₃.
      only-some (same x (bytes "hasAttr")) ha λ q ea.
      has_attr_applied f c.0 c.1 k x g (apply-shape f c hc) hx q (subst (λ z. string_literal t z ≡ Some k) (sym ea) h₃) v

  callee-test : (f : ℕ) (x : Text) (s : Sort) (g : Value) → callee_name t tab f ≡ Some x → predicate x ≡ Some s → m.expr f ≡ Some g → g ≡ builtin (test s)
  unfolding callee_name
  callee-test f x s g hx hs v = callee-is alias_depths f x (test s) g hx hs v

  -- an argument has a value, which passes a test or not
  abbrev Passes : Bool → ℕ → Test → Type 0
  Passes b a p = (v : Value) × (m.expr a ≡ Some v) × (passed t p v ≡ b)

  sort-passes : (b : Bool) (a : ℕ) (s : Sort) → Gives t tab m (test s) a (bool b) → Passes b a (is s)
  unfolding passed
  sort-passes b a s h = (h.0, h.1, bool_inj (sym h.2))

  key-passes : (b : Bool) (a k : ℕ) → Gives t tab m (has_attr_of (text_at t k)) a (bool b) → Passes b a (has k)
  unfolding passed
  key-passes b a k h = (h.0, h.1, bool_inj (sym h.2))

  -- a function that was found to test for something is the built-in function, or fails; what it gives is whether the value passes
  tests-pass : (b : Bool) (f a : ℕ) (p : Test) (g : Value) → tests t tab f ≡ Some p → m.expr f ≡ Some g →
      ((β : Builtin) → g ≡ builtin β → Gives t tab m β a (bool b)) → Passes b a p
  unfolding tests
  tests-pass b f a p g h v gives =
      either _ h
      (λ h₁.
      after (callee_name t tab f >>= predicate) _ h₁ λ s hs h₂.
      after (callee_name t tab f) predicate hs λ x hx h₃.
      subst (Passes b a) (some_inj h₂) (sort-passes b a s (gives (test s) (callee-test f x s g hx h₃ v))))
      λ h₁. either _ h₁
      (λ h₂.
      after (has_attr_call t tab f) _ h₂ λ k hk h₃.
      subst (Passes b a) (some_inj h₃) (key-passes b a k (gives (has_attr_of (text_at t k)) (has-attr f k g hk v))))
      λ h₂.
      after (chain_key t tab f >>= predicate) _ h₂ λ s hs h₃.
      after (chain_key t tab f) predicate hs λ x hx h₄.
      subst (Passes b a) (some_inj h₃) (sort-passes b a s (gives (test s) (predicate-is hx h₄ v)))

  -- a condition that is a call
  call-true : (c f a : ℕ) (b : Bool) → shape t c ≡ call f a → m.expr c ≡ Some (bool b) → (n : ℕ) (p : Test) →
      local_name t tab a ≡ Some n → tests t tab f ≡ Some p → True (record { name = n; test = p; passes = b })
  call-true c f a b sh h n p hn hp =
      let k : Called t tab m (bool b) (f, a) = call-is sh h in
      let d : Passes b a p = tests-pass b f a p k.0 hp k.1 k.2 in
      (d.0, name-is hn d.1, d.2)

  swap : (b : Bool) (v w : Value) → Allowed b v w → Allowed b w v
  swap true v w (inl e) = inl (sym e)
  swap true v w (inr q) = inr (q.1, q.0)
  swap false v w q = λ x y. q y x

  -- what equals a literal of a sort has that sort, or both are numbers
  literal_passes : (v : Value) (s : Sort) → (sort v ≡ s) ⊎ ((number (sort v) ≡ true) × (number s ≡ true)) → passed t (literal_test s) v ≡ true
  unfolding literal_test passed
  literal_passes v s h = go (number s) refl
    where
      go : (x : Bool) → number s ≡ x → passed t (cond x numeric (is s)) v ≡ true
      go true q = ⊎_elim (λ e. ap number e ∙ q) (λ k. k.0) h
      go false q = ⊎_elim (λ e. subst (λ z. same_sort (sort v) z ≡ true) e (same_sort-refl (sort v))) (λ k. absurd (true≢false k.1 q)) h

  -- what a literal tells of a name that came out equal to it, or unequal
  sorts_are : (b : Bool) (y : ℕ) (v w : Value) (s : Sort) (p : Test) → literal_sort t tab y ≡ Some s → m.expr y ≡ Some w →
      Allowed b v w → literal_tells b s ≡ Some p → passed t p v ≡ b
  unfolding literal_tells passed
  sorts_are true y v w s p hs hw al h =
      subst (λ z. passed t z v ≡ true) (some_inj h)
      (literal_passes v s (subst (λ z. (sort v ≡ z) ⊎ ((number (sort v) ≡ true) × (number z ≡ true))) (literal_is hs hw) al))
  sorts_are false y v w s p hs hw al h =
      only-some (singleton s) h λ q e.
      let z : s ≡ Null = null_is s q in
      subst (λ z. passed t z v ≡ false) e (subst (λ z. same_sort (sort v) z ≡ false) (sym z) (not_null (sort v) λ hv. al hv (literal_is hs hw ∙ z)))

  -- a name against a literal
  against_true : (b : Bool) (x y : ℕ) (v w : Value) (p : ℕ × Sort) → m.expr x ≡ Some v → m.expr y ≡ Some w → Allowed b v w →
      literal_comparison t tab x y ≡ Some p → All True (narrowing b p.0 (literal_tells b p.1))
  unfolding literal_comparison
  against_true b x y v w p hv hw al h =
      after (literal_sort t tab y) _ h λ s hs h₁.
      after (local_name t tab x) _ h₁ λ n hn h₂.
      subst (λ (z : ℕ × Sort). All True (narrowing b z.0 (literal_tells b z.1))) (some_inj h₂)
      (narrowing-all True b n (literal_tells b s) λ q hq. (v, name-is hn hv, sorts_are b y v w s q hs hw al hq))

  compared-true : (b : Bool) (l r : ℕ) → Compared t tab m b l r → All True (compared t tab b l r)
  unfolding compared
  compared-true b l r k =
      All-found True _ λ ns hns.
      after (or_else (literal_comparison t tab l r) (literal_comparison t tab r l)) _ hns λ p hp h₁.
      subst (All True) (some_inj h₁)
      (either (literal_comparison t tab l r) hp
      (λ h₂. against_true b l r k.0 k.1 p k.2 k.3 k.4 h₂)
      λ h₂. against_true b r l k.1 k.0 p k.3 k.2 (swap b k.0 k.1 k.4) h₂)

  -- one node of the analysis, if the lists of its parts are true
  pub node-true : (below : Bool → ℕ → List Narrowing) → ((b : Bool) (c : ℕ) → m.expr c ≡ Some (bool b) → All True (below b c)) →
      (c : ℕ) (b : Bool) (s : Condition) → shape t c ≡ s → m.expr c ≡ Some (bool b) → Outcome t tab m s b → All True (node t tab below b s)
  unfolding node passed
  node-true below ih c b (equal l r) sh h y = compared-true b l r y
  node-true below ih c b (not_equal l r) sh h y = compared-true (not b) l r y
  node-true below ih c true (and l r) sh h y = All-++ True (below true l) (below true r) (ih true l y.0) (ih true r y.1)
  node-true below ih c false (and l r) sh h y = tt
  node-true below ih c true (or l r) sh h y = tt
  node-true below ih c false (or l r) sh h y = All-++ True (below false l) (below false r) (ih false l y.0) (ih false r y.1)
  node-true below ih c true (implies l r) sh h y = tt
  node-true below ih c false (implies l r) sh h y = All-++ True (below true l) (below false r) (ih true l y.0) (ih false r y.1)
  node-true below ih c b (call f a) sh h y =
      All-found True _ λ ns hns.
      after (local_name t tab a) _ hns λ n hn h₁.
      after (tests t tab f) _ h₁ λ p hp h₂.
      subst (All True) (some_inj h₂)
      (narrowing-all True b n (test_tells b p) λ q hq.
      subst (λ z. True (record { name = n; test = z; passes = b })) (test-told b p q hq) (call-true c f a b sh h n p hn hp))
  node-true below ih c b (has_key e k) sh h y =
      All-found True _ λ ns hns.
      after (local_name t tab e) _ hns λ n hn h₁.
      subst (All True) (some_inj h₁)
      (narrowing-all True b n (test_tells b (has k)) λ q hq.
      subst (λ z. True (record { name = n; test = z; passes = b })) (test-told b (has k) q hq) (y.0, name-is hn y.1, y.2))
  node-true below ih c b (invert e) sh h y = ih (not b) e y
  node-true below ih c b opaque sh h y = tt
