-- What the settled References have is `definition_of` their last scope.
use Rattle.std.specs.Prelude.{Option, Some, None}
use mathlib.Core.Path.{◌≡◌, refl, sym, ap, subst, ◌∙◌}
use mathlib.Core.Bool.{Bool, true, false, not, cond, ◌||◌}
use mathlib.Core.List.{List, [], ◌∷◌, ◌++◌, map, append-nil, append_assoc}
use Prim.Native.Nat.{ℕ, zero, suc}
use lib.Dec.{eqb}
use borrow.Author.Tests.{eqb-true}
use Rattle.semantics.specs.Codes.{kinds}
use Rattle.semantics.specs.Base.{empty, first, final, keep, listed, only, or_else, All, ◌>>=◌}
use Rattle.semantics.specs.Tree.{Tree, Text, expr_at, text_at, is_kind}
use Rattle.semantics.specs.Scopes.{Scope, ScopeVisit, defined, makes, inside, visiting, scope_children}
use Rattle.semantics.specs.Order.{Ordered}
use Rattle.semantics.specs.Resolution.{Resolution, definition, builtin, within, definition_of, place_of, with_of, resolve_in, scope_of}
use Rattle.semantics.proofs.BaseLaws.{true≢false, first-all, All-++, All_to, All-map}
use Rattle.resolve_laws.specs.Inside.Last.{parts_of, entered, unless, enter_all, enter, entered_of}
use Rattle.resolve_laws.specs.Inside.Settle.{Found, text_of, names, give, give_all, own, outs_all, outs, outs_of}
use Rattle.resolve_laws.proofs.LastLaws.{or_else_assoc, or_else-none, split, last-visits}

unfoldable pub full : Tree → ScopeVisit → Option ℕ
full t w = definition_of t (text_of t w) w.scope

-- the answer so far, or else what is given later, is what the visit's own scope gives
abbrev Right : Tree → (ScopeVisit → Option ℕ) → Found → Type 0
Right t k f = or_else f.name (k f.visit) ≡ full t f.visit

-- names given one after the other, the last first, are `final`
given : (t : Tree) (ns : List ℕ) (k : ScopeVisit → Option ℕ) (fs : List Found)
    → All (Right t (λ w. or_else (final (names t w) ns) (k w))) fs → All (Right t k) (give_all t ns fs)
unfolding give_all final or_else give
given t [] k fs h = h
given t (n ∷ ns) k fs h =
    All-map (Right t k) (give t n) (give_all t ns fs)
    (All_to (Right t (λ w. or_else (only (names t w n) n) (k w))) (λ f. Right t k (give t n f)) (give_all t ns fs)
    (λ f q. or_else_assoc f.name (only (names t f.visit n) n) (k f.visit) ∙ q)
    (given t ns (λ w. or_else (only (names t w n) n) (k w)) fs
    (All_to (Right t (λ w. or_else (or_else (final (names t w) ns) (only (names t w n) n)) (k w))) (Right t (λ w. or_else (final (names t w) ns) (or_else (only (names t w n) n) (k w)))) fs
    (λ f q. ap (or_else f.name) (sym (or_else_assoc (final (names t f.visit) ns) (only (names t f.visit n) n) (k f.visit))) ∙ q) h)))

-- the scope inside an expression: what it defines, then the scope around
none-defined : (a : Bool) (l : List ℕ) → (a || not (empty l)) ≡ false → l ≡ []
unfolding empty
none-defined a [] h = refl
none-defined true (x ∷ l) h = absurd (true≢false refl h)
none-defined false (x ∷ l) h = absurd (true≢false refl h)

unmade : (t : Tree) (e : ℕ) → makes t e ≡ false → defined t e ≡ []
unfolding makes
unmade t e h = none-defined (is_kind t kinds.With e) (defined t e) h

final_nil : (t : Tree) (w : ScopeVisit) (o : Option ℕ) → or_else (final (names t w) []) o ≡ o
unfolding final or_else
final_nil t w o = refl

inside_def : (t : Tree) (w : ScopeVisit) (e : ℕ) (s : Scope)
    → definition_of t (text_of t w) (inside t e s) ≡ or_else (final (names t w) (defined t e)) (definition_of t (text_of t w) s)
unfolding inside definition_of names or_else
inside_def t w e s = go (makes t e) refl
  where
    bare : (l : List ℕ) → l ≡ [] → definition_of t (text_of t w) s ≡ or_else (final (names t w) l) (definition_of t (text_of t w) s)
    bare l h = sym (ap (λ z. or_else (final (names t w) z) (definition_of t (text_of t w) s)) h ∙ final_nil t w (definition_of t (text_of t w) s))

    go : (b : Bool) → makes t e ≡ b → definition_of t (text_of t w) (cond b (e ∷ s) s) ≡ or_else (final (names t w) (defined t e)) (definition_of t (text_of t w) s)
    go true h = refl
    go false h = bare (defined t e) (unmade t e h)

answers-all : (t : Tree) (d : ℕ) (s : Scope) (es : List ℕ)
    → ((v : ScopeVisit) (acc : List ScopeVisit) → All (Right t (λ w. definition_of t (text_of t w) v.scope)) (outs t d v acc))
    → (acc : List ScopeVisit) → All (Right t (λ w. definition_of t (text_of t w) s)) (outs_all (outs t d) (enter t d) (visiting s es) acc)
unfolding outs_all visiting
answers-all t d s [] h acc = tt
answers-all t d s (e ∷ es) h acc =
    All-++ (Right t (λ w. definition_of t (text_of t w) s))
    (outs t d (record { expr = e; scope = s }) (enter_all (enter t d) (visiting s es) acc))
    (outs_all (outs t d) (enter t d) (visiting s es) acc)
    (h (record { expr = e; scope = s }) (enter_all (enter t d) (visiting s es) acc))
    (answers-all t d s es h acc)

listed-all : (t : Tree) (v : ScopeVisit) (b : Bool) → All (Right t (λ w. definition_of t (text_of t w) v.scope)) (listed (only b (record { visit = v; name = None })))
unfolding listed only full or_else
listed-all t v true = (refl, tt)
listed-all t v false = tt

own_right : (t : Tree) (v : ScopeVisit) → All (Right t (λ w. definition_of t (text_of t w) v.scope)) (own t v)
unfolding own full or_else
own_right t v = go (is_kind t kinds.Reference v.expr)
  where
    go : (b : Bool) → All (Right t (λ w. definition_of t (text_of t w) v.scope)) (listed (only b (record { visit = v; name = None })))
    go b = listed-all t v b

answers : (t : Tree) (d : ℕ) (v : ScopeVisit) (acc : List ScopeVisit) → All (Right t (λ w. definition_of t (text_of t w) v.scope)) (outs t d v acc)
unfolding outs unless
answers t zero v acc = tt
answers t (suc d) v acc = go (answers t d) (entered v.expr acc)
  where
    K : ScopeVisit → Option ℕ
    K w = definition_of t (text_of t w) v.scope

    inner : List ScopeVisit
    inner = visiting (inside t v.expr v.scope) (parts_of t v.expr).1

    go : ((c : ScopeVisit) (a : List ScopeVisit) → All (Right t (λ w. definition_of t (text_of t w) c.scope)) (outs t d c a)) → (o : Option ScopeVisit)
        → All (Right t (λ w. definition_of t (text_of t w) v.scope)) (unless o
        (outs_all (outs t d) (enter t d) (visiting v.scope (parts_of t v.expr).0) (enter_all (enter t d) (visiting (inside t v.expr v.scope) (parts_of t v.expr).1) (v ∷ acc))
        ++ (give_all t (defined t v.expr) (outs_all (outs t d) (enter t d) (visiting (inside t v.expr v.scope) (parts_of t v.expr).1) (v ∷ acc)) ++ own t v)) [])
    go ih (Some x) = tt
    go ih None =
        All-++ (Right t K) (outs_all (outs t d) (enter t d) (visiting v.scope (parts_of t v.expr).0) (enter_all (enter t d) inner (v ∷ acc)))
        (give_all t (defined t v.expr) (outs_all (outs t d) (enter t d) inner (v ∷ acc)) ++ own t v)
        (answers-all t d v.scope (parts_of t v.expr).0 ih (enter_all (enter t d) inner (v ∷ acc)))
        (All-++ (Right t K) (give_all t (defined t v.expr) (outs_all (outs t d) (enter t d) inner (v ∷ acc))) (own t v)
        (given t (defined t v.expr) K (outs_all (outs t d) (enter t d) inner (v ∷ acc))
        (All_to (Right t (λ w. definition_of t (text_of t w) (inside t v.expr v.scope))) (Right t (λ w. or_else (final (names t w) (defined t v.expr)) (K w)))
        (outs_all (outs t d) (enter t d) inner (v ∷ acc))
        (λ f q. ap (or_else f.name) (sym (inside_def t f.visit v.expr v.scope)) ∙ q)
        (answers-all t d (inside t v.expr v.scope) (parts_of t v.expr).1 ih (v ∷ acc))))
        (own_right t v))

-- Every Reference that is entered is among them, in the order of entering.
visits : List Found → List ScopeVisit
visits fs = map (λ f. f.visit) fs

visits-++ : (a b : List Found) → visits (a ++ b) ≡ visits a ++ visits b
unfolding visits
visits-++ [] b = refl
visits-++ (f ∷ a) b = ap (λ z. f.visit ∷ z) (visits-++ a b)

visits-map : (t : Tree) (n : ℕ) (fs : List Found) → visits (map (give t n) fs) ≡ visits fs
unfolding visits give
visits-map t n [] = refl
visits-map t n (f ∷ fs) = ap (λ z. f.visit ∷ z) (visits-map t n fs)

visits-give : (t : Tree) (ns : List ℕ) (fs : List Found) → visits (give_all t ns fs) ≡ visits fs
unfolding give_all
visits-give t [] fs = refl
visits-give t (n ∷ ns) fs = visits-map t n (give_all t ns fs) ∙ visits-give t ns fs

unfoldable refs : Tree → List ScopeVisit → List ScopeVisit
refs t l = keep (λ v. is_kind t kinds.Reference v.expr) l

visits-own : (t : Tree) (v : ScopeVisit) (acc : List ScopeVisit) → refs t (v ∷ acc) ≡ visits (own t v) ++ refs t acc
unfolding refs keep own visits listed only
visits-own t v acc = go (is_kind t kinds.Reference v.expr)
  where
    go : (b : Bool) → (listed (only b v) ++ refs t acc) ≡ visits (listed (only b (record { visit = v; name = None }))) ++ refs t acc
    go true = refl
    go false = refl

pub enter_all-++ : (f : ScopeVisit → List ScopeVisit → List ScopeVisit) (a b acc : List ScopeVisit) → enter_all f (a ++ b) acc ≡ enter_all f a (enter_all f b acc)
unfolding enter_all
enter_all-++ f [] b acc = refl
enter_all-++ f (v ∷ a) b acc = ap (f v) (enter_all-++ f a b acc)

refs_all : (t : Tree) (d : ℕ) → ((v : ScopeVisit) (acc : List ScopeVisit) → refs t (enter t d v acc) ≡ visits (outs t d v acc) ++ refs t acc)
    → (vs : List ScopeVisit) (acc : List ScopeVisit) → refs t (enter_all (enter t d) vs acc) ≡ visits (outs_all (outs t d) (enter t d) vs acc) ++ refs t acc
unfolding enter_all outs_all visits
refs_all t d h [] acc = refl
refs_all t d h (v ∷ vs) acc =
    h v (enter_all (enter t d) vs acc)
    ∙ ap (λ z. visits (outs t d v (enter_all (enter t d) vs acc)) ++ z) (refs_all t d h vs acc)
    ∙ sym (append_assoc (visits (outs t d v (enter_all (enter t d) vs acc))) (visits (outs_all (outs t d) (enter t d) vs acc)) (refs t acc))
    ∙ ap (λ z. z ++ refs t acc) (sym (visits-++ (outs t d v (enter_all (enter t d) vs acc)) (outs_all (outs t d) (enter t d) vs acc)))

-- one expression: outside, inside, itself
refs_node : (t : Tree) (d : ℕ) → ((v : ScopeVisit) (acc : List ScopeVisit) → refs t (enter t d v acc) ≡ visits (outs t d v acc) ++ refs t acc)
    → (v : ScopeVisit) (acc a b : List ScopeVisit) (ns : List ℕ) → refs t (enter_all (enter t d) a (enter_all (enter t d) b (v ∷ acc)))
    ≡ visits (outs_all (outs t d) (enter t d) a (enter_all (enter t d) b (v ∷ acc)) ++ (give_all t ns (outs_all (outs t d) (enter t d) b (v ∷ acc)) ++ own t v)) ++ refs t acc
refs_node t d h v acc a b ns =
    refs_all t d h a (enter_all (enter t d) b (v ∷ acc))
    ∙ ap (λ z. visits A ++ z) (refs_all t d h b (v ∷ acc) ∙ ap (λ z. visits B ++ z) (visits-own t v acc))
    ∙ ap (λ z. visits A ++ (z ++ (visits (own t v) ++ refs t acc))) (sym (visits-give t ns B))
    ∙ ap (λ z. visits A ++ z) (sym (append_assoc (visits (give_all t ns B)) (visits (own t v)) (refs t acc)))
    ∙ ap (λ z. visits A ++ (z ++ refs t acc)) (sym (visits-++ (give_all t ns B) (own t v)))
    ∙ sym (append_assoc (visits A) (visits (give_all t ns B ++ own t v)) (refs t acc))
    ∙ ap (λ z. z ++ refs t acc) (sym (visits-++ A (give_all t ns B ++ own t v)))
  where
    A : List Found
    A = outs_all (outs t d) (enter t d) a (enter_all (enter t d) b (v ∷ acc))

    B : List Found
    B = outs_all (outs t d) (enter t d) b (v ∷ acc)

refs_are : (t : Tree) (d : ℕ) (v : ScopeVisit) (acc : List ScopeVisit) → refs t (enter t d v acc) ≡ visits (outs t d v acc) ++ refs t acc
unfolding enter outs unless visits
refs_are t zero v acc = refl
refs_are t (suc d) v acc = go (refs_are t d) (entered v.expr acc)
  where
    go : ((c : ScopeVisit) (a : List ScopeVisit) → refs t (enter t d c a) ≡ visits (outs t d c a) ++ refs t a) → (o : Option ScopeVisit)
        → refs t (unless o (enter_all (enter t d) (scope_children t v.expr v.scope) (v ∷ acc)) acc)
        ≡ visits (unless o
        (outs_all (outs t d) (enter t d) (visiting v.scope (parts_of t v.expr).0) (enter_all (enter t d) (visiting (inside t v.expr v.scope) (parts_of t v.expr).1) (v ∷ acc))
        ++ (give_all t (defined t v.expr) (outs_all (outs t d) (enter t d) (visiting (inside t v.expr v.scope) (parts_of t v.expr).1) (v ∷ acc)) ++ own t v)) []) ++ refs t acc
    go ih (Some x) = refl
    go ih None =
        ap (λ z. refs t (enter_all (enter t d) z (v ∷ acc))) (split t v.expr v.scope)
        ∙ ap (refs t) (enter_all-++ (enter t d) (visiting v.scope (parts_of t v.expr).0) (visiting (inside t v.expr v.scope) (parts_of t v.expr).1) (v ∷ acc))
        ∙ refs_node t d ih v acc (visiting v.scope (parts_of t v.expr).0) (visiting (inside t v.expr v.scope) (parts_of t v.expr).1) (defined t v.expr)

-- the first that passes, among those that pass another test, and through a map
first_go : {A : Type 0} (p q : A → Bool) (x : A) (l : List A) (b c : Bool) → p x ≡ b → q x ≡ c → (p x ≡ true → q x ≡ true) → first p (keep q l) ≡ first p l
    → first p (listed (only c x) ++ keep q l) ≡ or_else (only b x) (first p l)
unfolding first listed only or_else
first_go p q x l true true u w h ih = ap (λ z. or_else (only z x) (first p (keep q l))) u
first_go p q x l false true u w h ih = ap (λ z. or_else (only z x) (first p (keep q l))) u ∙ ih
first_go p q x l true false u w h ih = absurd (true≢false (h u) w)
first_go p q x l false false u w h ih = ih

first-map_nil : {A B : Type 0} (f : A → B) → None ≡ ◌>>=◌ {A = A} None (λ x. Some (f x))
unfolding ◌>>=◌
first-map_nil f = refl

first-map_go : {A B : Type 0} (f : A → B) (b : Bool) (x : A) (o : Option A) → or_else (only b (f x)) (o >>= λ y. Some (f y)) ≡ (or_else (only b x) o >>= λ y. Some (f y))
unfolding ◌>>=◌ or_else only
first-map_go f true x o = refl
first-map_go f false x o = refl

-- the References among what was entered are those that are settled
pub all_refs : (t : Tree) → keep (λ v. is_kind t kinds.Reference v.expr) (entered_of t) ≡ map (λ f. f.visit) (outs t (suc t.entry) (record { expr = t.entry; scope = [] }) [])
unfolding entered_of refs visits keep
all_refs t = go (refs_are t (suc t.entry) (record { expr = t.entry; scope = [] }) []) ∙ append-nil (map (λ f. f.visit) (outs t (suc t.entry) (record { expr = t.entry; scope = [] }) []))
  where
    go : refs t (enter t (suc t.entry) (record { expr = t.entry; scope = [] }) []) ≡ visits (outs t (suc t.entry) (record { expr = t.entry; scope = [] }) []) ++ refs t []
        → keep (λ v. is_kind t kinds.Reference v.expr) (enter t (suc t.entry) (record { expr = t.entry; scope = [] }) []) ≡ map (λ f. f.visit) (outs t (suc t.entry) (record { expr = t.entry; scope = [] }) []) ++ []
    go h = h

-- at the root nothing is left to be given
root_none : (t : Tree) (f : Found) → or_else f.name (definition_of t (text_of t f.visit) []) ≡ f.name
unfolding definition_of
root_none t f = or_else-none f.name

root_right : (t : Tree) → All (λ f. f.name ≡ full t f.visit) (outs_of t)
unfolding outs_of
root_right t =
    All_to (Right t (λ w. definition_of t (text_of t w) [])) (λ f. f.name ≡ full t f.visit) (outs t (suc t.entry) (record { expr = t.entry; scope = [] }) [])
    (λ f q. sym (root_none t f) ∙ q)
    (answers t (suc t.entry) (record { expr = t.entry; scope = [] }) [])

settled-one : (t : Tree) (e : ℕ) (f : Found) → first (λ g. eqb g.visit.expr e) (outs_of t) ≡ Some f → f.name ≡ definition_of t (text_at t (expr_at t e).text) f.visit.scope
unfolding full text_of
settled-one t e f q =
    first-all (λ g. g.name ≡ full t g.visit) (λ g. g.name ≡ definition_of t (text_at t (expr_at t e).text) g.visit.scope) (λ g. eqb g.visit.expr e) (outs_of t)
    (λ g b r. subst (λ z. g.name ≡ definition_of t (text_at t (expr_at t z).text) g.visit.scope) (eqb-true g.visit.expr e b) r)
    (root_right t) q

bind_nones : (t : Tree) (e : ℕ) → ((◌>>=◌ {A = Found} None (λ f. Some f.visit) >>= λ v. Some v.scope) >>= definition_of t (text_at t (expr_at t e).text)) ≡ ◌>>=◌ {A = Found} None (λ f. f.name)
unfolding ◌>>=◌
bind_nones t e = refl

bind_somes : (t : Tree) (e : ℕ) (f : Found) → f.name ≡ definition_of t (text_at t (expr_at t e).text) f.visit.scope
    → (((Some f >>= λ f. Some f.visit) >>= λ v. Some v.scope) >>= definition_of t (text_at t (expr_at t e).text)) ≡ (Some f >>= λ f. f.name)
unfolding ◌>>=◌
bind_somes t e f h = sym h

first-keep : {A : Type 0} (p q : A → Bool) (l : List A) → ((a : A) → p a ≡ true → q a ≡ true) → first p (keep q l) ≡ first p l
unfolding first keep
first-keep p q [] h = refl
first-keep {A} p q (x ∷ l) h = go (p x) (q x) refl refl (first-keep p q l h)
  where
    go : (b c : Bool) → p x ≡ b → q x ≡ c → first p (keep q l) ≡ first p l → first p (listed (only c x) ++ keep q l) ≡ or_else (only b x) (first p l)
    go b c u w ih = first_go p q x l b c u w (h x) ih

first-map : {A B : Type 0} (p : B → Bool) (f : A → B) (l : List A) → first p (map f l) ≡ (first (λ x. p (f x)) l >>= λ x. Some (f x))
unfolding first
first-map p f [] = first-map_nil f
first-map p f (x ∷ l) = ap (or_else (only (p (f x)) (f x))) (first-map p f l) ∙ first-map_go f (p (f x)) x (first (λ y. p (f y)) l)

-- an answer from a settled Reference: its definition, else the builtin of its text, else the innermost With
unfoldable pub answer : Tree → Text → Found → Option Resolution
answer t x f =
    or_else (f.name >>= λ n. Some (definition n)) (or_else (place_of x >>= λ p. Some (builtin p)) (with_of t f.visit.scope >>= λ w. Some (within w)))

resolve-none : (t : Tree) (e : ℕ) → ((◌>>=◌ {A = Found} None (λ f. Some f.visit) >>= λ v. Some v.scope) >>= resolve_in t (text_at t (expr_at t e).text))
    ≡ ◌>>=◌ {A = Found} None (λ f. answer t (text_at t (expr_at t e).text) f)
unfolding ◌>>=◌
resolve-none t e = refl

resolve-some : (t : Tree) (e : ℕ) (f : Found) → f.name ≡ definition_of t (text_at t (expr_at t e).text) f.visit.scope
    → (((Some f >>= λ f. Some f.visit) >>= λ v. Some v.scope) >>= resolve_in t (text_at t (expr_at t e).text)) ≡ (Some f >>= λ f. answer t (text_at t (expr_at t e).text) f)
unfolding ◌>>=◌ resolve_in answer
resolve-some t e f h =
    ap (λ z. or_else (z >>= λ n. Some (definition n)) (or_else (place_of (text_at t (expr_at t e).text) >>= λ p. Some (builtin p)) (with_of t f.visit.scope >>= λ w. Some (within w)))) (sym h)

-- the innermost With, carried down
with_cases : (t : Tree) (e : ℕ) (s : Scope) (a : Bool) → is_kind t kinds.With e ≡ a → (b : Bool) → first (is_kind t kinds.With) (cond (a || b) (e ∷ s) s) ≡ cond a (Some e) (first (is_kind t kinds.With) s)
unfolding first only or_else
with_cases t e s true q b = ap (λ z. or_else (only z e) (first (is_kind t kinds.With) s)) q
with_cases t e s false q true = ap (λ z. or_else (only z e) (first (is_kind t kinds.With) s)) q
with_cases t e s false q false = refl

pub with_inside : (t : Tree) (e : ℕ) (s : Scope) → with_of t (inside t e s) ≡ cond (is_kind t kinds.With e) (Some e) (with_of t s)
unfolding with_of inside makes
with_inside t e s = go (is_kind t kinds.With e) refl (not (empty (defined t e)))
  where
    go : (a : Bool) → is_kind t kinds.With e ≡ a → (b : Bool) → first (is_kind t kinds.With) (cond (a || b) (e ∷ s) s) ≡ cond a (Some e) (first (is_kind t kinds.With) s)
    go a q b = with_cases t e s a q b

module _ (t : Tree) (ordered : Ordered t) where
  pub found_in : (e : ℕ) → is_kind t kinds.Reference e ≡ true → entered e (entered_of t) ≡ (first (λ f. eqb f.visit.expr e) (outs_of t) >>= λ f. Some f.visit)
  unfolding entered outs_of
  found_in e h =
      sym (first-keep (λ v. eqb v.expr e) (λ v. is_kind t kinds.Reference v.expr) (entered_of t) (λ v q. subst (λ z. is_kind t kinds.Reference z ≡ true) (sym (eqb-true v.expr e q)) h))
      ∙ ap (first (λ v. eqb v.expr e)) (all_refs t)
      ∙ first-map (λ v. eqb v.expr e) (λ f. f.visit) (outs t (suc t.entry) (record { expr = t.entry; scope = [] }) [])

  -- THE LAW: a Reference has the definition that the settled one has
  pub settled : (e : ℕ) → is_kind t kinds.Reference e ≡ true
      → (scope_of t e >>= definition_of t (text_at t (expr_at t e).text)) ≡ (first (λ f. eqb f.visit.expr e) (outs_of t) >>= λ f. f.name)
  unfolding scope_of
  settled e h =
      ap (λ z. (z >>= λ v. Some v.scope) >>= definition_of t (text_at t (expr_at t e).text)) (sym (last-visits t ordered e) ∙ found_in e h)
      ∙ go (first (λ f. eqb f.visit.expr e) (outs_of t)) refl
    where
      go : (o : Option Found) → first (λ f. eqb f.visit.expr e) (outs_of t) ≡ o
          → (((o >>= λ f. Some f.visit) >>= λ v. Some v.scope) >>= definition_of t (text_at t (expr_at t e).text)) ≡ (o >>= λ f. f.name)
      go None q = bind_nones t e
      go (Some f) q = bind_somes t e f (settled-one t e f q)

  -- THE LAW: the whole resolution of a Reference, from the settled one
  pub resolved : (e : ℕ) → is_kind t kinds.Reference e ≡ true
      → (scope_of t e >>= resolve_in t (text_at t (expr_at t e).text)) ≡ (first (λ f. eqb f.visit.expr e) (outs_of t) >>= λ f. answer t (text_at t (expr_at t e).text) f)
  unfolding scope_of
  resolved e h =
      ap (λ z. (z >>= λ v. Some v.scope) >>= resolve_in t (text_at t (expr_at t e).text)) (sym (last-visits t ordered e) ∙ found_in e h)
      ∙ go (first (λ f. eqb f.visit.expr e) (outs_of t)) refl
    where
      go : (o : Option Found) → first (λ f. eqb f.visit.expr e) (outs_of t) ≡ o
          → (((o >>= λ f. Some f.visit) >>= λ v. Some v.scope) >>= resolve_in t (text_at t (expr_at t e).text)) ≡ (o >>= λ f. answer t (text_at t (expr_at t e).text) f)
      go None q = resolve-none t e
      go (Some f) q = resolve-some t e f (settled-one t e f q)
