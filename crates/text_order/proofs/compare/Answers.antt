use mathlib.Core.Path.{◌≡◌, sym, ap, ◌∙◌}
use native.Mathlib.Omega.{arith}
use lib.ListN.{length}
use Rattle.text_order.proofs.CompareLaws.{by-length, one-length, equal-texts, stop-inside, stop-some, stop_tells}
use Rattle.text_order.proofs.compare.Goals as goal

pub returns-then-is_ne : goal.returns-then-is_ne
returns-then-is_ne c = by-length _ _ c.cmp-by_length.ensures (sym c.is_ne.ensures ∙ c.if-is_ne.true)

pub returns-then-seen : goal.returns-then-seen
returns-then-seen c = equal-texts _ _ (sym (ap (λ r. r.same) c.same_text-seen.ensures) ∙ c.if-seen.true)

pub overflow_sub-at : goal.overflow_sub-at
overflow_sub-at c = stop-inside _ _ (one-length _ _ c.cmp-by_length.ensures (sym c.is_ne.ensures ∙ c.if-is_ne.false)) c.same_text-seen.ensures c.if-seen.false

pub bounds-a-at : goal.bounds-a-at
bounds-a-at c = let l : length c.args.a.now ≡ length c.args.b.now = one-length _ _ c.cmp-by_length.ensures (sym c.is_ne.ensures ∙ c.if-is_ne.false) in omega (
  arith,
  stop-inside _ _ l c.same_text-seen.ensures c.if-seen.false,
  stop-some _ _ l c.same_text-seen.ensures c.if-seen.false,
)

pub bounds-b-at : goal.bounds-b-at
bounds-b-at c = let l : length c.args.a.now ≡ length c.args.b.now = one-length _ _ c.cmp-by_length.ensures (sym c.is_ne.ensures ∙ c.if-is_ne.false) in omega (
  arith,
  l,
  stop-inside _ _ l c.same_text-seen.ensures c.if-seen.false,
  stop-some _ _ l c.same_text-seen.ensures c.if-seen.false,
)

pub returns : goal.returns
returns c = c.cmp.ensures ∙ stop_tells _ _ (one-length _ _ c.cmp-by_length.ensures (sym c.is_ne.ensures ∙ c.if-is_ne.false)) c.same_text-seen.ensures c.if-seen.false
