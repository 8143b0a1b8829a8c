-- Printing on a page.
use Rattle.std.specs.Prelude.{ℕ, ◌+◌, ◌≡◌, cond, List, [], ◌∷◌, ltb, length, set}
use Rattle.survey_lines.specs.declared.text.Page.{Page}

-- one more byte, where there is room
unfoldable pub typed : ℕ → Page → Page
typed b p = cond (ltb p.at (length p.out.now)) (record { out = record p.out { now = set p.out.now p.at b }; at = p.at + 1 }) p

-- a text, byte by byte
unfoldable pub print : List ℕ → Page → Page
print [] p = p
print (b ∷ bs) p = print bs (typed b p)

-- the page after is the page before with the text printed on it
pub record Printed (text : List ℕ) (before after : Page) : Type 0 where
  pub shows : after ≡ print text before
