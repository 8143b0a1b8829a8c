-- What the private functions of the code promise each other.
use Rattle.std.specs.Prelude.{ℕ, Bool, true, false, cond, [], ◌∷◌, eqb, Option, Some, None}
use Rattle.narrow_texts.specs.declared.words.PrimitiveTy.{PrimitiveTy}
use Rattle.semantics.specs.Codes.{details}
use Rattle.semantics.specs.Base.{pick, only, single, ◌>>=◌}
use Rattle.semantics.specs.Tree.{Text, Tree, bytes, same, path, plain, string}
use Rattle.semantics.specs.Resolution.{Resolution, unresolved, definition, builtin, within}
use Rattle.narrow_texts.specs.declared.words.PrimitiveTy.TheVariants.{Null as null, Bool as bool, Int as int, Float as float, String as string', Path as path'}

-- the text of the only key of a path without default
unfoldable pub single_key : Tree → ℕ → Option ℕ
single_key t e = only (plain t e) (path t e) >>= single >>= string t

-- the places of the keywords among the global builtins
abbrev pub null_place : ℕ
null_place = 15

abbrev pub true_place : ℕ
true_place = 21

abbrev pub false_place : ℕ
false_place = 5

unfoldable pub keyword_place : Text → Option ℕ
keyword_place x =
    cond (same x (bytes "null")) (Some null_place) (cond (same x (bytes "true")) (Some true_place) (cond (same x (bytes "false")) (Some false_place) None))

-- `is_keyword`, of the keyword at this place
unfoldable pub keyword_at : Resolution → ℕ → Bool
keyword_at unresolved place = true
keyword_at (definition n) place = false
keyword_at (builtin p) place = eqb p place
keyword_at (within w) place = false

-- the types of null, true and false by their places, and of a Literal by its detail
unfoldable pub keyword_primitive : ℕ → Option PrimitiveTy
keyword_primitive place = pick place ((null_place, Some null) ∷ (true_place, Some bool) ∷ (false_place, Some bool) ∷ []) None

unfoldable pub literal_primitive : ℕ → Option PrimitiveTy
literal_primitive detail =
    pick detail ((details.Float, Some float) ∷ (details.Integer, Some int) ∷ (details.String, Some string') ∷ (details.Path, Some path') ∷ []) None
