-- What the private functions of the code promise each other.
use Rattle.std.specs.Prelude.{ℕ, ◌+◌, ◌≤◌, ◌<◌, ◌≡◌, true, ◌⊎◌, List, length}
use Rattle.semantics.specs.Codes.{none_number, widths}
use Rattle.semantics.specs.Scopes.{defines}
use Rattle.image_fields.specs.Image.{name_count, item_here, decode}
use Rattle.image_rules.specs.Rules.{has, name_presence}

-- an item of an accepted image stands at this byte: a name that its role has, or that it defines, is one of the image
pub record AnItem (s : List ℕ) (at : ℕ) : Type 0 where
  pub inside : at + widths.item ≤ length s
  pub named : name_presence (item_here s at).role ≡ has → (item_here s at).name < name_count s
  pub defined : defines (decode s) (item_here s at) ≡ true → (item_here s at).name < name_count s
  pub nameless : ((item_here s at).name < name_count s) ⊎ ((item_here s at).name ≡ none_number)
