-- The answers as bytes: what document 01 says of each table and record. "Fields are unsigned, packed without gaps, most significant first".
use Rattle.std.specs.Prelude.{true, false, List, [], ◌∷◌, ◌++◌, ℕ, zero, suc, ◌+◌, ◌*◌, ◌/◌, ◌%◌, ◌^◌, Option, Some, None}
use Rattle.semantics.specs.Codes.{none_number, widths, bits}
use Rattle.semantics.specs.Base.{numbered, each}
use Rattle.semantics.specs.Tree.{Tree}
use Rattle.semantics.specs.Resolution.{Tables, Resolution, entry_of}
use Rattle.semantics.specs.Narrow.{Narrowing, coded, analyze}
use Rattle.semantics.specs.Walk.{edges, recorded, name_expr}

-- a number in so many bytes, the most significant first
unfoldable pub bytes_of : ℕ → ℕ → List ℕ
bytes_of zero x = []
bytes_of (suc n) x = bytes_of n (x / 256) ++ x % 256 ∷ []

-- "zero 2, expression 14 or 16383", in 2 bytes
unfoldable pub option_bytes : Option ℕ → List ℕ
option_bytes None = bytes_of widths.entry none_number
option_bytes (Some e) = bytes_of widths.entry e

-- "Resolution table, 2 bytes an expression: tag 2, value 14."
unfoldable pub resolution_bytes : Resolution → List ℕ
resolution_bytes r = bytes_of widths.entry ((entry_of r).0 * 2 ^ bits.number + (entry_of r).1)

-- "Record, 32: name 14, sort 4, value 14"
unfoldable pub record_bytes : Narrowing → List ℕ
record_bytes r = bytes_of widths.narrowing (((coded r).0 * 2 ^ bits.sort + (coded r).1) * 2 ^ bits.number + (coded r).2)

-- "edges, 32 (from 14, to 14, zero 4)"
unfoldable pub edge_bytes : ℕ × ℕ → List ℕ
edge_bytes e = bytes_of widths.edge ((e.0 * 2 ^ bits.number + e.1) * 2 ^ bits.edge_spare)

-- "recorded narrowings, 64 (binding 14, zero 18, record 32)"
unfoldable pub recorded_bytes : ℕ × Narrowing → List ℕ
recorded_bytes r = bytes_of widths.binding (r.0 * 2 ^ bits.binding_spare) ++ record_bytes r.1

module _ (t : Tree) (tab : Tables) where
  -- "Table: 2 bytes a name, zero 2, expression 14 or 16383."
  unfoldable pub binding_table : List ℕ
  binding_table = each (λ n. option_bytes (tab.index n.0)) (numbered 0 t.names)

  -- "Resolution table, 2 bytes an expression"
  unfoldable pub resolution_table : List ℕ
  resolution_table = each (λ e. resolution_bytes (tab.resolution e.0)) (numbered 0 t.exprs)

  -- the then list and the else list of a condition
  unfoldable pub then_list : ℕ → List ℕ
  then_list c = each record_bytes (analyze t tab true c)

  unfoldable pub else_list : ℕ → List ℕ
  else_list c = each record_bytes (analyze t tab false c)

  -- "Answers in visiting order: edges ..; recorded narrowings ..; and per name 2 bytes, its expression or 16383"
  unfoldable pub edge_list : List ℕ
  edge_list = each edge_bytes (edges t tab)

  unfoldable pub narrowing_list : List ℕ
  narrowing_list = each recorded_bytes (recorded t tab)

  unfoldable pub expr_table : List ℕ
  expr_table = each (λ n. option_bytes (name_expr t tab n.0)) (numbered 0 t.names)
