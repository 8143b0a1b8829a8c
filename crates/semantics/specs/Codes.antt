-- The numbers and widths of document 01 by name: each is said here, and nowhere else in the definitions.
use Rattle.std.specs.Prelude.{ℕ}

-- "16383 in a 14-bit field outside the header means none"
abbrev pub none_number : ℕ
none_number = 16383

-- "place 0 to 21 in `GLOBAL_BUILTIN_NAMES`": so many there are
abbrev pub builtin_count : ℕ
builtin_count = 22

-- "Kinds 0 to 16 follow `Expr`"
pub record Kinds : Type 0 where
  pub Missing : ℕ
  pub Apply : ℕ
  pub IfThenElse : ℕ
  pub Literal : ℕ
  pub Lambda : ℕ
  pub LetIn : ℕ
  pub List : ℕ
  pub BinOp : ℕ
  pub AttrSet : ℕ
  pub UnaryOp : ℕ
  pub Reference : ℕ
  pub Select : ℕ
  pub HasAttr : ℕ
  pub With : ℕ
  pub Assert : ℕ
  pub StringInterpolation : ℕ
  pub PathInterpolation : ℕ

abbrev pub kinds : Kinds
kinds =
    record { Missing = 0; Apply = 1; IfThenElse = 2; Literal = 3; Lambda = 4; LetIn = 5; List = 6; BinOp = 7; AttrSet = 8; UnaryOp = 9; Reference = 10; Select = 11; HasAttr = 12; With = 13; Assert = 14; StringInterpolation = 15; PathInterpolation = 16 }

-- "Details: Literal 0 Float, 1 Integer, 2 String, 3 Path, 4 Uri; BinOp 0 to 3 Add Sub Mul Div, 4 to 9 Less LessOrEq More MoreOrEq NotEqual Equal,
-- 10 And, 11 Implication, 12 Or, 13 ListConcat, 14 AttrUpdate; AttrSet 1 if rec, else 0; UnaryOp 0 Invert, 1 Negate"
pub record Details : Type 0 where
  pub Float : ℕ
  pub Integer : ℕ
  pub String : ℕ
  pub Path : ℕ
  pub NotEqual : ℕ
  pub Equal : ℕ
  pub And : ℕ
  pub Implication : ℕ
  pub Or : ℕ
  pub Rec : ℕ
  pub Invert : ℕ

abbrev pub details : Details
details = record { Float = 0; Integer = 1; String = 2; Path = 3; NotEqual = 8; Equal = 9; And = 10; Implication = 11; Or = 12; Rec = 1; Invert = 0 }

-- "Roles: 0 child, 1 path key, 2 default, 3 pattern field, 4 static Expr, 5 Inherit, 6 InheritFrom, 7 inherit base, 8 dynamic key, 9 dynamic value,
-- 10 parameter."
pub record Roles : Type 0 where
  pub Child : ℕ
  pub PathKey : ℕ
  pub Default : ℕ
  pub PatternField : ℕ
  pub StaticExpr : ℕ
  pub Inherit : ℕ
  pub InheritFrom : ℕ
  pub InheritBase : ℕ
  pub DynamicKey : ℕ
  pub DynamicValue : ℕ
  pub Parameter : ℕ

abbrev pub roles : Roles
roles =
    record { Child = 0; PathKey = 1; Default = 2; PatternField = 3; StaticExpr = 4; Inherit = 5; InheritFrom = 6; InheritBase = 7; DynamicKey = 8; DynamicValue = 9; Parameter = 10 }

-- "Name, 32: text 14, kind 3 (0 to 4 as in `NameKind`)"
pub record NameKinds : Type 0 where
  pub LetIn : ℕ
  pub PlainAttrset : ℕ
  pub RecAttrset : ℕ
  pub Param : ℕ
  pub PatField : ℕ

abbrev pub name_kinds : NameKinds
name_kinds = record { LetIn = 0; PlainAttrset = 1; RecAttrset = 2; Param = 3; PatField = 4 }

-- "Tag 0 none (value 0), 1 definition (a name below N), 2 builtin (place 0 to 21 in `GLOBAL_BUILTIN_NAMES`), 3 the innermost With"
pub record Tags : Type 0 where
  pub None : ℕ
  pub Definition : ℕ
  pub Builtin : ℕ
  pub With : ℕ

abbrev pub tags : Tags
tags = record { None = 0; Definition = 1; Builtin = 2; With = 3 }

-- "sort 4 (0 IsType, 1 IsNotType, 2 HasField, 3 NotHasField, 4 IsAttrSet, 5 IsList, 6 IsFunction)", document 02, order 5: "sort 7, IsNumber"
pub record Sorts : Type 0 where
  pub IsType : ℕ
  pub IsNotType : ℕ
  pub HasField : ℕ
  pub NotHasField : ℕ
  pub IsAttrSet : ℕ
  pub IsList : ℕ
  pub IsFunction : ℕ
  pub IsNumber : ℕ

abbrev pub sorts : Sorts
sorts = record { IsType = 0; IsNotType = 1; HasField = 2; NotHasField = 3; IsAttrSet = 4; IsList = 5; IsFunction = 6; IsNumber = 7 }

-- "type 0 Null, 1 Bool, 2 Int, 3 Float, 4 String, 5 Path", and a number for each of the other sorts of a value
pub record Types : Type 0 where
  pub Null : ℕ
  pub Bool : ℕ
  pub Int : ℕ
  pub Float : ℕ
  pub String : ℕ
  pub Path : ℕ
  pub List : ℕ
  pub AttrSet : ℕ
  pub Function : ℕ

abbrev pub types : Types
types = record { Null = 0; Bool = 1; Int = 2; Float = 3; String = 4; Path = 5; List = 6; AttrSet = 7; Function = 8 }

-- Widths in bytes: "Length is 12 + 8E + 4N + 4T + 4I + B"; "2 bytes a name", "2 bytes an expression"; "Record, 32", "edges, 32", "recorded narrowings, 64
-- (binding 14, zero 18, record 32)"; "Working need: 4E bytes, and 8 more for each scope made"
pub record Widths : Type 0 where
  pub header : ℕ
  pub expr : ℕ
  pub name : ℕ
  pub text : ℕ
  pub item : ℕ
  pub entry : ℕ
  pub narrowing : ℕ
  pub edge : ℕ
  pub binding : ℕ
  pub recorded : ℕ
  pub scope_number : ℕ
  pub scope : ℕ

abbrev pub widths : Widths
widths =
    record { header = 12; expr = 8; name = 4; text = 4; item = 4; entry = 2; narrowing = 4; edge = 4; binding = 4; recorded = 8; scope_number = 4; scope = 8 }

-- Widths in bits: "tag 2, value 14", "name 14, sort 4, value 14", "from 14, to 14, zero 4", "binding 14, zero 18"
pub record Bits : Type 0 where
  pub number : ℕ
  pub tag : ℕ
  pub sort : ℕ
  pub edge_spare : ℕ
  pub binding_spare : ℕ

abbrev pub bits : Bits
bits = record { number = 14; tag = 2; sort = 4; edge_spare = 4; binding_spare = 18 }
