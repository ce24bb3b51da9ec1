-- The kinds of a record, as the code names them. To be believed.
use Rattle.std.specs.Prelude.{true, false, ℕ, Option, Some, None, eqb}
use Rattle.pattern.specs.Numbers.{codes_kind, literal_kind, group_kind}
use Rattle.pattern.specs.declared.kind.Kind.{Kind}
use Rattle.pattern.specs.declared.kind.Kind.TheVariants.{Codes, Literal, Group}

-- the byte of a kind
abbrev pub byte_of : Kind → ℕ
byte_of Codes = codes_kind
byte_of Literal = literal_kind
byte_of Group = group_kind

-- the kind with this byte, if there is one
unfoldable pub kind_of : ℕ → Option Kind
kind_of b = elim (eqb b codes_kind) [
  | true ↦ Some Codes
  | false ↦ elim (eqb b literal_kind) [ true ↦ Some Literal | false ↦ elim (eqb b group_kind) [ true ↦ Some Group | false ↦ None ] ]
]
