-- `Records::body` meets its contract. Assumes nothing.
use native.Mathlib.Omega.{arith}
use Rattle.pattern.proofs.KindBytes.{kind_byte}
use Rattle.pattern.specs.declared.kind.Kind.TheVariants.{Codes, Literal, Group}
use Rattle.atoms.proofs.Views.{group_of}
use Rattle.summary.proofs.Packings.{empty_made}
use Rattle.summary.proofs.SettledRows.{codes_packed, empty_packed, literal_got, literal_packed}
use Rattle.summary.proofs.settle.Records.body.Goals as goal

pub returns-in-Some-Codes : goal.returns-in-Some-Codes
returns-in-Some-Codes c = codes_packed c.requires.fields _ (kind_byte c.args.r.kind Codes cc) c.class.ensures

pub returns-in-Some-Literal : goal.returns-in-Some-Literal
returns-in-Some-Literal c = empty_packed c.requires.settling c.requires.fields (kind_byte c.args.r.kind Literal cc) c.if-r-eq0.true _ empty_made

pub literal-requires : goal.literal-requires
literal-requires c = (omega (arith, c.if-r-eq0.false), (literal_got c.requires.settling c.args.self.read c.requires.fields (kind_byte c.args.r.kind Literal cc) c.if-r-eq0.false).within)

pub returns-in-Some-Literal-2 : goal.returns-in-Some-Literal-2
returns-in-Some-Literal-2 c = literal_packed (literal_got c.requires.settling c.args.self.read c.requires.fields (kind_byte c.args.r.kind Literal cc) c.if-r-eq0.false) _ c.literal.ensures

pub branches-requires : goal.branches-requires
branches-requires c = record { settling = c.requires.settling; group = group_of c.requires.fields (kind_byte c.args.r.kind Group cc) }

pub overflow_add-self : goal.overflow_add-self
overflow_add-self c = omega (arith, (literal_got c.requires.settling c.args.self.read c.requires.fields (kind_byte c.args.r.kind Literal cc) c.if-r-eq0.false).within)
