-- Lines of some events, as they compute.
use Rattle.std.specs.Prelude.{◌≡◌, [], ◌∷◌, ◌++◌, codes, refl}
use Rattle.model.specs.declared.EventKind.TheVariants.{Scalar, Alias, DocumentStart}
use Rattle.model.specs.Reading.{event, fault}
use Rattle.model.specs.declared.Cause.TheVariants.{NotALine}
use Rattle.lines.specs.Line.{escape_byte, line_of, guess, untext, past, line_front}

pub anchored : line_of (record { kind = Scalar; style = 1; flags = 1; anchor = codes "s"; tag = []; value = codes "15" }) ≡ codes "=VAL 1 1 &s :15" ++ 10 ∷ []
unfolding line_of escape_byte
anchored = refl

pub escaped : line_of (record { kind = Scalar; style = 2; flags = 0; anchor = []; tag = codes "!t"; value = 32 ∷ 92 ∷ 255 ∷ [] }) ≡ codes "=VAL 2 0 <!t :\\20\\5C\\FF" ++ 10 ∷ []
unfolding line_of escape_byte
escaped = refl

pub implicit : line_of (record { kind = DocumentStart; style = 0; flags = 1; anchor = []; tag = []; value = [] }) ≡ codes "+DOC 0 1" ++ 10 ∷ []
unfolding line_of escape_byte
implicit = refl

-- an alias is read from its line, whatever follows
pub alias : line_front (codes "=ALI 0 0 &s" ++ 10 ∷ 43 ∷ []) ≡ event (record { kind = Alias; style = 0; flags = 0; anchor = codes "s"; tag = []; value = [] }) 12
unfolding line_front guess untext past line_of escape_byte
alias = refl

-- lower-case digits are not written
pub lower_case : line_front (codes "=VAL 1 1 :\\ff" ++ 10 ∷ []) ≡ fault NotALine
unfolding line_front guess untext past line_of escape_byte
lower_case = refl
